use Rattle.hybrid_top.proofs.CauseLemmas.{row_run_only, row_run, row_complete, row_usage_only, row_usage, row_read_fault, row_write_fault, row_file_limit_only, row_file_limit, row_refused_only, row_refused, row_no_schedule, row_out, row_notes, row_order}
use Rattle.hybrid_top.proofs.top.hybrid.Goals as goal

pub returns-clause-run_only : goal.returns-clause-run_only
returns-clause-run_only g c = row_run_only _ _ _ _ _ _ c.answer.ensures.answered

pub returns-clause-run : goal.returns-clause-run
returns-clause-run g c = row_run _ _ _ _ _ _ c.answer.ensures.answered

pub returns-clause-complete : goal.returns-clause-complete
returns-clause-complete g c = row_complete _ _ _ _ _ _ c.answer.ensures.answered

pub returns-clause-usage_only : goal.returns-clause-usage_only
returns-clause-usage_only g c = row_usage_only _ _ _ _ _ _ c.answer.ensures.answered

pub returns-clause-usage : goal.returns-clause-usage
returns-clause-usage g c = row_usage _ _ _ _ _ _ c.answer.ensures.answered

pub returns-clause-read_fault : goal.returns-clause-read_fault
returns-clause-read_fault g c = row_read_fault _ _ _ _ _ _ c.answer.ensures.answered

pub returns-clause-write_fault : goal.returns-clause-write_fault
returns-clause-write_fault g c = row_write_fault _ _ _ _ _ _ c.answer.ensures.answered

pub returns-clause-file_limit_only : goal.returns-clause-file_limit_only
returns-clause-file_limit_only g c = row_file_limit_only _ _ _ _ _ _ c.answer.ensures.answered

pub returns-clause-file_limit : goal.returns-clause-file_limit
returns-clause-file_limit g c = row_file_limit _ _ _ _ _ _ c.answer.ensures.answered

pub returns-clause-refused_only : goal.returns-clause-refused_only
returns-clause-refused_only g c = row_refused_only _ _ _ _ _ _ c.answer.ensures.answered

pub returns-clause-refused : goal.returns-clause-refused
returns-clause-refused g c = row_refused _ _ _ _ _ _ c.answer.ensures.answered

pub returns-clause-no_bad_schedule : goal.returns-clause-no_bad_schedule
returns-clause-no_bad_schedule g c = row_no_schedule _ _ _ _ _ _ c.answer.ensures.answered

pub returns-clause-out_untouched : goal.returns-clause-out_untouched
returns-clause-out_untouched g c = row_out _ _ _ _ _ _ c.answer.ensures.answered

pub returns-clause-notes : goal.returns-clause-notes
returns-clause-notes g c = row_notes _ _ _ _ _ _ c.answer.ensures.answered

pub returns-clause-order_untouched : goal.returns-clause-order_untouched
returns-clause-order_untouched g c = row_order _ _ _ _ _ _ c.answer.ensures.answered
