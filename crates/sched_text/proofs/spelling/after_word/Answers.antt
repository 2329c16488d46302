use Rattle.sched_text.proofs.Words.{stripped}
use Rattle.sched_text.proofs.spelling.after_word.Goals as goal

pub returns : goal.returns
returns c = stripped c.strip_prefix.result c.args.word.now c.args.line.now c.strip_prefix.ensures.cases
