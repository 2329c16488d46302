use Rattle.turn_rows.proofs.OwnRows.{none_anywhere}
use Rattle.turn_rows.proofs.mode_rows.ModeRows.new.Goals as goal

pub returns-clause-clear : goal.returns-clause-clear
returns-clause-clear c = λ row. none_anywhere c.in_ok-rows.rows.items row c.in_ok-rows.ensures.clear
