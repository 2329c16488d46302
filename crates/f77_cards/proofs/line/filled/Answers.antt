use Rattle.std.proofs.Common.{rules}
use Rattle.f77_cards.proofs.ColumnLemmas.{filled_by}
use Rattle.f77_cards.proofs.line.filled.Goals as goal

pub returns : goal.returns
returns c =
    filled_by c.args.line.now c.split_at.result.0.now c.fill.new.columns c.min.result (search rules) c.split_at.ensures.front c.fill.ensures
