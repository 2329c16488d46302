use Rattle.std.proofs.Common.{◌==◌, rules, tests}
use Rattle.std.proofs.lemmas.Iterator.{YieldsList-from_slice}
use Rattle.std.proofs.lemmas.Iterator.Search.{any_from_yields_List}
use Rattle.f77_machine.proofs.active.is_variable_of_any.Goals as goal

pub returns : goal.returns
returns c = any_from_yields_List (λ loop. loop.variable == c.args.address) _ _ _ c.any.ensures.ran (YieldsList-from_slice c.args.loops.now cc) (λ x b q k. search (rules, tests))
