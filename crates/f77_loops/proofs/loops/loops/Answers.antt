use Rattle.std.proofs.Common.{◌≡◌, sym, subst, arith}
use Rattle.std.proofs.lemmas.Grind.{common_steps}
use Rattle.f77_ast.specs.Loop.{IsNumbered}
use Rattle.f77_structure.specs.Loops.{loops_of}
use Rattle.f77_structure.proofs.LoopLemmas.{loops_of-numbered}
use Rattle.f77_loops.proofs.loops.loops.Goals as goal

pub returns-clause-numbered : goal.returns-clause-numbered
returns-clause-numbered c =
    let e : c.loop-unit.loops ≡ loops_of c.args.units.now = grind (arith, common_steps) in
    subst IsNumbered (sym e) (loops_of-numbered c.args.units.now)
