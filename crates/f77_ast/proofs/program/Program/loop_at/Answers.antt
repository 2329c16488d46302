use Rattle.std.proofs.Common.{◌≡◌, sym, ◌∙◌, ap, IfSome}
use Rattle.std.specs.Option.{is_some, option_copied}
use Rattle.f77_ast.specs.Loop.{has_loop}
use Rattle.f77_ast.proofs.Loops.{is_some-loop_at, IfSome-loop_at, is_some-copied, IfSome-copied}
use Rattle.f77_ast.proofs.program.Program.loop_at.Goals as goal

pub returns-clause-some : goal.returns-clause-some
returns-clause-some c =
    let loops = c.as_slice.ensures in
    let there : is_some c.find_loop.result ≡ has_loop c.args.self.now.loops c.args.ordinal =
    sym (is_some-copied c.find_loop.result) ∙ ap is_some c.find_loop.ensures
    ∙ is_some-loop_at c.as_slice.result.now c.args.ordinal
    ∙ ap (λ ls. has_loop ls c.args.ordinal) loops in
    (λ h. sym there ∙ h, λ h. there ∙ h)

pub returns-clause-ordinal : goal.returns-clause-ordinal
returns-clause-ordinal c =
    let found : IfSome (option_copied c.find_loop.result) (λ loop. loop.ordinal ≡ c.args.ordinal) =
    rw c.find_loop.ensures (IfSome-loop_at c.as_slice.result.now c.args.ordinal) in
    IfSome-copied c.args.ordinal c.find_loop.result found
