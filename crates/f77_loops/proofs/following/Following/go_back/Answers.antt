use Rattle.std.proofs.Common.{◌++◌, refl, ap, ◌∙◌}
use Rattle.std.specs.Option.{option_to_list}
use Rattle.f77_loops.proofs.FollowingLemmas.{knows_before}
use Rattle.f77_loops.proofs.following.Following.go_back.Goals as goal

pub returns : goal.returns
returns c =
    λ following knows.
    knows_before c.args.number c.args.listed.now following c.args.self.now _ knows refl c.in_ok-note.ensures c.barrier_before-self.ensures (c.in_ok-add_range.ensures ∙ ap (λ o. c.args.self.now.ranges.items ++ option_to_list o) c.range_of-range.ensures)
