use Rattle.std.proofs.Common.{◌≡◌, ℕ, ◌+◌, ◌<◌, pos, ◌+ℤ◌, ◌*ℤ◌, true, ◌∷◌, ◌++◌, FitsSigned, rules, ap, sym, subst, ◌∙◌, append_assoc}
use Rattle.std.proofs.lemmas.Int.{to_z-of_z}
use Rattle.sym_lmad.specs.Members.{members_of, in_turn, turns_of, are_positive, AreNear, AddsFirst}
use Rattle.sym_lmad.proofs.MemberLaws.{near_place, near_after, positive_rest, adds_first_turn, in_turn_more, on_err}
use Rattle.sym_lmad.proofs.each.+add_members.Goals as goal
use mir.Syntax.{w64}

pub moved-requires-clause-near : goal.moved-requires-clause-near
moved-requires-clause-near t c =
    let e = c.in-Some.extent.now in
    let rest = c.in-Some.rest.now in
    let split : c.args.extents.now ≡ e ∷ rest = search rules in
    let near : AreNear c.args.from (e ∷ rest) = subst (AreNear c.args.from) split c.requires.near in
    let positive : are_positive rest ≡ true = positive_rest e rest (subst (λ x. are_positive x ≡ true) split c.requires.positive) in
    let less : c.loop-turn.turn < turns_of e = search rules in
    let from_fits : FitsSigned w64 c.args.from = search rules in
    let stride_fits : FitsSigned w64 e.stride = search rules in
    simp to_z-of_z (near_place e rest c.args.from c.loop-turn.turn near positive less)

pub add_members-requires : goal.add_members-requires
add_members-requires t c =
    let e = c.in-Some.extent.now in
    let rest = c.in-Some.rest.now in
    let split : c.args.extents.now ≡ e ∷ rest = search rules in
    let near : AreNear c.args.from (e ∷ rest) = subst (AreNear c.args.from) split c.requires.near in
    let positive : are_positive rest ≡ true = positive_rest e rest (subst (λ x. are_positive x ≡ true) split c.requires.positive) in
    let less : c.loop-turn.turn < turns_of e = search rules in
    let from_fits : FitsSigned w64 c.args.from = search rules in
    let stride_fits : FitsSigned w64 e.stride = search rules in
    let moved_fits : FitsSigned w64 c.moved.result = search rules in
    let moved : c.moved.result ≡ c.args.from +ℤ (e.stride *ℤ pos c.loop-turn.turn) = simp to_z-of_z at c.moved.ensures in
    let after : AreNear c.moved.result rest = subst (λ z. AreNear z rest) (sym moved) (near_after e rest c.args.from c.loop-turn.turn near less) in
    (search rules, (simp to_z-of_z after, positive))

pub returns-in_err-add_members-clause-err : goal.returns-in_err-add_members-clause-err
returns-in_err-add_members-clause-err t c =
    let e = c.in-Some.extent.now in
    let rest = c.in-Some.rest.now in
    let split : c.args.extents.now ≡ e ∷ rest = search rules in
    let less : c.loop-turn.turn < turns_of e = search rules in
    let from_fits : FitsSigned w64 c.args.from = search rules in
    let stride_fits : FitsSigned w64 e.stride = search rules in
    let moved_fits : FitsSigned w64 c.moved.result = search rules in
    let moved : c.moved.result ≡ c.args.from +ℤ (e.stride *ℤ pos c.loop-turn.turn) = simp to_z-of_z at c.moved.ensures in
    let before = simp to_z-of_z at c.loop-turn.invariant in
    let added : AddsFirst (members_of rest c.moved.result) c.loop-turn.into c.add_members.new.into = simp to_z-of_z at c.in_err-add_members.ensures.err in
    let turn : AddsFirst (members_of rest (c.args.from +ℤ (e.stride *ℤ pos c.loop-turn.turn))) c.loop-turn.into c.add_members.new.into = subst (λ z. AddsFirst (members_of rest z) c.loop-turn.into c.add_members.new.into) moved added in
    on_err c.from_residual-in_err-add_members.result _ (subst (λ x. AddsFirst (members_of x c.args.from) c.args.into.now c.add_members.new.into) (sym split)
    (adds_first_turn c.loop-turn.turn (turns_of e) (λ i. members_of rest (c.args.from +ℤ (e.stride *ℤ pos i))) c.args.into.now c.loop-turn.into c.add_members.new.into less before turn))

pub loop-turn-preserved : goal.loop-turn-preserved
loop-turn-preserved t c =
    let e = c.in-Some.extent.now in
    let rest = c.in-Some.rest.now in
    let from_fits : FitsSigned w64 c.args.from = search rules in
    let stride_fits : FitsSigned w64 e.stride = search rules in
    let moved_fits : FitsSigned w64 c.moved.result = search rules in
    let moved : c.moved.result ≡ c.args.from +ℤ (e.stride *ℤ pos c.loop-turn.turn) = simp to_z-of_z at c.moved.ensures in
    let f = λ (i : ℕ). members_of rest (c.args.from +ℤ (e.stride *ℤ pos i)) in
    let before : c.loop-turn.into ≡ c.args.into.now ++ in_turn c.loop-turn.turn f = simp to_z-of_z at c.loop-turn.invariant in
    let added : c.add_members.new.into ≡ c.loop-turn.into ++ members_of rest c.moved.result = simp to_z-of_z at c.in_ok-add_members.ensures.ok in
    let all : c.add_members.new.into ≡ c.args.into.now ++ in_turn (c.loop-turn.turn + 1) f = added ∙ (λ i. before i ++ members_of rest (moved i)) ∙ append_assoc c.args.into.now (in_turn c.loop-turn.turn f) (f c.loop-turn.turn) ∙ ap (λ t. c.args.into.now ++ t) (sym (in_turn_more c.loop-turn.turn f)) in
    simp to_z-of_z all
