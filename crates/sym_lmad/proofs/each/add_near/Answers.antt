use Rattle.std.proofs.Common.{◌≡◌, ◌++◌, true, false, None, FitsSigned, rules, refl, sym, ◌∙◌}
use Rattle.std.proofs.lemmas.Int.{to_z-of_z}
use Rattle.sym_lmad.specs.Ends.{ends_by}
use Rattle.sym_lmad.specs.Members.{are_positive, members_of}
use Rattle.sym_lmad.proofs.MemberLaws.{without_members, far_member, near_from}
use Rattle.sym_lmad.proofs.each.add_near.Goals as goal
use mir.Syntax.{w64}

pub returns-then-not-all_positive-clause-answer : goal.returns-then-not-all_positive-clause-answer
returns-then-not-all_positive-clause-answer c =
    let none : are_positive c.args.extents.now ≡ false = search rules in
    without_members c.args.extents.now c.args.base c.args.into.now none

pub returns-then-is_none-clause-answer : goal.returns-then-is_none-clause-answer
returns-then-is_none-clause-answer c =
    let some : are_positive c.args.extents.now ≡ true = search rules in
    let fits : FitsSigned w64 c.args.base = search rules in
    let got : c.ends_of.result ≡ ends_by c.args.extents.now (c.args.base, c.args.base) = simp to_z-of_z at c.ends_of.ensures in
    let none : c.ends_of.result ≡ None = search rules in
    (refl, far_member c.args.extents.now c.args.base c.requires some (sym got ∙ none))

pub add_members-requires-clause-near : goal.add_members-requires-clause-near
add_members-requires-clause-near c =
    let fits : FitsSigned w64 c.args.base = search rules in
    let got : c.ends_of.result ≡ ends_by c.args.extents.now (c.args.base, c.args.base) = simp to_z-of_z at c.ends_of.ensures in
    simp to_z-of_z (near_from c.args.extents.now c.args.base c.ends_of.result c.requires (sym got) c.if-is_none.ensures)

pub returns-clause-answer : goal.returns-clause-answer
returns-clause-answer c =
    let fits : FitsSigned w64 c.args.base = search rules in
    let got : c.ends_of.result ≡ ends_by c.args.extents.now (c.args.base, c.args.base) = simp to_z-of_z at c.ends_of.ensures in
    let added : c.add_members.new.into ≡ c.args.into.now ++ members_of c.args.extents.now c.args.base = simp to_z-of_z at c.in_ok-add_members.ensures.ok in
    (near_from c.args.extents.now c.args.base c.ends_of.result c.requires (sym got) c.if-is_none.ensures, added)
