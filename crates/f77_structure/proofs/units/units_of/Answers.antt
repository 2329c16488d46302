use Rattle.std.proofs.Common.{◌≡◌, [], ◌∷◌, ◌++◌, List, IfOk, map, length, sym, ap, subst, ◌∙◌, arith}
use Rattle.std.proofs.lemmas.List.{nil_from_length}
use Rattle.std.specs.Vec.Iter.{into_iter_items}
use Rattle.f77_ast.specs.declared.program.Unit.{Unit as ProgramUnit}
use Rattle.f77_structure.specs.Units.{unit_of, units_of}
use Rattle.f77_structure.proofs.CutLemmas.{cut_from, cut_start, cut_on, cut_off}
use Rattle.f77_structure.proofs.units.units_of.Goals as goal

pub loop-listed-init : goal.loop-listed-init
loop-listed-init c =
    let given = c.into_iter-listed-iterator.ensures.into_iter_gives in
    let items : into_iter_items c.into_iter-listed-iterator.result ≡ c.args.statements = given.0 ∙ c.into_vec-listed-items.ensures in
    record {
      counted = omega (arith, given.1, c.into_vec-listed-items.result.ok.0, ap length given.0);
      units =
          ap (λ us. us ++ map unit_of (cut_from c.new-listing.result (into_iter_items c.into_iter-listed-iterator.result))) c.new-units.ensures
          ∙ ap (λ l. map unit_of (cut_from l (into_iter_items c.into_iter-listed-iterator.result))) c.new-listing.ensures
          ∙ ap (λ l. map unit_of (cut_from [] l)) items
          ∙ ap (map unit_of) (cut_start c.args.statements);
    }

pub loop-listed-preserved-then-ends : goal.loop-listed-preserved-then-ends
loop-listed-preserved-then-ends c =
    let taken = c.in-Some.ensures.steps in
    let units = c.loop-listed.units in
    let begun = c.loop-listed.listing in
    let listed = c.in-Some.listed in
    let left = into_iter_items c.next.new.self in
    record {
      counted = omega (arith, taken.1, ap length taken.0, c.loop-listed.invariant.counted);
      units =
          ap (λ us. us ++ map unit_of (cut_from c.new-listing-then-ends.result left)) (c.in_ok-push-2.ensures.ok ∙ ap (λ u. units ++ u ∷ []) (c.unit_of.ensures ∙ ap unit_of c.in_ok-push.ensures.ok))
          ∙ ap (λ l. (units ++ unit_of (begun ++ listed ∷ []) ∷ []) ++ map unit_of (cut_from l left)) c.new-listing-then-ends.ensures
          ∙ cut_off units (units_of c.args.statements) begun left (into_iter_items c.loop-listed.listed-iterator) listed taken.0 (sym c.is_end-ends.ensures ∙ c.if-ends.true) c.loop-listed.invariant.units;
    }

pub loop-listed-preserved : goal.loop-listed-preserved
loop-listed-preserved c =
    let taken = c.in-Some.ensures.steps in
    let units = c.loop-listed.units in
    let left = into_iter_items c.next.new.self in
    record {
      counted = omega (arith, taken.1, ap length taken.0, c.loop-listed.invariant.counted);
      units =
          ap (λ l. units ++ map unit_of (cut_from l left)) c.in_ok-push.ensures.ok
          ∙ cut_on units (units_of c.args.statements) c.loop-listed.listing left (into_iter_items c.loop-listed.listed-iterator) c.in-Some.listed taken.0 (sym c.is_end-ends.ensures ∙ c.if-ends.false) c.loop-listed.invariant.units;
    }

pub returns : goal.returns
returns c =
    let ended = c.in-None.ensures.steps in
    let none : into_iter_items c.loop-listed.listed-iterator ≡ [] = nil_from_length (into_iter_items c.loop-listed.listed-iterator) (omega (arith, ended.0, c.loop-listed.invariant.counted)) in
    let all : c.loop-listed.units ++ map unit_of (cut_from c.loop-listed.listing []) ≡ units_of c.args.statements = ap (λ l. c.loop-listed.units ++ map unit_of (cut_from c.loop-listed.listing l)) (sym none) ∙ c.loop-listed.invariant.units in
    subst (λ (l : List ProgramUnit). IfOk c.add_last.result (λ units. units ≡ l)) all c.add_last.ensures
