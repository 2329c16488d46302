use Rattle.f77_ast.specs.declared.rule.Rule.TheVariants.{NoProgram}
use Rattle.std.proofs.Common.{◌≡◌, ◌+◌, ◌||◌, ◌&&◌, false, not, [], if◌then◌else◌, sym, ap, ◌∙◌, drop}
use Rattle.std.proofs.lemmas.List.{drop_all}
use Rattle.std.specs.List.{list_any}
use Rattle.f77_ast.specs.Refusal.{first_of, when, sooner}
use Rattle.f77_shape.specs.Program.{first_refused, second_mains, no_program}
use Rattle.f77_structure.specs.Units.{is_main}
use Rattle.f77_ast.proofs.Refusals.{sooner-none, first_of-append}
use Rattle.f77_shape.proofs.UnitLemmas.{mains_turn, behind_turn, or_false}
use Rattle.f77_shape.proofs.program.bad_main.Goals as goal

pub loop-unit-preserved : goal.loop-unit-preserved
loop-unit-preserved c =
    let units = c.args.units.now in
    let place = c.loop-unit.unit-index in
    let unit = c.unit-item.result in
    let main : c.is_main-main.result ≡ is_main unit.listing = c.is_main-main.ensures ∙ ap is_main c.as_slice-listing.ensures in
    let behind : c.either-behind.result ≡ (c.loop-unit.behind || is_main unit.listing) = c.either-behind.ensures ∙ ap (λ m. c.loop-unit.behind || m) main in
    record {
      first =
          ap (λ b. sooner c.sooner-first.result (first_of (second_mains b (drop (place + 1) units)))) behind
          ∙ ap (λ o. sooner o (first_of (second_mains (c.loop-unit.behind || is_main unit.listing) (drop (place + 1) units)))) c.sooner-first.ensures
          ∙ mains_turn units place unit c.loop-unit.behind c.loop-unit.first (first_of (second_mains false units)) c.second_main.result c.loop-unit-test.true c.unit-item.is
          (c.second_main.ensures ∙ ap (λ m. first_of (if c.loop-unit.behind && m then first_refused NoProgram c.as_slice-listing.result.now else [])) main ∙ ap (λ l. first_of (if c.loop-unit.behind && is_main unit.listing then first_refused NoProgram l else [])) c.as_slice-listing.ensures)
          c.loop-unit.invariant.first;
      behind =
          ap (λ b. b || list_any (λ u. is_main u.listing) (drop (place + 1) units)) behind
          ∙ behind_turn units place unit c.loop-unit.behind (list_any (λ u. is_main u.listing) units) c.loop-unit-test.true c.unit-item.is c.loop-unit.invariant.behind;
    }

pub returns : goal.returns
returns c =
    let units = c.args.units.now in
    let left : drop c.loop-unit.unit-index units ≡ [] = drop_all c.loop-unit.unit-index units c.loop-unit-test.false in
    let first : c.loop-unit.first ≡ first_of (second_mains false units) = sym (sooner-none c.loop-unit.first) ∙ ap (λ l. sooner c.loop-unit.first (first_of (second_mains c.loop-unit.behind l))) (sym left) ∙ c.loop-unit.invariant.first in
    let behind : c.loop-unit.behind ≡ list_any (λ u. is_main u.listing) units = sym (or_false c.loop-unit.behind) ∙ ap (λ l. c.loop-unit.behind || list_any (λ u. is_main u.listing) l) (sym left) ∙ c.loop-unit.invariant.behind in
    c.sooner.ensures
    ∙ ap (λ o. sooner o c.loop-unit.first) (c.no_main.ensures ∙ ap (λ b. first_of (when (not b) no_program)) behind)
    ∙ ap (sooner (first_of (when (not (list_any (λ u. is_main u.listing) units)) no_program))) first
    ∙ sym (first_of-append (when (not (list_any (λ u. is_main u.listing) units)) no_program) (second_mains false units))
