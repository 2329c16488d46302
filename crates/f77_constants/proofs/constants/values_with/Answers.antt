use Rattle.std.proofs.Common.{◌≡◌, ℕ, List, Option, length, subst, ap, sym, ◌∙◌, arith}
use Rattle.std.specs.Option.{option_map}
use Rattle.f77_leaves.specs.Declarations.{Declarations, declarations_of}
use Rattle.f77_constants.specs.Constants.{name_length}
use Rattle.f77_constants.specs.Rounds.{Round}
use Rattle.f77_constants.specs.Values.{meant, value_in}
use Rattle.f77_constants.proofs.Ending.{nothing, at_start, within_on, pass, extra, ended}
use Rattle.f77_constants.proofs.constants.values_with.Goals as goal

pub passes-init : goal.passes-init
passes-init c =
    let unit = c.args.unit.now in
    let given = value_in c.args.lengths.now in
    let lengths = name_length (declarations_of unit) given in
    let before = value_in c.new-values.result in
    let after = value_in c.round.new.values in
    let round = subst (λ (d : Declarations). Round d (name_length d given) before after c.as_slice-2.result.now c.in_ok-_others._others) c.requires c.in_ok-_others.ensures in
    record {
      within = within_on unit lengths before after c.as_slice-2.result.now c.in_ok-_others._others round (nothing unit lengths before (λ name. ap (option_map meant) (c.new-values.ensures name)));
      covers = extra unit lengths before after c.as_slice-2.result.now c.in_ok-_others._others c.in_ok-left.left round (at_start unit lengths before c.in_ok-left.left c.in_ok-left.ensures);
    }

pub passes-preserved : goal.passes-preserved
passes-preserved c =
    let unit = c.args.unit.now in
    let given = value_in c.args.lengths.now in
    let lengths = name_length (declarations_of unit) given in
    let before = value_in c.passes.values in
    let after = value_in c.round-in-passes.new.values in
    let names : c.as_slice-in-passes.result.now ≡ c.passes.left = c.as_slice-in-passes.ensures in
    let round = subst (λ (l : List (List ℕ)). Round (declarations_of unit) lengths before after l c.in_ok-still.still) names (subst (λ (d : Declarations). Round d (name_length d given) before after c.as_slice-in-passes.result.now c.in_ok-still.still) c.requires c.in_ok-still.ensures) in
    record {
      within = within_on unit lengths before after c.passes.left c.in_ok-still.still round c.passes.invariant.within;
      covers = pass unit lengths before after c.passes.left c.in_ok-still.still round c.passes.invariant.covers;
    }

pub returns-then-len : goal.returns-then-len
returns-then-len c =
    let unit = c.args.unit.now in
    let given = value_in c.args.lengths.now in
    let lengths = name_length (declarations_of unit) given in
    let before = value_in c.passes.values in
    let after = value_in c.round-in-passes.new.values in
    let names : c.as_slice-in-passes.result.now ≡ c.passes.left = c.as_slice-in-passes.ensures in
    let round = subst (λ (l : List (List ℕ)). Round (declarations_of unit) lengths before after l c.in_ok-still.still) names (subst (λ (d : Declarations). Round d (name_length d given) before after c.as_slice-in-passes.result.now c.in_ok-still.still) c.requires c.in_ok-still.ensures) in
    let same_count : length c.in_ok-still.still ≡ length c.passes.left = omega arith in
    ended unit lengths before after c.passes.left c.in_ok-still.still round c.passes.invariant.within c.passes.invariant.covers same_count
