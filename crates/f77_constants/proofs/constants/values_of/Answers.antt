use Rattle.std.proofs.Common.{◌≡◌, ℕ, List, Option, IfOk, subst, ap, ◌∙◌}
use Rattle.std.specs.Option.{option_map}
use Rattle.f77_leaves.specs.Declarations.{declarations_of}
use Rattle.f77_structure.specs.Values.{Value}
use Rattle.f77_uses.proofs.KnownLemmas.{same_functions}
use Rattle.f77_constants.specs.Constants.{name_length, no_values, values_with}
use Rattle.f77_constants.specs.Values.{meant, value_in}
use Rattle.f77_constants.proofs.constants.values_of.Goals as goal

pub returns : goal.returns
returns c =
    let unit = c.args.unit.now in
    let given = declarations_of unit in
    let none : value_in c.new-none.result ≡ no_values = same_functions (value_in c.new-none.result) no_values (λ name. ap (option_map meant) (c.new-none.ensures name)) in
    let numbers : value_in c.in_ok-numbers.numbers ≡ values_with unit (name_length given no_values) =
    same_functions (value_in c.in_ok-numbers.numbers) (values_with unit (name_length given no_values)) (λ name. c.in_ok-numbers.ensures name ∙ ap (λ (v : List ℕ → Option Value). values_with unit (name_length given v) name) none) in
    subst (λ (v : List ℕ → Option Value). IfOk c.values_with-2.result (λ values. (name : List ℕ) → value_in values name ≡ values_with unit (name_length given v) name)) numbers c.values_with-2.ensures
