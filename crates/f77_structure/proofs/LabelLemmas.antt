-- The statement that a label means, from the last statement to the first.
use Rattle.std.proofs.Common.{◌≡◌, ℕ, suc, ◌+◌, ◌-◌, ◌<◌, ◌≤◌, List, ◌∷◌, length, get_or, drop, Some, if◌then◌else◌, sym, ap, ◌∙◌, arith}
use Rattle.std.proofs.lemmas.List.{drop_more}
use Rattle.f77_ast.specs.declared.program.Listed.{Listed}
use Rattle.f77_structure.specs.Labels.{has_label, target_from}

-- the target of a label from one statement before
pub target_back : (unit : List Listed) (place label : ℕ) (listed : Listed) → 0 < place → place ≤ length unit → listed ≡ get_or unit (place - 1) listed → target_from (place - 1) label (drop (place - 1) unit) ≡ (if has_label label listed then Some (place - 1) else target_from place label (drop place unit))
target_back unit place label listed some within stands =
    ap (target_from (place - 1) label) (drop_more unit (place - 1) listed (omega arith) ∙ ap (λ x. x ∷ drop (place - 1 + 1) unit) (sym stands) ∙ ap (λ n. listed ∷ drop n unit) back)
    ∙ ap (λ n. if has_label label listed then Some (place - 1) else target_from n label (drop place unit)) next
  where
    back : place - 1 + 1 ≡ place
    back = omega arith

    next : suc (place - 1) ≡ place
    next = omega arith
