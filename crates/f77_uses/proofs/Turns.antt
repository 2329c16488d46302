-- The first refusal by a rule, statement by statement.
use Rattle.std.proofs.Common.{◌≡◌, ℕ, suc, ◌+◌, ◌<◌, ◌≤◌, Bool, List, ◌∷◌, ◌++◌, length, get_or, drop, Option, None, Some, if◌then◌else◌, sym, ap, ◌∙◌, add-one}
use Rattle.std.proofs.lemmas.List.{drop_more, drop_all}
use Rattle.std.specs.List.{flat_map}
use Rattle.f77_ast.specs.declared.program.Listed.{Listed}
use Rattle.f77_ast.specs.declared.refusal.Refusal.{Refusal}
use Rattle.f77_ast.specs.declared.rule.Rule.{Rule}
use Rattle.f77_ast.specs.Refusal.{first_of, sooner}
use Rattle.f77_ast.proofs.Refusals.{sooner-none, sooner-assoc, first_of-append, first_of-when}
use Rattle.f77_uses.specs.Refused.{at, broken_by}

-- the first refusal by a rule among the statements from a place on
abbrev pub first_from : (rule : Rule) (breaking : ℕ → Listed → Bool) (unit : List Listed) (place : ℕ) → Option Refusal
first_from rule breaking unit place = first_of (broken_by rule breaking place (drop place unit))

-- the same at a place
first_at : (rule : Rule) (breaking : ℕ → Listed → Bool) (unit : List Listed) (place : ℕ) (listed : Listed) → place < length unit → listed ≡ get_or unit place listed → first_from rule breaking unit place ≡ sooner (if breaking place listed then Some (at listed rule) else None) (first_from rule breaking unit (place + 1))
first_at rule breaking unit place listed within stands =
    ap (λ l. first_of (broken_by rule breaking place l)) (drop_more unit place listed within ∙ ap (λ x. x ∷ drop (place + 1) unit) (sym stands))
    ∙ first_of-when (breaking place listed) (at listed rule) (broken_by rule breaking (suc place) (drop (place + 1) unit))
    ∙ ap (λ n. sooner (if breaking place listed then Some (at listed rule) else None) (first_of (broken_by rule breaking n (drop (place + 1) unit)))) (sym (add-one place))

-- one turn of a loop that keeps the first refusal by now, by what its calls answered
pub turned : (rule : Rule) (breaking : ℕ → Listed → Bool) (unit : List Listed) (place : ℕ) (listed : Listed) (first all found next : Option Refusal) (breaks : Bool) → place < length unit → listed ≡ get_or unit place listed → next ≡ sooner first found → found ≡ (if breaks then Some (at listed rule) else None) → breaks ≡ breaking place listed → sooner first (first_from rule breaking unit place) ≡ all → sooner next (first_from rule breaking unit (place + 1)) ≡ all
turned rule breaking unit place listed first all found next breaks within stands e f same so_far =
    ap (λ o. sooner o (first_from rule breaking unit (place + 1))) (e ∙ ap (sooner first) f)
    ∙ sooner-assoc first (if breaks then Some (at listed rule) else None) (first_from rule breaking unit (place + 1))
    ∙ ap (λ b. sooner first (sooner (if b then Some (at listed rule) else None) (first_from rule breaking unit (place + 1)))) same
    ∙ ap (sooner first) (sym (first_at rule breaking unit place listed within stands))
    ∙ so_far

-- the end of such a loop
pub ended : (rule : Rule) (breaking : ℕ → Listed → Bool) (unit : List Listed) (place : ℕ) (first all : Option Refusal) → length unit ≤ place → sooner first (first_from rule breaking unit place) ≡ all → first ≡ all
ended rule breaking unit place first all past so_far =
    sym (sooner-none first)
    ∙ ap (λ l. sooner first (first_of (broken_by rule breaking place l))) (sym (drop_all place unit past))
    ∙ so_far

-- the first refusal of two lists, by those of each
pub joined_first : (a b : Option Refusal) (xs ys : List Refusal) → a ≡ first_of xs → b ≡ first_of ys → sooner a b ≡ first_of (xs ++ ys)
joined_first a b xs ys e f = ap (λ o. sooner o b) e ∙ ap (sooner (first_of xs)) f ∙ sym (first_of-append xs ys)

-- one turn of a loop over parts, each of which has refusals of its own
pub parts_turn : {A : Type 0} (f : A → List Refusal) (parts : List A) (i : ℕ) (x : A) (first found next total : Option Refusal) → i < length parts → x ≡ get_or parts i x → next ≡ sooner first found → found ≡ first_of (f x) → sooner first (first_of (flat_map f (drop i parts))) ≡ total → sooner next (first_of (flat_map f (drop (i + 1) parts))) ≡ total
parts_turn {A = A} f parts i x first found next total within stands e made so_far =
    ap (λ o. sooner o (first_of (flat_map f (drop (i + 1) parts)))) (e ∙ ap (sooner first) made)
    ∙ sooner-assoc first (first_of (f x)) (first_of (flat_map f (drop (i + 1) parts)))
    ∙ ap (sooner first) (sym (first_of-append (f x) (flat_map f (drop (i + 1) parts))))
    ∙ ap (λ (l : List A). sooner first (first_of (flat_map f l))) (sym (drop_more parts i x within ∙ ap (λ y. y ∷ drop (i + 1) parts) (sym stands)))
    ∙ so_far
