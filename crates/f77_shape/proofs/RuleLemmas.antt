-- What the rules on labels, order and block IFs need of the loops over a unit.
use Rattle.std.proofs.Common.{◌≡◌, ℕ, ◌+◌, ◌-◌, ◌<◌, ◌≤◌, max, Bool, ◌||◌, nat_lt, List, [], ◌∷◌, ◌++◌, length, get_or, take, drop, Option, None, Some, refl, sym, ap, ◌∙◌, arith}
use Rattle.std.proofs.lemmas.Bool.Decides.{nat_tests}
use Rattle.std.proofs.lemmas.List.{drop_more, take_more}
use Rattle.std.proofs.lemmas.List.Folds.{list_any_more}
use Rattle.std.specs.List.{list_any}
use Rattle.f77_ast.specs.declared.program.Listed.{Listed}
use Rattle.f77_structure.specs.Labels.{is_label, has_any}
use Rattle.f77_shape.specs.Blocks.{opened_by, open_after, open_at, ends_count, ends_in}
use Rattle.f77_shape.specs.Tables.{is_seen}

-- a test of some statement among those up to a place
pub any_more : (test : Listed → Bool) (unit : List Listed) (place : ℕ) (listed : Listed) → place < length unit → listed ≡ get_or unit place listed → list_any test (take (place + 1) unit) ≡ (list_any test (take place unit) || test listed)
any_more test unit place listed within stands = list_any_more test unit place listed within ∙ ap (λ x. list_any test (take place unit) || test x) (sym stands)

-- two tests that agree
pub any_same : {A : Type 0} (f g : A → Bool) (xs : List A) → ((x : A) → f x ≡ g x) → list_any f xs ≡ list_any g xs
any_same f g [] same = refl
any_same f g (x ∷ xs) same = ap (λ b. b || list_any f xs) (same x) ∙ ap (λ b. g x || b) (any_same f g xs same)

-- ---- order

pub below_max : (a b c : ℕ) → (nat_lt a b || nat_lt a c) ≡ nat_lt a (max b c)
below_max a b c = grind (arith, nat_tests)

-- ---- labels

-- a label that may be there is among those that were seen
pub seen_is_any : (seen : ℕ → Bool) (label : Option ℕ) (listing : List Listed) → ((q : ℕ) → seen q ≡ list_any (λ other. is_label q other.card.label) listing) → is_seen seen label ≡ has_any label listing
seen_is_any seen None listing same = refl
seen_is_any seen (Some label) listing same = same label

-- ---- block IFs

open_append : (ifs : List Bool) (xs ys : List Listed) → open_after ifs (xs ++ ys) ≡ open_after (open_after ifs xs) ys
open_append ifs [] ys = refl
open_append ifs (x ∷ xs) ys = open_append (opened_by x.stmt ifs) xs ys

-- the IFs that are open behind one more statement
pub open_more : (unit : List Listed) (place : ℕ) (listed : Listed) → place < length unit → listed ≡ get_or unit place listed → open_at unit (place + 1) ≡ opened_by listed.stmt (open_at unit place)
open_more unit place listed within stands =
    ap (open_after []) (take_more unit place listed within ∙ ap (λ x. take place unit ++ x ∷ []) (sym stands))
    ∙ open_append [] (take place unit) (listed ∷ [])

-- the END IFs without IF from one statement before
pub ends_back : (unit : List Listed) (place : ℕ) (listed : Listed) → 0 < place → place ≤ length unit → listed ≡ get_or unit (place - 1) listed → ends_in (drop (place - 1) unit) ≡ ends_count listed.stmt (ends_in (drop place unit))
ends_back unit place listed some within stands =
    ap ends_in (drop_more unit (place - 1) listed (omega arith) ∙ ap (λ x. x ∷ drop (place - 1 + 1) unit) (sym stands) ∙ ap (λ n. listed ∷ drop n unit) back)
  where
    back : place - 1 + 1 ≡ place
    back = omega arith
