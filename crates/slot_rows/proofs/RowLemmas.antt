-- Lemmas on what is written in rows.
use Rattle.std.proofs.Common.{◌≡◌, ◌≢◌, ℕ, zero, suc, ℤ, ◌<◌, ◌==◌, List, [], ◌∷◌, length, get_or, Option, Some, None, if◌then◌else◌, refl, sym, ap, ◌∙◌, arith}
use Rattle.std.specs.Prelude.{slice_set, slice_get, All}
use Rattle.std.proofs.lemmas.Bool.{eq-eqb, ne_eqb}
use Rattle.std.proofs.lemmas.List.Elements.{All-tail}
use Rattle.slot_rows.specs.declared.row.Row.{Row}
use Rattle.slot_rows.specs.Row.{number_in}
use Rattle.slot_rows.specs.Rows.{number_from}
use Rattle.slot_rows.specs.Spans.{place_in}
use Rattle.slot_rows.proofs.SpanLemmas.{unit_at_place}

-- rows after one of them was replaced
get_set_same : (rows : List Row) (s : ℕ) (row : Row) → s < length rows → slice_get (slice_set rows s row) s ≡ Some row
get_set_same [] s row l = absurd (omega arith)
get_set_same (r ∷ rows) zero row l = refl
get_set_same (r ∷ rows) (suc s) row l = get_set_same rows s row (omega arith)

get_set_other : (rows : List Row) (s k : ℕ) (row : Row) → k ≢ s → slice_get (slice_set rows s row) k ≡ slice_get rows k
get_set_other [] s k row h = refl
get_set_other (r ∷ rows) zero zero row h = absurd (h refl)
get_set_other (r ∷ rows) zero (suc k) row h = refl
get_set_other (r ∷ rows) (suc s) zero row h = refl
get_set_other (r ∷ rows) (suc s) (suc k) row h = get_set_other rows s k row (λ e. h (ap (λ n. suc n) e))

-- one number of a row was changed
abbrev pub Changes : (old new : Row) (unit : ℕ) → Option ℤ → Type 0
Changes old new unit v = (u : ℕ) → number_in new u ≡ (if u == unit then v else number_in old u)

pub changed_here : (rows : List Row) (xs : List ℕ) (slot address unit : ℕ) (old new : Row) (v : Option ℤ) → slot < length rows → unit ≡ place_in xs address → Changes old new unit v → number_from (slice_get (slice_set rows slot new) slot) (place_in xs address) ≡ v
changed_here rows xs slot address unit old new v l e h =
    ap (λ o. number_from o (place_in xs address)) (get_set_same rows slot new l) ∙ h (place_in xs address)
    ∙ ap (λ t. if t then v else number_in old (place_in xs address)) (eq-eqb (place_in xs address) unit (sym e))

other_place : (xs : List ℕ) (a address unit : ℕ) → unit < length xs → unit ≡ place_in xs address → a ≢ address → place_in xs a ≢ unit
other_place xs a address unit l e h same =
    h (sym (unit_at_place xs a (omega (arith, same))) ∙ ap (λ k. get_or xs k 0) (same ∙ e) ∙ unit_at_place xs address (omega (arith, e)))

pub changed_others : (rows : List Row) (xs : List ℕ) (slot address unit : ℕ) (old new : Row) (v : Option ℤ) → slot < length rows → unit < length xs → unit ≡ place_in xs address → slice_get rows slot ≡ Some old → Changes old new unit v → (a : ℕ) → a ≢ address → number_from (slice_get (slice_set rows slot new) slot) (place_in xs a) ≡ number_from (slice_get rows slot) (place_in xs a)
changed_others rows xs slot address unit old new v l m e is h a other =
    ap (λ o. number_from o (place_in xs a)) (get_set_same rows slot new l) ∙ h (place_in xs a)
    ∙ ap (λ t. if t then v else number_in old (place_in xs a)) (ne_eqb (place_in xs a) unit (other_place xs a address unit m e other))
    ∙ sym (ap (λ o. number_from o (place_in xs a)) is)

pub other_slots : (rows : List Row) (xs : List ℕ) (slot : ℕ) (new : Row) (s a : ℕ) → s ≢ slot → number_from (slice_get (slice_set rows slot new) s) (place_in xs a) ≡ number_from (slice_get rows s) (place_in xs a)
other_slots rows xs slot new s a h = ap (λ o. number_from o (place_in xs a)) (get_set_other rows slot s new h)

-- a row was emptied
pub emptied : (rows : List Row) (xs : List ℕ) (slot : ℕ) (new : Row) → slot < length rows → ((u : ℕ) → number_in new u ≡ None) → (a : ℕ) → number_from (slice_get (slice_set rows slot new) slot) (place_in xs a) ≡ None
emptied rows xs slot new l h a = ap (λ o. number_from o (place_in xs a)) (get_set_same rows slot new l) ∙ h (place_in xs a)

pub number_here : (rows : List Row) (xs : List ℕ) (slot a : ℕ) (row : Row) → slice_get rows slot ≡ Some row → number_from (slice_get rows slot) (place_in xs a) ≡ number_in row (place_in xs a)
number_here rows xs slot a row is = ap (λ o. number_from o (place_in xs a)) is

-- rows without a number have none in any slot
pub none_anywhere : (rows : List Row) (slot unit : ℕ) → All (λ row. (u : ℕ) → number_in row u ≡ None) rows → number_from (slice_get rows slot) unit ≡ None
none_anywhere [] slot unit h = refl
none_anywhere (r ∷ rows) zero unit h = h 0 r (omega arith) unit
none_anywhere (r ∷ rows) (suc slot) unit h = none_anywhere rows slot unit (All-tail (λ row. (u : ℕ) → number_in row u ≡ None) r rows h)
