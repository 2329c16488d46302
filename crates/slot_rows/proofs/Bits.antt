-- Lemmas on marks as bits.
use Rattle.std.proofs.Common.{◌≡◌, ◌≢◌, ℕ, ◌+◌, ◌*◌, ◌/◌, ◌%◌, ◌<◌, inl, inr, true, false, ◌==◌, List, length, get_or, if◌then◌else◌, refl, sym, ap, ◌∙◌, arith}
use Rattle.std.specs.Prelude.{slice_set, replicate}
use Rattle.std.specs.Int.{bit_at}
use Rattle.std.proofs.lemmas.Bool.{cases_eq, cases_lt, eq-eqb, ne_eqb}
use Rattle.std.proofs.lemmas.List.{get_or-set_same, get_or-set_other, get_or-replicate, get_or_past, length-replicate}
use Rattle.std.proofs.lemmas.Nat.Bits.{bit_at-zero}
use Rattle.slot_rows.specs.Marks.{marked_in}

-- a number with a bit isn't 0
pub filled_by_bit : (n i : ℕ) → bit_at n i ≡ 1 → 0 < n
filled_by_bit n i h =
    elim (cases_eq n 0) [
      | inl e ↦ absurd (omega (arith, h, ap (λ m. bit_at m i) e, bit_at-zero i))
      | inr e ↦ omega arith
    ]

-- a unit, by its word and its place in it
same_unit : (u unit : ℕ) → u / 64 ≡ unit / 64 → u % 64 ≡ unit % 64 → u ≡ unit
same_unit u unit d m = omega arith

pub unit_at : (place bit : ℕ) → bit < 64 → ((place * 64 + bit) / 64 ≡ place) × ((place * 64 + bit) % 64 ≡ bit)
unit_at place bit h = (omega arith, omega arith)

-- words after one of them was replaced
pub other_word : (words : List ℕ) (place w u : ℕ) → u / 64 ≢ place → marked_in (slice_set words place w) u ≡ marked_in words u
unfolding marked_in
other_word words place w u h = ap (λ v. bit_at v (u % 64) == 1) (get_or-set_other words place (u / 64) w 0 h)

this_word : (words : List ℕ) (place w u : ℕ) → place < length words → u / 64 ≡ place → marked_in (slice_set words place w) u ≡ (bit_at w (u % 64) == 1)
unfolding marked_in
this_word words place w u within h =
    ap (λ v. bit_at v (u % 64) == 1) (ap (λ k. get_or (slice_set words place w) k 0) h ∙ get_or-set_same words place w 0 within)

pub added : (words : List ℕ) (unit w : ℕ) → unit / 64 < length words → bit_at w (unit % 64) ≡ 1 → ((i : ℕ) → i ≢ unit % 64 → bit_at w i ≡ bit_at (get_or words (unit / 64) 0) i) → (u : ℕ) → marked_in (slice_set words (unit / 64) w) u ≡ (if u == unit then true else marked_in words u)
unfolding marked_in
added words unit w within here others u =
    elim (cases_eq u unit) [
      | inl e ↦
          this_word words (unit / 64) w u within (ap (λ k. k / 64) e) ∙ eq-eqb (bit_at w (u % 64)) 1 (ap (λ k. bit_at w (k % 64)) e ∙ here)
          ∙ sym (ap (λ t. if t then true else marked_in words u) (eq-eqb u unit e))
      | inr e ↦ elim (cases_eq (u / 64) (unit / 64)) [
        | inl d ↦
            this_word words (unit / 64) w u within d
            ∙ ap (λ b. b == 1) (others (u % 64) (λ m. e (same_unit u unit d m)) ∙ ap (λ k. bit_at (get_or words k 0) (u % 64)) (sym d))
            ∙ sym (ap (λ t. if t then true else marked_in words u) (ne_eqb u unit e))
        | inr d ↦
            other_word words (unit / 64) w u d
            ∙ sym (ap (λ t. if t then true else marked_in words u) (ne_eqb u unit e))
      ]
    ]

pub removed : (words : List ℕ) (place bit w : ℕ) → place < length words → bit < 64 → bit_at w bit ≡ 0 → ((i : ℕ) → i < 64 → i ≢ bit → bit_at w i ≡ bit_at (get_or words place 0) i) → (u : ℕ) → marked_in (slice_set words place w) u ≡ (if u == place * 64 + bit then false else marked_in words u)
unfolding marked_in
removed words place bit w within small here others u =
    let at = unit_at place bit small in
    elim (cases_eq u (place * 64 + bit)) [
      | inl e ↦
          this_word words place w u within (ap (λ k. k / 64) e ∙ at.0) ∙ ne_eqb (bit_at w (u % 64)) 1 (λ one. absurd (omega (arith, one, ap (λ k. bit_at w k) (ap (λ k. k % 64) e ∙ at.1), here)))
          ∙ sym (ap (λ t. if t then false else marked_in words u) (eq-eqb u (place * 64 + bit) e))
      | inr e ↦ elim (cases_eq (u / 64) place) [
        | inl d ↦
            this_word words place w u within d
            ∙ ap (λ b. b == 1) (others (u % 64) (omega arith) (λ m. e (omega (arith, m, d))) ∙ ap (λ k. bit_at (get_or words k 0) (u % 64)) (sym d))
            ∙ sym (ap (λ t. if t then false else marked_in words u) (ne_eqb u (place * 64 + bit) e))
        | inr d ↦
            other_word words place w u d
            ∙ sym (ap (λ t. if t then false else marked_in words u) (ne_eqb u (place * 64 + bit) e))
      ]
    ]

-- the first mark of a word is a unit's
pub is_unit : (words : List ℕ) (place bit : ℕ) → bit < 64 → bit_at (get_or words place 0) bit ≡ 1 → marked_in words (place * 64 + bit) ≡ true
unfolding marked_in
is_unit words place bit small h =
    let at = unit_at place bit small in
    eq-eqb (bit_at (get_or words ((place * 64 + bit) / 64) 0) ((place * 64 + bit) % 64)) 1 (ap (λ k. bit_at (get_or words k 0) ((place * 64 + bit) % 64)) at.0 ∙ ap (λ k. bit_at (get_or words place 0) k) at.1 ∙ h)

-- words without a mark
pub none_marked : (words : List ℕ) → ((k : ℕ) → get_or words k 0 ≡ 0) → (u : ℕ) → marked_in words u ≡ false
unfolding marked_in
none_marked words h u =
    ne_eqb (bit_at (get_or words (u / 64) 0) (u % 64)) 1 (λ one. absurd (omega (arith, one, ap (λ n. bit_at n (u % 64)) (h (u / 64)), bit_at-zero (u % 64))))

zero_words : (n k z : ℕ) → z ≡ 0 → get_or (replicate n z) k 0 ≡ 0
zero_words n k z h =
    elim (cases_lt k n) [
      | inl l ↦ get_or-replicate n k z 0 l ∙ h
      | inr l ↦ get_or_past (replicate n z) k 0 (omega (arith, length-replicate n z))
    ]

pub none_at_first : (words : List ℕ) (n : ℕ) → words ≡ replicate n 0 → (u : ℕ) → marked_in words u ≡ false
none_at_first words n e u = none_marked words (λ k. ap (λ z. get_or z k 0) e ∙ zero_words n k 0 refl) u
