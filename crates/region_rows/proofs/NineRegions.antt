-- Lemmas on the regions of the rows.
use Rattle.std.proofs.Common.{◌≡◌, ℕ, zero, suc, ◌+◌, ◌<◌, ◌≤◌, inl, inr, true, pos, List, [], ◌∷◌, length, get_or, refl, arith}
use Rattle.std.specs.Prelude.{All, IsSome, nat_le, nat_lt}
use Rattle.std.specs.List.{IsDistinct}
use Rattle.std.proofs.lemmas.Bool.{cases_lt, and_from, le-leb, lt-ltb, or_left, or_right}
use Rattle.std.proofs.lemmas.List.Elements.{All-cons}
use Rattle.f77_ast.specs.declared.program.Region.{Region}
use Rattle.slot_rows.specs.Regions.{region_at}
use Rattle.slot_rows.specs.Rows.{regions_named, AreNamed}
use Rattle.slot_rows.specs.Spans.{is_in, has_address, overlap}
use Rattle.region_rows.specs.Regions.{small, great, layout_regions, numbers, IsHeld}

abbrev pub nine : List Region
nine = great ∷ small 14 ∷ small 12 ∷ small 10 ∷ small 8 ∷ small 6 ∷ small 4 ∷ small 2 ∷ small 0 ∷ []

pub are_named : AreNamed layout_regions numbers
are_named = (All-cons (λ n. IsSome (region_at layout_regions n)) (pos 8) (pos 7 ∷ pos 6 ∷ pos 5 ∷ pos 4 ∷ pos 3 ∷ pos 2 ∷ pos 1 ∷ pos 0 ∷ []) refl (All-cons (λ n. IsSome (region_at layout_regions n)) (pos 7) (pos 6 ∷ pos 5 ∷ pos 4 ∷ pos 3 ∷ pos 2 ∷ pos 1 ∷ pos 0 ∷ []) refl (All-cons (λ n. IsSome (region_at layout_regions n)) (pos 6) (pos 5 ∷ pos 4 ∷ pos 3 ∷ pos 2 ∷ pos 1 ∷ pos 0 ∷ []) refl (All-cons (λ n. IsSome (region_at layout_regions n)) (pos 5) (pos 4 ∷ pos 3 ∷ pos 2 ∷ pos 1 ∷ pos 0 ∷ []) refl (All-cons (λ n. IsSome (region_at layout_regions n)) (pos 4) (pos 3 ∷ pos 2 ∷ pos 1 ∷ pos 0 ∷ []) refl (All-cons (λ n. IsSome (region_at layout_regions n)) (pos 3) (pos 2 ∷ pos 1 ∷ pos 0 ∷ []) refl (All-cons (λ n. IsSome (region_at layout_regions n)) (pos 2) (pos 1 ∷ pos 0 ∷ []) refl (All-cons (λ n. IsSome (region_at layout_regions n)) (pos 1) (pos 0 ∷ []) refl (All-cons (λ n. IsSome (region_at layout_regions n)) (pos 0) ([]) refl (λ k d l. absurd (omega arith)))))))))))

pub are_distinct : IsDistinct overlap (regions_named layout_regions numbers)
unfolding IsDistinct
are_distinct = ((refl, (refl, (refl, (refl, (refl, (refl, (refl, (refl, tt)))))))), ((refl, (refl, (refl, (refl, (refl, (refl, (refl, tt))))))), ((refl, (refl, (refl, (refl, (refl, (refl, tt)))))), ((refl, (refl, (refl, (refl, (refl, tt))))), ((refl, (refl, (refl, (refl, tt)))), ((refl, (refl, (refl, tt))), ((refl, (refl, tt)), ((refl, tt), (tt, tt)))))))))

pub are_within : All (λ r. r.start + r.len ≤ 1001000) (regions_named layout_regions numbers)
are_within = (All-cons (λ r. r.start + r.len ≤ 1001000) (great) (small 14 ∷ small 12 ∷ small 10 ∷ small 8 ∷ small 6 ∷ small 4 ∷ small 2 ∷ small 0 ∷ []) (omega arith) (All-cons (λ r. r.start + r.len ≤ 1001000) (small 14) (small 12 ∷ small 10 ∷ small 8 ∷ small 6 ∷ small 4 ∷ small 2 ∷ small 0 ∷ []) (omega arith) (All-cons (λ r. r.start + r.len ≤ 1001000) (small 12) (small 10 ∷ small 8 ∷ small 6 ∷ small 4 ∷ small 2 ∷ small 0 ∷ []) (omega arith) (All-cons (λ r. r.start + r.len ≤ 1001000) (small 10) (small 8 ∷ small 6 ∷ small 4 ∷ small 2 ∷ small 0 ∷ []) (omega arith) (All-cons (λ r. r.start + r.len ≤ 1001000) (small 8) (small 6 ∷ small 4 ∷ small 2 ∷ small 0 ∷ []) (omega arith) (All-cons (λ r. r.start + r.len ≤ 1001000) (small 6) (small 4 ∷ small 2 ∷ small 0 ∷ []) (omega arith) (All-cons (λ r. r.start + r.len ≤ 1001000) (small 4) (small 2 ∷ small 0 ∷ []) (omega arith) (All-cons (λ r. r.start + r.len ≤ 1001000) (small 2) (small 0 ∷ []) (omega arith) (All-cons (λ r. r.start + r.len ≤ 1001000) (small 0) ([]) (omega arith) (λ k d l. absurd (omega arith)))))))))))

in_region : (r : Region) (a : ℕ) → r.start ≤ a → a < r.start + r.len → is_in a r ≡ true
in_region r a l h = and_from (nat_le r.start a) (nat_lt a (r.start + r.len)) (le-leb r.start a l) (lt-ltb a (r.start + r.len) h)

in_small : (s a : ℕ) → s ≤ a → a < s + 2 → is_in a (small s) ≡ true
in_small s a l h = in_region (small s) a l h

held_at : (rs : List Region) (i a : ℕ) → i < length rs → ((e : Region) → is_in a (get_or rs i e) ≡ true) → has_address rs a ≡ true
held_at [] i a l h = absurd (omega arith)
held_at (r ∷ rs) zero a l h = or_left (is_in a r) (has_address rs a) (h r)
held_at (r ∷ rs) (suc i) a l h = or_right (is_in a r) (has_address rs a) (held_at rs i a (omega arith) h)

small_held : (a : ℕ) → a < 16 → has_address nine a ≡ true
small_held a h =
    elim (cases_lt a 2) [
      | inl l0 ↦ held_at nine 8 a (omega arith) (λ e. in_small 0 a (omega arith) (omega arith))
      | inr m0 ↦ (
          elim (cases_lt a 4) [
            | inl l1 ↦ held_at nine 7 a (omega arith) (λ e. in_small 2 a (omega arith) (omega arith))
            | inr m1 ↦ (
                elim (cases_lt a 6) [
                  | inl l2 ↦ held_at nine 6 a (omega arith) (λ e. in_small 4 a (omega arith) (omega arith))
                  | inr m2 ↦ (
                      elim (cases_lt a 8) [
                        | inl l3 ↦ held_at nine 5 a (omega arith) (λ e. in_small 6 a (omega arith) (omega arith))
                        | inr m3 ↦ (
                            elim (cases_lt a 10) [
                              | inl l4 ↦ held_at nine 4 a (omega arith) (λ e. in_small 8 a (omega arith) (omega arith))
                              | inr m4 ↦ (
                                  elim (cases_lt a 12) [
                                    | inl l5 ↦ held_at nine 3 a (omega arith) (λ e. in_small 10 a (omega arith) (omega arith))
                                    | inr m5 ↦ (
                                        elim (cases_lt a 14) [
                                          | inl l6 ↦ held_at nine 2 a (omega arith) (λ e. in_small 12 a (omega arith) (omega arith))
                                          | inr m6 ↦ (
                                              elim (cases_lt a 16) [
                                                | inl l7 ↦ held_at nine 1 a (omega arith) (λ e. in_small 14 a (omega arith) (omega arith))
                                                | inr m7 ↦ (
                                                    absurd (omega (arith, h)))
                                              ])
                                        ])
                                  ])
                            ])
                      ])
                ])
          ])
    ]

great_held : (a : ℕ) → 1000 ≤ a → a < 1001000 → has_address nine a ≡ true
great_held a l h = held_at nine 0 a (omega arith) (λ e. in_region great a l h)

pub are_held : (a : ℕ) → IsHeld a → has_address (regions_named layout_regions numbers) a ≡ true
are_held a (inl h) = small_held a h
are_held a (inr h) = great_held a h.0 h.1
