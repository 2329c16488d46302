-- An element whose subscript is within its bounds lies among the cells of its array.
use Rattle.std.proofs.Common.{◌≡◌, ℕ, ◌<◌, ℤ, pos, negsuc, ◌+ℤ◌, ◌&&◌, Bool, true, false, List, [], ◌∷◌, Option, None, Some, refl, arith}
use Rattle.std.specs.Prelude.{int_le, if◌then◌else◌}
use Rattle.std.specs.Int.{int_gap}
use Rattle.f77_ast.specs.declared.specification.Bound.{Bound}
use Rattle.f77_structure.specs.declared.storage.Span.{Span}
use Rattle.f77_structure.specs.Storage.{extent_of, extent_by, span_of, vector_span, storage_units_by, is_within, offset_of, offset_by}

-- the element of a subscript within the bounds comes before the end
within_extent : (low high s : ℤ) → (int_le low s && int_le s high) ≡ true → int_gap low s < int_gap low (high +ℤ pos 1)
within_extent (pos a) (pos b) (pos c) e = grind (arith, e)
within_extent (pos a) (pos b) (negsuc c) e = grind (arith, e)
within_extent (pos a) (negsuc b) (pos c) e = grind (arith, e)
within_extent (pos a) (negsuc b) (negsuc c) e = grind (arith, e)
within_extent (negsuc a) (pos b) (pos c) e = grind (arith, e)
within_extent (negsuc a) (pos b) (negsuc c) e = grind (arith, e)
within_extent (negsuc a) (negsuc b) (pos c) e = grind (arith, e)
within_extent (negsuc a) (negsuc b) (negsuc c) e = grind (arith, e)

within_span : (span : Option Span) (s : ℤ) (k : ℕ) → offset_by span s ≡ Some k → k < extent_by span
within_span None s k e = absurd (cc)
within_span (Some span) s k e = by (is_within span s) refl e
  where
    by : (b : Bool) → is_within span s ≡ b → (if b then Some (offset_of span s) else None) ≡ Some k → k < extent_of span
    by true h f =
        let same : offset_of span s ≡ k = cc in
        omega (arith, within_extent span.low span.high s h, same)
    by false h f = absurd (cc)

-- an element with a place is one of the cells of its array
pub offset_within : (bounds : List Bound) (s : ℤ) (k : ℕ) → offset_by (vector_span bounds) s ≡ Some k → k < storage_units_by bounds
offset_within [] s k e = absurd (cc)
offset_within (bound ∷ []) s k e = within_span (span_of bound) s k e
offset_within (first ∷ second ∷ bounds) s k e = absurd (cc)
