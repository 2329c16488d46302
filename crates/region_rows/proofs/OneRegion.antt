-- Regions of which there is one, or none, are apart.
use Rattle.std.proofs.Common.{◌≡◌, pos, List, ℤ, [], ◌∷◌, subst, sym}
use Rattle.std.specs.List.{IsDistinct}
use Rattle.f77_ast.specs.declared.program.Region.{Region}
use Rattle.slot_rows.specs.Rows.{regions_named}
use Rattle.slot_rows.specs.Spans.{overlap}

none_distinct : IsDistinct overlap []
unfolding IsDistinct
none_distinct = tt

one_distinct : (r : Region) → IsDistinct overlap (r ∷ [])
unfolding IsDistinct
one_distinct r = (tt, tt)

pub none_apart : (rs : List Region) (ns : List ℤ) → ns ≡ [] → IsDistinct overlap (regions_named rs ns)
none_apart rs ns e = subst (λ (l : List ℤ). IsDistinct overlap (regions_named rs l)) (sym e) none_distinct

pub one_apart : (r : Region) (rs : List Region) (ns : List ℤ) → rs ≡ r ∷ [] → ns ≡ pos 0 ∷ [] → IsDistinct overlap (regions_named rs ns)
one_apart r rs ns e f = subst (λ (l : List Region). IsDistinct overlap (regions_named l ns)) (sym e) (subst (λ (l : List ℤ). IsDistinct overlap (regions_named (r ∷ []) l)) (sym f) (one_distinct r))
