-- One set in the place of another.
use Rattle.std.proofs.Common.{ℤ, Option, Some, None}
use Rattle.hyb_base.specs.declared.ops.Rel.{Rel}
use Rattle.uses.specs.Over.{Over, Before}
use Rattle.usr_graph.specs.Members.{Where, OverCount}

pub over_map : (count : ℤ) (p q : ℤ → Type 0) → ((i : ℤ) → p i → q i) → Over count p → Over count q
over_map count p q f h = record { index = h.index; from_one = h.from_one; in_count = h.in_count; holds = f h.index h.holds }

pub before_map : (limit : ℤ) (p q : ℤ → Type 0) → ((i : ℤ) → p i → q i) → Before limit p → Before limit q
before_map limit p q f h = record { index = h.index; from_one = h.from_one; in_order = h.in_order; holds = f h.index h.holds }

pub where_map : (x y : Option ℤ) (rel : Rel) (p q o : Type 0) → (p → q) → Where x rel y p o → Where x rel y q o
where_map None y rel p q o f h = h
where_map (Some x) None rel p q o f h = h
where_map (Some x) (Some y) rel p q o f h = (h.0, f h.1)

pub count_map : (count : Option ℤ) (p q : ℤ → Type 0) (o : Type 0) → ((i : ℤ) → p i → q i) → OverCount count p o → OverCount count q o
count_map None p q o f h = h
count_map (Some count) p q o f h = over_map count p q f h
