-- Which entities share a region.
use Rattle.std.specs.Prelude.{ℕ, ◌==◌, ℤ, pos, negsuc, Bool, false, not, List, Option, Some, None}
use Rattle.std.specs.List.{list_any}
use Rattle.hyb_base.specs.declared.env.Env.{Env}
use Rattle.sym_lmad.specs.Bindings.{region_of}

-- the region of an entity by its number, which may be none
abbrev pub region_by_number : Env → ℤ → Option ℕ
region_by_number env (pos e) = region_of env e
region_by_number env (negsuc e) = None

-- whether two regions are one: what is none is not
abbrev pub are_one : Option ℕ → Option ℕ → Bool
are_one (Some r) (Some s) = r == s
are_one (Some r) None = false
are_one None s = false

-- whether an entity shares its region with one of some entities
abbrev pub shares_one : Env → (entity : ℤ) → List ℤ → Bool
shares_one env entity entities = list_any (λ other. are_one (region_by_number env entity) (region_by_number env other)) entities

-- whether no region of a read entity is the region of a written one
abbrev pub is_stable : Env → (reads writes : List ℤ) → Bool
is_stable env reads writes = not (list_any (λ entity. shares_one env entity writes) reads)
