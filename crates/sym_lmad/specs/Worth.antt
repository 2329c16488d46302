-- What a symbol is worth.
use Rattle.std.specs.Prelude.{ℕ, ◌^◌, ℤ, pos, ◌+ℤ◌, ◌*ℤ◌, neg_ℤ, ◌&&◌, List, Option, None, Some, slice_get, int_lt, if◌then◌else◌}
use Rattle.hyb_base.specs.declared.env.Base.{Base}
use Rattle.hyb_base.specs.declared.env.Base.TheVariants.{At, Value}
use Rattle.hyb_base.specs.declared.env.Env.{Env}
use Rattle.sym_lmad.specs.declared.sym.Sym.{Sym}
use Rattle.sym_lmad.specs.declared.sym.Sym.TheOpen.{Sym-F}
use Rattle.sym_lmad.specs.declared.sym.Sym.TheOpen as layer
use Rattle.sym_lmad.specs.declared.sym.Sym.TheFolds.{fold-Sym}
use Rattle.sym_lmad.specs.Bindings.{region_of, start_of, length_of, address_in}

-- a number strictly between -2 ^ 62 and 2 ^ 62, none else
abbrev pub near_of : ℤ → Option ℤ
near_of v = if int_lt (neg_ℤ (pos (2 ^ 62))) v && int_lt v (pos (2 ^ 62)) then Some v else None

abbrev pub near_by : Option ℤ → Option ℤ
near_by None = None
near_by (Some v) = near_of v

-- the sum of two worths
abbrev pub sum_by : Option ℤ → Option ℤ → Option ℤ
sum_by (Some x) (Some y) = near_of (x +ℤ y)
sum_by (Some x) None = None
sum_by None y = None

-- a multiple of a worth
abbrev pub multiple_by : (factor : ℤ) → Option ℤ → Option ℤ
multiple_by c (Some x) = near_of (c *ℤ x)
multiple_by c None = None

-- the first address at which an entity is bound
abbrev pub first_by : Option Base → Option ℕ
first_by (Some (At a)) = Some a
first_by (Some (Value v)) = None
first_by None = None

-- an address as a number
abbrev pub number_by : Option ℕ → Option ℤ
number_by (Some a) = near_of (pos a)
number_by None = None

-- the value of an entity's first cell, or the value that the entity is bound to
abbrev pub cell_by : List ℤ → Option Base → Option ℤ
cell_by values (Some (At a)) = near_by (slice_get values a)
cell_by values (Some (Value v)) = near_of v
cell_by values None = None

-- the value at an address, where there is one
abbrev pub value_by : List ℤ → (address : Option ℕ) → Option ℤ
value_by values (Some a) = near_by (slice_get values a)
value_by values None = None

module _ (env : Env) (values : List ℤ) where
  -- the value of an element by the first address of its entity, the region that is named for it, and its place
  abbrev pub element_by : (first : Option ℕ) → (region : Option ℕ) → (place : Option ℤ) → Option ℤ
  element_by (Some a) (Some r) (Some s) = value_by values (address_in (start_of env r) (length_of env r) (pos a +ℤ s))
  element_by (Some a) (Some r) None = None
  element_by (Some a) None place = None
  element_by None region place = None

  abbrev pub worth_step : Sym-F (Option ℤ) → Option ℤ
  worth_step (layer.Lit v) = near_of v
  worth_step (layer.Addr e) = number_by (first_by (slice_get env.bases e))
  worth_step (layer.Cell e) = cell_by values (slice_get env.bases e)
  worth_step (layer.Elem e s) = element_by (first_by (slice_get env.bases e)) (region_of env e) s
  worth_step (layer.Index i) = near_by (slice_get env.indices i)
  worth_step (layer.Add x y) = sum_by x y
  worth_step (layer.Mul c x) = multiple_by c x

  -- the worth of a symbol: none exactly where one of its parts has none, a number on the way isn't near, an element is outside its region, or an entity or index that it needs isn't there
  abbrev pub worth_of : Sym → Option ℤ
  worth_of = fold-Sym (Option ℤ) worth_step
