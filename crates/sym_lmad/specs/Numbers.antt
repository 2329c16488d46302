-- The two numbers that a symbol always has beside its worth.
use Rattle.std.specs.Prelude.{◌≡◌, ℕ, ℤ, pos, ◌+ℤ◌, ◌*ℤ◌, List, length, Option, Some, None, slice_get, unwrap_or}
use Rattle.hyb_base.specs.declared.env.Base.{Base}
use Rattle.hyb_base.specs.declared.env.Base.TheVariants.{At, Value}
use Rattle.hyb_base.specs.declared.env.Env.{Env}
use Rattle.hyb_base.specs.Wrap.{wrapped}
use Rattle.sym_lmad.specs.declared.sym.Sym.{Sym}
use Rattle.sym_lmad.specs.declared.sym.Sym.TheOpen.{Sym-F}
use Rattle.sym_lmad.specs.declared.sym.Sym.TheOpen as layer
use Rattle.sym_lmad.specs.declared.sym.Sym.TheFolds.{fold-Sym}
use Rattle.sym_lmad.specs.Bindings.{FitsCells, address_by}
use Rattle.sym_lmad.specs.Worth.{first_by, worth_of}

-- what a run computes, wrapped in 64 bits at each step, and the same sums and products without bound
pub record Numbers : Type 0 where
  pub run : ℤ
  pub whole : ℤ

-- of a number that is had at once
abbrev pub numbers_at : ℤ → Numbers
numbers_at z = record { run = wrapped z; whole = z }

-- the first address of an entity: 0 where it has none
abbrev pub first_or_zero : Option ℕ → ℤ
first_or_zero (Some a) = pos a
first_or_zero None = pos 0

-- the value of an entity's first cell, or the value that it is bound to: 0 where there is none
abbrev pub cell_or_zero : List ℤ → Option Base → ℤ
cell_or_zero values (Some (At a)) = unwrap_or (slice_get values a) (pos 0)
cell_or_zero values (Some (Value v)) = v
cell_or_zero values None = pos 0

-- the value of the cell at a wrapped address: 0 where there is none
abbrev pub cell_at : List ℤ → Option ℕ → ℤ
cell_at values (Some a) = unwrap_or (slice_get values a) (pos 0)
cell_at values None = pos 0

-- the value of the element at a place of an entity: 0 where there is none
abbrev pub element_or_zero : List ℤ → (first : Option ℕ) → (place : ℤ) → ℤ
element_or_zero values (Some a) place = cell_at values (address_by (wrapped (pos a +ℤ place)))
element_or_zero values None place = pos 0

module _ (env : Env) (values : List ℤ) where
  abbrev pub numbers_step : Sym-F Numbers → Numbers
  numbers_step (layer.Lit v) = numbers_at v
  numbers_step (layer.Addr e) = numbers_at (first_or_zero (first_by (slice_get env.bases e)))
  numbers_step (layer.Cell e) = numbers_at (cell_or_zero values (slice_get env.bases e))
  numbers_step (layer.Elem e s) = numbers_at (element_or_zero values (first_by (slice_get env.bases e)) s.run)
  numbers_step (layer.Index i) = numbers_at (unwrap_or (slice_get env.indices i) (pos 0))
  numbers_step (layer.Add x y) = record { run = wrapped (x.run +ℤ y.run); whole = x.whole +ℤ y.whole }
  numbers_step (layer.Mul c x) = record { run = wrapped (c *ℤ x.run); whole = c *ℤ x.whole }

  abbrev pub numbers_of : Sym → Numbers
  numbers_of = fold-Sym Numbers numbers_step

  -- what a run computes of a symbol
  abbrev pub run_of : Sym → ℤ
  run_of s = (numbers_of s).run

  -- the same without bound
  abbrev pub whole_of : Sym → ℤ
  whole_of s = (numbers_of s).whole

-- the number of a run is the one without bound, wrapped once
abbrev pub RunIsWholeWrapped : Type 0
RunIsWholeWrapped = (env : Env) (values : List ℤ) (s : Sym) → run_of env values s ≡ wrapped (whole_of env values s)

-- where bindings fit the cells and a symbol has a worth, both of its numbers are that worth
abbrev pub WorthIsBoth : Type 0
WorthIsBoth = (env : Env) (values : List ℤ) (s : Sym) (v : ℤ) → FitsCells env (length values) → worth_of env values s ≡ Some v → (whole_of env values s ≡ v) × (run_of env values s ≡ v)
