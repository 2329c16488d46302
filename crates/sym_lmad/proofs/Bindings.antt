-- Where bindings fit cells, what they name are cells.
use Rattle.std.proofs.Common.{◌≡◌, ℕ, ◌<◌, ◌^◌, ℤ, pos, negsuc, Bool, true, false, Option, None, Some, IfSome, IsTrue, slice_get, if◌then◌else◌, refl}
use Rattle.hyb_base.specs.declared.env.Base.TheVariants.{At}
use Rattle.hyb_base.specs.declared.env.Env.{Env}
use Rattle.sym_lmad.specs.Bindings.{FitsCells, IsOfNamed, IsAddressOf, region_of, start_of, length_of, is_within, address_in, address_by}

-- an entity that is bound to an address is bound to that of a cell
pub bound_below : (env : Env) (cells entity a : ℕ) → FitsCells env cells → slice_get env.bases entity ≡ Some (At a) → (a < cells) × (a < 2 ^ 32)
bound_below env cells entity a fits is = go (region_of env entity) (fits.bound entity a is)
  where
    go : (region : Option ℕ) → IsOfNamed env region (pos a) → (a < cells) × (a < 2 ^ 32)
    go (Some r) h = fits.within r (pos a) h
    go None h = absurd h

-- an address of a region is that of a cell
pub address_below : (env : Env) (cells r : ℕ) (z : ℤ) → FitsCells env cells → IfSome (address_in (start_of env r) (length_of env r) z) (λ a. (a < cells) × (a < 2 ^ 32))
address_below env cells r z fits = go z (is_within (start_of env r) (length_of env r) z) (λ h. fits.within r z h)
  where
    go : (z : ℤ) (held : Bool) → (IsTrue held → IsAddressOf cells z) → IfSome (if held then address_by z else None) (λ a. (a < cells) × (a < 2 ^ 32))
    go (pos a) true h = h refl
    go (negsuc a) true h = absurd (h refl)
    go z false h = tt
