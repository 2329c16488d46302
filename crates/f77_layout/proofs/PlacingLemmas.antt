-- Entities, placed one after the other.
use Rattle.std.proofs.Common.{◌≡◌, ℕ, zero, suc, ◌+◌, ◌≤◌, Bool, true, false, List, [], ◌∷◌, ◌++◌, length, drop, nat_le, None, Some, if◌then◌else◌, refl, ap, arith}
use Rattle.f77_ast.specs.Entity.{placed_at}
use Rattle.f77_ast.specs.Limits.{most_storage_units}
use Rattle.f77_ast.specs.declared.program.Entity.{Entity}
use Rattle.f77_ast.specs.declared.program.Place.{Place}
use Rattle.f77_ast.specs.declared.program.Place.TheVariants.{Stored, Dummy, Constant}
use Rattle.f77_structure.specs.Storage.{is_stored}
use Rattle.f77_layout.specs.Layout.{is_stored_at, limited, place_at, region_if, regions_from, total_units, units_at}
use Rattle.f77_layout.specs.Placing.{with_placed, placed_from}

place_is : (address : ℕ) (place : Place) → is_stored place ≡ true → Stored address ≡ place_at address place
place_is address (Stored old) e = refl
place_is address (Dummy number) e = cc
place_is address (Constant value) e = cc

place_same : (address : ℕ) (place : Place) → is_stored place ≡ false → place ≡ place_at address place
place_same address (Stored old) e = cc
place_same address (Dummy number) e = refl
place_same address (Constant value) e = refl

abbrev with_place : Entity → Place → Entity
with_place entity place = record entity { place = place }

-- a stored entity is given the address, and another stays as it is
pub stored_placed : (entities : List Entity) (number address : ℕ) → is_stored_at entities number ≡ true → placed_at entities number (Stored address) ≡ with_placed entities number address
stored_placed [] number address e = refl
stored_placed (entity ∷ entities) zero address e = ap (λ place. with_place entity place ∷ entities) (place_is address entity.place e)
stored_placed (entity ∷ entities) (suc number) address e = ap (λ es. entity ∷ es) (stored_placed entities number address e)

pub others_placed : (entities : List Entity) (number address : ℕ) → is_stored_at entities number ≡ false → entities ≡ with_placed entities number address
others_placed [] number address e = refl
others_placed (entity ∷ entities) zero address e = ap (λ place. with_place entity place ∷ entities) (place_same address entity.place e)
others_placed (entity ∷ entities) (suc number) address e = ap (λ es. entity ∷ es) (others_placed entities number address e)

-- the entity of a number, and those behind it
pub total_next : (entities : List Entity) (number : ℕ) → total_units (drop number entities) ≡ units_at entities number + total_units (drop (suc number) entities)
total_next [] zero = refl
total_next [] (suc number) = refl
total_next (entity ∷ entities) zero = refl
total_next (entity ∷ entities) (suc number) = total_next entities number

pub regions_next : (entities : List Entity) (number address : ℕ) → regions_from address (drop number entities) ≡ region_if (is_stored_at entities number) address (units_at entities number) ++ regions_from (address + units_at entities number) (drop (suc number) entities)
regions_next [] zero address = refl
regions_next [] (suc number) address = refl
regions_next (entity ∷ entities) zero address = refl
regions_next (entity ∷ entities) (suc number) address = regions_next entities number address

pub placed_next : (entities : List Entity) (number address : ℕ) → placed_from number address entities ≡ placed_from (suc number) (address + units_at entities number) (with_placed entities number address)
placed_next [] zero address = refl
placed_next [] (suc number) address = refl
placed_next (entity ∷ entities) zero address = refl
placed_next (entity ∷ entities) (suc number) address = ap (λ es. entity ∷ es) (placed_next entities number address)

-- what is placed leaves those behind it as they are
pub drop_placed : (entities : List Entity) (number address : ℕ) → drop (suc number) (with_placed entities number address) ≡ drop (suc number) entities
drop_placed [] number address = refl
drop_placed (entity ∷ entities) zero address = refl
drop_placed (entity ∷ entities) (suc number) address = drop_placed entities number address

pub length_placed : (entities : List Entity) (number address : ℕ) → length (with_placed entities number address) ≡ length entities
length_placed [] number address = refl
length_placed (entity ∷ entities) zero address = refl
length_placed (entity ∷ entities) (suc number) address = ap suc (length_placed entities number address)

-- behind all there is nothing to place
pub all_placed : (entities : List Entity) (number address : ℕ) → length entities ≤ number → placed_from number address entities ≡ entities
all_placed [] zero address le = refl
all_placed [] (suc number) address le = refl
all_placed (entity ∷ entities) zero address le = absurd (omega (arith, le))
all_placed (entity ∷ entities) (suc number) address le = ap (λ es. entity ∷ es) (all_placed entities number address (omega (arith, le)))

pub none_left : (entities : List Entity) (number : ℕ) → length entities ≤ number → drop number entities ≡ []
none_left [] zero le = refl
none_left [] (suc number) le = refl
none_left (entity ∷ entities) zero le = absurd (omega (arith, le))
none_left (entity ∷ entities) (suc number) le = none_left entities number (omega (arith, le))

-- more than the limit stays more
pub limited_none : (some rest all : ℕ) → limited some ≡ None → some + rest ≡ all → limited all ≡ None
limited_none some rest all e f = by (nat_le some most_storage_units) refl e
  where
    by : (b : Bool) → nat_le some most_storage_units ≡ b → (if b then Some some else None) ≡ None → limited all ≡ None
    by true g h = cc
    by false g h = let over : nat_le all most_storage_units ≡ false = grind (arith, g, f) in ap (λ b. if b then Some all else None) over

no_some : (n : ℕ) → None ≡ Some n → ⊥
no_some n e = cc

pub limited_some : (units total : ℕ) → limited units ≡ Some total → (units ≡ total) × (units ≤ most_storage_units)
limited_some units total e = by (nat_le units most_storage_units) refl e
  where
    by : (b : Bool) → nat_le units most_storage_units ≡ b → (if b then Some units else None) ≡ Some total → (units ≡ total) × (units ≤ most_storage_units)
    by true g h = (cc, grind (arith, g))
    by false g h = absurd (no_some total h)
