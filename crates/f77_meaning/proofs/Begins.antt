-- The numbers with which a DO statement begins.
use Rattle.std.proofs.Common.{◌≡◌, ℕ, suc, ◌<◌, ◌^◌, ◌&&◌, ℤ, pos, List, [], ◌∷◌, All, length, Option, None, Some, refl, sym, ap, subst, ◌∙◌, arith, Bool, true, false, cond, find}
use Rattle.f77_ast.specs.Entity.{entity_in, is_named}
use Rattle.f77_ast.specs.declared.program.Entity.{Entity}
use Rattle.f77_ast.specs.declared.fault.Fault.TheVariants.{DoRange, OutsideRegion, ValueDummyAssigned, ZeroIncrement}
use Rattle.f77_ast.specs.declared.program.Place.{Place}
use Rattle.f77_ast.specs.declared.program.Place.TheVariants.{Stored, Dummy, Constant}
use Rattle.f77_ast.specs.declared.program.Region.{Region}
use Rattle.f77_ast.specs.declared.specification.Bound.{Bound}
use Rattle.f77_ast.specs.declared.stmt.LoopControl.{LoopControl}
use Rattle.f77_structure.specs.Literals.{literal_value}
use Rattle.f77_structure.specs.Storage.{IsStorage, LiesIn, is_scalar, is_stored, region_at, start_by, start_of, storage_units_of, storage_units_by, stored_at}
use Rattle.f77_structure.specs.Values.{Value}
use Rattle.f77_meaning.specs.Demand.{Demand, gives, wants, calls, fails, and_then, constant, is_outside, located, located_by, place_by, Setting}
use Rattle.f77_meaning.specs.Do.{Begun, Parameters, begun_at, begun_of, begun_with, parameters_of, is_in_range, is_zero, count_of, has_64_bits, value_after}
use Rattle.f77_meaning.specs.Process.{placed}
use Rattle.f77_meaning.proofs.Frames.{Begins}

-- what is found is one of the list
found_holds : {X : Type 0} (P : X → Type 0) (test : X → Bool) (xs : List X) (x : X) → All P xs → find test xs ≡ Some x → P x
found_holds P test [] x all e = absurd (cc)
found_holds P test (y ∷ xs) x all e = by (test y) (found_holds P test xs x (λ k d h. all (suc k) d (omega (arith, h)))) e
  where
    by : (b : Bool) → (find test xs ≡ Some x → P x) → cond b (Some y) (find test xs) ≡ Some x → P x
    by true rest e = let same : y ≡ x = cc in subst P same (all 0 y (omega arith))
    by false rest e = rest e

-- the entity of a name lies in storage, where all do
pub entity_lies : (total : ℕ) (regions : List Region) (entities : List Entity) (unit : ℕ) (name : List ℕ) (entity : Entity) → All (LiesIn total regions) entities → entity_in entities unit name ≡ Some entity → LiesIn total regions entity
entity_lies total regions entities unit name entity all e = found_holds (LiesIn total regions) (is_named unit name) entities entity all e

-- both of two tests
both : (a b : Bool) → (a && b) ≡ true → (a ≡ true) × (b ≡ true)
both true b e = (refl, e)
both false b e = absurd (cc)

-- a variable of INTEGER or LOGICAL takes one address
one_unit : (entity : Entity) → is_scalar entity.bounds ≡ true → storage_units_of entity ≡ 1
one_unit entity e = by entity.bounds e
  where
    by : (bounds : List Bound) → is_scalar bounds ≡ true → storage_units_by bounds ≡ 1
    by [] h = refl
    by (b ∷ bounds) h = absurd (cc)

-- the numbers with which a DO statement begins whose variable is in storage
begun_numbers : (s : Setting) (total variable region length : ℕ) (m : Parameters) (left rest : List ℤ) (begun : Begun) → variable < total → begun_with s (placed variable region length) m left ≡ gives begun rest → Begins total begun
begun_numbers s total variable region length m left rest begun within e = by (is_outside s (placed variable region length)) (is_zero m.increment) (is_in_range m) refl e
  where
    new : Begun
    new = begun_at m variable

    small : has_64_bits (pos (count_of m)) ≡ true → count_of m < 2 ^ 63
    small h = grind (arith, h)

    by : (o z r : Bool) → is_in_range m ≡ r → cond o (fails OutsideRegion) (cond z (fails ZeroIncrement) (cond r (gives new left) (fails DoRange))) ≡ gives begun rest → Begins total begun
    by true z r h e = absurd (cc)
    by false true r h e = absurd (cc)
    by false false false h e = absurd (cc)
    by false false true h e =
        let same : new ≡ begun = cc in
        let tests : (has_64_bits (pos (count_of m)) ≡ true) × (has_64_bits (value_after m.first m.increment (count_of m)) ≡ true) = both (has_64_bits (pos (count_of m))) (has_64_bits (value_after m.first m.increment (count_of m))) h in
        subst (Begins total) same (record { count = small tests.0; end = tests.1; variable = within })

-- the same of what a DO statement evaluates to
pub begins_of : (s : Setting) (control : LoopControl) (answers rest : List ℤ) (begun : Begun) → IsStorage s.program.layout → begun_of s control answers ≡ gives begun rest → Begins (length s.program.layout.first) begun
begins_of s control answers rest begun storage e = by (parameters_of s control answers) e
  where
    total : ℕ
    total = length s.program.layout.first

    -- a variable that is stored, at its first address
    stored_by : (m : Parameters) (left : List ℤ) (entity : Entity) → LiesIn total s.program.layout.regions entity → (address : ℕ) → entity.place ≡ Stored address → (b : Bool) → is_scalar entity.bounds ≡ b → and_then (place_by s entity (cond b (stored_at entity.place) None) left) (λ variable more. begun_with s variable.bound m more) ≡ gives begun rest → Begins total begun
    stored_by m left entity lies address place true scalar e =
        let here : start_of entity ≡ address = ap start_by place in
        let there : is_stored entity.place ≡ true = ap is_stored place in
        let found : and_then (place_by s entity (Some address) left) (λ variable more. begun_with s variable.bound m more) ≡ gives begun rest = ap (λ p. and_then (place_by s entity (stored_at p) left) (λ variable more. begun_with s variable.bound m more)) (sym place) ∙ e in
        begun_numbers s total address (region_at s.program.layout.regions address) entity.len m left rest begun (omega (arith, lies.within there, one_unit entity scalar, here)) found
    stored_by m left entity lies address place false scalar e = absurd (cc)

    -- a loop has no constant as its variable
    constant_begins : (m : Parameters) (left : List ℤ) (entity : Entity) (value : Option Value) → and_then (constant s entity value None left) (λ variable more. begun_with s variable.bound m more) ≡ gives begun rest → Begins total begun
    constant_begins m left entity None e = absurd (cc)
    constant_begins m left entity (Some value) e = by (is_zero m.increment) (is_in_range m) e
      where
        by : (z r : Bool) → cond z (fails ZeroIncrement) (cond r (fails ValueDummyAssigned) (fails DoRange)) ≡ gives begun rest → Begins total begun
        by true r e = absurd (cc)
        by false true e = absurd (cc)
        by false false e = absurd (cc)

    place_of_it : (m : Parameters) (left : List ℤ) (entity : Entity) → LiesIn total s.program.layout.regions entity → (place : Place) → entity.place ≡ place → and_then (located_by s entity place None left) (λ variable more. begun_with s variable.bound m more) ≡ gives begun rest → Begins total begun
    place_of_it m left entity lies (Stored address) h e = stored_by m left entity lies address h (is_scalar entity.bounds) refl e
    place_of_it m left entity lies (Dummy k) h e = absurd (cc)
    place_of_it m left entity lies (Constant value) h e = constant_begins m left entity (literal_value value) e

    entity_by : (m : Parameters) (left : List ℤ) (o : Option Entity) → entity_in s.program.layout.entities s.unit control.variable ≡ o → and_then (located s o None left) (λ variable more. begun_with s variable.bound m more) ≡ gives begun rest → Begins total begun
    entity_by m left None h e = absurd (cc)
    entity_by m left (Some entity) h e = place_of_it m left entity (entity_lies total s.program.layout.regions s.program.layout.entities s.unit control.variable entity storage.lie h) entity.place refl e

    by : (d : Demand Parameters) → and_then d (λ m left. and_then (located s (entity_in s.program.layout.entities s.unit control.variable) None left) (λ variable more. begun_with s variable.bound m more)) ≡ gives begun rest → Begins total begun
    by (gives m left) e = entity_by m left (entity_in s.program.layout.entities s.unit control.variable) refl e
    by (wants address op) e = absurd (cc)
    by (calls unit bindings) e = absurd (cc)
    by (fails fault) e = absurd (cc)
