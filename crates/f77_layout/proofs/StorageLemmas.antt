-- Layouts are storage, and their entities are apart.
use Rattle.std.proofs.Common.{◌≡◌, ℕ, zero, suc, ◌+◌, ◌<◌, ◌≤◌, pos, Bool, true, false, not, nat_le, nat_lt, List, [], ◌∷◌, ◌++◌, length, replicate, cond, All, None, Some, slice_get, get_or, if◌then◌else◌, refl, sym, ap, ◌∙◌, subst, arith}
use Rattle.std.proofs.lemmas.List.{length-replicate}
use Rattle.std.proofs.lemmas.List.Elements.{All-cons}
use Rattle.f77_ast.specs.Limits.{most_storage_units}
use Rattle.f77_ast.specs.declared.program.Entity.{Entity}
use Rattle.f77_ast.specs.declared.program.Layout.{Layout}
use Rattle.f77_ast.specs.declared.program.Place.{Place}
use Rattle.f77_ast.specs.declared.program.Place.TheVariants.{Stored, Dummy, Constant}
use Rattle.f77_ast.specs.declared.program.Region.{Region}
use Rattle.f77_structure.specs.Storage.{is_stored, lies_in, region_at, start_by, start_of, storage_units_of, LiesIn, IsStorage}
use Rattle.f77_layout.specs.Layout.{entities_from, entity_at, layout_of, own_units, place_at, region_if, regions_from, total_units}
use Rattle.f77_layout.specs.Laws.{EntitiesAreApart, LayoutsAreStorage}

stored_still : (address : ℕ) (place : Place) → is_stored (place_at address place) ≡ is_stored place
stored_still address (Stored old) = refl
stored_still address (Dummy number) = refl
stored_still address (Constant value) = refl

starts_at : (address : ℕ) (place : Place) → is_stored (place_at address place) ≡ true → start_by (place_at address place) ≡ address
starts_at address (Stored old) e = refl
starts_at address (Dummy number) e = cc
starts_at address (Constant value) e = cc

takes : (address : ℕ) (entity : Entity) → is_stored (place_at address entity.place) ≡ true → own_units entity ≡ storage_units_of entity
takes address entity e = ap (λ b. if b then storage_units_of entity else 0) (sym (stored_still address entity.place) ∙ e)

-- an address among the units of what is stored lies in the region 0
first_region : (at n : ℕ) (rest : List Region) (a : ℕ) → at ≤ a → a < at + n → region_at (region_if true at n ++ rest) a ≡ 0
first_region at n rest a low high =
    let inside : lies_in a (record { start = at; len = n }) ≡ true = grind (arith, low, high) in
    ap (λ t. cond (not t) (1 + region_at rest a) 0) inside

-- one behind it lies in none of the regions before that of its own
later_region : (s : Bool) (at n : ℕ) (rest : List Region) (a : ℕ) → at + n ≤ a → region_at (region_if s at n ++ rest) a ≡ (if s then 1 else 0) + region_at rest a
later_region false at n rest a behind = omega arith
later_region true at n rest a behind =
    let outside : lies_in a (record { start = at; len = n }) ≡ false = grind (arith, behind) in
    ap (λ t. cond (not t) (1 + region_at rest a) 0) outside

-- none begins before the address from which on they stand
start_from : (at : ℕ) (es : List Entity) → All (λ entity. is_stored entity.place ≡ true → at ≤ start_of entity) (entities_from at es)
start_from at [] = λ k d lt. absurd (omega (arith, lt))
start_from at (e ∷ es) =
    All-cons (λ entity. is_stored entity.place ≡ true → at ≤ start_of entity) (entity_at at e) (entities_from (at + own_units e) es)
    (λ stored. let s = starts_at at e.place stored in omega (arith, s))
    (λ k entity lt stored. let behind = start_from (at + own_units e) es k entity lt stored in omega (arith, behind))

-- the units of each lie in one region
lie_from : (total at : ℕ) (es : List Entity) → at + total_units es ≤ total → All (LiesIn total (regions_from at es)) (entities_from at es)
lie_from total at [] le = λ k d lt. absurd (omega (arith, lt))
lie_from total at (e ∷ es) le =
    All-cons (LiesIn total (regions_from at (e ∷ es))) (entity_at at e) (entities_from next es)
    (record {
      within = λ stored. let s = starts_at at e.place stored in let t = takes at e stored in omega (arith, s, t, le);
      together = λ k stored less. own k stored less (starts_at at e.place stored) (takes at e stored);
    })
    (λ k other lt. behind (get_or (entities_from next es) k other) (start_from next es k other lt) (lie_from total next es (omega (arith, le)) k other lt))
  where
    next : ℕ
    next = at + own_units e

    rest : List Region
    rest = regions_from next es

    first : (a : ℕ) → is_stored (place_at at e.place) ≡ true → at ≤ a → a < at + own_units e → region_at (regions_from at (e ∷ es)) a ≡ 0
    first a stored low high = ap (λ b. region_at (region_if b at (own_units e) ++ rest) a) (sym (stored_still at e.place) ∙ stored) ∙ first_region at (own_units e) rest a low high

    own : (k : ℕ) → is_stored (place_at at e.place) ≡ true → k < storage_units_of e → start_by (place_at at e.place) ≡ at → own_units e ≡ storage_units_of e → region_at (regions_from at (e ∷ es)) (start_by (place_at at e.place) + k) ≡ region_at (regions_from at (e ∷ es)) (start_by (place_at at e.place))
    own k stored less s t =
        first (start_by (place_at at e.place) + k) stored (omega (arith, s)) (omega (arith, s, t, less))
        ∙ sym (first (start_by (place_at at e.place)) stored (omega (arith, s)) (omega (arith, s, t, less)))

    behind : (entity : Entity) → (is_stored entity.place ≡ true → next ≤ start_of entity) → LiesIn total rest entity → LiesIn total (regions_from at (e ∷ es)) entity
    behind entity low lies = record {
      within = lies.within;
      together = λ k stored less.
          later_region (is_stored e.place) at (own_units e) rest (start_of entity + k) (let l = low stored in omega (arith, l))
          ∙ ap (λ n. (if is_stored e.place then 1 else 0) + n) (lies.together k stored less)
          ∙ sym (later_region (is_stored e.place) at (own_units e) rest (start_of entity) (low stored));
    }

-- each address among the units lies in a region
cover_head : (s : Bool) (at n units : ℕ) (rest : List Region) (a : ℕ) → units ≡ (if s then n else 0) → at ≤ a → (at + units ≤ a → region_at rest a < length rest) → region_at (region_if s at units ++ rest) a < length (region_if s at units ++ rest)
cover_head false at n units rest a u low later = later (omega (arith, u, low))
cover_head true at n units rest a u low later = by (nat_lt a (at + units)) refl
  where
    by : (t : Bool) → nat_lt a (at + units) ≡ t → region_at (region_if true at units ++ rest) a < suc (length rest)
    by true e = let first = first_region at units rest a low (grind (arith, e)) in omega (arith, first)
    by false e =
        let behind : at + units ≤ a = grind (arith, e) in
        let more = later_region true at units rest a behind in
        let there = later behind in
        omega (arith, more, there)

cover_from : (at : ℕ) (es : List Entity) (a : ℕ) → at ≤ a → a < at + total_units es → region_at (regions_from at es) a < length (regions_from at es)
cover_from at [] a low high = absurd (omega (arith, low, high))
cover_from at (e ∷ es) a low high = cover_head (is_stored e.place) at (storage_units_of e) (own_units e) (regions_from (at + own_units e) es) a refl low (λ behind. cover_from (at + own_units e) es a behind (omega (arith, high)))

is_storage : (es : List Entity) → total_units es ≤ most_storage_units → IsStorage (layout_of es)
is_storage es s =
    let l : length (replicate (total_units es) (pos 0)) ≡ total_units es = length-replicate (total_units es) (pos 0) in
    record {
      total = sym l;
      lie = lie_from (length (replicate (total_units es) (pos 0))) 0 es (omega (arith, l));
      covered = λ address less. cover_from 0 es address (omega arith) (omega (arith, l, less));
      small = omega (arith, l, s);
    }

no_layout : (layout : Layout) → None ≡ Some layout → ⊥
no_layout layout e = cc

pub storage_law : LayoutsAreStorage
storage_law es layout e = by (nat_le (total_units es) most_storage_units) refl e
  where
    by : (b : Bool) → nat_le (total_units es) most_storage_units ≡ b → (if b then Some (layout_of es) else None) ≡ Some layout → IsStorage layout
    by true g h = let same : layout_of es ≡ layout = cc in subst IsStorage same (is_storage es (grind (arith, g)))
    by false g h = absurd (no_layout layout h)

-- each begins where or behind where they stand from
starts_behind : (at : ℕ) (es : List Entity) (j : ℕ) (b : Entity) → slice_get (entities_from at es) j ≡ Some b → is_stored b.place ≡ true → at ≤ start_of b
starts_behind at [] j b e stored = cc
starts_behind at (x ∷ es) zero b e stored =
    let same : entity_at at x ≡ b = cc in
    let s = starts_at at x.place (ap (λ y. is_stored y.place) same ∙ stored) in
    let t : start_of (entity_at at x) ≡ start_of b = ap start_of same in
    omega (arith, s, t)
starts_behind at (x ∷ es) (suc j) b e stored = let rest = starts_behind (at + own_units x) es j b e stored in omega (arith, rest)

apart_from : (at : ℕ) (es : List Entity) (i j : ℕ) (a b : Entity) → i < j → slice_get (entities_from at es) i ≡ Some a → slice_get (entities_from at es) j ≡ Some b → is_stored a.place ≡ true → is_stored b.place ≡ true → start_of a + storage_units_of a ≤ start_of b
apart_from at [] i j a b lt e f s t = cc
apart_from at (x ∷ es) i zero a b lt e f s t = absurd (omega (arith, lt))
apart_from at (x ∷ es) (suc i) (suc j) a b lt e f s t = apart_from (at + own_units x) es i j a b (omega (arith, lt)) e f s t
apart_from at (x ∷ es) zero (suc j) a b lt e f s t =
    let same : entity_at at x ≡ a = cc in
    let stored : is_stored (place_at at x.place) ≡ true = ap (λ y. is_stored y.place) same ∙ s in
    let begins = starts_at at x.place stored in
    let begin : start_of (entity_at at x) ≡ start_of a = ap start_of same in
    let size : storage_units_of x ≡ storage_units_of a = ap storage_units_of same in
    let units = takes at x stored in
    let rest = starts_behind (at + own_units x) es j b f t in
    omega (arith, begins, begin, size, units, rest)

pub apart_law : EntitiesAreApart
apart_law es i j a b lt e f s t = apart_from 0 es i j a b lt e f s t
