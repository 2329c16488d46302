-- The first entity past the limit on storage.
use Rattle.std.proofs.Common.{◌≡◌, ℕ, zero, suc, ◌+◌, Bool, true, false, cond, List, [], ◌∷◌, drop, nat_le, None, Some, slice_get, refl, sym, ap}
use Rattle.f77_ast.specs.Limits.{most_storage_units}
use Rattle.f77_ast.specs.declared.program.Entity.{Entity}
use Rattle.f77_built.specs.Built.{first_past}
use Rattle.f77_layout.specs.Layout.{limited, own_units}

-- the entity at a place is the first of those from there on
pub drop_at : (es : List Entity) (number : ℕ) (e : Entity) → slice_get es number ≡ Some e → drop number es ≡ e ∷ drop (suc number) es
drop_at [] zero e h = absurd (cc)
drop_at [] (suc number) e h = absurd (cc)
drop_at (x ∷ es) zero e h = let same : x ≡ e = cc in ap (λ y. y ∷ es) same
drop_at (x ∷ es) (suc number) e h = drop_at es number e h

-- no place is behind all
pub none_at : (es : List Entity) (number : ℕ) → slice_get es number ≡ None → drop number es ≡ []
none_at [] zero h = refl
none_at [] (suc number) h = refl
none_at (x ∷ es) zero h = absurd (cc)
none_at (x ∷ es) (suc number) h = none_at es number h

no_some : {X : Type 0} (x : X) → None ≡ Some x → ⊥
no_some x e = cc

-- an entity that is within the limit
pub past_more : (total : ℕ) (e : Entity) (rest : List Entity) (more : ℕ) → limited (total + own_units e) ≡ Some more → first_past total (e ∷ rest) ≡ first_past more rest
past_more total e rest more h = by (nat_le (total + own_units e) most_storage_units) h
  where
    by : (b : Bool) → cond b (Some (total + own_units e)) None ≡ Some more → cond b (first_past (total + own_units e) rest) (Some e) ≡ first_past more rest
    by true k = let same : total + own_units e ≡ more = cc in ap (λ n. first_past n rest) same
    by false k = absurd (no_some more k)

-- an entity that isn't
pub past_here : (total : ℕ) (e : Entity) (rest : List Entity) → limited (total + own_units e) ≡ None → first_past total (e ∷ rest) ≡ Some e
past_here total e rest h = by (nat_le (total + own_units e) most_storage_units) h
  where
    by : (b : Bool) → cond b (Some (total + own_units e)) None ≡ None → cond b (first_past (total + own_units e) rest) (Some e) ≡ Some e
    by true k = absurd (no_some (total + own_units e) (sym k))
    by false k = refl
