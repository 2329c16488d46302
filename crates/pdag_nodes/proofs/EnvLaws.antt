-- Bindings in which one index goes through its values.
use Rattle.std.proofs.Common.{◌≡◌, ℕ, ℤ, List, length, slice_set, slice_get, unwrap_or, Bool, refl, ap, sym, subst, ◌∙◌, pos, length-set}
use Rattle.std.proofs.lemmas.List.{set-set, set-get_or}
use Rattle.std.proofs.lemmas.Option.{unwrap_or-slice_get}
use Rattle.hyb_base.specs.declared.env.Env.{Env}
use Rattle.sym_lmad.specs.Bindings.{IsReadable}
use Rattle.sym_lmad.specs.Gain.{at_index}
use Rattle.sym_lmad.specs.declared.sym.Sym.{Sym}
use Rattle.sym_lmad.specs.Worth.{worth_of}
use Rattle.pdag_nodes.specs.declared.pred.Pred.{Pred}
use Rattle.pdag_nodes.specs.Nodes.{HaveIndices, meaning_of}
use Rattle.pdag_nodes.specs.Steps.{SameButIndex, windows_of}
use Rattle.pdag_nodes.specs.Windows.{window_by}

pub readable_at : (env : Env) (index : ℕ) (z : ℤ) (values : List ℤ) (may_get : ℕ → Bool) → IsReadable env values may_get → IsReadable (at_index env index z) values may_get
readable_at env index z values may_get h = record { fits = record { bound = h.fits.bound; within = h.fits.within }; allowed = h.allowed }

pub same_itself : (index : ℕ) (env : Env) → SameButIndex index env env
same_itself index env = record { same = λ z. refl }

-- the index set to another value
pub set_twice : (env : Env) (index : ℕ) (y z : ℤ) → at_index (at_index env index y) index z ≡ at_index env index z
set_twice env index y z = ap (λ l. record env { indices = l }) (set-set env.indices index y z)

pub same_after : (index : ℕ) (old new : Env) (y : ℤ) → SameButIndex index old new → SameButIndex index old (at_index new index y)
same_after index old new y h = record { same = λ z. set_twice new index y z ∙ h.same z }

pub place_same : (index : ℕ) (old new : Env) → SameButIndex index old new → length new.indices ≡ length old.indices
place_same index old new h = sym (length-set new.indices index (pos 0)) ∙ ap (λ (e : Env). length e.indices) (h.same (pos 0)) ∙ length-set old.indices index (pos 0)

-- set back to what it was, all is as before
pub set_back : (index : ℕ) (old new : Env) → SameButIndex index old new → at_index new index (unwrap_or (slice_get old.indices index) (pos 0)) ≡ old
set_back index old new h = h.same (unwrap_or (slice_get old.indices index) (pos 0)) ∙ ap (λ l. record old { indices = l }) (ap (λ z. slice_set old.indices index z) (unwrap_or-slice_get old.indices index (pos 0)) ∙ set-get_or old.indices index (pos 0))

-- an index set by a write to the list of them
pub set_is : (env : Env) (xs : List ℤ) (index : ℕ) (y z : ℤ) → xs ≡ slice_set env.indices index y → y ≡ z → record env { indices = xs } ≡ at_index env index z
set_is env xs index y z h k = λ i. record env { indices = (h ∙ ap (slice_set env.indices index) k) i }

-- while the index goes through its values, symbols may be evaluated
pub readable_still : (index : ℕ) (old new : Env) (z : ℤ) (before values : List ℤ) (could can : ℕ → Bool) → SameButIndex index old new → values ≡ before → can ≡ could → IsReadable old before could → IsReadable (at_index new index z) values can
readable_still index old new z before values could can same v m h =
    subst (λ e. IsReadable e values can) (sym (same.same z)) (subst (λ c. IsReadable (at_index old index z) values c) (sym m) (subst (λ l. IsReadable (at_index old index z) l could) (sym v) (readable_at old index z before could h)))

-- and each window is that of the first bindings
pub window_still : (index : ℕ) (old new now : Env) (z : ℤ) (before values : List ℤ) (low high : Sym) → now ≡ at_index new index z → SameButIndex index old new → values ≡ before → window_by (worth_of now values low) (worth_of now values high) ≡ windows_of old before index low high z
window_still index old new now z before values low high e same v = λ i. window_by (worth_of ((e ∙ same.same z) i) (v i) low) (worth_of ((e ∙ same.same z) i) (v i) high)

-- each index that is bound still has a place
pub places_still : (nodes : List Pred) (index : ℕ) (old new : Env) (z : ℤ) → SameButIndex index old new → HaveIndices nodes (length old.indices) → HaveIndices nodes (length (at_index new index z).indices)
places_still nodes index old new z same h = subst (HaveIndices nodes) (sym (length-set new.indices index z ∙ place_same index old new same)) h

-- and a predicate is what it is over the first bindings
pub meaning_still : (nodes : List Pred) (id index : ℕ) (old new now : Env) (z : ℤ) (before values : List ℤ) → now ≡ at_index new index z → SameButIndex index old new → values ≡ before → meaning_of values nodes id now ≡ meaning_of before nodes id (at_index old index z)
meaning_still nodes id index old new now z before values e same v = λ i. meaning_of (v i) nodes id ((e ∙ same.same z) i)
