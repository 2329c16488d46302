-- Rows of values of their own, and a commit cell by cell.
use Rattle.std.proofs.Common.{ℕ, zero, suc, ℤ, pos, ◌+◌, ◌<◌, ◌≤◌, ◌≡◌, ◌==◌, ◌∙◌, Bool, true, false, List, [], ◌∷◌, length, Option, None, Some, if◌then◌else◌, refl, sym, ap, subst, arith, eqb-true}
use Rattle.std.specs.Prelude.{slice_get, slice_set, nat_lt}
use Rattle.std.specs.Prelude.{All}
use Rattle.std.proofs.lemmas.Bool.{lt-ltb, le-ltb, ltb-false}
use Rattle.std.proofs.lemmas.Bool.Decides.{nat_tests}
use Rattle.std.proofs.lemmas.List.{get_or_past}
use Rattle.std.proofs.lemmas.List.Elements.{All-tail}
use Rattle.std.proofs.lemmas.Option.{slice_get_past}
use mathlib.Core.Path.{fun_ext}
use Rattle.hyb_base.specs.declared.ops.RedOp.{RedOp}
use Rattle.interleaving.specs.Machine.{Store, put}
use Rattle.interleaving.specs.Modes.{Mode, Shared}
use Rattle.interleaving.specs.Region.{merged, commit}
use Rattle.interleaving.proofs.ListStores.{are_stores}
use Rattle.region_run.specs.Machine.{operators, store_of_cells}
use Rattle.turn_rows.specs.declared.mode_rows.ModeRows.{ModeRows}
use Rattle.turn_rows.specs.declared.own_row.OwnRow.{OwnRow}
use Rattle.turn_rows.specs.CellModes.{own_of, own_from, mode_from, mode_at}
use Rattle.turn_rows.specs.declared.cell_mode.CellMode.{CellMode}

get_set_same : (rows : List OwnRow) (s : ℕ) (row : OwnRow) → s < length rows → slice_get (slice_set rows s row) s ≡ Some row
get_set_same [] s row h = absurd (omega arith)
get_set_same (r ∷ rows) zero row h = refl
get_set_same (r ∷ rows) (suc s) row h = get_set_same rows s row (omega arith)

get_set_other : (rows : List OwnRow) (s k : ℕ) (row : OwnRow) → (k ≡ s → ⊥) → slice_get (slice_set rows s row) k ≡ slice_get rows k
get_set_other [] s k row d = refl
get_set_other (r ∷ rows) zero zero row d = absurd (d refl)
get_set_other (r ∷ rows) zero (suc k) row d = refl
get_set_other (r ∷ rows) (suc s) zero row d = refl
get_set_other (r ∷ rows) (suc s) (suc k) row d = get_set_other rows s k row (λ e. d (ap suc e))

-- a row that was set at an address
pub own_here : (rows : List OwnRow) (s a : ℕ) (old new : OwnRow) (own : Option ℤ) → s < length rows → slice_get rows s ≡ Some old → own_of new ≡ put (own_of old) a own → own_from (slice_get (slice_set rows s new) s) ≡ put (own_from (slice_get rows s)) a own
own_here rows s a old new own h was is = ap own_from (get_set_same rows s new h) ∙ is ∙ ap (λ (r : Option OwnRow). put (own_from r) a own) (sym was)

-- the other rows stay
pub own_elsewhere : (rows : List OwnRow) (s k : ℕ) (new : OwnRow) → (k ≡ s → ⊥) → own_from (slice_get (slice_set rows s new) k) ≡ own_from (slice_get rows k)
own_elsewhere rows s k new d = ap own_from (get_set_other rows s k new d)

-- the store and the row's own values, after a commit of the cells below k
abbrev pub store_to : (modes : ℕ → Mode RedOp) → Store ℤ → (own : ℕ → Option ℤ) → (k : ℕ) → Store ℤ
store_to modes s own k = λ a. if nat_lt a k then merged operators (modes a) (s a) (own a) else s a

abbrev pub own_to : (own : ℕ → Option ℤ) → (k : ℕ) → ℕ → Option ℤ
own_to own k = λ a. if nat_lt a k then None else own a

at_next : (k : ℕ) → nat_lt k (k + 1) ≡ true
at_next k = lt-ltb k (k + 1) (omega arith)

not_itself : (k : ℕ) → nat_lt k k ≡ false
not_itself k = le-ltb k k (omega arith)

elsewhere : (a k : ℕ) → (k == a) ≡ false → nat_lt a (k + 1) ≡ nat_lt a k
elsewhere a k e = grind (arith, nat_tests)

-- no cell
pub commits_none : (modes : ℕ → Mode RedOp) (s : Store ℤ) (own : ℕ → Option ℤ) → s ≡ store_to modes s own 0
commits_none modes s own = fun_ext (λ a. ap (λ (t : Bool). if t then merged operators (modes a) (s a) (own a) else s a) (sym (le-ltb a 0 (omega arith))))

pub clears_none : (own : ℕ → Option ℤ) → own ≡ own_to own 0
clears_none own = fun_ext (λ a. ap (λ (t : Bool). if t then None else own a) (sym (le-ltb a 0 (omega arith))))

store_next : (modes : ℕ → Mode RedOp) (s : Store ℤ) (own : ℕ → Option ℤ) (k : ℕ) → put (store_to modes s own k) k (merged operators (modes k) (store_to modes s own k k) (own_to own k k)) ≡ store_to modes s own (k + 1)
store_next modes s own k = fun_ext at
  where
    here : merged operators (modes k) (store_to modes s own k k) (own_to own k k) ≡ store_to modes s own (k + 1) k
    here =
        ap (λ (t : Bool). merged operators (modes k) (if t then merged operators (modes k) (s k) (own k) else s k) (if t then None else own k)) (not_itself k)
        ∙ ap (λ (t : Bool). if t then merged operators (modes k) (s k) (own k) else s k) (sym (at_next k))

    at : (a : ℕ) → put (store_to modes s own k) k (merged operators (modes k) (store_to modes s own k k) (own_to own k k)) a ≡ store_to modes s own (k + 1) a
    at a = (elim (k == a) as (λ t. (k == a) ≡ t → (if t then merged operators (modes k) (store_to modes s own k k) (own_to own k k) else store_to modes s own k a) ≡ store_to modes s own (k + 1) a) [
      | true ↦ λ e. subst (λ (c : ℕ). merged operators (modes k) (store_to modes s own k k) (own_to own k k) ≡ store_to modes s own (k + 1) c) (eqb-true k a e) here
      | false ↦ λ e. ap (λ (t : Bool). if t then merged operators (modes a) (s a) (own a) else s a) (sym (elsewhere a k e))
    ]) refl

own_next : (own : ℕ → Option ℤ) (k : ℕ) → put (own_to own k) k None ≡ own_to own (k + 1)
own_next own k = fun_ext at
  where
    at : (a : ℕ) → put (own_to own k) k None a ≡ own_to own (k + 1) a
    at a = (elim (k == a) as (λ t. (k == a) ≡ t → (if t then None else own_to own k a) ≡ own_to own (k + 1) a) [
      | true ↦ λ e. subst (λ (c : ℕ). None ≡ own_to own (k + 1) c) (eqb-true k a e) (ap (λ (t : Bool). if t then None else own k) (sym (at_next k)))
      | false ↦ λ e. ap (λ (t : Bool). if t then None else own a) (sym (elsewhere a k e))
    ]) refl

-- one cell more
pub commits_next : (modes modes' : ℕ → Mode RedOp) (s s' new : Store ℤ) (own own' : ℕ → Option ℤ) (k : ℕ) → modes' ≡ modes → s' ≡ store_to modes s own k → own' ≡ own_to own k → new ≡ put s' k (merged operators (modes' k) (s' k) (own' k)) → new ≡ store_to modes s own (k + 1)
commits_next modes modes' s s' new own own' k m a b e =
    e
    ∙ ap (λ (x : ℕ → Mode RedOp). put s' k (merged operators (x k) (s' k) (own' k))) m
    ∙ ap (λ (x : Store ℤ). put x k (merged operators (modes k) (x k) (own' k))) a
    ∙ ap (λ (x : ℕ → Option ℤ). put (store_to modes s own k) k (merged operators (modes k) (store_to modes s own k k) (x k))) b
    ∙ store_next modes s own k

pub clears_next : (own own' new : ℕ → Option ℤ) (k : ℕ) → own' ≡ own_to own k → new ≡ put own' k None → new ≡ own_to own (k + 1)
clears_next own own' new k b e = e ∙ ap (λ (x : ℕ → Option ℤ). put x k None) b ∙ own_next own k

-- all cells
pub commits_all : (modes : ℕ → Mode RedOp) (s : Store ℤ) (own : ℕ → Option ℤ) (n : ℕ) → ((a : ℕ) → n ≤ a → modes a ≡ Shared) → store_to modes s own n ≡ commit operators modes s own
commits_all modes s own n h = fun_ext at
  where
    at : (a : ℕ) → store_to modes s own n a ≡ commit operators modes s own a
    at a = (elim (nat_lt a n) as (λ t. nat_lt a n ≡ t → (if t then merged operators (modes a) (s a) (own a) else s a) ≡ merged operators (modes a) (s a) (own a)) [
      | true ↦ λ e. refl
      | false ↦ λ e. ap (λ (m : Mode RedOp). merged operators m (s a) (own a)) (sym (h a (ltb-false a n e)))
    ]) refl

pub clears_all : (own : ℕ → Option ℤ) (n : ℕ) → ((a : ℕ) → n ≤ a → own a ≡ None) → own_to own n ≡ (λ a. None)
clears_all own n h = fun_ext at
  where
    at : (a : ℕ) → own_to own n a ≡ None
    at a = (elim (nat_lt a n) as (λ t. nat_lt a n ≡ t → (if t then None else own a) ≡ None) [
      | true ↦ λ e. refl
      | false ↦ λ e. h a (ltb-false a n e)
    ]) refl

-- cells without a listed mode are shared, and no row has a value of its own of them
pub unlisted : (modes : List CellMode) (a : ℕ) → length modes ≤ a → mode_from (slice_get modes a) ≡ Shared
unlisted modes a h = ap mode_from (slice_get_past modes a h)

pub unlisted_own : (rows : List OwnRow) (n row a : ℕ) → All (λ r. length r.values.items ≡ n) rows → n ≤ a → own_from (slice_get rows row) a ≡ None
unlisted_own [] n row a h l = refl
unlisted_own (r ∷ rows) n zero a h l = get_or_past r.values.items a None (let e = h 0 r (omega arith) in omega (arith, e))
unlisted_own (r ∷ rows) n (suc row) a h l = unlisted_own rows n row a (All-tail (λ r. length r.values.items ≡ n) r rows h) l

-- rows of which none has a value of its own
pub none_anywhere : (rows : List OwnRow) (row : ℕ) → All (λ r. (a : ℕ) → own_of r a ≡ None) rows → own_from (slice_get rows row) ≡ (λ a. None)
none_anywhere [] row h = refl
none_anywhere (r ∷ rows) zero h = fun_ext (λ a. h 0 r (omega arith) a)
none_anywhere (r ∷ rows) (suc row) h = none_anywhere rows row (All-tail (λ r. (a : ℕ) → own_of r a ≡ None) r rows h)

-- a cell of a list of values, after a commit at its address
pub cell_committed : (values new : List ℤ) (a : ℕ) (value came : ℤ) (mode mode' : Mode RedOp) (own own' : Option ℤ) → a < length values → slice_get values a ≡ Some value → mode' ≡ mode → own' ≡ own → came ≡ merged operators mode' value own' → new ≡ slice_set values a came → store_of_cells new ≡ put (store_of_cells values) a (merged operators mode (store_of_cells values a) own)
cell_committed values new a value came mode mode' own own' h is m o e w =
    ap store_of_cells w ∙ (are_stores ℤ).written_within (pos 0) values a came h
    ∙ ap (λ (x : ℤ). put (store_of_cells values) a x) (e ∙ ap (λ (x : Mode RedOp). merged operators x value own') m ∙ ap (λ (x : Option ℤ). merged operators mode value x) o ∙ ap (λ (x : ℤ). merged operators mode x own) (sym ((are_stores ℤ).holds (pos 0) values a value is)))

-- the row's own value at an address
pub own_read : (rows : List OwnRow) (row a : ℕ) (was : OwnRow) → slice_get rows row ≡ Some was → own_of was a ≡ own_from (slice_get rows row) a
own_read rows row a was is = ap (λ (r : Option OwnRow). own_from r a) (sym is)

-- rows with the same modes
pub same_modes : (old new : ModeRows) → new.modes ≡ old.modes → mode_at new ≡ mode_at old
same_modes old new e = fun_ext (λ a. let same : new.modes.items ≡ old.modes.items = cc in ap (λ (modes : List CellMode). mode_from (slice_get modes a)) same)
