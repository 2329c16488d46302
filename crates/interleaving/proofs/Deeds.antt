-- What the deeds of one iteration do to one cell.
use Rattle.std.proofs.Common.{ℕ, ◌≡◌, ◌==◌, true, false, List, [], ◌∷◌, Option, None, Some, if◌then◌else◌, refl, sym, ap, ◌∙◌, subst, eqb-true, eq-eqb, unwrap_or}
use Rattle.interleaving.specs.Machine.{Machine}
use Rattle.interleaving.specs.Modes.{Mode, Shared, Private, Reduce, forbids_flow}
use Rattle.interleaving.specs.Traces.{Access, Read, Write, Move, is_exposed, is_written}
use Rattle.interleaving.specs.Prefixes.{Step, Reading, Writing, Moving}
use Rattle.interleaving.specs.Region.{merged}

-- a deed: a step of an iteration's run alone, with the value that a read finds there, and with the value of a write and, where it is of an
-- accumulation, what that adds
pub data Deed (O V : Type 0) : Type 0 where
  did_read : (a : ℕ) (x : V) (by : Option O) → Deed O V
  did_write : (a : ℕ) (v : V) (by : Option O) (added : V) → Deed O V
  did_move : Deed O V

abbrev pub accesses_of : {O V : Type 0} → List (Deed O V) → List (Access O)
accesses_of [] = []
accesses_of (did_read a x by ∷ deeds) = Read a by ∷ accesses_of deeds
accesses_of (did_write a v by added ∷ deeds) = Write a by ∷ accesses_of deeds
accesses_of (did_move ∷ deeds) = Move ∷ accesses_of deeds

-- the steps of deeds, with the values of the run alone
abbrev pub steps_in : {O V : Type 0} → List (Deed O V) → List (Step O V)
steps_in [] = []
steps_in (did_read a x by ∷ deeds) = Reading a by x ∷ steps_in deeds
steps_in (did_write a v by added ∷ deeds) = Writing a by v ∷ steps_in deeds
steps_in (did_move ∷ deeds) = Moving ∷ steps_in deeds

module _ {P O V : Type 0} (m : Machine P O V) where
  -- what a write leaves in a cell that holds x, where iterations run in turn
  abbrev pub value_left : Mode O → (v added x : V) → V
  value_left (Reduce o) v added x = m.apply o x added
  value_left _ v added x = v

  abbrev pub effect : Mode O → ℕ → Deed O V → V → V
  effect md a (did_read b y by) x = x
  effect md a (did_write b v by added) x = if b == a then value_left md v added x else x
  effect md a did_move x = x

  -- the value of a cell after deeds that are done, the newest first
  abbrev pub value_now : Mode O → ℕ → List (Deed O V) → V → V
  value_now md a [] x = x
  value_now md a (deed ∷ pre) x = effect md a deed (value_now md a pre x)

  -- the value of a cell after deeds that are left, the next one first
  abbrev pub value_then : Mode O → ℕ → List (Deed O V) → V → V
  value_then md a [] x = x
  value_then md a (deed ∷ rest) x = value_then md a rest (effect md a deed x)

  -- the copy or partial of an iteration after a write, and after deeds that are done
  abbrev pub own_with : Mode O → (v added : V) → Option V → Option V
  own_with Shared v added own = own
  own_with Private v added own = Some v
  own_with (Reduce o) v added own = Some (m.apply o (unwrap_or own (m.identity o)) added)

  abbrev pub own_now : Mode O → ℕ → List (Deed O V) → Option V
  own_now md a [] = None
  own_now md a (did_read b y by ∷ pre) = own_now md a pre
  own_now md a (did_write b v by added ∷ pre) = if b == a then own_with md v added (own_now md a pre) else own_now md a pre
  own_now md a (did_move ∷ pre) = own_now md a pre

  -- what a read answers in the region, and what a write writes there
  abbrev pub heard : Mode O → V → Option V → V
  heard (Reduce o) x own = unwrap_or own (m.identity o)
  heard _ x own = x

  abbrev pub said : Mode O → (v added : V) → Option V → V
  said (Reduce o) v added own = m.apply o (unwrap_or own (m.identity o)) added
  said _ v added own = v

  -- each read of a cell by deeds that are left finds its value
  abbrev pub Sees : Mode O → ℕ → List (Deed O V) → V → Type 0
  Sees md a [] x = Unit {0}
  Sees md a (did_read b y by ∷ rest) x = (b ≡ a → y ≡ x) × Sees md a rest x
  Sees md a (did_write b v by added ∷ rest) x = Sees md a rest (effect md a (did_write b v by added) x)
  Sees md a (did_move ∷ rest) x = Sees md a rest x

  -- a cell that isn't written keeps its value
  pub value_now-unwritten : (md : Mode O) (a : ℕ) (pre : List (Deed O V)) (x : V) → is_written (accesses_of pre) a ≡ false → value_now md a pre x ≡ x
  value_now-unwritten md a [] x h = refl
  value_now-unwritten md a (did_read b y by ∷ pre) x h = value_now-unwritten md a pre x h
  value_now-unwritten md a (did_move ∷ pre) x h = value_now-unwritten md a pre x h
  value_now-unwritten md a (did_write b v by added ∷ pre) x h =
      (elim (b == a) as (λ t. (if t then true else is_written (accesses_of pre) a) ≡ false → (if t then value_left md v added (value_now md a pre x) else value_now md a pre x) ≡ x)
      [ true ↦ λ e. absurd (cc) | false ↦ λ e. value_now-unwritten md a pre x e ]) h

  pub value_then-unwritten : (md : Mode O) (a : ℕ) (rest : List (Deed O V)) (x : V) → is_written (accesses_of rest) a ≡ false → value_then md a rest x ≡ x
  value_then-unwritten md a [] x h = refl
  value_then-unwritten md a (did_read b y by ∷ rest) x h = value_then-unwritten md a rest x h
  value_then-unwritten md a (did_move ∷ rest) x h = value_then-unwritten md a rest x h
  value_then-unwritten md a (did_write b v by added ∷ rest) x h =
      (elim (b == a) as (λ t. (if t then true else is_written (accesses_of rest) a) ≡ false → value_then md a rest (if t then value_left md v added x else x) ≡ x)
      [ true ↦ λ e. absurd (cc) | false ↦ λ e. value_then-unwritten md a rest x e ]) h

  pub value_left-plain : (md : Mode O) (v added x : V) → forbids_flow md ≡ true → value_left md v added x ≡ v
  value_left-plain Shared v added x h = refl
  value_left-plain Private v added x h = refl
  value_left-plain (Reduce o) v added x h = absurd (cc)

  -- a cell that is written has a value that doesn't depend on the one before
  pub value_now-written : (md : Mode O) (a : ℕ) (pre : List (Deed O V)) (x y : V) → forbids_flow md ≡ true → is_written (accesses_of pre) a ≡ true → value_now md a pre x ≡ value_now md a pre y
  value_now-written md a [] x y p h = absurd (cc)
  value_now-written md a (did_read b z by ∷ pre) x y p h = value_now-written md a pre x y p h
  value_now-written md a (did_move ∷ pre) x y p h = value_now-written md a pre x y p h
  value_now-written md a (did_write b v by added ∷ pre) x y p h =
      (elim (b == a) as (λ t. (if t then true else is_written (accesses_of pre) a) ≡ true → (if t then value_left md v added (value_now md a pre x) else value_now md a pre x) ≡ (if t then value_left md v added (value_now md a pre y) else value_now md a pre y))
      [ true ↦ λ e. value_left-plain md v added (value_now md a pre x) p ∙ sym (value_left-plain md v added (value_now md a pre y) p) | false ↦ λ e. value_now-written md a pre x y p e ]) h

  -- where a cell isn't read before it is written, any value will do
  pub sees-unread : (md : Mode O) (a : ℕ) (rest : List (Deed O V)) (x y : V) → forbids_flow md ≡ true → is_exposed (accesses_of rest) a ≡ false → Sees md a rest x → Sees md a rest y
  sees-unread md a [] x y p h s = tt
  sees-unread md a (did_read b z by ∷ rest) x y p h s =
      (elim (b == a) as (λ t. (b == a) ≡ t → (if t then true else is_exposed (accesses_of rest) a) ≡ false → Sees md a (did_read b z by ∷ rest) y) [
        | true ↦ λ e f. absurd (cc)
        | false ↦ λ e f. (λ q. let equal : (b == a) ≡ true = eq-eqb b a q in absurd (cc), sees-unread md a rest x y p f s.1)
      ]) refl h
  sees-unread md a (did_move ∷ rest) x y p h s = sees-unread md a rest x y p h s
  sees-unread md a (did_write b v by added ∷ rest) x y p h s =
      (elim (b == a) as (λ t. (if t then false else is_exposed (accesses_of rest) a) ≡ false → Sees md a rest (if t then value_left md v added x else x) → Sees md a rest (if t then value_left md v added y else y)) [
        | true ↦ λ e f. subst (Sees md a rest) (value_left-plain md v added x p ∙ sym (value_left-plain md v added y p)) f
        | false ↦ λ e f. sees-unread md a rest x y p e f
      ]) h s

  -- the commit of a copy leaves what the deeds leave
  pub commits-copy : (a : ℕ) (pre : List (Deed O V)) (x : V) → unwrap_or (own_now Private a pre) x ≡ value_now Private a pre x
  commits-copy a [] x = refl
  commits-copy a (did_read b y by ∷ pre) x = commits-copy a pre x
  commits-copy a (did_move ∷ pre) x = commits-copy a pre x
  commits-copy a (did_write b v by added ∷ pre) x =
      elim (b == a) as (λ t. unwrap_or (if t then Some v else own_now Private a pre) x ≡ (if t then v else value_now Private a pre x))
      [ true ↦ refl | false ↦ commits-copy a pre x ]

  -- what is combined with the identity of a reduced cell counts as it does by itself
  abbrev pub Grows : Mode O → ℕ → List (Deed O V) → Type 0
  Grows md a [] = Unit {0}
  Grows md a (did_read b y by ∷ deeds) = Grows md a deeds
  Grows md a (did_write b v by added ∷ deeds) = (b ≡ a → (o : O) → md ≡ Reduce o → (x : V) → m.apply o x (m.apply o (m.identity o) added) ≡ m.apply o x added) × Grows md a deeds
  Grows md a (did_move ∷ deeds) = Grows md a deeds

  -- a partial with one more added
  with_one : ((o : O) (x y z : V) → m.apply o (m.apply o x y) z ≡ m.apply o x (m.apply o y z)) → (o : O) (added x : V) (own : Option V) (z : V) → ((x : V) → m.apply o x (m.apply o (m.identity o) added) ≡ m.apply o x added) → merged m (Reduce o) x own ≡ z → m.apply o x (m.apply o (unwrap_or own (m.identity o)) added) ≡ m.apply o z added
  with_one associates o added x None z h e = h x ∙ ap (λ w. m.apply o w added) e
  with_one associates o added x (Some q) z h e = sym (associates o x q added) ∙ ap (λ w. m.apply o w added) e

  -- the commit of a partial leaves what the deeds leave
  pub commits-partial : ((o : O) (x y z : V) → m.apply o (m.apply o x y) z ≡ m.apply o x (m.apply o y z)) → (o : O) (a : ℕ) (pre : List (Deed O V)) (x : V) → Grows (Reduce o) a pre → merged m (Reduce o) x (own_now (Reduce o) a pre) ≡ value_now (Reduce o) a pre x
  commits-partial associates o a [] x g = refl
  commits-partial associates o a (did_read b y by ∷ pre) x g = commits-partial associates o a pre x g
  commits-partial associates o a (did_move ∷ pre) x g = commits-partial associates o a pre x g
  commits-partial associates o a (did_write b v by added ∷ pre) x g =
      (elim (b == a) as (λ t. (b == a) ≡ t → merged m (Reduce o) x (if t then Some (m.apply o (unwrap_or (own_now (Reduce o) a pre) (m.identity o)) added) else own_now (Reduce o) a pre) ≡ (if t then m.apply o (value_now (Reduce o) a pre x) added else value_now (Reduce o) a pre x)) [
        | true ↦ λ e. with_one associates o added x (own_now (Reduce o) a pre) (value_now (Reduce o) a pre x) (g.0 (eqb-true b a e) o refl) (commits-partial associates o a pre x g.1)
        | false ↦ λ e. commits-partial associates o a pre x g.1
      ]) refl
