-- The members of a descriptor.
use Rattle.std.specs.Prelude.{◌≡◌, ◌↔◌, ℕ, zero, suc, ◌+◌, ℤ, pos, negsuc, ◌+ℤ◌, ◌*ℤ◌, ◌<ℤ◌, ◌≤ℤ◌, min, Bool, List, [], ◌∷◌, ◌++◌, ◌⊎◌, Option, None, Some, Contains, if◌then◌else◌, int_lt}
use Rattle.std.specs.List.{list_all}
use Rattle.std.specs.Ordering.{int_eq}
use Rattle.hyb_base.specs.declared.env.Env.{Env}
use Rattle.hyb_base.specs.Near.{IsNear}
use Rattle.sym_lmad.specs.declared.sym.Sym.{Sym}
use Rattle.sym_lmad.specs.declared.lmad.Dim.{Dim}
use Rattle.sym_lmad.specs.declared.lmad.Extent.{Extent}
use Rattle.sym_lmad.specs.declared.lmad.Lmad.{Lmad}
use Rattle.sym_lmad.specs.Naming.{reads_of}
use Rattle.sym_lmad.specs.Worth.{worth_of}

-- a number is reached from another one by dimensions: for each, the stride times a number from 0 to the count less 1 is added
abbrev pub IsReached : (from : ℤ) → List Extent → ℤ → Type 0
IsReached from [] a = a ≡ from
IsReached from (e ∷ es) a = (i : ℤ) × ((pos 0 ≤ℤ i) × (i <ℤ e.count) × IsReached (from +ℤ (e.stride *ℤ i)) es a)

-- dimensions whose counts have values
abbrev pub extents_and : (stride : ℤ) → Option ℤ → Option (List Extent) → Option (List Extent)
extents_and stride (Some n) (Some es) = Some (record { stride = stride; count = n } ∷ es)
extents_and stride (Some n) None = None
extents_and stride None es = None

abbrev pub extents_by : (Sym → Option ℤ) → List Dim → Option (List Extent)
extents_by worth [] = Some []
extents_by worth (d ∷ ds) = extents_and d.stride (worth d.count) (extents_by worth ds)

-- they follow some others
abbrev pub extents_onto : (before : List Extent) → Option (List Extent) → Option (List Extent)
extents_onto before (Some es) = Some (before ++ es)
extents_onto before None = None

-- a descriptor whose base and counts have values
pub record Placed (env : Env) (values : List ℤ) (lmad : Lmad) (from : ℤ) (extents : List Extent) : Type 0 where
  pub base : worth_of env values lmad.base ≡ Some from
  pub counts : extents_by (worth_of env values) lmad.dims ≡ Some extents

-- a number is a member of a descriptor
abbrev pub IsMember : Env → List ℤ → Lmad → ℤ → Type 0
IsMember env values lmad a = (from : ℤ) × ((extents : List Extent) × (Placed env values lmad from extents × IsReached from extents a))

-- the least and the greatest member of a descriptor
pub record AreEnds (env : Env) (values : List ℤ) (lmad : Lmad) (low high : ℤ) : Type 0 where
  pub least : IsMember env values lmad low
  pub greatest : IsMember env values lmad high
  pub between : (a : ℤ) → IsMember env values lmad a → (low ≤ℤ a) × (a ≤ℤ high)

-- ends that are near
pub record AreNearEnds (env : Env) (values : List ℤ) (lmad : Lmad) (low high : ℤ) : Type 0 where
  pub ends : AreEnds env values lmad low high
  pub near_low : IsNear low
  pub near_high : IsNear high

-- how many members a dimension gives from one number: one where the stride is 0, whatever the count
abbrev pub count_of : ℤ → ℕ
count_of (pos n) = n
count_of (negsuc n) = 0

abbrev pub turns_of : Extent → ℕ
turns_of e = if int_eq e.stride (pos 0) then min (count_of e.count) 1 else count_of e.count

-- the lists of the numbers below n, one after another
abbrev pub in_turn : ℕ → (ℕ → List ℤ) → List ℤ
in_turn zero f = []
in_turn (suc n) f = in_turn n f ++ f n

-- the members that are reached from a number, in order: the first dimension's number rises last
abbrev pub members_of : List Extent → (from : ℤ) → List ℤ
members_of [] = λ from. from ∷ []
members_of (e ∷ es) = λ from. in_turn (turns_of e) (λ i. members_of es (from +ℤ (e.stride *ℤ pos i)))

-- they are the members, each once or more
abbrev pub MembersAreListed : Type 0
MembersAreListed = (from : ℤ) (extents : List Extent) (a : ℤ) → Contains (members_of extents from) a ↔ IsReached from extents a

-- each dimension has a member
abbrev pub are_positive : List Extent → Bool
are_positive extents = list_all (λ e. int_lt (pos 0) e.count) extents

-- each member is near
pub record AreNear (from : ℤ) (extents : List Extent) : Type 0 where
  pub near : (a : ℤ) → IsReached from extents a → IsNear a

-- the members of a descriptor were added to a list
pub record AddsMembers (env : Env) (values : List ℤ) (lmad : Lmad) (old new : List ℤ) : Type 0 where
  pub from : ℤ
  pub extents : List Extent
  pub placed : Placed env values lmad from extents
  pub are_near : AreNear from extents
  pub added : new ≡ old ++ members_of extents from

-- a descriptor has a part without a value, or a member that isn't near
abbrev pub LacksMembers : Env → List ℤ → Lmad → Type 0
LacksMembers env values lmad = ((from : ℤ) (extents : List Extent) → Placed env values lmad from extents → ⊥) ⊎ ((a : ℤ) × (IsMember env values lmad a × (IsNear a → ⊥)))

-- the first of some numbers were added to a list
abbrev pub AddsFirst : (numbers old new : List ℤ) → Type 0
AddsFirst numbers old new = (first : List ℤ) × ((rest : List ℤ) × ((numbers ≡ first ++ rest) × (new ≡ old ++ first)))

-- nothing was added, or the first of a descriptor's members
abbrev pub AddsSome : Env → List ℤ → Lmad → (old new : List ℤ) → Type 0
AddsSome env values lmad old new = (new ≡ old) ⊎ ((from : ℤ) × ((extents : List Extent) × (Placed env values lmad from extents × AddsFirst (members_of extents from) old new)))

-- how often a descriptor names a cell or an element
abbrev pub reads_of_dims : List Dim → ℕ
reads_of_dims [] = 0
reads_of_dims (d ∷ ds) = reads_of d.count + reads_of_dims ds

abbrev pub reads_of_lmad : Lmad → ℕ
reads_of_lmad lmad = reads_of lmad.base + reads_of_dims lmad.dims
