-- A small machine, for runs by hand: a process has orders to look at a cell, to set one, to copy one, to accumulate in one, to move and to fail.
use Rattle.std.proofs.Common.{ℕ, zero, suc, ◌+◌, ◌%◌, ◌^◌, add_assoc, zero-add, ◌≡◌, inl, Bool, true, false, List, [], ◌∷◌, Option, None, Some, refl, sym, ap, ◌∙◌}
use Rattle.std.proofs.Math.Nat.{add-mod-mod, mod-add-mod}
use Rattle.interleaving.specs.Machine.{Event, reads, writes, moves, ends, faults, Machine, IsMachine, IsReady, Accumulates}

pub data Operator : Type 0 where
  plus : Operator
  both : Operator

pub data Order : Type 0 where
  look : (address : ℕ) → Order
  set : (address : ℕ) (value : ℕ) → Order
  copy : (from to : ℕ) → Order
  accumulate : (op : Operator) (address : ℕ) (added : ℕ) → Order
  skip : Order
  fail : Order

-- a process: what it has to do, and what it has read for the first of that
pub record Worker : Type 0 where
  pub orders : List Order
  pub held : Option ℕ

abbrev pub worker : List Order → Worker
worker orders = record { orders = orders; held = None }

abbrev pub is_true : ℕ → Bool
is_true zero = false
is_true (suc n) = true

abbrev pub number_of : Bool → ℕ
number_of true = 1
number_of false = 0

abbrev pub and_also : Bool → Bool → Bool
and_also true y = y
and_also false y = false

-- the values are numbers of 64 bits, in which sums wrap; `both` is on truth
abbrev pub combined : Operator → ℕ → ℕ → ℕ
combined plus x y = (x + y) % 2 ^ 64
combined both x y = number_of (and_also (is_true x) (is_true y))

abbrev pub neutral : Operator → ℕ
neutral plus = 0
neutral both = 1

abbrev pub event_of : List Order → Option ℕ → Event Operator ℕ
event_of [] held = ends
event_of (look a ∷ orders) held = reads a None
event_of (set a x ∷ orders) held = writes a x None
event_of (copy from to ∷ orders) None = reads from None
event_of (copy from to ∷ orders) (Some x) = writes to x None
event_of (accumulate op a added ∷ orders) None = reads a (Some op)
event_of (accumulate op a added ∷ orders) (Some x) = writes a (combined op x added) (Some op)
event_of (skip ∷ orders) held = moves
event_of (fail ∷ orders) held = faults

-- a read is all of a look, and the first part of a copy and of an accumulation
abbrev pub answered : List Order → ℕ → Worker
answered (look a ∷ orders) x = worker orders
answered orders x = record { orders = orders; held = Some x }

abbrev pub rest_of : List Order → List Order
rest_of [] = []
rest_of (order ∷ orders) = orders

-- the machine, whatever the values of its identities
abbrev pub small_with : (Operator → ℕ) → Machine Worker Operator ℕ
small_with identity = record {
  event = λ p. event_of p.orders p.held;
  resumed = λ p x. answered p.orders x;
  done = λ p. worker (rest_of p.orders);
  apply = combined;
  identity = identity;
}

abbrev pub small : Machine Worker Operator ℕ
small = small_with neutral

-- it is a machine
fresh_ready : (orders : List Order) → IsReady small (worker orders)
fresh_ready [] a v op e = cc
fresh_ready (look b ∷ orders) a v op e = cc
fresh_ready (set b x ∷ orders) a v op e = absurd (cc)
fresh_ready (copy from to ∷ orders) a v op e = cc
fresh_ready (accumulate by b x ∷ orders) a v op e = cc
fresh_ready (skip ∷ orders) a v op e = cc
fresh_ready (fail ∷ orders) a v op e = cc

answered_ready : (orders : List Order) (held : Option ℕ) (a : ℕ) (x : ℕ) → event_of orders held ≡ reads a None → IsReady small (answered orders x)
answered_ready [] held a x e = absurd (cc)
answered_ready (look b ∷ orders) held a x e = fresh_ready orders
answered_ready (set b y ∷ orders) held a x e = absurd (cc)
answered_ready (copy from to ∷ orders) held a x e = λ b v op f. absurd (cc)
answered_ready (accumulate by b y ∷ orders) None a x e = absurd (cc)
answered_ready (accumulate by b y ∷ orders) (Some z) a x e = absurd (cc)
answered_ready (skip ∷ orders) held a x e = absurd (cc)
answered_ready (fail ∷ orders) held a x e = absurd (cc)

and-true : (t : Bool) → is_true (number_of t) ≡ t
and-true true = refl
and-true false = refl

and-assoc : (x y z : Bool) → and_also (and_also x y) z ≡ and_also x (and_also y z)
and-assoc true y z = refl
and-assoc false y z = refl

associative : (op : Operator) (x y z : ℕ) → combined op (combined op x y) z ≡ combined op x (combined op y z)
associative plus x y z = mod-add-mod (x + y) (2 ^ 64) z ∙ ap (λ n. n % 2 ^ 64) (add_assoc x y z) ∙ sym (add-mod-mod x (y + z) (2 ^ 64))
associative both x y z = ap (λ t. number_of (and_also t (is_true z))) (and-true (and_also (is_true x) (is_true y))) ∙ ap number_of (and-assoc (is_true x) (is_true y) (is_true z)) ∙ ap (λ t. number_of (and_also (is_true x) t)) (sym (and-true (and_also (is_true y) (is_true z))))

begins_so : (op : Operator) (x added : ℕ) → combined op x (combined op (neutral op) added) ≡ combined op x added
begins_so plus x added = add-mod-mod x (0 + added) (2 ^ 64) ∙ ap (λ y. (x + y) % 2 ^ 64) (zero-add added)
begins_so both x added = ap (λ t. number_of (and_also (is_true x) t)) (and-true (is_true added))

accumulates_so : (orders : List Order) (held : Option ℕ) (a : ℕ) (op : Operator) → event_of orders held ≡ reads a (Some op) → Accumulates small (record { orders = orders; held = held }) a op
accumulates_so [] held a op e = absurd (cc)
accumulates_so (look b ∷ orders) held a op e = absurd (cc)
accumulates_so (set b y ∷ orders) held a op e = absurd (cc)
accumulates_so (copy from to ∷ orders) None a op e = absurd (cc)
accumulates_so (copy from to ∷ orders) (Some z) a op e = absurd (cc)
accumulates_so (accumulate by b y ∷ orders) (Some z) a op e = absurd (cc)
accumulates_so (skip ∷ orders) held a op e = absurd (cc)
accumulates_so (fail ∷ orders) held a op e = absurd (cc)
accumulates_so (accumulate by b y ∷ orders) None a op e =
    let unit : b ≡ a = cc in
    let mark : by ≡ op = cc in
    record {
      added = y;
      after = worker orders;
      combines = λ x. ap (λ c. writes c (combined by x y) (Some by)) unit ∙ ap (λ o. writes a (combined o x y) (Some o)) mark;
      goes_on = λ x. refl;
      begins = λ x. begins_so op x y;
    }

pub small_is_machine : IsMachine small (λ p. Unit {0})
small_is_machine = record {
  sound_resumed = λ p a by x s e. tt;
  sound_written = λ p a v by s e. tt;
  sound_moved = λ p s e. tt;
  accumulates = λ p a op s e. inl (accumulates_so p.orders p.held a op e);
  ready_resumed = λ p a x s e. answered_ready p.orders p.held a x e;
  ready_written = λ p a v by s e. fresh_ready (rest_of p.orders);
  ready_moved = λ p s e. fresh_ready (rest_of p.orders);
  associates = associative;
}
