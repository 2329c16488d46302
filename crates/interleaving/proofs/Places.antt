-- A step of the iteration at a place.
use Rattle.std.proofs.Common.{ℕ, zero, suc, ◌<◌, ◌≡◌, inr, true, false, List, [], ◌∷◌, length, Option, sym, ap, subst, arith}
use Rattle.interleaving.specs.Machine.{Machine, Store}
use Rattle.interleaving.specs.Modes.{Mode, CompatibleWithAll}
use Rattle.interleaving.specs.Region.{Iteration, step_at, with_before, unfinished}
use Rattle.interleaving.specs.Traces.{Access, Stop, AtEnd}
use Rattle.interleaving.proofs.Courses.{Course, traces_of, past, visible, OnCourse, AllOnCourse, none, going, gone}
use Rattle.interleaving.proofs.Deeds.{Deed, value_now, value_then}
use Rattle.interleaving.proofs.Histories.{History}
use Rattle.interleaving.proofs.Scripts.{Follows}
use Rattle.interleaving.proofs.Steps.{StepGives, steps, fails, cuts, head_steps}

module _ {P O V : Type 0} (m : Machine P O V) (modes : ℕ → Mode O) (entry : Store V) where
  -- with an iteration before those that take the step
  with_going : (t : Store V) (p start : P) (own : ℕ → Option V) (pre rest : List (Deed O V)) (trace : List (Access O)) (stop : Stop) (came : Option (Store V × List (Iteration P V))) (gs : List (Course P O V)) →
      OnCourse m modes t start own pre rest trace stop → History m modes entry start pre rest trace p → Follows m modes p pre rest stop → CompatibleWithAll modes trace (traces_of gs) → StepGives m modes entry (past m modes pre t) came gs →
      StepGives m modes entry t (with_before (record { process = p; own = own; finished = false }) came) (record { start = start; pre = pre; rest = rest; trace = trace; stop = stop; left = suc (length rest) } ∷ gs)
  with_going t p start own pre rest trace stop came gs st hist f compatible (fails e h) = fails (ap (with_before (record { process = p; own = own; finished = false })) e) (inr h)
  with_going t p start own pre rest trace stop came gs st hist f compatible (cuts h) = cuts (inr h)
  with_going t p start own pre rest trace stop came gs st hist f compatible (steps k) = steps (record {
    store = k.store;
    pending = record { process = p; own = own; finished = false } ∷ k.pending;
    courses = record { start = start; pre = pre; rest = rest; trace = trace; stop = stop; left = suc (length rest) } ∷ k.courses;
    is = ap (with_before (record { process = p; own = own; finished = false })) k.is;
    on_course = going st hist f (subst (CompatibleWithAll modes trace) (sym k.traces) compatible) k.on_course;
    agrees = k.agrees;
    fewer = omega (arith, k.fewer);
    same = λ a x. k.same a (value_then m (modes a) a rest (value_now m (modes a) a pre x));
    traces = ap (λ r. trace ∷ r) k.traces;
    stops = ap (λ r. stop ∷ r) k.stops;
    starts = ap (λ r. start ∷ r) k.starts;
    more = omega (arith, k.more);
  })

  with_gone : (t : Store V) (p start : P) (own : ℕ → Option V) (pre : List (Deed O V)) (trace : List (Access O)) (came : Option (Store V × List (Iteration P V))) (gs : List (Course P O V)) →
      OnCourse m modes t start own pre [] trace AtEnd → History m modes entry start pre [] trace p → CompatibleWithAll modes trace (traces_of gs) → StepGives m modes entry (past m modes pre t) came gs →
      StepGives m modes entry t (with_before (record { process = p; own = own; finished = true }) came) (record { start = start; pre = pre; rest = []; trace = trace; stop = AtEnd; left = 0 } ∷ gs)
  with_gone t p start own pre trace came gs st hist compatible (fails e h) = fails (ap (with_before (record { process = p; own = own; finished = true })) e) (inr h)
  with_gone t p start own pre trace came gs st hist compatible (cuts h) = cuts (inr h)
  with_gone t p start own pre trace came gs st hist compatible (steps k) = steps (record {
    store = k.store;
    pending = record { process = p; own = own; finished = true } ∷ k.pending;
    courses = record { start = start; pre = pre; rest = []; trace = trace; stop = AtEnd; left = 0 } ∷ k.courses;
    is = ap (with_before (record { process = p; own = own; finished = true })) k.is;
    on_course = gone st hist (subst (CompatibleWithAll modes trace) (sym k.traces) compatible) k.on_course;
    agrees = k.agrees;
    fewer = omega (arith, k.fewer);
    same = λ a x. k.same a (value_now m (modes a) a pre x);
    traces = ap (λ r. trace ∷ r) k.traces;
    stops = ap (λ r. AtEnd ∷ r) k.stops;
    starts = ap (λ r. start ∷ r) k.starts;
    more = omega (arith, k.more);
  })

  -- the iteration at a place takes a step
  pub steps_at : (place : ℕ) (s t : Store V) {pending : List (Iteration P V)} {gs : List (Course P O V)} → AllOnCourse m modes entry t pending gs → ((a : ℕ) → s a ≡ visible m modes t gs a) → place < unfinished pending → StepGives m modes entry t (step_at m modes place s pending) gs
  steps_at place s t none agrees h = absurd (omega (arith, h))
  steps_at zero s t (going {p = p} {start = start} {own = own} {pre = pre} {rest = rest} {trace = trace} {stop = stop} {pending = pending} {gs = gs} st hist f compatible more) agrees h = head_steps m modes entry s t p start own pre rest trace stop pending gs st hist f compatible more agrees
  steps_at (suc place) s t (going {p = p} {start = start} {own = own} {pre = pre} {rest = rest} {trace = trace} {stop = stop} {pending = pending} {gs = gs} st hist f compatible more) agrees h =
      with_going t p start own pre rest trace stop (step_at m modes place s pending) gs st hist f compatible (steps_at place s (past m modes pre t) more agrees (omega (arith, h)))
  steps_at zero s t (gone {p = p} {start = start} {own = own} {pre = pre} {trace = trace} {pending = pending} {gs = gs} st hist compatible more) agrees h =
      with_gone t p start own pre trace (step_at m modes zero s pending) gs st hist compatible (steps_at zero s (past m modes pre t) more agrees h)
  steps_at (suc place) s t (gone {p = p} {start = start} {own = own} {pre = pre} {trace = trace} {pending = pending} {gs = gs} st hist compatible more) agrees h =
      with_gone t p start own pre trace (step_at m modes (suc place) s pending) gs st hist compatible (steps_at (suc place) s (past m modes pre t) more agrees h)
