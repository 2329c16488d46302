-- A run through a loop is cut into the loop's iterations.
use Rattle.std.proofs.Common.{ℕ, zero, suc, ◌+◌, ◌<◌, ◌≡◌, ◌==◌, ◌⊎◌, inl, inr, true, false, List, [], ◌∷◌, ◌++◌, Option, None, if◌then◌else◌, refl, sym, ap, ◌∙◌, subst, arith}
use Rattle.std.specs.Prelude.{nat_lt}
use mathlib.Core.Path.{fun_ext}
use Rattle.interleaving.specs.Machine.{Event, reads, writes, moves, ends, faults, Machine, Store, put}
use Rattle.interleaving.specs.OwnCells.{LoopInTurn}
use Rattle.interleaving.specs.Traces.{Access, Read, Write, Move, Stop, AtEnd, Runs, ended, faulted, cut, read_then, write_then, move_then}
use Rattle.interleaving.specs.Turning.{event_inside, stop_inside, with_events, EndsIteration, StaysInside, IsLoop, process_after, starts_from, loop_trace, GoesThrough, StopsInside, TurnsWhere, ComposesWhere}

-- a cell that is set twice has the second value
put_twice : {V : Type 0} (s : Store V) (a : ℕ) (v w : V) → put (put s a v) a w ≡ put s a w
put_twice s a v w = fun_ext (λ b. elim (a == b) as (λ t. (if t then w else (if t then v else s b)) ≡ (if t then w else s b)) [ true ↦ refl | false ↦ refl ])

module _ {P O V : Type 0} (m : Machine P O V) (inner : P → Event O V) (variable : ℕ) (value : V) (next : P) where
  -- a run that comes to the end of the iteration
  pub record ComesToEnd (p : P) (s : Store V) (trace : List (Access O)) (stop : Stop) (t : Store V) : Type 0 where
    pub first : List (Access O)
    pub rest : List (Access O)
    pub end : Store V
    pub told : trace ≡ first ++ Write variable None ∷ rest
    pub iterates : Runs (with_events m inner) p s first AtEnd end
    pub goes_on : Runs m next (put end variable value) rest stop t

module _ {P O V : Type 0} (m : Machine P O V) (inner : P → Event O V) (variable : ℕ) (value : V) (next : P) (Inside : P → Type 0) (steps : (p : P) → Inside p → EndsIteration m inner variable value next p ⊎ StaysInside m inner Inside p) where
  abbrev Result : P → Store V → List (Access O) → Stop → Store V → Type 0
  Result p s trace stop t = ComesToEnd m inner variable value next p s trace stop t ⊎ Runs (with_events m inner) p s trace (stop_inside stop) t

  -- one access before
  step_before : {p q : P} {s u t : Store V} {trace : List (Access O)} {stop : Stop} (access : Access O) → ((tr : List (Access O)) (l : Stop) (w : Store V) → Runs (with_events m inner) q u tr l w → Runs (with_events m inner) p s (access ∷ tr) l w) → Result q u trace stop t → Result p s (access ∷ trace) stop t
  step_before access step (inl c) = inl (record { first = access ∷ c.first; rest = c.rest; end = c.end; told = ap (λ tr. access ∷ tr) c.told; iterates = step c.first AtEnd c.end c.iterates; goes_on = c.goes_on })
  step_before {t = t} {trace = trace} {stop = stop} access step (inr r) = inr (step trace (stop_inside stop) t r)

  -- the write that ends the iteration
  turns_here : {p : P} {s t : Store V} {trace : List (Access O)} {stop : Stop} → EndsIteration m inner variable value next p → (a : ℕ) (v : V) (by : Option O) → m.event p ≡ writes a v by → Runs m (m.done p) (put s a v) trace stop t → ComesToEnd m inner variable value next p s (Write a by ∷ trace) stop t
  turns_here {p} {s} {t} {trace} {stop} turn a v by e r =
      let same : writes variable value None ≡ writes a v by = sym turn.writes_it ∙ e in
      let unit : variable ≡ a = cc in
      let set : value ≡ v = cc in
      let mark : None ≡ by = cc in
      record {
        first = [];
        rest = trace;
        end = s;
        told = ap (λ b. Write b by ∷ trace) (sym unit) ∙ ap (λ o. Write variable o ∷ trace) (sym mark);
        iterates = ended turn.ends_it;
        goes_on = subst (λ w. Runs m next (put s variable w) trace stop t) (sym set) (subst (λ b. Runs m next (put s b v) trace stop t) (sym unit) (subst (λ q. Runs m q (put s a v) trace stop t) turn.then_is r));
      }

  pub iteration : {p : P} {s t : Store V} {trace : List (Access O)} {stop : Stop} → Inside p → Runs m p s trace stop t → Result p s trace stop t
  iteration {p} i (ended e) = elim (steps p i) [ inl turn ↦ (let f : writes variable value None ≡ ends = sym turn.writes_it ∙ e in absurd (cc)) | inr stay ↦ inr (faulted (stay.same ∙ ap event_inside e)) ]
  iteration {p} i (faulted e) = elim (steps p i) [ inl turn ↦ (let f : writes variable value None ≡ faults = sym turn.writes_it ∙ e in absurd (cc)) | inr stay ↦ inr (faulted (stay.same ∙ ap event_inside e)) ]
  iteration {p} i cut = inr cut
  iteration {p} {s} i (read_then a by e r) = elim (steps p i) [
    | inl turn ↦ (let f : writes variable value None ≡ reads a by = sym turn.writes_it ∙ e in absurd (cc))
    | inr stay ↦ step_before (Read a by) (λ tr l w q. read_then a by (stay.same ∙ ap event_inside e) q) (iteration (stay.reading a by e (s a)) r)
  ]
  iteration {p} i (write_then a v by e r) = elim (steps p i) [
    | inl turn ↦ inl (turns_here turn a v by e r)
    | inr stay ↦ step_before (Write a by) (λ tr l w q. write_then a v by (stay.same ∙ ap event_inside e) q) (iteration (stay.writing a v by e) r)
  ]
  iteration {p} i (move_then e r) = elim (steps p i) [
    | inl turn ↦ (let f : writes variable value None ≡ moves = sym turn.writes_it ∙ e in absurd (cc))
    | inr stay ↦ step_before Move (λ tr l w q. move_then (stay.same ∙ ap event_inside e) q) (iteration (stay.moving e) r)
  ]

  -- an iteration and what follows it are a run
  iterate_before : {p : P} {s u t : Store V} {first rest : List (Access O)} {first_stop stop : Stop} → first_stop ≡ AtEnd → Inside p → Runs (with_events m inner) p s first first_stop u → Runs m next (put u variable value) rest stop t → Runs m p s (first ++ Write variable None ∷ rest) stop t
  iterate_before {p = p} {s = s} {t = t} {rest = rest} {stop = stop} h i (ended e) r = elim (steps p i) [
    | inl turn ↦ write_then variable value None turn.writes_it (subst (λ q. Runs m q (put s variable value) rest stop t) (sym turn.then_is) r)
    | inr stay ↦ absurd (not_ended (m.event p) (sym stay.same ∙ e))
  ]
    where
      not_ended : (ev : Event O V) → event_inside ev ≡ ends → ⊥
      not_ended (reads a by) e = cc
      not_ended (writes a v by) e = cc
      not_ended moves e = cc
      not_ended ends e = cc
      not_ended faults e = cc
  iterate_before {p} h i (faulted e) r = absurd (cc)
  iterate_before {p} h i cut r = absurd (cc)
  iterate_before {p} {s} h i (read_then a by e q) r = elim (steps p i) [
    | inl turn ↦ (let f : ends ≡ reads a by = sym turn.ends_it ∙ e in absurd (cc))
    | inr stay ↦ let f : m.event p ≡ reads a by = was_read (m.event p) a by (sym stay.same ∙ e) in read_then a by f (iterate_before h (stay.reading a by f (s a)) q r)
  ]
    where
      was_read : (ev : Event O V) (a : ℕ) (by : Option O) → event_inside ev ≡ reads a by → ev ≡ reads a by
      was_read (reads b o) a by e = e
      was_read (writes b v o) a by e = absurd (cc)
      was_read moves a by e = absurd (cc)
      was_read ends a by e = absurd (cc)
      was_read faults a by e = absurd (cc)
  iterate_before {p} h i (write_then a v by e q) r = elim (steps p i) [
    | inl turn ↦ (let f : ends ≡ writes a v by = sym turn.ends_it ∙ e in absurd (cc))
    | inr stay ↦ let f : m.event p ≡ writes a v by = was_written (m.event p) a v by (sym stay.same ∙ e) in write_then a v by f (iterate_before h (stay.writing a v by f) q r)
  ]
    where
      was_written : (ev : Event O V) (a : ℕ) (v : V) (by : Option O) → event_inside ev ≡ writes a v by → ev ≡ writes a v by
      was_written (reads b o) a v by e = absurd (cc)
      was_written (writes b w o) a v by e = e
      was_written moves a v by e = absurd (cc)
      was_written ends a v by e = absurd (cc)
      was_written faults a v by e = absurd (cc)
  iterate_before {p} h i (move_then e q) r = elim (steps p i) [
    | inl turn ↦ (let f : ends ≡ moves = sym turn.ends_it ∙ e in absurd (cc))
    | inr stay ↦ let f : m.event p ≡ moves = was_moved (m.event p) (sym stay.same ∙ e) in move_then f (iterate_before h (stay.moving f) q r)
  ]
    where
      was_moved : (ev : Event O V) → event_inside ev ≡ moves → ev ≡ moves
      was_moved (reads b o) e = absurd (cc)
      was_moved (writes b w o) e = absurd (cc)
      was_moved moves e = e
      was_moved ends e = absurd (cc)
      was_moved faults e = absurd (cc)

module _ {P O V : Type 0} (m : Machine P O V) (inner : P → Event O V) (variable count : ℕ) (value : ℕ → V) (entry : ℕ → P) (following : P) (Inside : ℕ → P → Type 0) (loop : IsLoop m inner variable count value entry following Inside) where
  abbrev then_at : ℕ → P
  then_at j = process_after count entry following j

  -- the process after j iterations begins the next one, where there is one
  begins_so : (j : ℕ) → j < count → then_at j ≡ entry j
  begins_so j h = let b : nat_lt j count ≡ true = grind (arith, h) in ap (λ t. if t then entry j else following) b

  abbrev Through : (j left : ℕ) → Store V → List (Access O) → Stop → Store V → Type 0
  Through j left first trace stop t = GoesThrough m inner variable count value entry following j left first trace stop t ⊎ StopsInside m inner variable count value entry following j left first trace stop t

  steps_in : (j : ℕ) → j < count → (p : P) → Inside j p → EndsIteration m inner variable (value (suc j)) (then_at (suc j)) p ⊎ StaysInside m inner (Inside j) p
  steps_in j h p i = loop.steps j p h i

  -- the iterations after one
  one_further : (j left : ℕ) (first t : Store V) (trace : List (Access O)) (stop : Stop) → (c : ComesToEnd m inner variable (value (suc j)) (then_at (suc j)) (entry j) (put first variable (value j)) trace stop t) → Through (suc j) left c.end c.rest stop t → Through j (suc left) first trace stop t
  one_further j left first t trace stop c (inl w) =
      inl (record {
        traces = c.first ∷ w.traces;
        rest = w.rest;
        end = w.end;
        told = c.told ∙ ap (λ r. c.first ++ Write variable None ∷ r) w.told;
        in_turn = (c.end, c.iterates, w.in_turn);
        goes_on = let e : suc j + left ≡ j + suc left = omega arith in subst (λ n. Runs m (then_at n) (put w.end variable (value n)) w.rest stop t) e w.goes_on;
      })
  one_further j left first t trace stop c (inr w) =
      inr (record {
        turns = suc w.turns;
        fewer = omega (arith, w.fewer);
        traces = c.first ∷ w.traces;
        rest = w.rest;
        before = w.before;
        told = c.told ∙ ap (λ r. c.first ++ Write variable None ∷ r) w.told;
        in_turn = (c.end, c.iterates, w.in_turn);
        runs = let e : suc j + w.turns ≡ j + suc w.turns = omega arith in subst (λ n. Runs (with_events m inner) (entry n) (put w.before variable (value n)) w.rest (stop_inside stop) t) e w.runs;
      })

  stops_now : (j left : ℕ) (first t : Store V) (trace : List (Access O)) (stop : Stop) → Runs (with_events m inner) (entry j) (put first variable (value j)) trace (stop_inside stop) t → StopsInside m inner variable count value entry following j (suc left) first trace stop t
  stops_now j left first t trace stop stopped = record {
    turns = 0;
    fewer = omega arith;
    traces = [];
    rest = trace;
    before = first;
    told = refl;
    in_turn = refl;
    runs = let e : j ≡ j + 0 = omega arith in subst (λ n. Runs (with_events m inner) (entry n) (put first variable (value n)) trace (stop_inside stop) t) e stopped;
  }

  pub through : (left j : ℕ) → j + left ≡ count → (first t : Store V) (trace : List (Access O)) (stop : Stop) → Runs m (then_at j) (put first variable (value j)) trace stop t → Through j left first trace stop t
  through zero j h first t trace stop r =
      let e : j ≡ j + 0 = omega arith in
      inl (record { traces = []; rest = trace; end = first; told = refl; in_turn = refl; goes_on = subst (λ n. Runs m (then_at n) (put first variable (value n)) trace stop t) e r })
  through (suc left) j h first t trace stop r =
      let here : j < count = omega (arith, h) in
      elim (iteration m inner variable (value (suc j)) (then_at (suc j)) (Inside j) (steps_in j here) (loop.enters j here) (subst (λ q. Runs m q (put first variable (value j)) trace stop t) (begins_so j here) r)) as (λ w. Through j (suc left) first trace stop t) [
        | inl c ↦ one_further j left first t trace stop c (through left (suc j) (omega (arith, h)) c.end t c.rest stop c.goes_on)
        | inr stopped ↦ inr (stops_now j left first t trace stop stopped)
      ]

  pub composes : (left j : ℕ) → j + left ≡ count → (first end t : Store V) (traces : List (List (Access O))) (rest : List (Access O)) (stop : Stop) → LoopInTurn (with_events m inner) variable (starts_from value entry j left) first traces end → Runs m (then_at (j + left)) (put end variable (value (j + left))) rest stop t → Runs m (then_at j) (put first variable (value j)) (loop_trace variable traces rest) stop t
  composes zero j h first end t [] rest stop same r =
      let e : j + 0 ≡ j = omega arith in
      subst (λ s. Runs m (then_at j) (put s variable (value j)) rest stop t) (sym same) (subst (λ n. Runs m (then_at n) (put end variable (value n)) rest stop t) e r)
  composes zero j h first end t (trace ∷ traces) rest stop turn r = absurd turn
  composes (suc left) j h first end t [] rest stop turn r = absurd turn
  composes (suc left) j h first end t (trace ∷ traces) rest stop turn r =
      let here : j < count = omega (arith, h) in
      let e : j + suc left ≡ suc j + left = omega arith in
      subst (λ q. Runs m q (put first variable (value j)) (loop_trace variable (trace ∷ traces) rest) stop t) (sym (begins_so j here))
      (iterate_before m inner variable (value (suc j)) (then_at (suc j)) (Inside j) (steps_in j here) refl (loop.enters j here) turn.1
      (composes left (suc j) (omega (arith, h)) turn.0 end t traces rest stop turn.2 (subst (λ n. Runs m (then_at n) (put end variable (value n)) rest stop t) e r)))

pub turns : (P O V : Type 0) (Inside : ℕ → P → Type 0) → TurnsWhere P O V Inside
turns P O V Inside m inner variable count value entry following loop j left h first t trace stop r = through m inner variable count value entry following Inside loop left j h first t trace stop r

pub turns_compose : (P O V : Type 0) (Inside : ℕ → P → Type 0) → ComposesWhere P O V Inside
turns_compose P O V Inside m inner variable count value entry following loop j left h first end t traces rest stop turn r = composes m inner variable count value entry following Inside loop left j h first end t traces rest stop turn r
