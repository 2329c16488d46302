-- Step by step, and iteration by iteration.
use Rattle.std.proofs.Common.{ℕ, ◌≡◌, List, [], ◌∷◌, ◌++◌, Option, refl, sym, subst, append_assoc, append-nil}
use Rattle.interleaving.specs.Machine.{reads, writes, moves, ends, Machine, Store, put}
use Rattle.interleaving.specs.OwnCells.{Start, LoopInTurn}
use Rattle.interleaving.specs.Passing.{Passed, TurnsPassed, Passes}
use Rattle.interleaving.specs.Traces.{Access, Read, Write, Move, AtEnd, Stop, Runs, ended, read_then, write_then, move_then}

module _ {P O V : Type 0} (m : Machine P O V) where
  pub passed_none : (p : P) (s : Store V) → Passed m p s [] p s
  passed_none p s = record { goes_on = λ rest stop u r. r }

  -- one access more
  one_more : (p : P) (s : Store V) (trace : List (Access O)) (access : Access O) (q r : P) (t u : Store V) → Passed m p s trace q t → ((rest : List (Access O)) (stop : Stop) (w : Store V) → Runs m r u rest stop w → Runs m q t (access ∷ rest) stop w) → Passed m p s (trace ++ access ∷ []) r u
  one_more p s trace access q r t u passed step = record {
    goes_on = λ rest stop w run. let e : trace ++ (access ∷ rest) ≡ (trace ++ access ∷ []) ++ rest = sym (append_assoc trace (access ∷ []) rest) in subst (λ tr. Runs m p s tr stop w) e (passed.goes_on (access ∷ rest) stop w (step rest stop w run));
  }

  pub passed_read : (p : P) (s : Store V) (trace : List (Access O)) (q : P) (t : Store V) (a : ℕ) (by : Option O) → Passed m p s trace q t → m.event q ≡ reads a by → Passed m p s (trace ++ Read a by ∷ []) (m.resumed q (t a)) t
  passed_read p s trace q t a by passed e = one_more p s trace (Read a by) q (m.resumed q (t a)) t t passed (λ rest stop w r. read_then a by e r)

  pub passed_write : (p : P) (s : Store V) (trace : List (Access O)) (q : P) (t : Store V) (a : ℕ) (v : V) (by : Option O) → Passed m p s trace q t → m.event q ≡ writes a v by → Passed m p s (trace ++ Write a by ∷ []) (m.done q) (put t a v)
  passed_write p s trace q t a v by passed e = one_more p s trace (Write a by) q (m.done q) t (put t a v) passed (λ rest stop w r. write_then a v by e r)

  pub passed_move : (p : P) (s : Store V) (trace : List (Access O)) (q : P) (t : Store V) → Passed m p s trace q t → m.event q ≡ moves → Passed m p s (trace ++ Move ∷ []) (m.done q) t
  passed_move p s trace q t passed e = one_more p s trace Move q (m.done q) t t passed (λ rest stop w r. move_then e r)

  -- the iteration has come to its end
  pub passed_end : (p : P) (s : Store V) (trace : List (Access O)) (q : P) (t : Store V) → Passed m p s trace q t → m.event q ≡ ends → Runs m p s trace AtEnd t
  passed_end p s trace q t passed e = subst (λ tr. Runs m p s tr AtEnd t) (append-nil trace) (passed.goes_on [] AtEnd t (ended e))

  module _ (variable : ℕ) where
    pub turns_none : (starts : List (Start P V)) (s : Store V) → TurnsPassed m variable starts s [] starts s
    turns_none starts s = record { goes_on = λ others u turn. turn }

    -- one iteration more
    pub turns_one : (starts : List (Start P V)) (s : Store V) (traces : List (List (Access O))) (start : Start P V) (left : List (Start P V)) (t : Store V) (trace : List (Access O)) (q : P) (u : Store V) → TurnsPassed m variable starts s traces (start ∷ left) t → Passed m start.process (put t variable start.value) trace q u → m.event q ≡ ends → TurnsPassed m variable starts s (traces ++ trace ∷ []) left u
    turns_one starts s traces start left t trace q u turns passed e = record {
      goes_on = λ others w turn.
          let a : traces ++ (trace ∷ others) ≡ (traces ++ trace ∷ []) ++ others = sym (append_assoc traces (trace ∷ []) others) in
          subst (λ trs. LoopInTurn m variable starts s trs w) a (turns.goes_on (trace ∷ others) w (u, passed_end start.process (put t variable start.value) trace q u passed e, turn));
    }

    -- all of them
    pub turns_all : (starts : List (Start P V)) (s : Store V) (traces : List (List (Access O))) (t : Store V) → TurnsPassed m variable starts s traces [] t → LoopInTurn m variable starts s traces t
    turns_all starts s traces t turns = subst (λ trs. LoopInTurn m variable starts s trs t) (append-nil traces) (turns.goes_on [] t refl)

pub passes : (P O V : Type 0) → Passes P O V
passes P O V = record {
  begins = λ m p s. passed_none m p s;
  reads_on = λ m p q s t trace a by h e. passed_read m p s trace q t a by h e;
  writes_on = λ m p q s t trace a v by h e. passed_write m p s trace q t a v by h e;
  moves_on = λ m p q s t trace h e. passed_move m p s trace q t h e;
  ends_so = λ m p q s t trace h e. passed_end m p s trace q t h e;
  begins_turns = λ m variable starts s. turns_none m variable starts s;
  turns_on = λ m variable starts left start s t u traces trace q h k e. turns_one m variable starts s traces start left t trace q u h k e;
  ends_turns = λ m variable starts s t traces h. turns_all m variable starts s traces t h;
}
