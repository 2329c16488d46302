-- How an iteration has come from its start, beside its run alone.
use Rattle.std.proofs.Common.{ℕ, ◌≡◌, true, List, [], ◌∷◌, ◌++◌, length, Option, refl, ap, ◌∙◌, subst}
use Rattle.interleaving.specs.Machine.{reads, writes, moves, Machine, Store}
use Rattle.interleaving.specs.Modes.{Mode, Shared, Private, Reduce, forbids_flow}
use Rattle.interleaving.specs.Prefixes.{Step, Reading, Writing, Moving, trace_of, Takes, takes_none, takes_read, takes_write, takes_move, solo_steps, AreFirst, DidFirst}
use Rattle.interleaving.specs.Region.{Iteration}
use Rattle.interleaving.specs.Traces.{Access, Read, Write, Move}
use Rattle.interleaving.proofs.Deeds.{Deed, did_read, did_write, did_move, accesses_of, steps_in, own_now, heard, said}

module _ {P O V : Type 0} (m : Machine P O V) (modes : ℕ → Mode O) where
  -- a process to which a start has come by these deeds, the newest first, as a region answers them
  pub data Came (start : P) : List (Deed O V) → P → Type 0 where
    at_start : Came start [] start
    by_read : {p : P} {pre : List (Deed O V)} (a : ℕ) (x : V) (by : Option O) → m.event p ≡ reads a by → Came start pre p → Came start (did_read a x by ∷ pre) (m.resumed p (heard m (modes a) x (own_now m (modes a) a pre)))
    by_write : {p : P} {pre : List (Deed O V)} (a : ℕ) (v : V) (by : Option O) (added : V) → m.event p ≡ writes a (said m (modes a) v added (own_now m (modes a) a pre)) by → Came start pre p → Came start (did_write a v by added ∷ pre) (m.done p)
    by_move : {p : P} {pre : List (Deed O V)} → m.event p ≡ moves → Came start pre p → Came start (did_move ∷ pre) (m.done p)

  -- all deeds, the oldest first
  abbrev pub unwound : (pre rest : List (Deed O V)) → List (Deed O V)
  unwound [] rest = rest
  unwound (deed ∷ pre) rest = unwound pre (deed ∷ rest)

  -- the steps of the deeds that are done, with the values of the region, before later ones
  abbrev pub told : (pre : List (Deed O V)) → List (Step O V) → List (Step O V)
  told [] later = later
  told (did_read a x by ∷ pre) later = told pre (Reading a by (heard m (modes a) x (own_now m (modes a) a pre)) ∷ later)
  told (did_write a v by added ∷ pre) later = told pre (Writing a by (said m (modes a) v added (own_now m (modes a) a pre)) ∷ later)
  told (did_move ∷ pre) later = told pre (Moving ∷ later)

  -- what is known of an iteration's past, and of all that it does alone from the entry
  pub record History (entry : Store V) (start : P) (pre rest : List (Deed O V)) (trace : List (Access O)) (p : P) : Type 0 where
    pub came : Came start pre p
    pub solo : steps_in (unwound pre rest) ≡ solo_steps m (length trace) start entry
    pub traced : accesses_of (unwound pre rest) ≡ trace

  -- the start takes these steps
  takes_told : {start p q : P} {pre : List (Deed O V)} {later : List (Step O V)} → Came start pre p → Takes m p later q → Takes m start (told pre later) q
  takes_told at_start t = t
  takes_told (by_read {pre = pre} a x by e c) t = takes_told c (takes_read a by (heard m (modes a) x (own_now m (modes a) a pre)) e t)
  takes_told (by_write {pre = pre} a v by added e c) t = takes_told c (takes_write a by (said m (modes a) v added (own_now m (modes a) a pre)) e t)
  takes_told (by_move e c) t = takes_told c (takes_move e t)

  same_answer : (md : Mode O) (x : V) (own : Option V) → forbids_flow md ≡ true → heard m md x own ≡ x
  same_answer Shared x own h = refl
  same_answer Private x own h = refl
  same_answer (Reduce op) x own h = absurd (cc)

  same_value : (md : Mode O) (v added : V) (own : Option V) → forbids_flow md ≡ true → said m md v added own ≡ v
  same_value Shared v added own h = refl
  same_value Private v added own h = refl
  same_value (Reduce op) v added own h = absurd (cc)

  -- they are the first of those alone
  first_told : (pre rest : List (Deed O V)) (later : List (Step O V)) → AreFirst modes later (steps_in rest) → AreFirst modes (told pre later) (steps_in (unwound pre rest))
  first_told [] rest later h = h
  first_told (did_read a x by ∷ pre) rest later h = first_told pre (did_read a x by ∷ rest) (Reading a by (heard m (modes a) x (own_now m (modes a) a pre)) ∷ later) (refl, refl, same_answer (modes a) x (own_now m (modes a) a pre), h)
  first_told (did_write a v by added ∷ pre) rest later h = first_told pre (did_write a v by added ∷ rest) (Writing a by (said m (modes a) v added (own_now m (modes a) a pre)) ∷ later) (refl, refl, same_value (modes a) v added (own_now m (modes a) a pre), h)
  first_told (did_move ∷ pre) rest later h = first_told pre (did_move ∷ rest) (Moving ∷ later) h

  -- their trace is the first part of its trace
  trace_told : (pre rest : List (Deed O V)) (later : List (Step O V)) (tail : List (Access O)) → trace_of later ++ tail ≡ accesses_of rest → trace_of (told pre later) ++ tail ≡ accesses_of (unwound pre rest)
  trace_told [] rest later tail h = h
  trace_told (did_read a x by ∷ pre) rest later tail h = trace_told pre (did_read a x by ∷ rest) (Reading a by (heard m (modes a) x (own_now m (modes a) a pre)) ∷ later) tail (ap (λ t. Read a by ∷ t) h)
  trace_told (did_write a v by added ∷ pre) rest later tail h = trace_told pre (did_write a v by added ∷ rest) (Writing a by (said m (modes a) v added (own_now m (modes a) a pre)) ∷ later) tail (ap (λ t. Write a by ∷ t) h)
  trace_told (did_move ∷ pre) rest later tail h = trace_told pre (did_move ∷ rest) (Moving ∷ later) tail (ap (λ t. Move ∷ t) h)

  -- so it did the first steps of its run alone
  pub did_first : (entry : Store V) (start : P) (pre rest : List (Deed O V)) (trace : List (Access O)) (it : Iteration P V) → History entry start pre rest trace it.process → (it.finished ≡ true → rest ≡ []) → DidFirst m modes entry start trace it
  did_first entry start pre rest trace it h all = record {
    did = told pre [];
    rest = accesses_of rest;
    takes = takes_told h.came takes_none;
    first = subst (AreFirst modes (told pre [])) h.solo (first_told pre rest [] tt);
    begins = trace_told pre rest [] (accesses_of rest) refl ∙ h.traced;
    all = λ f. ap accesses_of (all f);
  }

  -- a step more
  pub history_read : (entry : Store V) (start p : P) (pre rest : List (Deed O V)) (trace : List (Access O)) (a : ℕ) (x : V) (by : Option O) → m.event p ≡ reads a by → History entry start pre (did_read a x by ∷ rest) trace p → History entry start (did_read a x by ∷ pre) rest trace (m.resumed p (heard m (modes a) x (own_now m (modes a) a pre)))
  history_read entry start p pre rest trace a x by e h = record { came = by_read a x by e h.came; solo = h.solo; traced = h.traced }

  pub history_write : (entry : Store V) (start p : P) (pre rest : List (Deed O V)) (trace : List (Access O)) (a : ℕ) (v : V) (by : Option O) (added : V) → m.event p ≡ writes a (said m (modes a) v added (own_now m (modes a) a pre)) by → History entry start pre (did_write a v by added ∷ rest) trace p → History entry start (did_write a v by added ∷ pre) rest trace (m.done p)
  history_write entry start p pre rest trace a v by added e h = record { came = by_write a v by added e h.came; solo = h.solo; traced = h.traced }

  pub history_move : (entry : Store V) (start p : P) (pre rest : List (Deed O V)) (trace : List (Access O)) → m.event p ≡ moves → History entry start pre (did_move ∷ rest) trace p → History entry start (did_move ∷ pre) rest trace (m.done p)
  history_move entry start p pre rest trace e h = record { came = by_move e h.came; solo = h.solo; traced = h.traced }
