-- The script of an iteration: what it does in a region, whatever its partials hold.
use Rattle.std.proofs.Common.{ℕ, suc, length, ◌≡◌, ◌==◌, ◌⊎◌, inl, inr, true, false, List, [], ◌∷◌, Option, None, Some, if◌then◌else◌, refl, sym, ap, ◌∙◌, subst, eqb-true, eq-eqb, unwrap_or}
use Rattle.interleaving.specs.Machine.{Event, reads, writes, moves, ends, faults, Machine, IsMachine, IsReady, Accumulates, Store, put}
use Rattle.interleaving.specs.Modes.{Mode, Shared, Private, Reduce, forbids_flow, OnlyAccumulates}
use Rattle.interleaving.specs.Prefixes.{Reading, Writing, Moving, solo_steps, steps_by}
use Rattle.interleaving.specs.Traces.{Access, Read, Write, Move, Stop, AtEnd, AtFault, Cut, Runs, ended, faulted, cut, read_then, write_then, move_then, is_exposed}
use Rattle.interleaving.proofs.Deeds.{Deed, did_read, did_write, did_move, accesses_of, steps_in, value_left, effect, value_then, own_now, heard, said, Sees, Grows}

module _ {P O V : Type 0} (m : Machine P O V) (modes : ℕ → Mode O) where
  -- a process that has done some deeds, the newest first, does these next and then stops so, where a read of a reduced cell answers its
  -- partial, and any other read answers as in its run alone
  pub data Follows : P → List (Deed O V) → List (Deed O V) → Stop → Type 0 where
    ending : {p : P} {pre : List (Deed O V)} → m.event p ≡ ends → Follows p pre [] AtEnd
    failing : {p : P} {pre : List (Deed O V)} → m.event p ≡ faults → Follows p pre [] AtFault
    stopping : {p : P} {pre : List (Deed O V)} → Follows p pre [] Cut
    looking : {p : P} {pre rest : List (Deed O V)} {stop : Stop} (a : ℕ) (x : V) (by : Option O) → m.event p ≡ reads a by → Follows (m.resumed p (heard m (modes a) x (own_now m (modes a) a pre))) (did_read a x by ∷ pre) rest stop → Follows p pre (did_read a x by ∷ rest) stop
    putting : {p : P} {pre rest : List (Deed O V)} {stop : Stop} (a : ℕ) (v : V) (by : Option O) (added : V) → m.event p ≡ writes a (said m (modes a) v added (own_now m (modes a) a pre)) by → Follows (m.done p) (did_write a v by added ∷ pre) rest stop → Follows p pre (did_write a v by added ∷ rest) stop
    turning : {p : P} {pre rest : List (Deed O V)} {stop : Stop} → m.event p ≡ moves → Follows (m.done p) (did_move ∷ pre) rest stop → Follows p pre (did_move ∷ rest) stop

  -- stores that agree in each cell that an iteration reads before it writes it, but for reduced ones
  abbrev pub AgreeFor : (t s : Store V) → List (Access O) → Type 0
  AgreeFor t s trace = (a : ℕ) → forbids_flow (modes a) ≡ true → (t a ≡ s a) ⊎ (is_exposed trace a ≡ true → ⊥)

  -- a process that has this trace over a store has it over each store that agrees so, and stops there in the same way
  abbrev pub Again : P → Store V → List (Access O) → Stop → (ℕ → V → V) → Type 0
  Again p s trace stop comes = (t : Store V) → AgreeFor t s trace → (u : Store V) × Runs m p t trace stop u × ((a : ℕ) → u a ≡ comes a (t a))

  -- the deeds of a process over a store: what it does whatever it did before, what its reads find, and what it leaves
  pub record Script (p : P) (s : Store V) (trace : List (Access O)) (stop : Stop) (t : Store V) : Type 0 where
    pub deeds : List (Deed O V)
    pub told : accesses_of deeds ≡ trace
    pub follows : (pre : List (Deed O V)) → Follows p pre deeds stop
    pub sees : (a : ℕ) → forbids_flow (modes a) ≡ true → Sees m (modes a) a deeds (s a)
    pub grows : (a : ℕ) → Grows m (modes a) a deeds
    pub leaves : (a : ℕ) → value_then m (modes a) a deeds (s a) ≡ t a
    pub again : Again p s trace stop (λ a x. value_then m (modes a) a deeds x)
    pub solo : steps_in deeds ≡ solo_steps m (length trace) p s

  heard-plain : (md : Mode O) (x : V) (own : Option V) → ((o : O) → md ≡ Reduce o → ⊥) → heard m md x own ≡ x
  heard-plain Shared x own h = refl
  heard-plain Private x own h = refl
  heard-plain (Reduce o) x own h = absurd (h o refl)

  said-plain : (md : Mode O) (v added : V) (own : Option V) → ((o : O) → md ≡ Reduce o → ⊥) → said m md v added own ≡ v
  said-plain Shared v added own h = refl
  said-plain Private v added own h = refl
  said-plain (Reduce o) v added own h = absurd (h o refl)

  value_left-other : (md : Mode O) (v added x : V) → ((o : O) → md ≡ Reduce o → ⊥) → value_left m md v added x ≡ v
  value_left-other Shared v added x h = refl
  value_left-other Private v added x h = refl
  value_left-other (Reduce o) v added x h = absurd (h o refl)

  -- what is answered and then written by an accumulation
  said-heard : (md : Mode O) (o : O) (x v added : V) (own : Option V) → v ≡ m.apply o x added → ((by : O) → md ≡ Reduce by → o ≡ by) → m.apply o (heard m md x own) added ≡ said m md v added own
  said-heard Shared o x v added own e h = sym e
  said-heard Private o x v added own e h = sym e
  said-heard (Reduce by) o x v added own e h = ap (λ q. m.apply q (unwrap_or own (m.identity by)) added) (h by refl)

  value_left-added : (md : Mode O) (o : O) (x v added : V) → v ≡ m.apply o x added → ((by : O) → md ≡ Reduce by → o ≡ by) → value_left m md v added x ≡ v
  value_left-added Shared o x v added e h = refl
  value_left-added Private o x v added e h = refl
  value_left-added (Reduce by) o x v added e h = ap (λ q. m.apply q x added) (sym (h by refl)) ∙ sym e

  added_value_left : (md : Mode O) (o : O) (x v added : V) → ((by : O) → md ≡ Reduce by → o ≡ by) → (forbids_flow md ≡ true → m.apply o x added ≡ v) → m.apply o x added ≡ value_left m md v added x
  added_value_left Shared o x v added h e = e refl
  added_value_left Private o x v added h e = e refl
  added_value_left (Reduce by) o x v added h e = ap (λ q. m.apply q x added) (h by refl)

  not_none : (by : Option O) (a : ℕ) → by ≡ None → ((o : O) → modes a ≡ Reduce o → by ≡ Some o) → (o : O) → modes a ≡ Reduce o → ⊥
  not_none by a e h o q = let f : by ≡ Some o = h o q in absurd (cc)

  -- a cell after one write
  put-at : (s : Store V) (a b : ℕ) (v w added : V) → value_left m (modes b) v added (s b) ≡ w → (a ≡ b → w ≡ v) → (if a == b then value_left m (modes b) v added (s b) else s b) ≡ put s a v b
  put-at s a b v w added e f =
      (elim (a == b) as (λ t. (a == b) ≡ t → (if t then value_left m (modes b) v added (s b) else s b) ≡ (if t then v else s b))
      [ true ↦ λ q. e ∙ f (eqb-true a b q) | false ↦ λ q. refl ]) refl

  -- stores that agree for a trace agree for the rest of it
  pub agree_looked : (t s : Store V) (a : ℕ) (by : Option O) (trace : List (Access O)) → AgreeFor t s (Read a by ∷ trace) → AgreeFor t s trace
  agree_looked t s a by trace g b plain = elim (g b plain) [ inl e ↦ inl e | inr n ↦ inr (λ r. n (later r)) ]
    where
      later : is_exposed trace b ≡ true → (if a == b then true else is_exposed trace b) ≡ true
      later r = elim (a == b) as (λ w. (if w then true else is_exposed trace b) ≡ true) [ true ↦ refl | false ↦ r ]

  agree_at : (t s : Store V) (a : ℕ) (by : Option O) (trace : List (Access O)) → forbids_flow (modes a) ≡ true → AgreeFor t s (Read a by ∷ trace) → t a ≡ s a
  agree_at t s a by trace plain g = elim (g a plain) [ inl e ↦ e | inr n ↦ absurd (n (ap (λ w. if w then true else is_exposed trace a) (eq-eqb a a refl))) ]

  agree_wrote : (t s : Store V) (a : ℕ) (v w : V) (by : Option O) (trace : List (Access O)) → (forbids_flow (modes a) ≡ true → v ≡ w) → AgreeFor t s (Write a by ∷ trace) → AgreeFor (put t a v) (put s a w) trace
  agree_wrote t s a v w by trace h g b plain = (elim (a == b) as (λ q. (a == b) ≡ q → ((t b ≡ s b) ⊎ ((if q then false else is_exposed trace b) ≡ true → ⊥)) → ((if q then v else t b) ≡ (if q then w else s b)) ⊎ (is_exposed trace b ≡ true → ⊥))
      [ true ↦ λ e k. inl (h (subst (λ c. forbids_flow (modes c) ≡ true) (sym (eqb-true a b e)) plain)) | false ↦ λ e k. k ]) refl (g b plain)

  plain_of : (md : Mode O) → ((o : O) → md ≡ Reduce o → ⊥) → forbids_flow md ≡ true
  plain_of Shared h = refl
  plain_of Private h = refl
  plain_of (Reduce o) h = absurd (h o refl)

  -- the steps alone, by the first event
  by_event : (p : P) (s : Store V) (n : ℕ) (ev : Event O V) → m.event p ≡ ev → solo_steps m (suc n) p s ≡ steps_by m ev p s (λ q t. solo_steps m n q t)
  by_event p s n ev e = ap (λ ev. steps_by m ev p s (λ q t. solo_steps m n q t)) e

  with_move : (p : P) (s t : Store V) (trace : List (Access O)) (stop : Stop) → m.event p ≡ moves → Script (m.done p) s trace stop t → Script p s (Move ∷ trace) stop t
  with_move p s t trace stop e k = record {
    deeds = did_move ∷ k.deeds;
    told = ap (λ r. Move ∷ r) k.told;
    follows = λ pre. turning e (k.follows (did_move ∷ pre));
    sees = k.sees;
    grows = k.grows;
    leaves = k.leaves;
    again = λ u g. let r : (w : Store V) × Runs m (m.done p) u trace stop w × ((a : ℕ) → w a ≡ value_then m (modes a) a k.deeds (u a)) = k.again u g in (r.0, move_then e r.1, r.2);
    solo = ap (λ r. Moving ∷ r) k.solo ∙ sym (by_event p s (length trace) moves e);
  }

  with_look : (p : P) (s t : Store V) (trace : List (Access O)) (stop : Stop) (a : ℕ) → m.event p ≡ reads a None → ((o : O) → modes a ≡ Reduce o → None ≡ Some o) → Script (m.resumed p (s a)) s trace stop t → Script p s (Read a None ∷ trace) stop t
  with_look p s t trace stop a e only k =
      let plain : (o : O) → modes a ≡ Reduce o → ⊥ = not_none None a refl only in
      record {
        deeds = did_read a (s a) None ∷ k.deeds;
        told = ap (λ r. Read a None ∷ r) k.told;
        follows = λ pre. looking a (s a) None e (subst (λ x. Follows (m.resumed p x) (did_read a (s a) None ∷ pre) k.deeds stop) (sym (heard-plain (modes a) (s a) (own_now m (modes a) a pre) plain)) (k.follows (did_read a (s a) None ∷ pre)));
        sees = λ b h. (λ q. ap s q, k.sees b h);
        solo = ap (λ r. Reading a None (s a) ∷ r) k.solo ∙ sym (by_event p s (length trace) (reads a None) e);
        grows = k.grows;
        leaves = k.leaves;
        again = λ u g.
            let same : s a ≡ u a = sym (agree_at u s a None trace (plain_of (modes a) plain) g) in
            let r : (w : Store V) × Runs m (m.resumed p (s a)) u trace stop w × ((b : ℕ) → w b ≡ value_then m (modes b) b k.deeds (u b)) = k.again u (agree_looked u s a None trace g) in
            (r.0, read_then a None e (subst (λ x. Runs m (m.resumed p x) u trace stop r.0) same r.1), r.2);
      }

  with_put : (p : P) (s t : Store V) (trace : List (Access O)) (stop : Stop) (a : ℕ) (v : V) → m.event p ≡ writes a v None → ((o : O) → modes a ≡ Reduce o → None ≡ Some o) → Script (m.done p) (put s a v) trace stop t → Script p s (Write a None ∷ trace) stop t
  with_put p s t trace stop a v e only k =
      let plain : (o : O) → modes a ≡ Reduce o → ⊥ = not_none None a refl only in
      let there : (b : ℕ) → effect m (modes b) b (did_write a v None v) (s b) ≡ put s a v b = λ b. at s b plain in
      record {
        deeds = did_write a v None v ∷ k.deeds;
        told = ap (λ r. Write a None ∷ r) k.told;
        follows = λ pre. putting a v None v (e ∙ ap (λ w. writes a w None) (sym (said-plain (modes a) v v (own_now m (modes a) a pre) plain))) (k.follows (did_write a v None v ∷ pre));
        sees = λ b h. subst (Sees m (modes b) b k.deeds) (sym (there b)) (k.sees b h);
        grows = λ b. (λ q o r. absurd (plain o (ap modes q ∙ r)), k.grows b);
        solo = ap (λ r. Writing a None v ∷ r) k.solo ∙ sym (by_event p s (length trace) (writes a v None) e);
        leaves = λ b. ap (value_then m (modes b) b k.deeds) (there b) ∙ k.leaves b;
        again = λ u g.
            let r : (w : Store V) × Runs m (m.done p) (put u a v) trace stop w × ((b : ℕ) → w b ≡ value_then m (modes b) b k.deeds (put u a v b)) = k.again (put u a v) (agree_wrote u s a v v None trace (λ h. refl) g) in
            (r.0, write_then a v None e r.1, λ b. r.2 b ∙ ap (value_then m (modes b) b k.deeds) (sym (at u b plain)));
      }
    where
      at : (s : Store V) (b : ℕ) → ((o : O) → modes a ≡ Reduce o → ⊥) → effect m (modes b) b (did_write a v None v) (s b) ≡ put s a v b
      at s b plain =
          (elim (a == b) as (λ t. (a == b) ≡ t → (if t then value_left m (modes b) v v (s b) else s b) ≡ (if t then v else s b))
          [ true ↦ λ q. let same : a ≡ b = eqb-true a b q in value_left-other (modes b) v v (s b) (λ o r. plain o (ap modes same ∙ r)) | false ↦ λ q. refl ]) refl

  with_added : (p : P) (s t : Store V) (trace : List (Access O)) (stop : Stop) (a : ℕ) (o : O) → m.event p ≡ reads a (Some o) → (accumulates : Accumulates m p a o) → ((by : O) → modes a ≡ Reduce by → Some o ≡ Some by) → (v : V) → v ≡ m.apply o (s a) accumulates.added → Script (m.done (m.resumed p (s a))) (put s a v) trace stop t → Script p s (Read a (Some o) ∷ Write a (Some o) ∷ trace) stop t
  with_added p s t trace stop a o e accumulates only v g0 k =
      let one : (by : O) → modes a ≡ Reduce by → o ≡ by = λ by q. let f : Some o ≡ Some by = only by q in cc in
      let there : (b : ℕ) → effect m (modes b) b (did_write a v (Some o) accumulates.added) (s b) ≡ put s a v b = λ b. at b one in
      record {
        deeds = did_read a (s a) (Some o) ∷ did_write a v (Some o) accumulates.added ∷ k.deeds;
        told = ap (λ r. Read a (Some o) ∷ Write a (Some o) ∷ r) k.told;
        solo =
            let f : m.event (m.resumed p (s a)) ≡ writes a v (Some o) = accumulates.combines (s a) ∙ ap (λ w. writes a w (Some o)) (sym g0) in
            ap (λ r. Reading a (Some o) (s a) ∷ Writing a (Some o) v ∷ r) k.solo ∙ ap (λ r. Reading a (Some o) (s a) ∷ r) (sym (by_event (m.resumed p (s a)) s (length trace) (writes a v (Some o)) f)) ∙ sym (by_event p s (suc (length trace)) (reads a (Some o)) e);
        follows = λ pre.
            let x : V = heard m (modes a) (s a) (own_now m (modes a) a pre) in
            looking a (s a) (Some o) e (putting a v (Some o) accumulates.added
            (accumulates.combines x ∙ ap (λ w. writes a w (Some o)) (said-heard (modes a) o (s a) v accumulates.added (own_now m (modes a) a pre) g0 one))
            (subst (λ q. Follows q (did_write a v (Some o) accumulates.added ∷ did_read a (s a) (Some o) ∷ pre) k.deeds stop) (accumulates.goes_on (s a) ∙ sym (accumulates.goes_on x)) (k.follows (did_write a v (Some o) accumulates.added ∷ did_read a (s a) (Some o) ∷ pre))));
        sees = λ b h. (λ q. ap s q, subst (Sees m (modes b) b k.deeds) (sym (there b)) (k.sees b h));
        again = λ u g.
            let equal : forbids_flow (modes a) ≡ true → m.apply o (u a) accumulates.added ≡ v = λ h. ap (λ x. m.apply o x accumulates.added) (agree_at u s a (Some o) (Write a (Some o) ∷ trace) h g) ∙ sym g0 in
            let w : V = m.apply o (u a) accumulates.added in
            let r : (c : Store V) × Runs m (m.done (m.resumed p (s a))) (put u a w) trace stop c × ((b : ℕ) → c b ≡ value_then m (modes b) b k.deeds (put u a w b)) = k.again (put u a w) (agree_wrote u s a w v (Some o) trace equal (agree_looked u s a (Some o) (Write a (Some o) ∷ trace) g)) in (
              r.0,
              read_then a (Some o) e (write_then a w (Some o) (accumulates.combines (u a)) (subst (λ z. Runs m z (put u a w) trace stop r.0) (accumulates.goes_on (s a) ∙ sym (accumulates.goes_on (u a))) r.1)),
              λ b. r.2 b ∙ ap (value_then m (modes b) b k.deeds) (over u one equal b),
            );
        grows = λ b. (λ q by r. subst (λ c. (x : V) → m.apply c x (m.apply c (m.identity c) accumulates.added) ≡ m.apply c x accumulates.added) (one by (ap modes q ∙ r)) accumulates.begins, k.grows b);
        leaves = λ b. ap (value_then m (modes b) b k.deeds) (there b) ∙ k.leaves b;
      }
    where
      at : (b : ℕ) → ((by : O) → modes a ≡ Reduce by → o ≡ by) → effect m (modes b) b (did_write a v (Some o) accumulates.added) (s b) ≡ put s a v b
      at b one =
          (elim (a == b) as (λ t. (a == b) ≡ t → (if t then value_left m (modes b) v accumulates.added (s b) else s b) ≡ (if t then v else s b))
          [ true ↦ λ q. let same : a ≡ b = eqb-true a b q in value_left-added (modes b) o (s b) v accumulates.added (g0 ∙ ap (λ c. m.apply o (s c) accumulates.added) same) (λ by r. one by (ap modes same ∙ r)) | false ↦ λ q. refl ]) refl

      -- over another store the same is added
      over : (u : Store V) → ((by : O) → modes a ≡ Reduce by → o ≡ by) → (forbids_flow (modes a) ≡ true → m.apply o (u a) accumulates.added ≡ v) → (b : ℕ) → put u a (m.apply o (u a) accumulates.added) b ≡ effect m (modes b) b (did_write a v (Some o) accumulates.added) (u b)
      over u one h b =
          (elim (a == b) as (λ t. (a == b) ≡ t → (if t then m.apply o (u a) accumulates.added else u b) ≡ (if t then value_left m (modes b) v accumulates.added (u b) else u b))
          [ true ↦ λ q. let same : a ≡ b = eqb-true a b q in subst (λ c. m.apply o (u a) accumulates.added ≡ value_left m (modes c) v accumulates.added (u c)) same (added_value_left (modes a) o (u a) v accumulates.added one h) | false ↦ λ q. refl ]) refl

  -- after the read of an accumulation comes its write, or a fault
  writes_next : {Sound : P → Type 0} → IsMachine m Sound → (p : P) (x : V) (a : ℕ) (o : O) → Sound p → m.event p ≡ reads a (Some o) → (ev : Event O V) → m.event (m.resumed p x) ≡ ev → ((v : V) → ev ≡ writes a v (Some o) → ⊥) → (ev ≡ faults → ⊥) → ⊥
  writes_next laws p x a o sound e ev f w g =
      elim (laws.accumulates p a o sound e) [ inl accumulates ↦ w (m.apply o x accumulates.added) (sym f ∙ accumulates.combines x) | inr fails ↦ g (sym f ∙ fails x) ]

  with_write : {Sound : P → Type 0} → IsMachine m Sound → (p : P) → Sound p → (s t : Store V) (trace : List (Access O)) (stop : Stop) (a : ℕ) (o : O) → m.event p ≡ reads a (Some o) → ((by : O) → modes a ≡ Reduce by → Some o ≡ Some by) → (b : ℕ) (v : V) (by : Option O) → m.event (m.resumed p (s a)) ≡ writes b v by → Script (m.done (m.resumed p (s a))) (put s b v) trace stop t → Script p s (Read a (Some o) ∷ Write b by ∷ trace) stop t
  with_write laws p sound s t trace stop a o e only b v by f k = elim (laws.accumulates p a o sound e) [ inl accumulates ↦ go accumulates | inr fails ↦ let g : writes b v by ≡ faults = sym f ∙ fails (s a) in absurd (cc) ]
    where
      go : Accumulates m p a o → Script p s (Read a (Some o) ∷ Write b by ∷ trace) stop t
      go accumulates =
          let g : writes a (m.apply o (s a) accumulates.added) (Some o) ≡ writes b v by = sym (accumulates.combines (s a)) ∙ f in
          let at : b ≡ a = cc in
          let marked : Some o ≡ by = cc in
          let value : v ≡ m.apply o (s a) accumulates.added = cc in
          let k2 : Script (m.done (m.resumed p (s a))) (put s a v) trace stop t = subst (λ c. Script (m.done (m.resumed p (s a))) (put s c v) trace stop t) at k in
          let k3 : Script p s (Read a (Some o) ∷ Write a (Some o) ∷ trace) stop t = with_added p s t trace stop a o e accumulates only v value k2 in
          subst (λ c. Script p s (Read a (Some o) ∷ Write c by ∷ trace) stop t) (sym at) (subst (λ c. Script p s (Read a (Some o) ∷ Write a c ∷ trace) stop t) marked k3)

  -- the read of an accumulation, where the run goes no further
  cut_look : (p : P) (s : Store V) (a : ℕ) (o : O) → m.event p ≡ reads a (Some o) → Script p s (Read a (Some o) ∷ []) Cut s
  cut_look p s a o e = record { deeds = did_read a (s a) (Some o) ∷ []; told = refl; follows = λ pre. looking a (s a) (Some o) e stopping; sees = λ b h. (λ q. ap s q, tt); grows = λ b. tt; leaves = λ b. refl; again = λ u g. (u, read_then a (Some o) e cut, λ b. refl); solo = sym (by_event p s 0 (reads a (Some o)) e) }

  fault_look : {Sound : P → Type 0} → IsMachine m Sound → (p : P) (s : Store V) (a : ℕ) (o : O) → Sound p → m.event p ≡ reads a (Some o) → m.event (m.resumed p (s a)) ≡ faults → Script p s (Read a (Some o) ∷ []) AtFault s
  fault_look laws p s a o sound e f = record { deeds = did_read a (s a) (Some o) ∷ []; told = refl; follows = λ pre. looking a (s a) (Some o) e (failing (fails (heard m (modes a) (s a) (own_now m (modes a) a pre)))); sees = λ b h. (λ q. ap s q, tt); grows = λ b. tt; leaves = λ b. refl; again = λ u g. (u, read_then a (Some o) e (faulted (fails (u a))), λ b. refl); solo = sym (by_event p s 0 (reads a (Some o)) e) }
    where
      fails : (x : V) → m.event (m.resumed p x) ≡ faults
      fails x = elim (laws.accumulates p a o sound e) [ inl accumulates ↦ let g : writes a (m.apply o (s a) accumulates.added) (Some o) ≡ faults = sym (accumulates.combines (s a)) ∙ f in absurd (cc) | inr h ↦ h x ]

  -- a run over a store has a script
  pub scripted : {Sound : P → Type 0} → IsMachine m Sound → {p : P} {s t : Store V} {trace : List (Access O)} {stop : Stop} → Sound p → IsReady m p → OnlyAccumulates modes trace → Runs m p s trace stop t → Script p s trace stop t
  scripted laws {s = s} sound ready only (ended e) = record { deeds = []; told = refl; follows = λ pre. ending e; sees = λ a h. tt; grows = λ a. tt; leaves = λ a. refl; again = λ u g. (u, ended e, λ a. refl); solo = refl }
  scripted laws sound ready only (faulted e) = record { deeds = []; told = refl; follows = λ pre. failing e; sees = λ a h. tt; grows = λ a. tt; leaves = λ a. refl; again = λ u g. (u, faulted e, λ a. refl); solo = refl }
  scripted laws sound ready only cut = record { deeds = []; told = refl; follows = λ pre. stopping; sees = λ a h. tt; grows = λ a. tt; leaves = λ a. refl; again = λ u g. (u, cut, λ a. refl); solo = refl }
  scripted laws {p} {s} {t} {stop = stop} sound ready only (move_then {trace = trace} e it) = with_move p s t trace stop e (scripted laws (laws.sound_moved p sound e) (laws.ready_moved p sound e) only it)
  scripted laws {p} {s} {t} {stop = stop} sound ready only (write_then {trace = trace} a v None e it) = with_put p s t trace stop a v e only.0 (scripted laws (laws.sound_written p a v None sound e) (laws.ready_written p a v None sound e) only.1 it)
  scripted laws {p} {s} {t} {stop = stop} sound ready only (write_then {trace = trace} a v (Some o) e it) = absurd (ready a v o e)
  scripted laws {p} {s} {t} {stop = stop} sound ready only (read_then {trace = trace} a None e it) = with_look p s t trace stop a e only.0 (scripted laws (laws.sound_resumed p a None (s a) sound e) (laws.ready_resumed p a (s a) sound e) only.1 it)
  scripted laws {p} {s} {t} {stop = stop} sound ready only (read_then a (Some o) e (write_then {trace = trace} b v by f it)) =
      let then_sound = laws.sound_resumed p a (Some o) (s a) sound e in
      with_write laws p sound s t trace stop a o e only.0 b v by f (scripted laws (laws.sound_written (m.resumed p (s a)) b v by then_sound f) (laws.ready_written (m.resumed p (s a)) b v by then_sound f) only.1.1 it)
  scripted laws {p} {s} sound ready only (read_then a (Some o) e (ended f)) = absurd (writes_next laws p (s a) a o sound e ends f (λ v q. cc) (λ q. cc))
  scripted laws {p} {s} sound ready only (read_then a (Some o) e (read_then b by f it)) = absurd (writes_next laws p (s a) a o sound e (reads b by) f (λ v q. cc) (λ q. cc))
  scripted laws {p} {s} sound ready only (read_then a (Some o) e (move_then f it)) = absurd (writes_next laws p (s a) a o sound e moves f (λ v q. cc) (λ q. cc))
  scripted laws {p} {s} sound ready only (read_then a (Some o) e (faulted f)) = fault_look laws p s a o sound e f
  scripted laws {p} {s} sound ready only (read_then a (Some o) e cut) = cut_look p s a o e
