-- Lemmas on what three sinks take of a list of pieces.
use Rattle.std.proofs.Common.{◌≡◌, ℕ, ◌≤◌, List, [], ◌∷◌, ◌++◌, take, drop, Result, Ok, Err, refl, sym, ap, append_assoc, ◌∙◌}
use Rattle.std.proofs.lemmas.List.{append-nil, take-append-drop}
use Rattle.std.proofs.lemmas.Result.{on_ok_weaker, on_err_weaker}
use Rattle.std.specs.Prelude.{OnOk, OnErr, IsErr}
use Rattle.hyb_outside.specs.declared.failed.Failed.{Failed}
use Rattle.hyb_outside.specs.declared.pieces.SinkName.{SinkName}
use Rattle.hyb_outside.specs.declared.pieces.SinkName.TheVariants.{Out, Notes, Order}
use Rattle.hyb_outside.specs.SinkSeen.{SinkSeen, appended, Takes, Cuts, TakesFront}
use Rattle.hyb_outside.specs.Pieces.{Piece, piece, share, share_of, sinks, TakesAll, StopsIn, Emits, Leaves, OneRose}
use Rattle.hyb_outside.proofs.Takes.{appended-nil, takes_nil, takes_then, rose_along}

-- the share of a list of one piece is the piece
one_share : (bytes : List ℕ) (a b : SinkSeen) → Takes bytes a b → Takes (bytes ++ []) a b
one_share bytes a b p = rw append-nil p

-- one piece is taken, for each sink
pub one_out : (bytes : List ℕ) (o n q o' : SinkSeen) → Takes bytes o o' → TakesAll (piece Out bytes ∷ []) (sinks o n q) (sinks o' n q)
one_out bytes o n q o' p Out = one_share bytes o o' p
one_out bytes o n q o' p Notes = takes_nil n
one_out bytes o n q o' p Order = takes_nil q

pub one_notes : (bytes : List ℕ) (o n q n' : SinkSeen) → Takes bytes n n' → TakesAll (piece Notes bytes ∷ []) (sinks o n q) (sinks o n' q)
one_notes bytes o n q n' p Out = takes_nil o
one_notes bytes o n q n' p Notes = one_share bytes n n' p
one_notes bytes o n q n' p Order = takes_nil q

pub one_order : (bytes : List ℕ) (o n q q' : SinkSeen) → Takes bytes q q' → TakesAll (piece Order bytes ∷ []) (sinks o n q) (sinks o n q')
one_order bytes o n q q' p Out = takes_nil o
one_order bytes o n q q' p Notes = takes_nil n
one_order bytes o n q q' p Order = one_share bytes q q' p

-- one piece is cut, for each sink
pub cut_out : (bytes : List ℕ) (o n q o' : SinkSeen) → Cuts bytes o o' → StopsIn (piece Out bytes ∷ []) (sinks o n q) (sinks o' n q)
cut_out bytes o n q o' c = record {
  before = [];
  stopped = piece Out bytes;
  later = [];
  are = refl;
  part = c.part;
  short = c.short;
  took = one_out (take c.part bytes) o n q o' c.takes;
  cause = c.cause;
}

pub cut_notes : (bytes : List ℕ) (o n q n' : SinkSeen) → Cuts bytes n n' → StopsIn (piece Notes bytes ∷ []) (sinks o n q) (sinks o n' q)
cut_notes bytes o n q n' c = record {
  before = [];
  stopped = piece Notes bytes;
  later = [];
  are = refl;
  part = c.part;
  short = c.short;
  took = one_notes (take c.part bytes) o n q n' c.takes;
  cause = c.cause;
}

pub cut_order : (bytes : List ℕ) (o n q q' : SinkSeen) → Cuts bytes q q' → StopsIn (piece Order bytes ∷ []) (sinks o n q) (sinks o n q')
cut_order bytes o n q q' c = record {
  before = [];
  stopped = piece Order bytes;
  later = [];
  are = refl;
  part = c.part;
  short = c.short;
  took = one_order (take c.part bytes) o n q q' c.takes;
  cause = c.cause;
}

-- a sink's share of two lists of pieces
pub share_of-append : (to : SinkName) (ps qs : List Piece) → share_of to (ps ++ qs) ≡ share_of to ps ++ share_of to qs
share_of-append to [] qs = refl
share_of-append to (p ∷ ps) qs = ap (λ r. share to p.to p.bytes ++ r) (share_of-append to ps qs) ∙ sym (append_assoc (share to p.to p.bytes) (share_of to ps) (share_of to qs))

-- no piece is taken
pub takes_all_nil : (a : SinkName → SinkSeen) → TakesAll [] a a
takes_all_nil a to = takes_nil (a to)

-- some pieces are taken, and then some more
pub takes_all_then : (ps qs : List Piece) (a b c : SinkName → SinkSeen) → TakesAll ps a b → TakesAll qs b c → TakesAll (ps ++ qs) a c
takes_all_then ps qs a b c p q to = rw (share_of-append to ps qs) (takes_then (share_of to ps) (share_of to qs) (a to) (b to) (c to) (p to) (q to))

-- where it stops in the first of two lists
pub stops_first : (ps qs : List Piece) (a b : SinkName → SinkSeen) → StopsIn ps a b → StopsIn (ps ++ qs) a b
stops_first ps qs a b s = record {
  before = s.before;
  stopped = s.stopped;
  later = s.later ++ qs;
  are = ap (λ r. r ++ qs) s.are ∙ append_assoc s.before (s.stopped ∷ s.later) qs;
  part = s.part;
  short = s.short;
  took = s.took;
  cause = s.cause;
}

-- where it stops in the second of two lists
pub stops_then : (ps qs : List Piece) (a b c : SinkName → SinkSeen) → TakesAll ps a b → StopsIn qs b c → StopsIn (ps ++ qs) a c
stops_then ps qs a b c p s = record {
  before = ps ++ s.before;
  stopped = s.stopped;
  later = s.later;
  are = ap (λ r. ps ++ r) s.are ∙ sym (append_assoc ps s.before (s.stopped ∷ s.later));
  part = s.part;
  short = s.short;
  took = rw (append_assoc ps s.before (piece s.stopped.to (take s.part s.stopped.bytes) ∷ [])) (takes_all_then ps (s.before ++ piece s.stopped.to (take s.part s.stopped.bytes) ∷ []) a b c p s.took);
  cause = rose_along (a s.stopped.to).faults (b s.stopped.to).faults (c s.stopped.to).faults (p s.stopped.to).faults (s.took s.stopped.to).faults s.cause;
}

-- one piece is offered, for each sink
pub emits_out : (bytes : List ℕ) (r : Result (Unit {0}) Failed) (o n q o' : SinkSeen) → OnOk r (Takes bytes o o') → OnErr r (Cuts bytes o o') → Emits (piece Out bytes ∷ []) r (sinks o n q) (sinks o' n q)
emits_out bytes r o n q o' p s = record { ok = on_ok_weaker r (one_out bytes o n q o') p; failed = on_err_weaker r (cut_out bytes o n q o') s }

pub emits_notes : (bytes : List ℕ) (r : Result (Unit {0}) Failed) (o n q n' : SinkSeen) → OnOk r (Takes bytes n n') → OnErr r (Cuts bytes n n') → Emits (piece Notes bytes ∷ []) r (sinks o n q) (sinks o n' q)
emits_notes bytes r o n q n' p s = record { ok = on_ok_weaker r (one_notes bytes o n q n') p; failed = on_err_weaker r (cut_notes bytes o n q n') s }

pub emits_order : (bytes : List ℕ) (r : Result (Unit {0}) Failed) (o n q q' : SinkSeen) → OnOk r (Takes bytes q q') → OnErr r (Cuts bytes q q') → Emits (piece Order bytes ∷ []) r (sinks o n q) (sinks o n q')
emits_order bytes r o n q q' p s = record { ok = on_ok_weaker r (one_order bytes o n q q') p; failed = on_err_weaker r (cut_order bytes o n q q') s }

-- nothing is offered
pub emits_none : (a : SinkName → SinkSeen) → Emits [] (Ok tt) a a
emits_none a = record { ok = takes_all_nil a; failed = tt }

-- some pieces are taken, and then others are offered
pub emits_after : (ps qs : List Piece) (r : Result (Unit {0}) Failed) (a b c : SinkName → SinkSeen) → TakesAll ps a b → Emits qs r b c → Emits (ps ++ qs) r a c
emits_after ps qs r a b c s t = record {
  ok = on_ok_weaker r (takes_all_then ps qs a b c s) t.ok;
  failed = on_err_weaker r (stops_then ps qs a b c s) t.failed;
}

-- some pieces were emitted, and then others are offered
pub emits_then : (ps qs : List Piece) (u : Unit {0}) (r : Result (Unit {0}) Failed) (a b c : SinkName → SinkSeen) → Emits ps (Ok u) a b → Emits qs r b c → Emits (ps ++ qs) r a c
emits_then ps qs u r a b c s t = emits_after ps qs r a b c s.ok t

-- it stops in these pieces, whatever would come after
pub emits_stop : (ps qs : List Piece) (e : Failed) (r : Result (Unit {0}) Failed) (a b : SinkName → SinkSeen) → Emits ps (Err e) a b → IsErr r → Emits (ps ++ qs) r a b
emits_stop ps qs e (Ok u) a b s h = let n : ⊥ = cc in absurd n
emits_stop ps qs e (Err f) a b s h = record { ok = tt; failed = stops_first ps qs a b s.failed }

-- the first of these pieces is taken, and then the others are offered
pub emits_next : (p : Piece) (qs : List Piece) (u : Unit {0}) (r : Result (Unit {0}) Failed) (a b c : SinkName → SinkSeen) → Emits (p ∷ []) (Ok u) a b → Emits qs r b c → Emits (p ∷ qs) r a c
emits_next p qs u r a b c s t = emits_then (p ∷ []) qs u r a b c s t

-- it stops in the first of these pieces
pub emits_here : (p : Piece) (qs : List Piece) (e : Failed) (r : Result (Unit {0}) Failed) (a b : SinkName → SinkSeen) → Emits (p ∷ []) (Err e) a b → IsErr r → Emits (p ∷ qs) r a b
emits_here p qs e r a b s h = emits_stop (p ∷ []) qs e r a b s h

-- the whole is left at the beginning
pub leaves_whole : (ps : List Piece) (a : SinkName → SinkSeen) → Leaves ps a ps a
leaves_whole ps a r new t = t

-- the rest is left after some pieces were emitted
pub leaves_rest : (whole ps qs : List Piece) (u : Unit {0}) (a b c : SinkName → SinkSeen) → Leaves whole a (ps ++ qs) b → Emits ps (Ok u) b c → Leaves whole a qs c
leaves_rest whole ps qs u a b c l s r new t = l r new (emits_then ps qs u r b c new s t)

-- the whole is emitted where nothing is left
pub leaves_none : (whole : List Piece) (a b : SinkName → SinkSeen) → Leaves whole a [] b → Emits whole (Ok tt) a b
leaves_none whole a b l = l (Ok tt) b (emits_none b)

-- it stops in what is left
pub leaves_stop : (whole ps qs : List Piece) (e : Failed) (r : Result (Unit {0}) Failed) (a b c : SinkName → SinkSeen) → Leaves whole a (ps ++ qs) b → Emits ps (Err e) b c → IsErr r → Emits whole r a c
leaves_stop whole ps qs e r a b c l s h = l r c (emits_stop ps qs e r b c s h)

-- after a fault the count of one of the sinks rose
pub emits_rose : (ps : List Piece) (r : Result (Unit {0}) Failed) (a b : SinkName → SinkSeen) → Emits ps r a b → OnErr r (OneRose a b)
emits_rose ps r a b s = on_err_weaker r (λ (t : StopsIn ps a b). record { which = t.stopped.to; rose = t.cause }) s.failed

-- a part of bytes for a sink is the front of what is for it of all of them
share-take : (to q : SinkName) (n : ℕ) (bytes : List ℕ) → (rest : List ℕ) × (share to q bytes ≡ share to q (take n bytes) ++ rest)
share-take Out Out n bytes = (drop n bytes, sym (take-append-drop n bytes))
share-take Out Notes n bytes = ([], refl)
share-take Out Order n bytes = ([], refl)
share-take Notes Out n bytes = ([], refl)
share-take Notes Notes n bytes = (drop n bytes, sym (take-append-drop n bytes))
share-take Notes Order n bytes = ([], refl)
share-take Order Out n bytes = ([], refl)
share-take Order Notes n bytes = ([], refl)
share-take Order Order n bytes = (drop n bytes, sym (take-append-drop n bytes))

-- a list that is cut in a piece has the front of the share
share-cut : (to : SinkName) (before : List Piece) (p : Piece) (n : ℕ) (later : List Piece) → (rest : List ℕ) × (share_of to (before ++ p ∷ later) ≡ share_of to (before ++ piece p.to (take n p.bytes) ∷ []) ++ rest)
share-cut to before p n later =
    let e = share-take to p.to n p.bytes in (
      e.0 ++ share_of to later,
      simp (share_of-append to before (p ∷ later), share_of-append to before (piece p.to (take n p.bytes) ∷ []), append_assoc, append-nil, e.1),
    )

-- where it stops, each sink has taken the front of its share
pub stops_front : (ps : List Piece) (a b : SinkName → SinkSeen) → StopsIn ps a b → (to : SinkName) → TakesFront (share_of to ps) (a to) (b to)
stops_front ps a b s to =
    let e = share-cut to s.before s.stopped s.part s.later in
    record {
      front = share_of to (s.before ++ piece s.stopped.to (take s.part s.stopped.bytes) ∷ []);
      rest = e.0;
      are = ap (share_of to) s.are ∙ e.1;
      takes = s.took to;
    }

-- each sink has taken the front of its share, whatever the answer
pub emits_front : (ps : List Piece) (r : Result (Unit {0}) Failed) (a b : SinkName → SinkSeen) → Emits ps r a b → (to : SinkName) → TakesFront (share_of to ps) (a to) (b to)
emits_front ps (Ok u) a b s to = record { front = share_of to ps; rest = []; are = sym (append-nil (share_of to ps)); takes = s.ok to }
emits_front ps (Err e) a b s to = stops_front ps a b s.failed to

-- the front of nothing is nothing
front_of_nothing : (xs ys : List ℕ) → [] ≡ xs ++ ys → xs ≡ []
front_of_nothing [] ys e = refl
front_of_nothing (x ∷ xs) ys e = let n : ⊥ = cc in absurd n

-- a sink for which no piece stands among the pieces has taken nothing
pub emits_idle : (to : SinkName) (ps : List Piece) (r : Result (Unit {0}) Failed) (a b : SinkName → SinkSeen) → Emits ps r a b → share_of to ps ≡ [] → (b to).taken ≡ (a to).taken
emits_idle to ps r a b s h =
    let f = emits_front ps r a b s to in
    f.takes.taken ∙ ap (appended (a to).taken) (front_of_nothing f.front f.rest (sym h ∙ f.are)) ∙ appended-nil (a to).taken

-- no count falls
pub emits_faults : (to : SinkName) (ps : List Piece) (r : Result (Unit {0}) Failed) (a b : SinkName → SinkSeen) → Emits ps r a b → (a to).faults ≤ (b to).faults
emits_faults to ps r a b s = let f = emits_front ps r a b s to in f.takes.faults
