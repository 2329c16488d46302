-- Lemmas on what a run shows.
use Rattle.std.proofs.Common.{◌≡◌, ◌≢◌, ℕ, ℤ, List, [], ◌∷◌, map, refl, sym, ◌∙◌, subst}
use Rattle.hyb_outside.specs.declared.pieces.SinkName.{SinkName}
use Rattle.hyb_outside.specs.Pieces.{TakesAll, StopsIn}
use Rattle.hyb_outside.specs.SinkSeen.{SinkSeen}
use Rattle.hyb_outside.proofs.Emits.{takes_all_nil, takes_all_then, stops_first, stops_then}
use Rattle.f77_meaning.specs.Run.{Run, End, Line, stopped as run_stopped, prefixed}
use Rattle.hybrid_top.specs.Answer.{Answer, stops, status_of, ran, line_piece, shown_piece, status_pieces, Shows, shown, stopped, Gives, whole, cut}
use Rattle.hybrid_top.specs.declared.status.Status.{Status}
use Rattle.hybrid_top.specs.declared.status.Status.TheVariants as status

-- the same run
pub shows_along : (r q : Run) (s : Status) (a b : SinkName → SinkSeen) → r ≡ q → Shows (ran q) s a b → Shows (ran r) s a b
shows_along r q s a b e h = subst (λ x. Shows (ran x) s a b) (sym e) h

-- a step that shows nothing comes before
pub shows_one_more : (r : Run) (s : Status) (a b : SinkName → SinkSeen) → Shows (ran r) s a b → Shows (ran (prefixed [] 1 r)) s a b
shows_one_more r s a b (shown e t) = shown e t
shows_one_more r s a b (stopped e t) = stopped e t

-- a line that is taken comes before
pub shows_printed : (line : List ℕ) (r : Run) (s : Status) (a b c : SinkName → SinkSeen) → TakesAll (line_piece line ∷ []) a b → Shows (ran r) s b c → Shows (ran (prefixed (Line line ∷ []) 1 r)) s a c
shows_printed line r s a b c t (shown e u) = shown e (takes_all_then (line_piece line ∷ []) (map shown_piece r.shown) a b c t u)
shows_printed line r s a b c t (stopped e u) = stopped e (stops_then (line_piece line ∷ []) (map shown_piece r.shown) a b c t u)

-- a line that is cut
pub shows_cut : (line : List ℕ) (r : Run) (a b : SinkName → SinkSeen) → StopsIn (line_piece line ∷ []) a b → Shows (ran (prefixed (Line line ∷ []) 1 r)) status.WriteFault a b
shows_cut line r a b h = stopped refl (stops_first (line_piece line ∷ []) (map shown_piece r.shown) a b h)

-- a run that is over
pub shows_stopped : (store : List ℤ) (steps : ℕ) (end : End) (a : SinkName → SinkSeen) → Shows (ran (run_stopped store steps end)) (status_of end) a a
shows_stopped store steps end a = shown refl (takes_all_nil a)

-- an answer without lines
pub shows_nothing : (s : Status) (a : SinkName → SinkSeen) → Shows (stops s) s a a
shows_nothing s a = shown refl (takes_all_nil a)

-- a fault of writing a line
pub gives_cut : (answer : Answer) (s : Status) (old new : SinkName → SinkSeen) → answer.status ≢ status.WriteFault → s ≡ status.WriteFault → Shows answer s old new → Gives answer s old new
gives_cut answer s old new n w (shown e t) = absurd (n (sym e ∙ w))
gives_cut answer s old new n w (stopped e t) = cut e (stops_first (map shown_piece answer.shown) (status_pieces answer.status) old new t)

-- lines, and then the status line
pub gives_then : (answer : Answer) (s result : Status) (old mid new : SinkName → SinkSeen) → s ≢ status.WriteFault → Shows answer s old mid → Gives (stops s) result mid new → Gives answer result old new
gives_then answer s result old mid new n (stopped e t) g = absurd (n e)
gives_then answer s result old mid new n (shown e t) (whole f u) = whole (f ∙ e) (takes_all_then (map shown_piece answer.shown) (status_pieces answer.status) old mid new t (subst (λ x. TakesAll (status_pieces x) mid new) e u))
gives_then answer s result old mid new n (shown e t) (cut f u) = cut f (stops_then (map shown_piece answer.shown) (status_pieces answer.status) old mid new t (subst (λ x. StopsIn (status_pieces x) mid new) e u))
