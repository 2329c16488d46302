-- The verdict of a book is right.
use Rattle.std.proofs.Common.{◌≡◌, ◌<◌, Bool, true, false, List, [], ◌∷◌, ◌++◌, length, get_or, Option, None, Some, Result, Ok, Err, refl, sym, subst, arith, append_assoc, append-nil, length-append}
use Rattle.hyb_base.specs.declared.ops.RedOp.{RedOp}
use Rattle.dependence.specs.declared.modes.Judged.{Judged}
use Rattle.dependence.specs.declared.modes.Mode.{Mode}
use Rattle.dependence.specs.declared.modes.Mode.TheVariants.{Untouched, ReadOnly, Shared, Private, Reduce}
use Rattle.dependence.specs.declared.modes.Pair.{Pair}
use Rattle.dependence.specs.Executions.{Trace}
use Rattle.dependence.specs.Regions.{Interval, Applies, row, HasNoMode}
use Rattle.dependence.specs.Verdicts.{ConflictsIn, FlowsIn, IsJudged, AreJudged, IsRight}
use Rattle.loop_trace.specs.declared.marks.Marks.{Marks}
use Rattle.loop_trace.specs.declared.marks.Uses.{Uses}
use Rattle.loop_trace.specs.declared.marks.Uses.TheVariants.{Unused, Only, Mixed}
use Rattle.loop_trace.specs.Marks.{UsesAre, WrittenIs, ConflictIs, FlowIs, IsMarked, AreMarked, judged_of, judged_by, judged_used, judged_written, verdict_by, verdict_from}

module _ (traces : List Trace) (region : Interval) where
  -- what a judgement by marks says
  abbrev Says : Result Judged Pair → Type 0
  Says (Ok judged) = IsJudged traces region judged
  Says (Err pair) = HasNoMode traces region × FlowsIn traces region pair

  is_used : (u : Uses) → UsesAre traces region u → (u ≡ Unused → ⊥) → Applies traces region Untouched → ⊥
  is_used Unused h n = absurd (n refl)
  is_used (Only op) h n = h.0
  is_used Mixed h n = h.0

  read_only : (Applies traces region Untouched → ⊥) → Applies traces region ReadOnly → IsJudged traces region (record { mode = ReadOnly; pair = None })
  read_only u h = record { mode = record { applies = h; first = below }; named = tt }
    where
      below : (mode : Mode) → row mode < 1 → Applies traces region mode → ⊥
      below Untouched l a = u a
      below ReadOnly l a = omega (arith, l)
      below Shared l a = omega (arith, l)
      below Private l a = omega (arith, l)
      below (Reduce op) l a = omega (arith, l)

  module _ (u : Applies traces region Untouched → ⊥) (w : Applies traces region ReadOnly → ⊥) where
    shared : Applies traces region Shared → IsJudged traces region (record { mode = Shared; pair = None })
    shared h = record { mode = record { applies = h; first = below }; named = tt }
      where
        below : (mode : Mode) → row mode < 2 → Applies traces region mode → ⊥
        below Untouched l a = u a
        below ReadOnly l a = w a
        below Shared l a = omega (arith, l)
        below Private l a = omega (arith, l)
        below (Reduce op) l a = omega (arith, l)

    module _ (pair : Pair) (c : ConflictsIn traces region pair) where
      not_shared : Applies traces region Shared → ⊥
      not_shared a = a pair.address c.inside pair.earlier pair.later c.conflict

      private_ : Applies traces region Private → IsJudged traces region (record { mode = Private; pair = Some pair })
      private_ h = record { mode = record { applies = h; first = below }; named = c }
        where
          below : (mode : Mode) → row mode < 3 → Applies traces region mode → ⊥
          below Untouched l a = u a
          below ReadOnly l a = w a
          below Shared l a = not_shared a
          below Private l a = omega (arith, l)
          below (Reduce op) l a = omega (arith, l)

      module _ (other : Pair) (f : FlowsIn traces region other) where
        not_private : Applies traces region Private → ⊥
        not_private a = a other.address f.inside other.earlier other.later f.flow

        reduced : (op : RedOp) → Applies traces region (Reduce op) → IsJudged traces region (record { mode = Reduce op; pair = Some other })
        reduced op h = record { mode = record { applies = h; first = below }; named = f }
          where
            below : (mode : Mode) → row mode < 4 → Applies traces region mode → ⊥
            below Untouched l a = u a
            below ReadOnly l a = w a
            below Shared l a = not_shared a
            below Private l a = not_private a
            below (Reduce o) l a = omega (arith, l)

        none : ((op : RedOp) → Applies traces region (Reduce op) → ⊥) → HasNoMode traces region
        none h Untouched a = u a
        none h ReadOnly a = w a
        none h Shared a = not_shared a
        none h Private a = not_private a
        none h (Reduce op) a = h op a

    written_says : (v : Uses) → (v ≡ Unused → ⊥) → UsesAre traces region v → (c f : Option Pair) → ConflictIs traces region c → FlowIs traces region f → Says (judged_written v c f)
    written_says v n h None f x y = shared x
    written_says v n h (Some pair) None x y = private_ pair x y
    written_says (Only op) n h (Some pair) (Some other) x y = reduced pair x other y op h.1
    written_says Unused n h (Some pair) (Some other) x y = absurd (n refl)
    written_says Mixed n h (Some pair) (Some other) x y = (none pair x other y h.1, y)

  used_says : (v : Uses) → (v ≡ Unused → ⊥) → UsesAre traces region v → (w : Bool) → WrittenIs traces region w → (c f : Option Pair) → ConflictIs traces region c → FlowIs traces region f → Says (judged_used v w c f)
  used_says v n h false w c f x y = read_only (is_used v h n) w
  used_says v n h true w c f x y = written_says (is_used v h n) w v n h c f x y

  says : (v : Uses) → UsesAre traces region v → (w : Bool) → WrittenIs traces region w → (c f : Option Pair) → ConflictIs traces region c → FlowIs traces region f → Says (judged_by v w c f)
  says Unused h w x c f y z = record { mode = record { applies = h; first = λ mode l a. absurd (omega (arith, l)) }; named = tt }
  says (Only op) h w x c f y z = used_says (Only op) (λ e. cc) h w x c f y z
  says Mixed h w x c f y z = used_says Mixed (λ e. cc) h w x c f y z

  pub marked_says : (m : Marks) → IsMarked traces region m → Says (judged_of m)
  marked_says m h = says m.uses h.uses m.written h.written m.conflict m.flow h.conflict h.flow

module _ (traces : List Trace) where
  one_more : (regions : List Interval) (modes : List Judged) (region : Interval) (judged : Judged) → AreJudged traces regions modes → IsJudged traces region judged → AreJudged traces (regions ++ region ∷ []) (modes ++ judged ∷ [])
  one_more [] [] region judged h j = (j, tt)
  one_more [] (m ∷ modes) region judged h j = absurd h
  one_more (r ∷ regions) [] region judged h j = absurd h
  one_more (r ∷ regions) (m ∷ modes) region judged h j = (h.0, one_more regions modes region judged h.1 j)

  at_place : (before rest : List Interval) (region : Interval) → get_or (before ++ region ∷ rest) (length before) region ≡ region
  at_place [] rest region = refl
  at_place (r ∷ before) rest region = at_place before rest region

  -- the verdict by the judgement of a region, those before it being judged
  by_region : (before : List Interval) (modes : List Judged) (region : Interval) (regions : List Interval) (marks : List Marks) (r : Result Judged Pair) → Says traces region r →
      ((judged : Judged) → IsJudged traces region judged → IsRight traces ((before ++ region ∷ []) ++ regions) (verdict_from marks (modes ++ judged ∷ []))) →
      IsRight traces (before ++ region ∷ regions) (verdict_by r (λ judged. verdict_from marks (modes ++ judged ∷ [])))
  by_region before modes region regions marks (Ok judged) j rest = subst (λ (r : List Interval). IsRight traces r (verdict_from marks (modes ++ judged ∷ []))) (append_assoc before (region ∷ []) regions) (rest judged j)
  by_region before modes region regions marks (Err pair) j rest = record { region = region; listed = (length before, omega (arith, length-append before (region ∷ regions)), at_place before regions region); no_mode = j.0; flows = j.1 }

  -- the verdict on the rest of the regions, the ones before them being judged
  right_from : (before : List Interval) (modes : List Judged) (regions : List Interval) (marks : List Marks) → AreJudged traces before modes → AreMarked traces regions marks → IsRight traces (before ++ regions) (verdict_from marks modes)
  right_from before modes [] [] h g = subst (λ (r : List Interval). AreJudged traces r modes) (sym (append-nil before)) h
  right_from before modes [] (m ∷ marks) h g = absurd g
  right_from before modes (region ∷ regions) [] h g = absurd g
  right_from before modes (region ∷ regions) (m ∷ marks) h g =
      by_region before modes region regions marks (judged_of m) (marked_says traces region m g.0) (λ judged j. right_from (before ++ region ∷ []) (modes ++ judged ∷ []) regions marks (one_more before modes region judged h j) g.1)

  pub right : (regions : List Interval) (marks : List Marks) → AreMarked traces regions marks → IsRight traces regions (verdict_from marks [])
  right regions marks g = right_from [] [] regions marks tt g
