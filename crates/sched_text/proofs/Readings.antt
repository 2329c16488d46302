-- What is read of lines is what they spell.
use Rattle.std.proofs.Common.{◌≡◌, ◌≢◌, ℕ, zero, suc, ◌+◌, ◌<◌, ◌≤◌, ◌⊎◌, inl, inr, Bool, true, false, ◌&&◌, ◌==◌, ℤ, [], ◌∷◌, ◌++◌, length, take, drop, map, Option, Some, None, Result, Ok, Err, if◌then◌else◌, refl, sym, ap, subst, ◌∙◌, append_assoc, length-append, arith, rules}
use Rattle.std.proofs.Common as std
use Rattle.std.specs.Prelude.{codes, nat_le, nat_eq, All}
use Rattle.std.specs.Int.{w64, cast_signed}
use Rattle.std.specs.List.{slice_split}
use Rattle.std.specs.Cmp.Lexicographic.{pointwise}
use Rattle.std.proofs.lemmas.Bool.{cases_Bool, and_parts, leb-true, eqb-true, ne_eqb, and_left, cases_order}
use Rattle.std.proofs.lemmas.List.{map-append, append-nil, length-map}
use Rattle.std.proofs.lemmas.List.Elements.{All-cons, All-tail}
use Rattle.std.proofs.lemmas.List.Splits.{length-slice_split}
use Rattle.std.proofs.lemmas.Option.{cond_some}
use Rattle.std.specs.Str.Lines.{lines}
use Rattle.sched_text.specs.declared.schedule.Picks.{Picks}
use Rattle.sched_text.specs.declared.schedule.Picks.TheVariants.{List, Mix}
use Rattle.sched_text.specs.declared.schedule.Schedule.{Schedule}
use Rattle.sched_text.specs.Form.{number_of, numbers_of, before_others, after_word, number_in, numbers_in, in_window, window_of, seed_of, list_of, pushed}
use Rattle.sched_text.specs.Picks.{HasPick}
use Rattle.sched_text.specs.Reading.{bad_end, unless_bad, after_list, lists, as_list, picks_by, picks_from, with_window, schedule_by, schedule_from}
use Rattle.sched_text.specs.Laws.{SpellsOne, HasOneBadLine, TextsAreDecided, SchedulesAreSound}
use Rattle.sched_text.specs.Schedules.{IsSchedule, AreLists, no_list, one_more, SpellPicks, Spells, IsBadLine}

abbrev Line : Type 0
Line = std.List ℕ

abbrev Lines : Type 0
Lines = std.List Line

option_cases : {A : Type 0} (o : Option A) → (o ≡ None) ⊎ ((a : A) × (o ≡ Some a))
option_cases None = inl refl
option_cases (Some a) = inr (a, refl)

same_some : {A : Type 0} (a b : A) → Some a ≡ Some b → a ≡ b
same_some a b h = cc

same_ok : {A E : Type 0} (a b : A) (r : Result A E) → r ≡ Ok a → r ≡ Ok b → a ≡ b
same_ok a b r h k = cc

same_err : {A E : Type 0} (a b : E) (r : Result A E) → r ≡ Err a → r ≡ Err b → a ≡ b
same_err a b r h k = cc

-- ---- empty lines

empty_line : (line : Line) → (length line == 0) ≡ true → line ≡ []
empty_line [] h = refl
empty_line (b ∷ line) h = absurd (omega (arith, eqb-true (length (b ∷ line)) 0 h))

end_yes : (line : Line) (ls : Lines) (n : ℕ) → (length line == 0) ≡ true → bad_end (line ∷ ls) n ≡ bad_end ls (n + 1)
end_yes line ls n h = ap (λ t. if t then bad_end ls (n + 1) else Some n) h

end_no : (line : Line) (ls : Lines) (n : ℕ) → (length line == 0) ≡ false → bad_end (line ∷ ls) n ≡ Some n
end_no line ls n h = ap (λ t. if t then bad_end ls (n + 1) else Some n) h

record BadEnd (ls : Lines) (n m : ℕ) : Type 0 where
  place : ℕ
  is : m ≡ n + place
  within : place < length ls
  here : (rest : Lines) → bad_end (take (suc place) ls ++ rest) n ≡ Some m
  before : (j : ℕ) → j ≤ place → bad_end (take j ls) n ≡ None

end_before : (line : Line) (ls : Lines) (n m : ℕ) → (length line == 0) ≡ true → (b : BadEnd ls (n + 1) m) → (j : ℕ) → j ≤ suc b.place → bad_end (take j (line ∷ ls)) n ≡ None
end_before line ls n m e b zero h = refl
end_before line ls n m e b (suc j) h = end_yes line (take j ls) n e ∙ b.before j (omega arith)

end_later : (line : Line) (ls : Lines) (n m : ℕ) → (length line == 0) ≡ true → BadEnd ls (n + 1) m → BadEnd (line ∷ ls) n m
end_later line ls n m e b = record {
  place = suc b.place;
  is = omega (arith, b.is);
  within = omega (arith, b.within);
  here = λ rest. end_yes line (take (suc b.place) ls ++ rest) n e ∙ b.here rest;
  before = end_before line ls n m e b;
}

nothing_before : (ls : Lines) (n j : ℕ) → j ≤ 0 → bad_end (take j ls) n ≡ None
nothing_before [] n zero h = refl
nothing_before (line ∷ ls) n zero h = refl
nothing_before ls n (suc j) h = absurd (omega arith)

end_now : (line : Line) (ls : Lines) (n m : ℕ) → (length line == 0) ≡ false → n ≡ m → BadEnd (line ∷ ls) n m
end_now line ls n m h e = record {
  place = 0;
  is = omega (arith, e);
  within = omega arith;
  here = λ rest. end_no line rest n h ∙ ap (λ k. Some k) e;
  before = nothing_before (line ∷ ls) n;
}

bad_ends : (ls : Lines) (n m : ℕ) → bad_end ls n ≡ Some m → BadEnd ls n m
bad_ends [] n m h = absurd (cc)
bad_ends (line ∷ ls) n m h =
    elim (cases_Bool (length line == 0)) [
      | inl e ↦ end_later line ls n m e (bad_ends ls (n + 1) m (sym (end_yes line ls n e) ∙ h))
      | inr e ↦ end_now line ls n m e (same_some n m (sym (end_no line ls n e) ∙ h))
    ]

good_ends : (ls : Lines) (n : ℕ) → bad_end ls n ≡ None → All (λ line. line ≡ []) ls
good_ends [] n h = λ k d l. absurd (omega arith)
good_ends (line ∷ ls) n h =
    elim (cases_Bool (length line == 0)) [
      | inl e ↦ All-cons (λ l. l ≡ []) line ls (empty_line line e) (good_ends ls (n + 1) (sym (end_yes line ls n e) ∙ h))
      | inr e ↦ absurd (cc (end_no line ls n e, h))
    ]

all_empty : (ls : Lines) (n : ℕ) → All (λ line. line ≡ []) ls → bad_end ls n ≡ None
all_empty [] n h = refl
all_empty (line ∷ ls) n h =
    end_yes line ls n (ap (λ l. length l == 0) (h 0 [] (omega arith))) ∙ all_empty ls (n + 1) (All-tail (λ l. l ≡ []) line ls h)

-- ---- lines LIST

list_empty : (line : Line) (ls : Lines) (n : ℕ) (picks : std.List ℤ) → (length line == 0) ≡ true → lists (line ∷ ls) n picks ≡ unless_bad (bad_end (line ∷ ls) n) picks
list_empty line ls n picks h = ap (λ t. if t then unless_bad (bad_end (line ∷ ls) n) picks else after_list (pushed (list_of line) picks) (lists ls (n + 1)) n) h

list_no : (line : Line) (ls : Lines) (n : ℕ) (picks : std.List ℤ) → (length line == 0) ≡ false → pushed (list_of line) picks ≡ None → lists (line ∷ ls) n picks ≡ Err n
list_no line ls n picks h p =
    ap (λ t. if t then unless_bad (bad_end (line ∷ ls) n) picks else after_list (pushed (list_of line) picks) (lists ls (n + 1)) n) h
    ∙ ap (λ o. after_list o (lists ls (n + 1)) n) p

list_yes : (line : Line) (ls : Lines) (n : ℕ) (picks more : std.List ℤ) → (length line == 0) ≡ false → pushed (list_of line) picks ≡ Some more → lists (line ∷ ls) n picks ≡ lists ls (n + 1) more
list_yes line ls n picks more h p =
    ap (λ t. if t then unless_bad (bad_end (line ∷ ls) n) picks else after_list (pushed (list_of line) picks) (lists ls (n + 1)) n) h
    ∙ ap (λ o. after_list o (lists ls (n + 1)) n) p

unless_none : {A : Type 0} (o : Option ℕ) (a b : A) → unless_bad o a ≡ Ok b → (o ≡ None) × (a ≡ b)
unless_none None a b h = (refl, same_ok a b (Ok a) refl h)
unless_none (Some n) a b h = absurd (cc)

unless_some : {A : Type 0} (o : Option ℕ) (a : A) (m : ℕ) → unless_bad o a ≡ Err m → o ≡ Some m
unless_some None a m h = absurd (cc)
unless_some (Some n) a m h = ap (λ k. Some k) (same_err n m (Err n) refl h)

record BadList (ls : Lines) (n : ℕ) (picks : std.List ℤ) (m : ℕ) : Type 0 where
  place : ℕ
  is : m ≡ n + place
  within : place < length ls
  here : (rest : Lines) → lists (take (suc place) ls ++ rest) n picks ≡ Err m
  before : (j : ℕ) → j ≤ place → (all : std.List ℤ) × (lists (take j ls) n picks ≡ Ok all)

list_end_before : (line : Line) (ls : Lines) (n : ℕ) (picks : std.List ℤ) (m : ℕ) → (length line == 0) ≡ true → (b : BadEnd (line ∷ ls) n m) → (j : ℕ) → j ≤ b.place → (all : std.List ℤ) × (lists (take j (line ∷ ls)) n picks ≡ Ok all)
list_end_before line ls n picks m e b zero h = (picks, refl)
list_end_before line ls n picks m e b (suc j) h =
    (picks, list_empty line (take j ls) n picks e ∙ ap (λ o. unless_bad o picks) (b.before (suc j) h))

list_end : (line : Line) (ls : Lines) (n : ℕ) (picks : std.List ℤ) (m : ℕ) → (length line == 0) ≡ true → BadEnd (line ∷ ls) n m → BadList (line ∷ ls) n picks m
list_end line ls n picks m e b = record {
  place = b.place;
  is = b.is;
  within = b.within;
  here = λ rest. list_empty line (take b.place ls ++ rest) n picks e ∙ ap (λ o. unless_bad o picks) (b.here rest);
  before = list_end_before line ls n picks m e b;
}

list_later_before : (line : Line) (ls : Lines) (n : ℕ) (picks more : std.List ℤ) (m : ℕ) → (length line == 0) ≡ false → pushed (list_of line) picks ≡ Some more → (b : BadList ls (n + 1) more m) → (j : ℕ) → j ≤ suc b.place → (all : std.List ℤ) × (lists (take j (line ∷ ls)) n picks ≡ Ok all)
list_later_before line ls n picks more m e p b zero h = (picks, refl)
list_later_before line ls n picks more m e p b (suc j) h =
    let (all, is) = b.before j (omega arith) in (all, list_yes line (take j ls) n picks more e p ∙ is)

list_later : (line : Line) (ls : Lines) (n : ℕ) (picks more : std.List ℤ) (m : ℕ) → (length line == 0) ≡ false → pushed (list_of line) picks ≡ Some more → BadList ls (n + 1) more m → BadList (line ∷ ls) n picks m
list_later line ls n picks more m e p b = record {
  place = suc b.place;
  is = omega (arith, b.is);
  within = omega (arith, b.within);
  here = λ rest. list_yes line (take (suc b.place) ls ++ rest) n picks more e p ∙ b.here rest;
  before = list_later_before line ls n picks more m e p b;
}

no_lists_before : (ls : Lines) (n : ℕ) (picks : std.List ℤ) (j : ℕ) → j ≤ 0 → (all : std.List ℤ) × (lists (take j ls) n picks ≡ Ok all)
no_lists_before [] n picks zero h = (picks, refl)
no_lists_before (line ∷ ls) n picks zero h = (picks, refl)
no_lists_before ls n picks (suc j) h = absurd (omega arith)

list_now : (line : Line) (ls : Lines) (n : ℕ) (picks : std.List ℤ) (m : ℕ) → (length line == 0) ≡ false → pushed (list_of line) picks ≡ None → n ≡ m → BadList (line ∷ ls) n picks m
list_now line ls n picks m e p is = record {
  place = 0;
  is = omega (arith, is);
  within = omega arith;
  here = λ rest. list_no line rest n picks e p ∙ ap (λ k. Err k) is;
  before = no_lists_before (line ∷ ls) n picks;
}

bad_lists : (ls : Lines) (n : ℕ) (picks : std.List ℤ) (m : ℕ) → lists ls n picks ≡ Err m → BadList ls n picks m
bad_lists [] n picks m h = absurd (cc)
bad_lists (line ∷ ls) n picks m h =
    elim (cases_Bool (length line == 0)) [
      | inl e ↦ list_end line ls n picks m e (bad_ends (line ∷ ls) n m (unless_some (bad_end (line ∷ ls) n) picks m (sym (list_empty line ls n picks e) ∙ h)))
      | inr e ↦ elim (option_cases (pushed (list_of line) picks)) [
        | inl p ↦ list_now line ls n picks m e p (same_err n m (lists (line ∷ ls) n picks) (list_no line ls n picks e p) h)
        | inr (more, p) ↦ list_later line ls n picks more m e p (bad_lists ls (n + 1) more m (sym (list_yes line ls n picks more e p) ∙ h))
      ]
    ]

-- how lists and empty lines after them are cut
record Cut (ls : Lines) (picks all : std.List ℤ) : Type 0 where
  middle : Lines
  ends : Lines
  numbers : std.List ℕ
  whole : ls ≡ middle ++ ends
  are : AreLists middle numbers
  adds : all ≡ picks ++ map (cast_signed w64) numbers
  empty : All (λ line. line ≡ []) ends

nothing_more : (picks : std.List ℤ) → picks ≡ picks ++ map (cast_signed w64) []
nothing_more picks = sym (append-nil picks)

cut_here : (ls : Lines) (picks all : std.List ℤ) → All (λ line. line ≡ []) ls → picks ≡ all → Cut ls picks all
cut_here ls picks all h e = record { middle = []; ends = ls; numbers = []; whole = refl; are = no_list; adds = sym e ∙ nothing_more picks; empty = h }

pushed_parts : (o : Option (std.List ℕ)) (picks more : std.List ℤ) → pushed o picks ≡ Some more → (ns : std.List ℕ) × (o ≡ Some ns) × (picks ++ map (cast_signed w64) ns ≡ more)
pushed_parts None picks more h = absurd (cc)
pushed_parts (Some ns) picks more h = (ns, refl, same_some (picks ++ map (cast_signed w64) ns) more h)

cut_more : (line : Line) (ls : Lines) (picks more all : std.List ℤ) → pushed (list_of line) picks ≡ Some more → Cut ls more all → Cut (line ∷ ls) picks all
cut_more line ls picks more all p c =
    let (ns, is, adds) = pushed_parts (list_of line) picks more p in
    record {
      middle = line ∷ c.middle;
      ends = c.ends;
      numbers = ns ++ c.numbers;
      whole = ap (λ z. line ∷ z) c.whole;
      are = one_more line c.middle ns c.numbers is c.are;
      adds = c.adds ∙ ap (λ z. z ++ map (cast_signed w64) c.numbers) (sym adds) ∙ append_assoc picks (map (cast_signed w64) ns) (map (cast_signed w64) c.numbers) ∙ ap (λ z. picks ++ z) (sym (map-append (cast_signed w64) ns c.numbers));
      empty = c.empty;
    }

good_lists : (ls : Lines) (n : ℕ) (picks all : std.List ℤ) → lists ls n picks ≡ Ok all → Cut ls picks all
good_lists [] n picks all h = cut_here [] picks all (λ k d l. absurd (omega arith)) (same_ok picks all (Ok picks) refl h)
good_lists (line ∷ ls) n picks all h =
    elim (cases_Bool (length line == 0)) [
      | inl e ↦ (let parts = unless_none (bad_end (line ∷ ls) n) picks all (sym (list_empty line ls n picks e) ∙ h) in cut_here (line ∷ ls) picks all (good_ends (line ∷ ls) n parts.0) parts.1)
      | inr e ↦ elim (option_cases (pushed (list_of line) picks)) [
        | inl p ↦ absurd (cc (list_no line ls n picks e p, h))
        | inr (more, p) ↦ cut_more line ls picks more all p (good_lists ls (n + 1) more all (sym (list_yes line ls n picks more e p) ∙ h))
      ]
    ]

-- a line LIST isn't empty, and is no line MIX
list_filled : (line : Line) (ns : std.List ℕ) → list_of line ≡ Some ns → (length line == 0) ≡ false
unfolding after_word
list_filled [] ns h = absurd (cc)
list_filled (b ∷ line) ns h = ne_eqb (suc (length line)) 0 (λ e. omega arith)

after_no : (word line : Line) → pointwise nat_eq (take (length word) line) word ≡ false → after_word word line ≡ None
unfolding after_word
after_no word line h = ap (λ t. if t then Some (drop (length word) line) else None) h

other_word : (b : ℕ) (line : Line) → nat_eq b 76 ≡ true → seed_of (b ∷ line) ≡ None
other_word b line h =
    ap number_in (after_no (codes "MIX ") (b ∷ line) (and_left (nat_eq b 77) (pointwise nat_eq (take 3 line) (codes "IX ")) (ap (λ x. nat_eq x 77) (eqb-true b 76 h))))

not_listed : (b : ℕ) (line : Line) → nat_eq b 76 ≡ false → list_of (b ∷ line) ≡ None
not_listed b line h =
    ap numbers_in (after_no (codes "LIST ") (b ∷ line) (and_left (nat_eq b 76) (pointwise nat_eq (take 4 line) (codes "IST ")) h))

no_seed : (line : Line) (ns : std.List ℕ) → list_of line ≡ Some ns → seed_of line ≡ None
unfolding after_word
no_seed [] ns h = refl
no_seed (b ∷ line) ns h =
    elim (cases_Bool (nat_eq b 76)) [
      | inl e ↦ other_word b line e
      | inr e ↦ absurd (cc (not_listed b line e, h))
    ]

no_lists : (ends : Lines) (n : ℕ) (picks : std.List ℤ) → All (λ line. line ≡ []) ends → lists ends n picks ≡ Ok picks
no_lists [] n picks h = refl
no_lists (line ∷ ls) n picks h =
    list_empty line ls n picks (ap (λ l. length l == 0) (h 0 [] (omega arith))) ∙ ap (λ o. unless_bad o picks) (all_empty (line ∷ ls) n h)

whole_lists : (middle ends : Lines) (numbers : std.List ℕ) (n : ℕ) (picks : std.List ℤ) → AreLists middle numbers → All (λ line. line ≡ []) ends → lists (middle ++ ends) n picks ≡ Ok (picks ++ map (cast_signed w64) numbers)
whole_lists middle ends numbers n picks no_list h = no_lists ends n picks h ∙ ap (λ z. Ok z) (nothing_more picks)
whole_lists middle ends numbers n picks (one_more line ls ns others is are) h =
    list_yes line (ls ++ ends) n picks (picks ++ map (cast_signed w64) ns) (list_filled line ns is) (ap (λ o. pushed o picks) is)
    ∙ whole_lists ls ends others (n + 1) (picks ++ map (cast_signed w64) ns) are h
    ∙ ap (λ z. Ok z) (append_assoc picks (map (cast_signed w64) ns) (map (cast_signed w64) others) ∙ ap (λ z. picks ++ z) (sym (map-append (cast_signed w64) ns others)))

-- ---- the whole

first_window : window_of (codes "WINDOW 1") ≡ Some 1
unfolding after_word number_of
first_window = refl

first_seed : seed_of (codes "MIX 0") ≡ Some 0
unfolding after_word number_of
first_seed = refl

-- the lines that are missing
with_mix : (first : Line) (w : ℕ) → window_of first ≡ Some w → schedule_from (first ∷ codes "MIX 0" ∷ []) ≡ Ok (record { window = w; picks = Mix 0 })
with_mix first w h =
    ap (λ o. schedule_by o (codes "MIX 0" ∷ [])) h ∙ ap (λ o. with_window w (picks_by o (codes "MIX 0") [])) first_seed

record Bad (ls : Lines) (m : ℕ) : Type 0 where
  place : ℕ
  is : m ≡ suc place
  within : place ≤ length ls
  here : place < length ls → (rest : Lines) → schedule_from (take (suc place) ls ++ rest) ≡ Err m
  before : (j : ℕ) → j ≤ place → (rest : Lines) × (schedule : Schedule) × (schedule_from (take j ls ++ rest) ≡ Ok schedule)

-- with nothing before it
nothing_read : (ls : Lines) → (rest : Lines) × (schedule : Schedule) × (schedule_from (take 0 ls ++ rest) ≡ Ok schedule)
nothing_read [] = (codes "WINDOW 1" ∷ codes "MIX 0" ∷ [], record { window = 1; picks = Mix 0 }, with_mix (codes "WINDOW 1") 1 first_window)
nothing_read (line ∷ ls) = (codes "WINDOW 1" ∷ codes "MIX 0" ∷ [], record { window = 1; picks = Mix 0 }, with_mix (codes "WINDOW 1") 1 first_window)

none_before : (ls : Lines) (j : ℕ) → j ≤ 0 → (rest : Lines) × (schedule : Schedule) × (schedule_from (take j ls ++ rest) ≡ Ok schedule)
none_before ls zero h = nothing_read ls
none_before ls (suc j) h = absurd (omega arith)

one_before : (first : Line) (ls : Lines) (w : ℕ) → window_of first ≡ Some w → (j : ℕ) → j ≤ 1 → (rest : Lines) × (schedule : Schedule) × (schedule_from (take j (first ∷ ls) ++ rest) ≡ Ok schedule)
one_before first ls w h zero l = nothing_read (first ∷ ls)
one_before first [] w h (suc zero) l = (codes "MIX 0" ∷ [], record { window = w; picks = Mix 0 }, with_mix first w h)
one_before first (line ∷ ls) w h (suc zero) l = (codes "MIX 0" ∷ [], record { window = w; picks = Mix 0 }, with_mix first w h)
one_before first ls w h (suc (suc j)) l = absurd (omega arith)

-- how the picks go wrong from line 3 on
record BadMore (second : Line) (ls : Lines) (m : ℕ) : Type 0 where
  place : ℕ
  is : m ≡ 3 + place
  within : place < length ls
  here : (rest : Lines) → picks_from (second ∷ (take (suc place) ls ++ rest)) ≡ Err m
  before : (j : ℕ) → j ≤ place → (p : Picks) × (picks_from (second ∷ take j ls) ≡ Ok p)

later_before : (first second : Line) (ls : Lines) (w m : ℕ) → window_of first ≡ Some w → (b : BadMore second ls m) → (j : ℕ) → j ≤ suc (suc b.place) → (rest : Lines) × (schedule : Schedule) × (schedule_from (take j (first ∷ second ∷ ls) ++ rest) ≡ Ok schedule)
later_before first second ls w m h b zero l = nothing_read (first ∷ second ∷ ls)
later_before first second ls w m h b (suc zero) l = one_before first (second ∷ ls) w h 1 (omega arith)
later_before first second ls w m h b (suc (suc j)) l =
    let (p, is) = b.before j (omega arith) in
    ([], record { window = w; picks = p }, ap (λ z. schedule_from (first ∷ second ∷ z)) (append-nil (take j ls)) ∙ ap (λ o. schedule_by o (second ∷ take j ls)) h ∙ ap (with_window w) is)

bad_later : (first second : Line) (ls : Lines) (w m : ℕ) → window_of first ≡ Some w → BadMore second ls m → Bad (first ∷ second ∷ ls) m
bad_later first second ls w m h b = record {
  place = suc (suc b.place);
  is = omega (arith, b.is);
  within = omega (arith, b.within);
  here = λ l rest. ap (λ o. schedule_by o (second ∷ (take (suc b.place) ls ++ rest))) h ∙ ap (with_window w) (b.here rest);
  before = later_before first second ls w m h b;
}

bad_second : (first second : Line) (ls : Lines) (w m : ℕ) → window_of first ≡ Some w → 2 ≡ m → ((rest : Lines) → picks_from (second ∷ rest) ≡ Err 2) → Bad (first ∷ second ∷ ls) m
bad_second first second ls w m h e never = record {
  place = 1;
  is = omega (arith, e);
  within = omega arith;
  here = λ l rest. ap (λ o. schedule_by o (second ∷ rest)) h ∙ ap (with_window w) (never rest) ∙ ap (λ k. Err k) e;
  before = one_before first (second ∷ ls) w h;
}

with_window_err : (w : ℕ) (r : Result Picks ℕ) (m : ℕ) → with_window w r ≡ Err m → r ≡ Err m
with_window_err w (Ok p) m h = absurd (cc)
with_window_err w (Err n) m h = ap (λ k. Err k) (same_err n m (with_window w (Err n)) refl h)

with_window_ok : (w : ℕ) (r : Result Picks ℕ) (s : Schedule) → with_window w r ≡ Ok s → (p : Picks) × (r ≡ Ok p) × (record { window = w; picks = p } ≡ s)
with_window_ok w (Ok p) s h = (p, refl, same_ok (record { window = w; picks = p }) s (with_window w (Ok p)) refl h)
with_window_ok w (Err n) s h = absurd (cc)

as_list_err : (r : Result (std.List ℤ) ℕ) (m : ℕ) → as_list r ≡ Err m → r ≡ Err m
as_list_err (Ok p) m h = absurd (cc)
as_list_err (Err n) m h = ap (λ k. Err k) (same_err n m (as_list (Err n)) refl h)

as_list_ok : (r : Result (std.List ℤ) ℕ) (p : Picks) → as_list r ≡ Ok p → (all : std.List ℤ) × (r ≡ Ok all) × (List all ≡ p)
as_list_ok (Ok all) p h = (all, refl, same_ok (List all) p (as_list (Ok all)) refl h)
as_list_ok (Err n) p h = absurd (cc)

by_mix : (second : Line) (seed : ℕ) (ls : Lines) → seed_of second ≡ Some seed → picks_from (second ∷ ls) ≡ unless_bad (bad_end ls 3) (Mix seed)
by_mix second seed ls h = ap (λ o. picks_by o second ls) h

by_lists : (second : Line) (ls : Lines) → seed_of second ≡ None → picks_from (second ∷ ls) ≡ as_list (after_list (pushed (list_of second) []) (lists ls 3) 2)
by_lists second ls h = ap (λ o. picks_by o second ls) h

more_from_end : (second : Line) (seed : ℕ) (ls : Lines) (m : ℕ) → seed_of second ≡ Some seed → BadEnd ls 3 m → BadMore second ls m
more_from_end second seed ls m h b = record {
  place = b.place;
  is = b.is;
  within = b.within;
  here = λ rest. by_mix second seed (take (suc b.place) ls ++ rest) h ∙ ap (λ o. unless_bad o (Mix seed)) (b.here rest);
  before = λ j l. (Mix seed, by_mix second seed (take j ls) h ∙ ap (λ o. unless_bad o (Mix seed)) (b.before j l));
}

more_from_list : (second : Line) (ls : Lines) (picks : std.List ℤ) (m : ℕ) → seed_of second ≡ None → pushed (list_of second) [] ≡ Some picks → BadList ls 3 picks m → BadMore second ls m
more_from_list second ls picks m h p b = record {
  place = b.place;
  is = b.is;
  within = b.within;
  here = λ rest. by_lists second (take (suc b.place) ls ++ rest) h ∙ ap (λ o. as_list (after_list o (lists (take (suc b.place) ls ++ rest) 3) 2)) p ∙ ap as_list (b.here rest);
  before = λ j l. let (all, is) = b.before j l in (List all, by_lists second (take j ls) h ∙ ap (λ o. as_list (after_list o (lists (take j ls) 3) 2)) p ∙ ap as_list is);
}

bad_picks : (first second : Line) (ls : Lines) (w m : ℕ) → window_of first ≡ Some w → picks_from (second ∷ ls) ≡ Err m → Bad (first ∷ second ∷ ls) m
bad_picks first second ls w m h e =
    elim (option_cases (seed_of second)) [
      | inr (seed, s) ↦ bad_later first second ls w m h (more_from_end second seed ls m s (bad_ends ls 3 m (unless_some (bad_end ls 3) (Mix seed) m (sym (by_mix second seed ls s) ∙ e))))
      | inl s ↦ elim (option_cases (pushed (list_of second) [])) [
        | inl p ↦ (let never : (rest : Lines) → picks_from (second ∷ rest) ≡ Err 2 = λ rest. by_lists second rest s ∙ ap (λ o. as_list (after_list o (lists rest 3) 2)) p in bad_second first second ls w m h (same_err 2 m (picks_from (second ∷ ls)) (never ls) e) never)
        | inr (picks, p) ↦ bad_later first second ls w m h (more_from_list second ls picks m s p (bad_lists ls 3 picks m (as_list_err (lists ls 3 picks) m (ap (λ o. as_list (after_list o (lists ls 3) 2)) (sym p) ∙ sym (by_lists second ls s) ∙ e))))
      ]
    ]

bad_missing : (first : Line) (w m : ℕ) → window_of first ≡ Some w → 2 ≡ m → Bad (first ∷ []) m
bad_missing first w m h e = record {
  place = 1;
  is = omega (arith, e);
  within = omega arith;
  here = λ l rest. absurd (omega arith);
  before = one_before first [] w h;
}

bad_after : (first : Line) (ls : Lines) (w m : ℕ) → window_of first ≡ Some w → picks_from ls ≡ Err m → Bad (first ∷ ls) m
bad_after first [] w m h e = bad_missing first w m h (same_err 2 m (picks_from []) refl e)
bad_after first (second ∷ ls) w m h e = bad_picks first second ls w m h e

bad_first : (first : Line) (ls : Lines) (m : ℕ) → window_of first ≡ None → 1 ≡ m → Bad (first ∷ ls) m
bad_first first ls m h e = record {
  place = 0;
  is = omega (arith, e);
  within = omega arith;
  here = λ l rest. ap (λ o. schedule_by o rest) h ∙ ap (λ k. Err k) e;
  before = none_before (first ∷ ls);
}

bad_lines : (ls : Lines) (m : ℕ) → schedule_from ls ≡ Err m → Bad ls m
bad_lines [] m h = record {
  place = 0;
  is = omega (arith, same_err 1 m (schedule_from []) refl h);
  within = omega arith;
  here = λ l rest. absurd (omega arith);
  before = none_before [];
}
bad_lines (first ∷ ls) m h =
    elim (option_cases (window_of first)) [
      | inl e ↦ bad_first first ls m e (same_err 1 m (schedule_from (first ∷ ls)) (ap (λ o. schedule_by o ls) e) h)
      | inr (w, e) ↦ bad_after first ls w m e (with_window_err w (picks_from ls) m (ap (λ o. schedule_by o ls) (sym e) ∙ h))
    ]

-- ---- what is read is spelled

picks_spelled : (first second : Line) (ls : Lines) (w : ℕ) (p : Picks) → window_of first ≡ Some w → picks_from (second ∷ ls) ≡ Ok p → Spells (first ∷ second ∷ ls) (record { window = w; picks = p })
picks_spelled first second ls w p h e =
    elim (option_cases (seed_of second)) [
      | inr (seed, s) ↦ (
          let parts = unless_none (bad_end ls 3) (Mix seed) p (sym (by_mix second seed ls s) ∙ e) in
          let read : SpellPicks (second ∷ []) (Mix seed) = (second, refl, s) in
          record { first = first; middle = second ∷ []; ends = ls; whole = refl; window = h; picks = subst (SpellPicks (second ∷ [])) parts.1 read; empty = good_ends ls 3 parts.0 })
      | inl s ↦ elim (option_cases (pushed (list_of second) [])) [
        | inl o ↦ absurd (cc (by_lists second ls s ∙ ap (λ o. as_list (after_list o (lists ls 3) 2)) o, e))
        | inr (picks, o) ↦ (
            let (ns, is, adds) = pushed_parts (list_of second) [] picks o in
            let (all, read, same) = as_list_ok (lists ls 3 picks) p (ap (λ o. as_list (after_list o (lists ls 3) 2)) (sym o) ∙ sym (by_lists second ls s) ∙ e) in
            let c = good_lists ls 3 picks all read in
            let value : all ≡ map (cast_signed w64) (ns ++ c.numbers) = c.adds ∙ ap (λ z. z ++ map (cast_signed w64) c.numbers) (sym adds) ∙ sym (map-append (cast_signed w64) ns c.numbers) in
            let spelled : SpellPicks (second ∷ c.middle) (List all) = (ns ++ c.numbers, (λ e. cc), one_more second c.middle ns c.numbers is c.are, value) in
            record { first = first; middle = second ∷ c.middle; ends = c.ends; whole = ap (λ z. first ∷ second ∷ z) c.whole; window = h; picks = subst (SpellPicks (second ∷ c.middle)) same spelled; empty = c.empty })
      ]
    ]

after_spelled : (first : Line) (ls : Lines) (w : ℕ) (p : Picks) → window_of first ≡ Some w → picks_from ls ≡ Ok p → Spells (first ∷ ls) (record { window = w; picks = p })
after_spelled first [] w p h e = absurd (cc)
after_spelled first (second ∷ ls) w p h e = picks_spelled first second ls w p h e

pub is_spelled : (ls : Lines) (s : Schedule) → schedule_from ls ≡ Ok s → Spells ls s
is_spelled [] s h = absurd (cc)
is_spelled (first ∷ ls) s h =
    elim (option_cases (window_of first)) [
      | inl e ↦ absurd (cc (ap (λ o. schedule_by o ls) e, h))
      | inr (w, e) ↦ (let (p, read, same) = with_window_ok w (picks_from ls) s (ap (λ o. schedule_by o ls) (sym e) ∙ h) in subst (Spells (first ∷ ls)) same (after_spelled first ls w p e read))
    ]

-- ---- what is spelled is read

read_mix : (first line : Line) (ends : Lines) (w seed : ℕ) → window_of first ≡ Some w → seed_of line ≡ Some seed → All (λ line. line ≡ []) ends → schedule_from (first ∷ line ∷ ends) ≡ Ok (record { window = w; picks = Mix seed })
read_mix first line ends w seed h s empty =
    ap (λ o. schedule_by o (line ∷ ends)) h ∙ ap (with_window w) (by_mix line seed ends s ∙ ap (λ o. unless_bad o (Mix seed)) (all_empty ends 3 empty))

read_list : (first : Line) (middle ends : Lines) (w : ℕ) (numbers : std.List ℕ) → window_of first ≡ Some w → middle ≢ [] → AreLists middle numbers → All (λ line. line ≡ []) ends → schedule_from (first ∷ (middle ++ ends)) ≡ Ok (record { window = w; picks = List (map (cast_signed w64) numbers) })
read_list first middle ends w numbers h some no_list empty = absurd (some refl)
read_list first middle ends w numbers h some (one_more line ls ns others is are) empty =
    ap (λ o. schedule_by o (line ∷ (ls ++ ends))) h
    ∙ ap (with_window w) (
    by_lists line (ls ++ ends) (no_seed line ns is)
    ∙ ap (λ o. as_list (after_list (pushed o []) (lists (ls ++ ends) 3) 2)) is
    ∙ ap as_list (whole_lists ls ends others 3 (map (cast_signed w64) ns) are empty ∙ ap (λ z. Ok z) (sym (map-append (cast_signed w64) ns others))))

read_picks : (first : Line) (middle ends : Lines) (w : ℕ) (p : Picks) → window_of first ≡ Some w → SpellPicks middle p → All (λ line. line ≡ []) ends → schedule_from (first ∷ (middle ++ ends)) ≡ Ok (record { window = w; picks = p })
read_picks first middle ends w (Mix seed) h (line, is, s) empty =
    ap (λ z. schedule_from (first ∷ (z ++ ends))) is ∙ read_mix first line ends w seed h s empty
read_picks first middle ends w (List picks) h (numbers, some, are, is) empty =
    read_list first middle ends w numbers h some are empty ∙ ap (λ z. Ok (record { window = w; picks = List z })) (sym is)

pub is_read : (ls : Lines) (s : Schedule) → Spells ls s → schedule_from ls ≡ Ok s
is_read ls s c = ap schedule_from c.whole ∙ read_picks c.first c.middle c.ends s.window s.picks c.window c.picks c.empty

-- ---- the bad line

pub is_bad : (ls : Lines) (m : ℕ) → schedule_from ls ≡ Err m → IsBadLine ls m
is_bad ls m h =
    let b = bad_lines ls m h in
    record {
      counted = (omega (arith, b.is), omega (arith, b.is, b.within));
      unspelled = λ s spelled. absurd (cc (is_read ls s spelled, h));
      before = λ j l. (let (rest, s, is) = b.before j (omega (arith, b.is)) in (rest, s, is_spelled (take j ls ++ rest) s is));
      here = λ l (rest, s, spelled). (let is : schedule_from (take (suc b.place) ls ++ rest) ≡ Err m = b.here (omega (arith, b.is)) rest in absurd (cc (is_read (take m ls ++ rest) s spelled, ap (λ k. schedule_from (take k ls ++ rest)) b.is, is)));
    }

-- ---- laws

result_cases : (r : Result Schedule ℕ) → ((s : Schedule) × (r ≡ Ok s)) ⊎ ((m : ℕ) × (r ≡ Err m))
result_cases (Ok s) = inl (s, refl)
result_cases (Err m) = inr (m, refl)

one_bad_line : (ls : Lines) (m k : ℕ) → IsBadLine ls m → IsBadLine ls k → k ≡ m
one_bad_line ls m k b c =
    elim (cases_order k m) [
      | inl e ↦ e
      | inr less ↦ elim less [
        | inl l ↦ absurd (c.here (omega (arith, l, b.counted.1)) (b.before k l))
        | inr l ↦ absurd (b.here (omega (arith, l, c.counted.1)) (c.before m l))
      ]
    ]

decided : (ls : Lines) → SpellsOne ls ⊎ HasOneBadLine ls
decided ls =
    elim (result_cases (schedule_from ls)) [
      | inl (s, e) ↦ inl (s, is_spelled ls s e, λ other spelled. same_ok other s (schedule_from ls) (is_read ls other spelled) e)
      | inr (m, e) ↦ inr (m, is_bad ls m e, λ k b. one_bad_line ls m k (is_bad ls m e) b)
    ]

pub texts_decided : TextsAreDecided
texts_decided text = decided (lines text)

-- a schedule can be picked from
before_parts : (o : Option ℕ) (os : Option (std.List ℕ)) (ns : std.List ℕ) → before_others o os ≡ Some ns → (others : std.List ℕ) × (os ≡ Some others) × (length ns ≡ suc (length others))
before_parts None os ns h = absurd (cc)
before_parts (Some n) None ns h = absurd (cc)
before_parts (Some n) (Some others) ns h = (others, refl, sym (ap length (same_some (n ∷ others) ns h)))

numbers_length : (ts : Lines) (ns : std.List ℕ) → numbers_of ts ≡ Some ns → length ns ≡ length ts
numbers_length [] ns h = sym (ap length (same_some [] ns h))
numbers_length (t ∷ ts) ns h =
    let (others, is, size) = before_parts (number_of t) (numbers_of ts) ns h in size ∙ ap (λ n. suc n) (numbers_length ts others is)

some_numbers : (o : Option Line) (ns : std.List ℕ) → numbers_in o ≡ Some ns → 0 < length ns
some_numbers None ns h = absurd (cc)
some_numbers (Some texts) ns h = omega (arith, numbers_length (slice_split (λ b. b == 32) texts) ns h, length-slice_split (λ b. b == 32) texts)

some_listed : (middle : Lines) (numbers : std.List ℕ) → middle ≢ [] → AreLists middle numbers → 0 < length numbers
some_listed middle numbers some no_list = absurd (some refl)
some_listed middle numbers some (one_more line ls ns others is are) = omega (arith, length-append ns others, some_numbers (after_word (codes "LIST ") line) ns is)

has_pick : (middle : Lines) (p : Picks) → SpellPicks middle p → HasPick p
has_pick middle (Mix seed) h = tt
has_pick middle (List picks) (numbers, some, are, is) = omega (arith, ap length is, length-map numbers (cast_signed w64), some_listed middle numbers some are)

in_bounds : (o : Option ℕ) (w : ℕ) → in_window o ≡ Some w → (1 ≤ w) × (w ≤ 4096)
in_bounds None w h = absurd (cc)
in_bounds (Some n) w h =
    let (yes', same) = cond_some (nat_le 1 n && nat_le n 4096) n w h in
    let parts = and_parts (nat_le 1 n) (nat_le n 4096) yes' in
    (omega (arith, same, leb-true 1 n parts.0), omega (arith, same, leb-true n 4096 parts.1))

pub is_sound : (ls : Lines) (s : Schedule) → Spells ls s → IsSchedule s
is_sound ls s c = record {
  window = in_bounds (number_in (after_word (codes "WINDOW ") c.first)) s.window c.window;
  pick = has_pick c.middle s.picks c.picks;
}

pub schedules_sound : SchedulesAreSound
schedules_sound text s c = is_sound (lines text) s c
