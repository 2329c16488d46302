-- What is known of the statements that follow, after going back by one more.
use Rattle.std.proofs.Common.{◌≡◌, ℕ, zero, suc, ◌+◌, ◌-◌, ◌<◌, ◌≤◌, Bool, true, false, cond, not, ◌&&◌, List, [], ◌∷◌, ◌++◌, take, drop, get_or, length, reverse, Option, None, Some, refl, sym, ap, ◌∙◌, subst, arith, if◌then◌else◌, append-nil, add-one}
use Rattle.std.proofs.lemmas.Bool.Decides.{nat_tests}
use Rattle.std.proofs.lemmas.List.{reverse-append, drop_more}
use Rattle.std.specs.List.{list_all}
use Rattle.std.specs.Option.{unwrap_or, option_map, option_map_or, option_to_list}
use Rattle.f77_ast.specs.declared.program.Listed.{Listed}
use Rattle.f77_loops.specs.declared.following.Following.{Following}
use Rattle.f77_loops.specs.declared.ranges.Range.{Range}
use Rattle.f77_loops.specs.Following.{last_by, is_closed_to, range_by, Knows}
use Rattle.f77_loops.specs.Ranges.{range_from, ranges_in, barrier_in}
use Rattle.f77_structure.specs.Labels.{has_label, distance_to}
use Rattle.f77_structure.specs.Statements.{terminal_label, is_barrier}
use Rattle.f77_structure.specs.Targets.{place_of}

-- ---- closed loops

-- whether a loop may be closed with a statement in its range
abbrev is_open : Listed → Bool
is_open listed = not (is_barrier listed.stmt)

-- a barrier stands at the first of its statements or behind it
barrier_behind : (listing : List Listed) (number last : ℕ) → last < number → is_closed_to last (barrier_in number listing) ≡ true
barrier_behind [] number last h = refl
barrier_behind (x ∷ xs) number last h = by (is_barrier x.stmt) (barrier_behind xs (suc number) last (omega arith))
  where
    by : (b : Bool) → is_closed_to last (barrier_in (suc number) xs) ≡ true → is_closed_to last (if b then Some number else barrier_in (suc number) xs) ≡ true
    by false rest = rest
    by true rest = grind (arith, nat_tests)

-- the barrier stands behind so many statements exactly where all of them may be in a closed loop
is_closed_to-is_all : (listing : List Listed) (number distance : ℕ) → is_closed_to (number + distance) (barrier_in number listing) ≡ list_all is_open (take (suc distance) listing)
is_closed_to-is_all [] number distance = refl
is_closed_to-is_all (x ∷ xs) number distance = by (is_barrier x.stmt) distance (is_closed_to-is_all xs (suc number))
  where
    by : (b : Bool) (d : ℕ) → ((d : ℕ) → is_closed_to (suc number + d) (barrier_in (suc number) xs) ≡ list_all is_open (take (suc d) xs)) → is_closed_to (number + d) (if b then Some number else barrier_in (suc number) xs) ≡ (not b && list_all is_open (take d xs))
    by false zero rest = barrier_behind xs (suc number) (number + 0) (omega arith)
    by false (suc d) rest =
        let same : number + suc d ≡ suc number + d = omega arith in
        ap (λ n. is_closed_to n (barrier_in (suc number) xs)) same ∙ rest d
    by true d rest = grind (arith, nat_tests)

-- ---- labels

-- how far it is to a label from one statement before
distance_before : (number label : ℕ) (listed : Listed) (following : List Listed) → number + distance_to label (listed ∷ following) ≡ cond (has_label label listed) number (number + 1 + distance_to label following)
distance_before number label listed following = by (has_label label listed)
  where
    by : (b : Bool) → number + cond (not b) (1 + distance_to label following) 0 ≡ cond b number (number + 1 + distance_to label following)
    by true = omega arith
    by false = omega arith

last_before : (number label : ℕ) (listed : Listed) (following : List Listed) (old new : Following) → Knows (number + 1) following old → new.end ≡ old.end → place_of new.targets label ≡ (if has_label label listed then Some number else place_of old.targets label) → last_by new label ≡ number + distance_to label (listed ∷ following)
last_before number label listed following old new knows behind noted =
    ap (λ o. unwrap_or o new.end) noted
    ∙ ap (λ n. unwrap_or (if has_label label listed then Some number else place_of old.targets label) n) behind
    ∙ by (has_label label listed)
    ∙ sym (distance_before number label listed following)
  where
    by : (b : Bool) → unwrap_or (if b then Some number else place_of old.targets label) old.end ≡ cond b number (number + 1 + distance_to label following)
    by true = refl
    by false = knows.labels label

-- ---- ranges

-- the range of a DO statement that stands before what is known
range_before : (number label : ℕ) (following : List Listed) (known : Following) → Knows (number + 1) following known → range_by known label ≡ range_from number label following
range_before number label following known knows =
    ap (λ n. range n (is_closed_to n known.barrier)) (knows.labels label)
    ∙ ap (range (number + 1 + distance_to label following)) closed
  where
    range : ℕ → Bool → Range
    range last closed = record { last = last; closed = closed }

    one_more : suc (distance_to label following) ≡ 1 + distance_to label following
    one_more = omega arith

    closed : is_closed_to (number + 1 + distance_to label following) known.barrier ≡ list_all is_open (take (1 + distance_to label following) following)
    closed =
        ap (is_closed_to (number + 1 + distance_to label following)) knows.barrier
        ∙ is_closed_to-is_all following (number + 1) (distance_to label following)
        ∙ ap (λ n. list_all is_open (take n following)) one_more

ranges_before : (number : ℕ) (listed : Listed) (following : List Listed) (known : Following) → Knows (number + 1) following known → known.ranges.items ++ option_to_list (option_map (range_by known) (terminal_label listed.stmt)) ≡ reverse (ranges_in number (listed ∷ following))
ranges_before number listed following known knows = by (terminal_label listed.stmt)
  where
    left : known.ranges.items ≡ reverse (ranges_in (suc number) following)
    left = knows.ranges ∙ ap (λ n. reverse (ranges_in n following)) (add-one number)

    by : (o : Option ℕ) → known.ranges.items ++ option_to_list (option_map (range_by known) o) ≡ reverse (option_map_or (λ label. range_from number label following ∷ ranges_in (suc number) following) o (ranges_in (suc number) following))
    by None = append-nil known.ranges.items ∙ left
    by (Some label) =
        ap (λ xs. xs ++ range_by known label ∷ []) left
        ∙ ap (λ r. reverse (ranges_in (suc number) following) ++ r ∷ []) (range_before number label following known knows)
        ∙ sym (reverse-append (range_from number label following ∷ []) (ranges_in (suc number) following))

-- ---- all of it

-- what is known after going back by a statement
pub knows_before : (number : ℕ) (listed : Listed) (following : List Listed) (old new : Following) → Knows (number + 1) following old → new.end ≡ old.end → ((label : ℕ) → place_of new.targets label ≡ (if has_label label listed then Some number else place_of old.targets label)) → new.barrier ≡ (if is_barrier listed.stmt then Some number else old.barrier) → new.ranges.items ≡ old.ranges.items ++ option_to_list (option_map (range_by old) (terminal_label listed.stmt)) → Knows number (listed ∷ following) new
knows_before number listed following old new knows behind noted barrier added = record {
  behind = omega (arith, knows.behind);
  labels = λ label. last_before number label listed following old new knows behind (noted label);
  barrier = barrier ∙ ap (λ o. if is_barrier listed.stmt then Some number else o) (knows.barrier ∙ ap (λ n. barrier_in n following) (add-one number));
  ranges = added ∙ ranges_before number listed following old knows;
}

-- the same by places in a unit
pub knows_back : (number at : ℕ) (listing : List Listed) (listed : Listed) (old new : Following) → 0 < at → at ≤ length listing → listed ≡ get_or listing (at - 1) listed → Knows (number + at) (drop at listing) old → ((following : List Listed) → Knows (number + (at - 1) + 1) following old → Knows (number + (at - 1)) (listed ∷ following) new) → Knows (number + (at - 1)) (drop (at - 1) listing) new
knows_back number at listing listed old new some within stands knows back =
    subst (λ l. Knows (number + (at - 1)) l new) (sym split) (back (drop at listing) (subst (λ n. Knows n (drop at listing) old) same knows))
  where
    same : number + at ≡ number + (at - 1) + 1
    same = omega arith

    next : at - 1 + 1 ≡ at
    next = omega arith

    split : drop (at - 1) listing ≡ listed ∷ drop at listing
    split =
        drop_more listing (at - 1) listed (omega arith)
        ∙ ap (λ x. x ∷ drop (at - 1 + 1) listing) (sym stands)
        ∙ ap (λ n. listed ∷ drop n listing) next
