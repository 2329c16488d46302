-- Letters that are named, one after the other and statement by statement.
use Rattle.std.proofs.Common.{◌≡◌, ℕ, suc, ◌+◌, ◌-◌, ◌<◌, ◌≤◌, Bool, true, false, ◌||◌, ◌==◌, List, [], ◌∷◌, ◌++◌, length, get_or, take, drop, refl, sym, ap, ◌∙◌, append_assoc, append-nil, arith}
use Rattle.std.proofs.lemmas.Grind.{flat_map-append}
use Rattle.std.proofs.lemmas.List.{take_more, drop_more, drop_all}
use Rattle.std.proofs.lemmas.List.Folds.{list_any-append}
use Rattle.f77_ast.specs.declared.program.Listed.{Listed}
use Rattle.f77_uses.proofs.KnownLemmas.{same_functions}
use Rattle.f77_kinds.specs.Letters.{letters_from, letters_in, letters_of, is_among, has_again}

or_assoc : (a b c : Bool) → ((a || b) || c) ≡ (a || (b || c))
or_assoc true b c = refl
or_assoc false b c = refl

or_false : (a : Bool) → a ≡ (a || false)
or_false true = refl
or_false false = refl

-- ---- a range

-- the letters from one on, which is before the end of its range
pub letters_more : (first past : ℕ) → first < past → letters_from first (past - first) ≡ first ∷ letters_from (first + 1) (past - (first + 1))
letters_more first past within = letters_by (past - first) (past - (first + 1)) (omega arith)
  where
    letters_by : (count less : ℕ) → count ≡ suc less → letters_from first count ≡ first ∷ letters_from (first + 1) less
    letters_by count less e = let next : suc first ≡ first + 1 = omega arith in ap (letters_from first) e ∙ ap (λ n. first ∷ letters_from n less) next

-- and from the end of a range on
pub letters_none : (first past : ℕ) → past ≤ first → letters_from first (past - first) ≡ []
letters_none first past over = let none : past - first ≡ 0 = omega arith in ap (letters_from first) none

-- one turn of a loop over the letters of a range
pub range_turn : (before after all : List ℕ) (letter past : ℕ) → letter < past → after ≡ before ++ letter ∷ [] → before ++ letters_from letter (past - letter) ≡ all → after ++ letters_from (letter + 1) (past - (letter + 1)) ≡ all
range_turn before after all letter past within e so_far =
    let rest = letters_from (letter + 1) (past - (letter + 1)) in
    ap (λ l. l ++ rest) e
    ∙ append_assoc before (letter ∷ []) rest
    ∙ ap (λ l. before ++ l) (sym (letters_more letter past within))
    ∙ so_far

-- and its end
pub range_ended : (before all : List ℕ) (letter past : ℕ) → past ≤ letter → before ++ letters_from letter (past - letter) ≡ all → before ≡ all
range_ended before all letter past over so_far =
    sym (append-nil before) ∙ ap (λ l. before ++ l) (sym (letters_none letter past over)) ∙ so_far

-- ---- letters, one after the other

-- one turn of a loop over letters
pub again_turn : (before after : ℕ → Bool) (letters : List ℕ) (i letter : ℕ) (again named next total : Bool) → i < length letters → letter ≡ get_or letters i 0 → next ≡ (again || named) → named ≡ before letter → ((other : ℕ) → after other ≡ (before other || letter == other)) → (again || has_again before (drop i letters)) ≡ total → (next || has_again after (drop (i + 1) letters)) ≡ total
again_turn before after letters i letter again named next total within stands joined is_named noted so_far =
    let rest = drop (i + 1) letters in
    ap (λ b. b || has_again after rest) (joined ∙ ap (λ b. again || b) is_named)
    ∙ ap (λ (test : ℕ → Bool). (again || before letter) || has_again test rest) (same_functions after (λ other. before other || letter == other) noted)
    ∙ or_assoc again (before letter) (has_again (λ other. before other || letter == other) rest)
    ∙ ap (λ l. again || has_again before l) (sym (drop_more letters i 0 within ∙ ap (λ x. x ∷ rest) (sym stands)))
    ∙ so_far

pub among_turn : (letters : List ℕ) (i letter other : ℕ) (before after total : Bool) → i < length letters → letter ≡ get_or letters i 0 → after ≡ (before || letter == other) → (before || is_among (drop i letters) other) ≡ total → (after || is_among (drop (i + 1) letters) other) ≡ total
among_turn letters i letter other before after total within stands noted so_far =
    let rest = drop (i + 1) letters in
    ap (λ b. b || is_among rest other) noted
    ∙ or_assoc before (letter == other) (is_among rest other)
    ∙ ap (λ l. before || is_among l other) (sym (drop_more letters i 0 within ∙ ap (λ x. x ∷ rest) (sym stands)))
    ∙ so_far

-- the end of such a loop
pub again_ended : (named : ℕ → Bool) (letters : List ℕ) (i : ℕ) (again total : Bool) → length letters ≤ i → (again || has_again named (drop i letters)) ≡ total → again ≡ total
again_ended named letters i again total past so_far =
    or_false again ∙ ap (λ (l : List ℕ). again || has_again named l) (sym (drop_all i letters past)) ∙ so_far

pub among_ended : (letters : List ℕ) (i other : ℕ) (before total : Bool) → length letters ≤ i → (before || is_among (drop i letters) other) ≡ total → before ≡ total
among_ended letters i other before total past so_far =
    or_false before ∙ ap (λ (l : List ℕ). before || is_among l other) (sym (drop_all i letters past)) ∙ so_far

-- ---- statement by statement

-- the letters that are named with one statement more
pub among_more : (unit : List Listed) (i : ℕ) (x : Listed) (other : ℕ) → i < length unit → x ≡ get_or unit i x → is_among (letters_of (take (i + 1) unit)) other ≡ (is_among (letters_of (take i unit)) other || is_among (letters_in x) other)
among_more unit i x other within stands =
    ap (λ l. is_among (letters_of l) other) (take_more unit i x within ∙ ap (λ y. take i unit ++ y ∷ []) (sym stands))
    ∙ ap (λ l. is_among l other) (flat_map-append letters_in (take i unit) (x ∷ []) ∙ ap (λ l. letters_of (take i unit) ++ l) (append-nil (letters_in x)))
    ∙ list_any-append (λ letter. letter == other) (letters_of (take i unit)) (letters_in x)
