-- The letters of IMPLICIT (ANSI X3.9-1978, section 8.5).
use Rattle.std.specs.Prelude.{ℕ, zero, suc, ◌-◌, Bool, false, ◌||◌, ◌==◌, nat_lt, List, [], ◌∷◌, take}
use Rattle.std.specs.List.{flat_map, list_any}
use Rattle.f77_ast.specs.declared.program.Listed.{Listed}
use Rattle.f77_ast.specs.declared.specification.ImplicitRule.{ImplicitRule}
use Rattle.f77_ast.specs.declared.specification.LetterRange.{LetterRange}
use Rattle.f77_leaves.specs.Declarations.{last_letter, rules_in}

-- so many letters, from this one on
abbrev pub letters_from : (first count : ℕ) → List ℕ
letters_from first zero = []
letters_from first (suc count) = first ∷ letters_from (suc first) count

-- the letters of a range: none where they are in wrong order
abbrev pub range_letters : LetterRange → List ℕ
range_letters range = letters_from range.first (suc (last_letter range range.last) - range.first)

-- whether the second letter of a range is before the first in the alphabet
abbrev pub is_backward : LetterRange → Bool
is_backward range = nat_lt (last_letter range range.last) range.first

-- the letters that some rules name, in order
abbrev pub rule_letters : ImplicitRule → List ℕ
rule_letters rule = flat_map range_letters rule.letters

abbrev pub letters_in : Listed → List ℕ
letters_in listed = flat_map rule_letters (rules_in listed.stmt)

abbrev pub letters_of : List Listed → List ℕ
letters_of unit = flat_map letters_in unit

-- whether a letter is one of these
abbrev pub is_among : List ℕ → (letter : ℕ) → Bool
is_among letters letter = list_any (λ other. other == letter) letters

-- whether one of some letters is named before it: among those named already, or earlier among these
abbrev pub has_again : (named : ℕ → Bool) → List ℕ → Bool
has_again named [] = false
has_again named (letter ∷ letters) = named letter || has_again (λ other. named other || letter == other) letters

abbrev pub has_backward : ImplicitRule → Bool
has_backward rule = list_any is_backward rule.letters

-- whether the IMPLICIT at a place names a letter that is named before it in the unit, or has a range in wrong order
abbrev pub breaks_letters : (unit : List Listed) → (place : ℕ) → Listed → Bool
breaks_letters unit place listed = list_any has_backward (rules_in listed.stmt) || has_again (is_among (letters_of (take place unit))) (letters_in listed)
