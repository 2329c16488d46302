-- What is known of names, with one declaration more.
use Rattle.std.proofs.Common.{◌≡◌, ℕ, Bool, true, false, ◌||◌, List, [], ◌∷◌, ◌++◌, refl, sym, ap, ◌∙◌}
use Rattle.std.specs.Cmp.Lexicographic.{bytes_decides}
use Rattle.f77_leaves.specs.Declarations.{same_name, told, known_from}
use Rattle.f77_leaves.specs.declared.declarations.Declared.{Declared}
use Rattle.f77_leaves.specs.declared.declarations.Known.{Known}
use Rattle.f77_uses.specs.Breaks.{is_second, has_second}

-- two functions that agree everywhere
pub same_functions : {A B : Type 0} (f g : A → B) → ((x : A) → f x ≡ g x) → f ≡ g
same_functions f g h = λ i. λ x. h x i

or_false : (a : Bool) → a ≡ (a || false)
or_false true = refl
or_false false = refl

or_assoc : (a b c : Bool) → ((a || b) || c) ≡ (a || (b || c))
or_assoc true b c = refl
or_assoc false b c = refl

pub same_is : (a b : List ℕ) → same_name a b ≡ true → a ≡ b
same_is a b e = (bytes_decides a b).0 e

pub own_name : (a : List ℕ) → same_name a a ≡ true
own_name a = (bytes_decides a a).1 refl

-- one turn: whether a declaration is a second one
pub second_turn : (before after : List ℕ → Known) (d : Declared) (items rest : List Declared) (again second next all : Bool) → items ≡ d ∷ rest → next ≡ (again || second) → second ≡ is_second (before d.name) d.fact → ((other : List ℕ) → after other ≡ told other (before other) d) → (again || has_second before items) ≡ all → (next || has_second after rest) ≡ all
second_turn before after d items rest again second next all taken e f noted so_far =
    ap (λ b. b || has_second after rest) (e ∙ ap (λ s. again || s) f)
    ∙ ap (λ (k : List ℕ → Known). (again || is_second (before d.name) d.fact) || has_second k rest) (same_functions after (λ other. told other (before other) d) noted)
    ∙ or_assoc again (is_second (before d.name) d.fact) (has_second (λ other. told other (before other) d) rest)
    ∙ ap (λ l. again || has_second before l) (sym taken)
    ∙ so_far

-- the end
pub second_end : (known : List ℕ → Known) (items : List Declared) (again all : Bool) → items ≡ [] → (again || has_second known items) ≡ all → again ≡ all
second_end known items again all none so_far = or_false again ∙ ap (λ l. again || has_second known l) (sym none) ∙ so_far

-- one turn: what is known of a name
pub known_turn : (other : List ℕ) (before after all : Known) (d : Declared) (items rest : List Declared) → items ≡ d ∷ rest → after ≡ told other before d → known_from other before items ≡ all → known_from other after rest ≡ all
known_turn other before after all d items rest taken noted so_far =
    ap (λ k. known_from other k rest) noted ∙ ap (known_from other before) (sym taken) ∙ so_far

-- the end
pub known_end : (other : List ℕ) (known all : Known) (items : List Declared) → items ≡ [] → known_from other known items ≡ all → known ≡ all
known_end other known all items none so_far = ap (known_from other known) (sym none) ∙ so_far

-- what is known after some declarations, and after others behind them
pub known_append : (other : List ℕ) (known : Known) (xs ys : List Declared) → known_from other known (xs ++ ys) ≡ known_from other (known_from other known xs) ys
known_append other known [] ys = refl
known_append other known (x ∷ xs) ys = known_append other (told other known x) xs ys
