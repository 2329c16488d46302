-- Which names are those of constants.
use Rattle.std.proofs.Common.{◌≡◌, ℕ, Bool, true, false, ◌&&◌, ◌||◌, List, [], ◌∷◌, ◌++◌, Option, None, Some, refl, sym, ap, ◌∙◌, if◌then◌else◌}
use Rattle.std.proofs.lemmas.List.Folds.{list_any-append}
use Rattle.std.specs.List.{list_any, list_all}
use Rattle.std.specs.Option.{is_some, option_or}
use Rattle.f77_ast.specs.declared.program.Listed.{Listed}
use Rattle.f77_leaves.specs.Declarations.{facts_of, joined, known_from, known_of, same_name, told, unknown}
use Rattle.f77_leaves.specs.declared.declarations.Declared.{Declared}
use Rattle.f77_leaves.specs.declared.declarations.Fact.{Fact}
use Rattle.f77_leaves.specs.declared.declarations.Fact.TheVariants as fact
use Rattle.f77_leaves.specs.declared.declarations.Known.{Known}
use Rattle.f77_uses.proofs.KnownLemmas.{same_is}
use Rattle.f77_constants.specs.Constants.{constant_names, valued_name, valued_names}
use Rattle.f77_constants.specs.Rounds.{has_name}

or_false : (a : Bool) → (a || false) ≡ a
or_false true = refl
or_false false = refl

or_true : (a : Bool) → (a || true) ≡ true
or_true true = refl
or_true false = refl

or_assoc : (a b c : Bool) → ((a || b) || c) ≡ (a || (b || c))
or_assoc true b c = refl
or_assoc false b c = refl

either_some : {A : Type 0} (o : Option A) (x : A) → is_some (if true then Some x else o) ≡ true
either_some o x = refl

-- whether there is a value, with one fact more
joined_value : (name own : List ℕ) (known : Known) (f : Fact) → same_name name own ≡ true → is_some (joined known f).value ≡ (is_some known.value || has_name (valued_name own f) name)
joined_value name own known (fact.Typed typing) same = sym (or_false (is_some known.value))
joined_value name own known (fact.Bounded bounds) same = sym (or_false (is_some known.value))
joined_value name own known fact.Common same = sym (or_false (is_some known.value))
joined_value name own known (fact.Valued value) same = by known.value ∙ ap (λ b. is_some known.value || (b || false)) (sym same)
  where
    by : (o : Option _) → is_some (option_or o (Some value)) ≡ (is_some o || true)
    by None = refl
    by (Some before) = refl
joined_value name own known (fact.Dummy place) same = sym (or_false (is_some known.value))
joined_value name own known fact.Heading same = sym (or_false (is_some known.value))
joined_value name own known fact.Result same = sym (or_false (is_some known.value))

no_name : (name own : List ℕ) (f : Fact) → same_name name own ≡ false → has_name (valued_name own f) name ≡ false
no_name name own (fact.Typed typing) other = refl
no_name name own (fact.Bounded bounds) other = refl
no_name name own fact.Common other = refl
no_name name own (fact.Valued value) other = or_false (same_name name own) ∙ other
no_name name own (fact.Dummy place) other = refl
no_name name own fact.Heading other = refl
no_name name own fact.Result other = refl

told_value : (name : List ℕ) (known : Known) (d : Declared) → is_some (told name known d).value ≡ (is_some known.value || has_name (valued_name d.name d.fact) name)
told_value name known d = by (same_name name d.name) refl
  where
    by : (b : Bool) → same_name name d.name ≡ b → is_some (if b then joined known d.fact else known).value ≡ (is_some known.value || has_name (valued_name d.name d.fact) name)
    by true e = joined_value name d.name known d.fact e
    by false e = sym (or_false (is_some known.value)) ∙ ap (λ b. is_some known.value || b) (sym (no_name name d.name d.fact e))

-- a name has a value among some declarations where it had one, or one of these gives it one
known_value : (name : List ℕ) (known : Known) (facts : List Declared) → is_some (known_from name known facts).value ≡ (is_some known.value || has_name (valued_names facts) name)
known_value name known [] = sym (or_false (is_some known.value))
known_value name known (d ∷ rest) =
    known_value name (told name known d) rest
    ∙ ap (λ b. b || has_name (valued_names rest) name) (told_value name known d)
    ∙ or_assoc (is_some known.value) (has_name (valued_name d.name d.fact) name) (has_name (valued_names rest) name)
    ∙ ap (λ b. is_some known.value || b) (sym (list_any-append (same_name name) (valued_name d.name d.fact) (valued_names rest)))

-- a constant of a unit is one of the names of its constants
pub constant_named : (listing : List Listed) (name : List ℕ) → is_some (known_of (facts_of listing) name).value ≡ has_name (constant_names listing) name
constant_named listing name = known_value name unknown (facts_of listing)

holds_by : (test : List ℕ → Bool) (first name : List ℕ) (all has : Bool) → (all ≡ true → has ≡ true → test name ≡ true) → (b : Bool) → same_name name first ≡ b → (t : Bool) → test first ≡ t → (t && all) ≡ true → (b || has) ≡ true → test name ≡ true
holds_by test first name all has later true e true f g h = ap test (same_is name first e) ∙ f
holds_by test first name all has later true e false f g h = absurd (cc)
holds_by test first name all has later false e true f g h = later g h
holds_by test first name all has later false e false f g h = absurd (cc)

-- what holds of all names of a list holds of one of them
pub holds_of : (test : List ℕ → Bool) (names : List (List ℕ)) (name : List ℕ) → list_all test names ≡ true → has_name names name ≡ true → test name ≡ true
holds_of test [] name all has = absurd (cc)
holds_of test (first ∷ names) name all has = holds_by test first name (list_all test names) (has_name names name) (holds_of test names name) (same_name name first) refl (test first) refl all has
