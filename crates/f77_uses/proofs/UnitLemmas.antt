-- The declarations and uses of a unit, with one statement more.
use Rattle.std.proofs.Common.{◌≡◌, ℕ, ◌+◌, ◌<◌, Bool, true, false, not, ◌||◌, List, [], ◌∷◌, ◌++◌, length, get_or, take, Option, None, Some, refl, sym, ap, ◌∙◌, append_assoc, append-nil, if◌then◌else◌}
use Rattle.std.proofs.lemmas.List.{take_more}
use Rattle.std.proofs.lemmas.List.Folds.{list_any-append}
use Rattle.std.specs.List.{flat_map, list_any}
use Rattle.std.specs.Option.{option_or}
use Rattle.f77_ast.specs.declared.program.Listed.{Listed}
use Rattle.f77_ast.specs.declared.specification.ImplicitRule.{ImplicitRule}
use Rattle.f77_leaves.specs.Declarations.{Declarations, declarations_of, facts_in, facts_of, rules_in, rules_of, known_of, known_from, unknown, implied_by, holds_letter, typing_by}
use Rattle.f77_leaves.specs.Leaves.{leaves_of}
use Rattle.f77_leaves.specs.declared.declarations.Known.{Known}
use Rattle.f77_leaves.specs.declared.declarations.Typing.{Typing}
use Rattle.f77_leaves.specs.declared.leaves.Leaf.{Leaf}
use Rattle.f77_uses.specs.Uses.{NameUses, first_use, use_in, on_name, is_busy_with, leaves_in}
use Rattle.f77_uses.specs.declared.uses.Use.{Use}
use Rattle.f77_uses.proofs.KnownLemmas.{same_functions, known_append}

flat_map_append : {A B : Type 0} (f : A → List B) (xs ys : List A) → flat_map f (xs ++ ys) ≡ flat_map f xs ++ flat_map f ys
flat_map_append f [] ys = refl
flat_map_append f (x ∷ xs) ys = ap (λ l. f x ++ l) (flat_map_append f xs ys) ∙ sym (append_assoc (f x) (flat_map f xs) (flat_map f ys))

-- what is in one statement more
parts_more : {B : Type 0} (f : Listed → List B) (unit : List Listed) (i : ℕ) (x : Listed) → i < length unit → x ≡ get_or unit i x → flat_map f (take (i + 1) unit) ≡ flat_map f (take i unit) ++ f x
parts_more f unit i x within stands =
    ap (flat_map f) (take_more unit i x within ∙ ap (λ y. take i unit ++ y ∷ []) (sym stands))
    ∙ flat_map_append f (take i unit) (x ∷ [])
    ∙ ap (λ l. flat_map f (take i unit) ++ l) (append-nil (f x))

or_option : {A : Type 0} (a b c : Option A) → option_or (option_or a b) c ≡ option_or a (option_or b c)
or_option None b c = refl
or_option (Some a) b c = refl

-- what is known of a name with one statement more
pub known_more : (unit : List Listed) (i : ℕ) (x : Listed) (name : List ℕ) → i < length unit → x ≡ get_or unit i x → known_of (facts_of (take (i + 1) unit)) name ≡ known_from name (known_of (facts_of (take i unit)) name) (facts_in x.stmt)
known_more unit i x name within stands =
    ap (λ l. known_from name unknown l) (parts_more (λ listed. facts_in listed.stmt) unit i x within stands)
    ∙ known_append name unknown (facts_of (take i unit)) (facts_in x.stmt)

implied_append : (xs ys : List ImplicitRule) (letter : ℕ) → implied_by (xs ++ ys) letter ≡ option_or (implied_by xs letter) (implied_by ys letter)
implied_append [] ys letter = refl
implied_append (x ∷ xs) ys letter = by (list_any (holds_letter letter) x.letters) (implied_append xs ys letter)
  where
    by : (b : Bool) → implied_by (xs ++ ys) letter ≡ option_or (implied_by xs letter) (implied_by ys letter) → (if b then Some (typing_by x.typ None) else implied_by (xs ++ ys) letter) ≡ option_or (if b then Some (typing_by x.typ None) else implied_by xs letter) (implied_by ys letter)
    by true rest = refl
    by false rest = rest

-- the types of letters with one statement more
pub implied_more : (unit : List Listed) (i : ℕ) (x : Listed) (letter : ℕ) → i < length unit → x ≡ get_or unit i x → implied_by (rules_of (take (i + 1) unit)) letter ≡ option_or (implied_by (rules_of (take i unit)) letter) (implied_by (rules_in x.stmt) letter)
implied_more unit i x letter within stands =
    ap (λ l. implied_by l letter) (parts_more (λ listed. rules_in listed.stmt) unit i x within stands)
    ∙ implied_append (rules_of (take i unit)) (rules_in x.stmt) letter

-- declarations that agree everywhere
pub declarations_are : (known : List ℕ → Known) (implied : ℕ → Option Typing) (unit : List Listed) → ((name : List ℕ) → known name ≡ known_of (facts_of unit) name) → ((letter : ℕ) → implied letter ≡ implied_by (rules_of unit) letter) → record { known = known; implied = implied } ≡ declarations_of unit
declarations_are known implied unit e f =
    let k = same_functions known (known_of (facts_of unit)) e in
    let r = same_functions implied (implied_by (rules_of unit)) f in
    λ i. record { known = k i; implied = r i }

first_append : (unit : Declarations) (xs ys : List Leaf) (name : List ℕ) → first_use unit (xs ++ ys) name ≡ option_or (first_use unit xs name) (first_use unit ys name)
first_append unit [] ys name = refl
first_append unit (x ∷ xs) ys name =
    ap (option_or (use_in unit name x)) (first_append unit xs ys name)
    ∙ sym (or_option (use_in unit name x) (first_use unit xs name) (first_use unit ys name))

-- a name's first use with one statement more
pub first_more : (told : Declarations) (unit : List Listed) (i : ℕ) (x : Listed) (name : List ℕ) → i < length unit → x ≡ get_or unit i x → first_use told (leaves_in (take (i + 1) unit)) name ≡ option_or (first_use told (leaves_in (take i unit)) name) (first_use told (leaves_of x.stmt) name)
first_more told unit i x name within stands =
    ap (λ l. first_use told l name) (parts_more (λ listed. leaves_of listed.stmt) unit i x within stands)
    ∙ first_append told (leaves_in (take i unit)) (leaves_of x.stmt) name

-- whether a name is busy with one statement more
pub busy_more : (unit : List Listed) (i : ℕ) (x : Listed) (name : List ℕ) → i < length unit → x ≡ get_or unit i x → list_any (on_name (is_busy_with name)) (leaves_in (take (i + 1) unit)) ≡ (list_any (on_name (is_busy_with name)) (leaves_in (take i unit)) || list_any (on_name (is_busy_with name)) (leaves_of x.stmt))
busy_more unit i x name within stands =
    ap (list_any (on_name (is_busy_with name))) (parts_more (λ listed. leaves_of listed.stmt) unit i x within stands)
    ∙ list_any-append (on_name (is_busy_with name)) (leaves_in (take i unit)) (leaves_of x.stmt)

-- the uses that two functions tell
abbrev pub uses_with : (List ℕ → Option Use) → (List ℕ → Bool) → NameUses
uses_with first alone = record { first = first; alone = alone }

-- uses that agree everywhere
pub uses_are : (a b : List ℕ → Option Use) (c d : List ℕ → Bool) → ((name : List ℕ) → a name ≡ b name) → ((name : List ℕ) → c name ≡ d name) → uses_with a (λ name. not (c name)) ≡ uses_with b (λ name. not (d name))
uses_are a b c d e f =
    let k = same_functions a b e in
    let r = same_functions c d f in
    λ i. uses_with (k i) (λ name. not (r i name))
