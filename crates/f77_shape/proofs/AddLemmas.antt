-- Names that are added one after another.
use Rattle.std.proofs.Common.{◌≡◌, ℕ, ◌+◌, ◌<◌, ◌≤◌, Bool, true, false, ◌||◌, List, [], ◌∷◌, ◌++◌, length, get_or, take, refl, sym, ap, ◌∙◌, subst, nat_eq, append_assoc, append-nil}
use Rattle.std.proofs.lemmas.List.{take_more, take_all}
use Rattle.std.proofs.lemmas.List.Folds.{list_any-append}
use Rattle.std.specs.Cmp.Lexicographic.{pointwise}
use Rattle.std.specs.List.{flat_map}
use Rattle.f77_shape.specs.declared.names.Names.{Names}
use Rattle.f77_shape.specs.NameSets.{is_among, has, Adds}

or_assoc : (a b c : Bool) → ((a || b) || c) ≡ (a || (b || c))
or_assoc true b c = refl
or_assoc false b c = refl

or_false : (a : Bool) → a ≡ (a || false)
or_false true = refl
or_false false = refl

-- no name
pub adds_none : (set : Names) → Adds [] set set
adds_none set = record { at = λ name. or_false (has set name) }

-- names after others
pub adds_then : (xs ys : List (List ℕ)) (a b c : Names) → Adds xs a b → Adds ys b c → Adds (xs ++ ys) a c
adds_then xs ys a b c first second = record {
  at = λ name.
      second.at name
      ∙ ap (λ t. t || is_among ys name) (first.at name)
      ∙ or_assoc (has a name) (is_among xs name) (is_among ys name)
      ∙ ap (λ t. has a name || t) (sym (list_any-append (pointwise nat_eq name) xs ys));
}

-- no name of no part
pub adds_no_part : {A : Type 0} (f : A → List (List ℕ)) (xs : List A) (set : Names) → Adds (flat_map f (take 0 xs)) set set
adds_no_part f xs set = adds_none set

pub flat_map_append : {A : Type 0} (f : A → List (List ℕ)) (xs ys : List A) → flat_map f (xs ++ ys) ≡ flat_map f xs ++ flat_map f ys
flat_map_append f [] ys = refl
flat_map_append f (x ∷ xs) ys = ap (λ l. f x ++ l) (flat_map_append f xs ys) ∙ sym (append_assoc (f x) (flat_map f xs) (flat_map f ys))

-- the names of one part more
pub adds_more : {A : Type 0} (f : A → List (List ℕ)) (xs : List A) (i : ℕ) (x : A) (a b c : Names) → i < length xs → x ≡ get_or xs i x → Adds (flat_map f (take i xs)) a b → Adds (f x) b c → Adds (flat_map f (take (i + 1) xs)) a c
adds_more f xs i x a b c within stands before here =
    subst (λ (l : List (List ℕ)). Adds l a c) (sym names) (adds_then (flat_map f (take i xs)) (f x) a b c before here)
  where
    names : flat_map f (take (i + 1) xs) ≡ flat_map f (take i xs) ++ f x
    names =
        ap (flat_map f) (take_more xs i x within ∙ ap (λ y. take i xs ++ y ∷ []) (sym stands))
        ∙ flat_map_append f (take i xs) (x ∷ [])
        ∙ ap (λ l. flat_map f (take i xs) ++ l) (append-nil (f x))

-- the names of all parts
pub adds_all : {A : Type 0} (f : A → List (List ℕ)) (xs : List A) (i : ℕ) (a b : Names) → length xs ≤ i → Adds (flat_map f (take i xs)) a b → Adds (flat_map f xs) a b
adds_all {A = A} f xs i a b past h = subst (λ (l : List A). Adds (flat_map f l) a b) (take_all i xs past) h
