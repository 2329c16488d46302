-- Words and operators that come next in a text.
use Rattle.std.proofs.Common.{◌≡◌, ℕ, ◌+◌, ◌<◌, Bool, true, false, ◌==◌, ◌&&◌, not, if◌then◌else◌, List, [], ◌∷◌, ◌++◌, length, take, drop, Some, refl, sym, ap, ◌∙◌, arith, nat_eq, length-append}
use Rattle.std.specs.Cmp.Lexicographic.{pointwise}
use Rattle.std.proofs.lemmas.Bool.{eqb-true, and_parts}
use Rattle.f77_exprs.specs.declared.operators.Infix.{Infix}
use Rattle.f77_exprs.specs.declared.operators.Infix.TheVariants as between
use Rattle.f77_exprs.specs.declared.operators.Prefix.{Prefix}
use Rattle.f77_exprs.specs.Operators.{Text, spelling, prefix_spelling, infixes, prefixes, begins, is_here, is_before, first_passing}

-- `starts_with` is the definition
pub begins_same : (s i : Text) → pointwise nat_eq s (take (length s) i) ≡ begins s i
begins_same [] i = refl
begins_same (b ∷ s) [] = refl
begins_same (b ∷ s) (c ∷ i) = by (begins_same s i) (b == c) (c == b) refl refl
  where
    by : pointwise nat_eq s (take (length s) i) ≡ begins s i → (t u : Bool) → (b == c) ≡ t → (c == b) ≡ u → (t && pointwise nat_eq s (take (length s) i)) ≡ (u && begins s i)
    by rest true true e f = rest
    by rest false false e f = refl
    by rest true false e f = grind (arith, e, f)
    by rest false true e f = grind (arith, e, f)

-- a text that begins with a word is that word and the rest
pub begins_splits : (s i : Text) → begins s i ≡ true → i ≡ s ++ drop (length s) i
begins_splits [] i h = refl
begins_splits (b ∷ s) [] h = cc
begins_splits (b ∷ s) (c ∷ i) h =
    let p = and_parts (c == b) (begins s i) h in
    ap (λ x. x ∷ i) (eqb-true c b p.0) ∙ ap (λ x. b ∷ x) (begins_splits s i p.1)

pub drop_all : (s r : Text) → drop (length s) (s ++ r) ≡ r
drop_all [] r = refl
drop_all (c ∷ s) r = drop_all s r

pub take_all : (s r : Text) → take (length s) (s ++ r) ≡ s
take_all [] r = refl
take_all (c ∷ s) r = ap (λ x. c ∷ x) (take_all s r)

-- what is found passes
pub passing : {X : Type 0} (test : X → Text → Bool) (all : List X) (i : Text) (x : X) → first_passing test all i ≡ Some x → test x i ≡ true
passing test [] i x e = cc
passing test (y ∷ all) i x e = by (passing test all i x) (test y i) refl e
  where
    by : (first_passing test all i ≡ Some x → test x i ≡ true) → (t : Bool) → test y i ≡ t → (if t then Some y else first_passing test all i) ≡ Some x → test x i ≡ true
    by rest true f g = let k : y ≡ x = cc in ap (λ z. test z i) (sym k) ∙ f
    by rest false f g = rest g

here_begins : (o : Infix) (i : Text) → is_here o i ≡ true → begins (spelling o) i ≡ true
here_begins between.Pow i h = h
here_begins between.Mul i h = h
here_begins between.Div i h = (and_parts (begins (spelling between.Div) i) (not (begins (spelling between.Cat) i)) h).0
here_begins between.Add i h = h
here_begins between.Sub i h = h
here_begins between.Cat i h = h
here_begins between.Eq i h = h
here_begins between.Ne i h = h
here_begins between.Lt i h = h
here_begins between.Le i h = h
here_begins between.Gt i h = h
here_begins between.Ge i h = h
here_begins between.And i h = h
here_begins between.Or i h = h
here_begins between.Eqv i h = h
here_begins between.Neqv i h = h

-- an operator that is found stands at the front of the text
pub infix_splits : (k : ℕ) (i : Text) (o : Infix) → first_passing is_here (infixes k) i ≡ Some o → i ≡ spelling o ++ drop (length (spelling o)) i
infix_splits k i o e = begins_splits (spelling o) i (here_begins o i (passing is_here (infixes k) i o e))

pub prefix_splits : (k : ℕ) (i : Text) (o : Prefix) → first_passing is_before (prefixes k) i ≡ Some o → i ≡ prefix_spelling o ++ drop (length (prefix_spelling o)) i
prefix_splits k i o e = begins_splits (prefix_spelling o) i (passing is_before (prefixes k) i o e)

pub some_spelling : (o : Infix) → 0 < length (spelling o)
some_spelling between.Pow = omega arith
some_spelling between.Mul = omega arith
some_spelling between.Div = omega arith
some_spelling between.Add = omega arith
some_spelling between.Sub = omega arith
some_spelling between.Cat = omega arith
some_spelling between.Eq = omega arith
some_spelling between.Ne = omega arith
some_spelling between.Lt = omega arith
some_spelling between.Le = omega arith
some_spelling between.Gt = omega arith
some_spelling between.Ge = omega arith
some_spelling between.And = omega arith
some_spelling between.Or = omega arith
some_spelling between.Eqv = omega arith
some_spelling between.Neqv = omega arith

-- the text after an operator is shorter
pub infix_shorter : (k : ℕ) (i : Text) (o : Infix) → first_passing is_here (infixes k) i ≡ Some o → length (drop (length (spelling o)) i) < length i
infix_shorter k i o e =
    let l : length i ≡ length (spelling o) + length (drop (length (spelling o)) i) = ap length (infix_splits k i o e) ∙ length-append (spelling o) (drop (length (spelling o)) i) in
    let s = some_spelling o in
    omega arith
