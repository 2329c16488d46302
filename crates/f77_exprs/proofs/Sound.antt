-- What is read is spelled so.
use Rattle.std.proofs.Common.{◌≡◌, ℕ, zero, suc, ◌<◌, ◌^◌, pos, Bool, true, false, ◌==◌, nat_lt, if◌then◌else◌, List, [], ◌∷◌, ◌++◌, length, take, drop, Option, Some, None, refl, sym, ap, ◌∙◌, subst, arith}
use Rattle.std.proofs.lemmas.Bool.{eqb-true, and_parts, ltb-true}
use Rattle.std.proofs.lemmas.List.{append_assoc, append-nil, take-append-drop}
use Rattle.std.specs.Prelude.{codes}
use Rattle.hyb_base.specs.Decimal.{value_of}
use Rattle.f77_ast.specs.Name.{IsName, is_name}
use Rattle.f77_ast.specs.declared.expr.Expr.{Expr}
use Rattle.f77_ast.specs.declared.expr.Expr.TheVariants as expr
use Rattle.f77_ast.specs.declared.expr.Part.{Part}
use Rattle.f77_exprs.specs.declared.operators.Infix.{Infix}
use Rattle.f77_exprs.specs.declared.operators.Prefix.{Prefix}
use Rattle.f77_exprs.specs.declared.operators.Prefix.TheVariants as before
use Rattle.f77_exprs.specs.Operators.{Text, spelling, below, prefix_operator, prefix_spelling, under, infixes, prefixes, Grouping, to_left, to_right, once, grouping, left_of, right_of, begins, is_here, is_before, first_passing}
use Rattle.f77_exprs.specs.Spelling.{doubled, reference_of, part_of, top_level, Spells, truth, falsehood, parentheses, lower, joined, SpellsArguments, no_list, empty_list, list, SpellsAll, last, more, SpellsPart, no_part, SpellsBound, left_out, given}
use Rattle.f77_exprs.specs.Spelling as spelled
use Rattle.f77_exprs.specs.Reading.{Outcome, Parser, and_then, ◌>>=◌, ◌>>◌, pure, refuse, on_some, is_empty, sees, after, eat, expect, after_word, eat_word, skip, next_infix, next_prefix, prefixed, binary, digits, is_number, number_by, number, characters, constant, literal, alphanumerics, name_by, name, more_operands, power, one_operator_at_most, rest_of, bound, substring, more_arguments, arguments, with_part, with_low, with_first, opened, primary, level, expr_within, all_of, expr_of}
use Rattle.f77_exprs.specs.Reading as reading
use Rattle.f77_exprs.proofs.Numbers.{digits_all}
use Rattle.f77_exprs.proofs.Words.{begins_splits, infix_splits, prefix_splits}

-- what holds of an item and of the text after it, where one is read
abbrev pub Holds : {A : Type 0} → (A → Text → Type 0) → Outcome A → Type 0
Holds P (Some p) = P p.0 p.1
Holds P None = Unit {0}

-- the text begins with a spelling of the tree, before the rest
abbrev pub Begins : ℕ → Text → Expr → Text → Type 0
Begins k i a r = (s : Text) × (i ≡ s ++ r) × Spells k a s

pub holds_bind : {A B : Type 0} (o : Outcome A) (f : A → Parser B) (P : A → Text → Type 0) (Q : B → Text → Type 0)
    → Holds P o → ((a : A) (j : Text) → P a j → Holds Q (f a j)) → Holds Q (and_then o f)
holds_bind (Some p) f P Q h k = k p.0 p.1 h
holds_bind None f P Q h k = tt

pub holds_weak : {A : Type 0} (o : Outcome A) (P Q : A → Text → Type 0) → Holds P o → ((a : A) (j : Text) → P a j → Q a j) → Holds Q o
holds_weak (Some p) P Q h k = k p.0 p.1 h
holds_weak None P Q h k = tt

-- ---- bytes, words and operators

eats_by : {B : Type 0} (b c : ℕ) (i : Text) (f : Bool → Parser B) (Q : B → Text → Type 0) (t : Bool) → (t ≡ true → c ≡ b)
    → ((j : Text) → c ∷ i ≡ b ∷ j → Holds Q (f true j)) → Holds Q (f false (c ∷ i)) → Holds Q (f t (if t then i else c ∷ i))
eats_by b c i f Q true same good bad = good i (ap (λ x. x ∷ i) (same refl))
eats_by b c i f Q false same good bad = bad

pub eats : {B : Type 0} (b : ℕ) (i : Text) (f : Bool → Parser B) (Q : B → Text → Type 0)
    → ((j : Text) → i ≡ b ∷ j → Holds Q (f true j)) → Holds Q (f false i) → Holds Q (and_then (eat b i) f)
eats b [] f Q good bad = bad
eats b (c ∷ i) f Q good bad = eats_by b c i f Q (c == b) (eqb-true c b) good bad

expects_by : (b c : ℕ) (i : Text) (t : Bool) → (t ≡ true → c ≡ b) → Holds {A = Unit {0}} (λ u j. c ∷ i ≡ b ∷ j) (if t then Some (tt {0}, i) else None)
expects_by b c i true same = ap (λ x. x ∷ i) (same refl)
expects_by b c i false same = tt

pub expects : (b : ℕ) (i : Text) → Holds {A = Unit {0}} (λ u j. i ≡ b ∷ j) (expect b i)
expects b [] = tt
expects b (c ∷ i) = expects_by b c i (c == b) (eqb-true c b)

pub eats_word : {B : Type 0} (w i : Text) (f : Bool → Parser B) (Q : B → Text → Type 0)
    → ((j : Text) → i ≡ w ++ j → Holds Q (f true j)) → Holds Q (f false i) → Holds Q (and_then (eat_word w i) f)
eats_word w i f Q good bad = by (begins w i) refl
  where
    by : (t : Bool) → begins w i ≡ t → Holds Q (f t (if t then drop (length w) i else i))
    by true e = good (drop (length w) i) (begins_splits w i e)
    by false e = bad

takes : {B : Type 0} (k : ℕ) (i : Text) (f : Option Infix → Parser B) (Q : B → Text → Type 0)
    → ((o : Infix) (j : Text) → first_passing is_here (infixes k) i ≡ Some o → i ≡ spelling o ++ j → Holds Q (f (Some o) j)) → Holds Q (f None i) → Holds Q (and_then (next_infix k i) f)
takes k i f Q good bad = by (first_passing is_here (infixes k) i) refl
  where
    by : (o : Option Infix) → first_passing is_here (infixes k) i ≡ o → Holds Q (f o (skip spelling o i))
    by None e = bad
    by (Some o) e = good o (drop (length (spelling o)) i) e (infix_splits k i o e)

heads : {B : Type 0} (k : ℕ) (i : Text) (f : Option Prefix → Parser B) (Q : B → Text → Type 0)
    → ((o : Prefix) (j : Text) → first_passing is_before (prefixes k) i ≡ Some o → i ≡ prefix_spelling o ++ j → Holds Q (f (Some o) j)) → Holds Q (f None i) → Holds Q (and_then (next_prefix k i) f)
heads k i f Q good bad = by (first_passing is_before (prefixes k) i) refl
  where
    by : (o : Option Prefix) → first_passing is_before (prefixes k) i ≡ o → Holds Q (f o (skip prefix_spelling o i))
    by None e = bad
    by (Some o) e = good o (drop (length (prefix_spelling o)) i) e (prefix_splits k i o e)

-- ---- an operator that is found at a level is one of that level

-- what all of some operators have, the one that is found has
abbrev AllHave : {X : Type 0} → (X → Type 0) → List X → Type 0
AllHave P [] = Unit {0}
AllHave P (x ∷ xs) = P x × AllHave P xs

found_has : {X : Type 0} (P : X → Type 0) (test : X → Text → Bool) (all : List X) (i : Text) (x : X) → AllHave P all → first_passing test all i ≡ Some x → P x
found_has P test [] i x h e = cc
found_has P test (y ∷ all) i x h e = by (found_has P test all i x h.1) (test y i) e
  where
    by : (first_passing test all i ≡ Some x → P x) → (t : Bool) → (if t then Some y else first_passing test all i) ≡ Some x → P x
    by rest true g = let k : y ≡ x = cc in subst P k h.0
    by rest false g = rest g

infixes_have : (k : ℕ) → AllHave (λ o. suc (below o) ≡ k) (infixes k)
infixes_have zero = tt
infixes_have (suc zero) = (refl, tt)
infixes_have (suc (suc zero)) = (refl, (refl, tt))
infixes_have (suc (suc (suc zero))) = (refl, (refl, tt))
infixes_have (suc (suc (suc (suc zero)))) = (refl, tt)
infixes_have (suc (suc (suc (suc (suc zero))))) = (refl, (refl, (refl, (refl, (refl, (refl, tt))))))
infixes_have (suc (suc (suc (suc (suc (suc zero)))))) = tt
infixes_have (suc (suc (suc (suc (suc (suc (suc zero))))))) = (refl, tt)
infixes_have (suc (suc (suc (suc (suc (suc (suc (suc zero)))))))) = (refl, tt)
infixes_have (suc (suc (suc (suc (suc (suc (suc (suc (suc zero))))))))) = (refl, (refl, tt))
infixes_have (suc (suc (suc (suc (suc (suc (suc (suc (suc (suc k)))))))))) = tt

prefixes_have : (k : ℕ) → AllHave (λ o. suc (under o) ≡ k) (prefixes k)
prefixes_have zero = tt
prefixes_have (suc zero) = tt
prefixes_have (suc (suc zero)) = tt
prefixes_have (suc (suc (suc zero))) = (refl, (refl, tt))
prefixes_have (suc (suc (suc (suc zero)))) = tt
prefixes_have (suc (suc (suc (suc (suc zero))))) = tt
prefixes_have (suc (suc (suc (suc (suc (suc zero)))))) = (refl, tt)
prefixes_have (suc (suc (suc (suc (suc (suc (suc k))))))) = tt

-- what stands around an operator of the level above k
pub around : (k : ℕ) (i : Text) (o : Infix) (a b : Expr) (s t : Text) → first_passing is_here (infixes (suc k)) i ≡ Some o → Spells (left_of (grouping (suc k)) k) a s → Spells (right_of (grouping (suc k)) k) b t → Spells (suc k) (binary o a b) (s ++ (spelling o ++ t))
around k i o a b s t e h g =
    let n : suc (below o) ≡ suc k = found_has (λ o. suc (below o) ≡ suc k) is_here (infixes (suc k)) i o (infixes_have (suc k)) e in
    let m : below o ≡ k = omega arith in
    subst (λ k. Spells (left_of (grouping (suc k)) k) a s → Spells (right_of (grouping (suc k)) k) b t → Spells (suc k) (binary o a b) (s ++ (spelling o ++ t))) m (λ h g. joined o h g) h g

behind : (k : ℕ) (i : Text) (o : Prefix) (a : Expr) (s : Text) → first_passing is_before (prefixes (suc k)) i ≡ Some o → Spells k a s → Spells (suc k) (expr.Unary (prefix_operator o) a) (prefix_spelling o ++ s)
behind k i o a s e h =
    let n : suc (under o) ≡ suc k = found_has (λ o. suc (under o) ≡ suc k) is_before (prefixes (suc k)) i o (prefixes_have (suc k)) e in
    let m : under o ≡ k = omega arith in
    subst (λ k. Spells k a s → Spells (suc k) (expr.Unary (prefix_operator o) a) (prefix_spelling o ++ s)) m (λ h. spelled.prefixed o h) h

-- ---- texts

-- the text of what stands in parentheses
closes : (i k l m s : Text) → i ≡ 40 ∷ k → k ≡ s ++ l → l ≡ 41 ∷ m → i ≡ (40 ∷ (s ++ 41 ∷ [])) ++ m
closes i k l m s c b d = c ∙ ap (λ x. 40 ∷ x) (b ∙ ap (λ x. s ++ x) d ∙ sym (append_assoc s (41 ∷ []) m))

joins : (s t r j k : Text) (b : ℕ) → j ≡ b ∷ k → k ≡ t ++ r → s ++ j ≡ (s ++ b ∷ t) ++ r
joins s t r j k b c d = ap (λ x. s ++ x) (c ∙ ap (λ x. b ∷ x) d) ∙ sym (append_assoc s (b ∷ t) r)

-- the text of two operands and their operator
sides : (s o t r i j : Text) → i ≡ o ++ j → j ≡ t ++ r → s ++ i ≡ (s ++ (o ++ t)) ++ r
sides s o t r i j c d = ap (λ x. s ++ x) (c ∙ ap (λ x. o ++ x) d ∙ sym (append_assoc o t r)) ∙ sym (append_assoc s (o ++ t) r)

-- ---- constants and names

abbrev pub Sound : Parser Expr → ℕ → Type 0
Sound p k = (i : Text) → Holds (Begins k i) (p i)

-- a tree that is there is spelled, and where none is there the text is left
abbrev pub Offers : ℕ → Text → Option Expr → Text → Type 0
Offers k i None r = i ≡ r
Offers k i (Some a) r = Begins k i a r

pub number_sound : (i : Text) → Holds (Offers 0 i) (number i)
unfolding number
number_sound i = by (digits i == 0) (is_number (take (digits i) i)) refl
  where
    by : (none t : Bool) → is_number (take (digits i) i) ≡ t → Holds (Offers 0 i) (if◌then◌else◌ {A = Outcome (Option Expr)} none (Some (None, i)) (if◌then◌else◌ {A = Outcome (Option Expr)} t (Some (Some (expr.Int (pos (value_of (take (digits i) i)))), drop (digits i) i)) None))
    by true t e = refl
    by false false e = tt
    by false true e =
        let p = and_parts (nat_lt 0 (length (take (digits i) i))) (nat_lt (value_of (take (digits i) i)) (2 ^ 63)) e in
        (take (digits i) i, sym (take-append-drop (digits i) i), spelled.number (take (digits i) i) (digits_all i, ltb-true 0 (length (take (digits i) i)) p.0) (ltb-true (value_of (take (digits i) i)) (2 ^ 63) p.1))

-- the text is that of some more bytes of a constant, and of the apostrophe behind them
abbrev Closes : Text → Text → Text → Text → Type 0
Closes found i all r = (new : Text) × (all ≡ found ++ new) × (i ≡ doubled new ++ 39 ∷ r)

doubled_one : (new : Text) → doubled (39 ∷ new) ≡ 39 ∷ 39 ∷ doubled new
doubled_one new = refl

doubled_other : (b : ℕ) (new : Text) → (b == 39) ≡ false → doubled (b ∷ new) ≡ b ∷ doubled new
doubled_other b new e = rw e refl

pub characters_sound : (found i : Text) → Holds (Closes found i) (characters found i)
unfolding characters
characters_sound found [] = tt
characters_sound found (b ∷ []) = by (b == 39) refl
  where
    by : (t : Bool) → (b == 39) ≡ t → Holds (Closes found (b ∷ [])) (if◌then◌else◌ {A = Outcome Text} t (Some (found, [])) None)
    by true e = ([], sym (append-nil found), ap (λ x. x ∷ []) (eqb-true b 39 e))
    by false e = tt
characters_sound found (b ∷ c ∷ i) = by (b == 39) (c == 39) refl refl (characters_sound (found ++ 39 ∷ []) i) (characters_sound (found ++ b ∷ []) (c ∷ i))
  where
    by : (t u : Bool) → (b == 39) ≡ t → (c == 39) ≡ u → Holds (Closes (found ++ 39 ∷ []) i) (characters (found ++ 39 ∷ []) i) → Holds (Closes (found ++ b ∷ []) (c ∷ i)) (characters (found ++ b ∷ []) (c ∷ i))
        → Holds (Closes found (b ∷ c ∷ i)) (if t then (if◌then◌else◌ {A = Outcome Text} u (characters (found ++ 39 ∷ []) i) (Some (found, c ∷ i))) else characters (found ++ b ∷ []) (c ∷ i))
    by true true e f two other = holds_weak (characters (found ++ 39 ∷ []) i) (Closes (found ++ 39 ∷ []) i) (Closes found (b ∷ c ∷ i)) two (λ all r h.
        (39 ∷ h.0, h.1 ∙ append_assoc found (39 ∷ []) h.0, ap (λ x. x ∷ c ∷ i) (eqb-true b 39 e) ∙ ap (λ x. 39 ∷ x ∷ i) (eqb-true c 39 f) ∙ ap (λ x. 39 ∷ 39 ∷ x) h.2))
    by true false e f two other = ([], sym (append-nil found), ap (λ x. x ∷ c ∷ i) (eqb-true b 39 e))
    by false u e f two other = holds_weak (characters (found ++ b ∷ []) (c ∷ i)) (Closes (found ++ b ∷ []) (c ∷ i)) (Closes found (b ∷ c ∷ i)) other (λ all r h.
        (b ∷ h.0, h.1 ∙ append_assoc found (b ∷ []) h.0, ap (λ x. b ∷ x) h.2 ∙ ap (λ x. x ++ 39 ∷ r) (sym (doubled_other b h.0 e))))

some_bytes : (bytes : Text) → is_empty bytes ≡ false → 0 < length bytes
some_bytes [] e = cc
some_bytes (b ∷ bytes) e = omega arith

pub constant_sound : (i : Text) → Holds (λ bytes r. (0 < length bytes) × (i ≡ doubled bytes ++ 39 ∷ r)) (constant i)
unfolding constant
constant_sound i = holds_bind (characters [] i) _ (Closes [] i) (λ bytes r. (0 < length bytes) × (i ≡ doubled bytes ++ 39 ∷ r)) (characters_sound [] i) (λ bytes r h. by bytes r (is_empty bytes) refl (subst (λ x. i ≡ doubled x ++ 39 ∷ r) (sym h.1) h.2))
  where
    by : (bytes r : Text) (t : Bool) → is_empty bytes ≡ t → i ≡ doubled bytes ++ 39 ∷ r → Holds (λ bytes r. (0 < length bytes) × (i ≡ doubled bytes ++ 39 ∷ r)) ((if◌then◌else◌ {A = Parser Text} t refuse (pure bytes)) r)
    by bytes r true e h = tt
    by bytes r false e h = (some_bytes bytes e, h)

-- the text of a constant
quoted : (i k d r : Text) → i ≡ 39 ∷ k → k ≡ d ++ 39 ∷ r → i ≡ (39 ∷ (d ++ 39 ∷ [])) ++ r
quoted i k d r c b = c ∙ ap (λ x. 39 ∷ x) (b ∙ sym (append_assoc d (39 ∷ []) r))

pub literal_sound : (i : Text) → Holds (Offers 0 i) (literal i)
unfolding literal
literal_sound i = eats 39 i (λ quote. if quote then (constant >>= (λ bytes. pure (Some (expr.Chars bytes)))) else (eat_word (codes ".TRUE.") >>= (λ yes. if yes then pure (Some (expr.Truth true)) else (eat_word (codes ".FALSE.") >>= (λ untrue. if untrue then pure (Some (expr.Truth false)) else number))))) (Offers 0 i)
    (λ k c. holds_bind (constant k) _ (λ bytes r. (0 < length bytes) × (k ≡ doubled bytes ++ 39 ∷ r)) (Offers 0 i) (constant_sound k) (λ bytes r h. (39 ∷ (doubled bytes ++ 39 ∷ []), quoted i k (doubled bytes) r c h.1, spelled.constant bytes h.0)))
    (eats_word (codes ".TRUE.") i (λ yes. if yes then pure (Some (expr.Truth true)) else (eat_word (codes ".FALSE.") >>= (λ untrue. if untrue then pure (Some (expr.Truth false)) else number))) (Offers 0 i)
    (λ k c. (codes ".TRUE.", c, truth))
    (eats_word (codes ".FALSE.") i (λ untrue. if untrue then pure (Some (expr.Truth false)) else number) (Offers 0 i)
    (λ k c. (codes ".FALSE.", c, falsehood))
    (number_sound i)))

pub name_sound : (i : Text) → Holds (λ n r. (i ≡ n ++ r) × IsName n) (name i)
unfolding name
name_sound i = by (is_name (take (alphanumerics i) i)) refl
  where
    by : (t : Bool) → is_name (take (alphanumerics i) i) ≡ t → Holds (λ n r. (i ≡ n ++ r) × IsName n) (if◌then◌else◌ {A = Outcome Text} t (Some (take (alphanumerics i) i, drop (alphanumerics i) i)) None)
    by true e = (sym (take-append-drop (alphanumerics i) i), e)
    by false e = tt

-- ---- operators and their operands

-- what was read, and more
abbrev Longer : ℕ → Text → Text → Expr → Text → Type 0
Longer k s i x r = (t : Text) × (s ++ i ≡ t ++ r) × Spells k x t

module _ (operand : Parser Expr) (k : ℕ) (sound : Sound operand k) where
  -- at a level that groups to the left
  more_sound : grouping (suc k) ≡ to_left → (n : ℕ) (a : Expr) (s i : Text) → Spells (suc k) a s → Holds (Longer (suc k) s i) (more_operands operand (suc k) n a i)
  unfolding more_operands
  more_sound g zero a s i h = (s, refl, h)
  more_sound g (suc n) a s i h = takes (suc k) i (λ next. on_some next (λ o. operand >>= (λ right. more_operands operand (suc k) n (binary o a right))) (pure a)) (Longer (suc k) s i)
      (λ o j e c. holds_bind (operand j) _ (Begins k j) (Longer (suc k) s i) (sound j) (λ b q p. holds_weak (more_operands operand (suc k) n (binary o a b) q) (Longer (suc k) (s ++ (spelling o ++ p.0)) q) (Longer (suc k) s i)
      (more_sound g n (binary o a b) (s ++ (spelling o ++ p.0)) q (around k i o a b s p.0 e (subst (λ t. Spells (left_of t k) a s) (sym g) h) (subst (λ t. Spells (right_of t k) b p.0) (sym g) p.2))) (λ y r w. (w.0, sides s (spelling o) p.0 q i j c p.1 ∙ w.1, w.2))))
      (s, refl, h)

  -- at a level that groups to the right
  power_sound : grouping (suc k) ≡ to_right → (n : ℕ) (a : Expr) (s i : Text) → Spells k a s → Holds (Longer (suc k) s i) (power operand (suc k) n a i)
  unfolding power
  power_sound g zero a s i h = (s, refl, lower h)
  power_sound g (suc n) a s i h = takes (suc k) i (λ next. on_some next (λ o. operand >>= power operand (suc k) n >>= (λ right. pure (binary o a right))) (pure a)) (Longer (suc k) s i)
      (λ o j e c. holds_bind (and_then (operand j) (power operand (suc k) n)) _ (Begins (suc k) j) (Longer (suc k) s i)
      (holds_bind (operand j) _ (Begins k j) (Begins (suc k) j) (sound j) (λ b q p. holds_weak (power operand (suc k) n b q) (Longer (suc k) p.0 q) (Begins (suc k) j) (power_sound g n b p.0 q p.2) (λ y r w. (w.0, p.1 ∙ w.1, w.2))))
      (λ y r p. (s ++ (spelling o ++ p.0), sides s (spelling o) p.0 r i j c p.1, around k i o a y s p.0 e (subst (λ t. Spells (left_of t k) a s) (sym g) h) (subst (λ t. Spells (right_of t k) y p.0) (sym g) p.2))))
      (s, refl, lower h)

  -- at a level of one operator
  one_sound : grouping (suc k) ≡ once → (a : Expr) (s i : Text) → Spells k a s → Holds (Longer (suc k) s i) (one_operator_at_most operand (suc k) a i)
  unfolding one_operator_at_most
  one_sound g a s i h = takes (suc k) i (λ next. on_some next (λ o. operand >>= (λ right. pure (binary o a right))) (pure a)) (Longer (suc k) s i)
      (λ o j e c. holds_bind (operand j) _ (Begins k j) (Longer (suc k) s i) (sound j)
      (λ y r p. (s ++ (spelling o ++ p.0), sides s (spelling o) p.0 r i j c p.1, around k i o a y s p.0 e (subst (λ t. Spells (left_of t k) a s) (sym g) h) (subst (λ t. Spells (right_of t k) y p.0) (sym g) p.2))))
      (s, refl, lower h)

-- ---- the grammar, where the inner reader is sound

abbrev BeginsAll : Text → List Expr → Text → Type 0
BeginsAll i all r = (s : Text) × (i ≡ s ++ r) × SpellsAll all s

-- the text is a bound and a byte
abbrev BeginsBound : ℕ → Text → Option Expr → Text → Type 0
BeginsBound b i bound r = (s : Text) × (i ≡ s ++ b ∷ r) × SpellsBound bound s

abbrev BeginsPart : Text → Option Part → Text → Type 0
BeginsPart i part r = (s : Text) × (i ≡ s ++ r) × SpellsPart part s

-- more arguments, after the text of those that were found
abbrev Grows : Text → Text → List Expr → List Expr → Text → Type 0
Grows s i found all r = (t : Text) × (s ++ i ≡ t ++ r) × SpellsAll all t

-- an argument more
adds : (found : List Expr) (a : Expr) (s t : Text) → SpellsAll found s → Spells top_level a t → SpellsAll (found ++ a ∷ []) (s ++ 44 ∷ t)
adds _ a _ t (last h) g = more h (last g)
adds _ a _ t (more {a = b} {all = all} {s = s} {t = u} h k) g = subst (SpellsAll (b ∷ (all ++ a ∷ []))) (sym (append_assoc s (44 ∷ u) (44 ∷ t))) (more h (adds all a u t k g))

-- a substring's text
parted : (i j k l q s t : Text) → i ≡ 40 ∷ j → j ≡ s ++ 58 ∷ k → k ≡ t ++ 41 ∷ l → i ≡ (40 ∷ (s ++ 58 ∷ (t ++ 41 ∷ []))) ++ l
parted i j k l q s t c b d = c ∙ ap (λ x. 40 ∷ x) (b ∙ ap (λ x. s ++ 58 ∷ x) (d ∙ sym (append_assoc t (41 ∷ []) l)) ∙ sym (append_assoc s (58 ∷ (t ++ 41 ∷ [])) l))

module _ (inner : Parser Expr) (sound : Sound inner top_level) where
  bound_sound : (b : ℕ) (i : Text) → Holds (BeginsBound b i) (bound inner b i)
  unfolding bound
  bound_sound b i = eats b i (λ none. if none then pure None else (inner >>= (λ a. expect b >> pure (Some a)))) (BeginsBound b i)
      (λ j c. ([], c, left_out))
      (holds_bind (inner i) _ (Begins top_level i) (BeginsBound b i) (sound i) (λ a j p. holds_bind (expect b j) _ (λ u r. j ≡ b ∷ r) (BeginsBound b i) (expects b j) (λ u r d. (p.0, p.1 ∙ ap (λ x. p.0 ++ x) d, given p.2))))

  substring_sound : (i : Text) → Holds (BeginsPart i) (substring inner i)
  unfolding substring
  substring_sound i = eats 40 i (λ opens. if opens then (bound inner 58 >>= (λ low. bound inner 41 >>= (λ high. pure (Some (part_of low high))))) else pure None) (BeginsPart i)
      (λ j c. holds_bind (bound inner 58 j) _ (BeginsBound 58 j) (BeginsPart i) (bound_sound 58 j) (λ low k p. holds_bind (bound inner 41 k) _ (BeginsBound 41 k) (BeginsPart i) (bound_sound 41 k) (λ high l q.
      (40 ∷ (p.0 ++ 58 ∷ (q.0 ++ 41 ∷ [])), parted i j k l [] p.0 q.0 c p.1 q.1, spelled.part p.2 q.2))))
      ([], refl, no_part)

  more_arguments_sound : (n : ℕ) (found : List Expr) (s i : Text) → SpellsAll found s → Holds (Grows s i found) (more_arguments inner n found i)
  unfolding more_arguments
  more_arguments_sound zero found s i h = (s, refl, h)
  more_arguments_sound (suc n) found s i h = eats 44 i (λ comma. if comma then (inner >>= (λ a. more_arguments inner n (found ++ a ∷ []))) else pure found) (Grows s i found)
      (λ k c. holds_bind (inner k) _ (Begins top_level k) (Grows s i found) (sound k) (λ a j p. holds_weak (more_arguments inner n (found ++ a ∷ []) j) (Grows (s ++ 44 ∷ p.0) j (found ++ a ∷ [])) (Grows s i found)
      (more_arguments_sound n (found ++ a ∷ []) (s ++ 44 ∷ p.0) j (adds found a s p.0 h p.2)) (λ all r w. (w.0, joins s p.0 j i k 44 c p.1 ∙ w.1, w.2))))
      (s, refl, h)

  arguments_sound : (first : Expr) (s i : Text) → Spells top_level first s → Holds (Grows s i (first ∷ [])) (arguments inner first i)
  unfolding arguments
  arguments_sound first s i h = more_arguments_sound (length i) (first ∷ []) s i (last h)

  -- a reference whose list, of the text s, is read
  abbrev Refers : Text → Text → Text → Expr → Text → Type 0
  Refers n s i a r = (t : Text) × (s ++ i ≡ t ++ r) × Spells 0 a (n ++ t)

  with_part_sound : (n : Text) (all : List Expr) (s i : Text) → IsName n → SpellsArguments (Some all) s → Holds (Refers n s i) (with_part inner n all i)
  unfolding with_part
  with_part_sound n all s i is h = holds_bind (substring inner i) _ (BeginsPart i) (Refers n s i) (substring_sound i) (λ part r p.
      (s ++ p.0, ap (λ x. s ++ x) p.1 ∙ sym (append_assoc s p.0 r), spelled.reference n is h p.2))

  -- a reference whose low bound is read, with its text
  with_low_sound : (n : Text) (low : Option Expr) (s i : Text) → IsName n → SpellsBound low s → Holds (Refers n (40 ∷ (s ++ 58 ∷ [])) i) (with_low inner n low i)
  unfolding with_low
  with_low_sound n low s i is h = holds_bind (bound inner 41 i) _ (BeginsBound 41 i) (Refers n (40 ∷ (s ++ 58 ∷ [])) i) (bound_sound 41 i) (λ high r p.
      (40 ∷ (s ++ 58 ∷ (p.0 ++ 41 ∷ [])), ap (λ x. 40 ∷ x) (append_assoc s (58 ∷ []) i) ∙ parted (40 ∷ (s ++ 58 ∷ i)) (s ++ 58 ∷ i) i r [] s p.0 refl refl p.1, spelled.reference n is no_list (spelled.part h p.2)))

  -- what is read of a text is read of the text behind some more of it
  shifts : (n s t i j : Text) (o : Outcome Expr) → s ++ i ≡ t ++ j → Holds (Refers n t j) o → Holds (Refers n s i) o
  shifts n s t i j o e h = holds_weak o (Refers n t j) (Refers n s i) h (λ a r w. (w.0, e ∙ w.1, w.2))

  with_first_sound : (n : Text) (first : Expr) (s i : Text) → IsName n → Spells top_level first s → Holds (Refers n (40 ∷ s) i) (with_first inner n first i)
  unfolding with_first
  with_first_sound n first s i is h = eats 58 i (λ colon. if colon then with_low inner n (Some first) else (arguments inner first >>= (λ all. expect 41 >> with_part inner n all))) (Refers n (40 ∷ s) i)
      (λ j c. shifts n (40 ∷ s) (40 ∷ (s ++ 58 ∷ [])) i j (with_low inner n (Some first) j) (ap (λ x. 40 ∷ (s ++ x)) c ∙ ap (λ x. 40 ∷ x) (sym (append_assoc s (58 ∷ []) j))) (with_low_sound n (Some first) s j is (given h)))
      (holds_bind (arguments inner first i) _ (Grows s i (first ∷ [])) (Refers n (40 ∷ s) i) (arguments_sound first s i h) (λ all j p. holds_bind (expect 41 j) _ (λ u r. j ≡ 41 ∷ r) (Refers n (40 ∷ s) i) (expects 41 j) (λ u k d.
      shifts n (40 ∷ s) (40 ∷ (p.0 ++ 41 ∷ [])) i k (with_part inner n all k) (ap (λ x. 40 ∷ x) (p.1 ∙ ap (λ x. p.0 ++ x) d ∙ sym (append_assoc p.0 (41 ∷ []) k))) (with_part_sound n all (40 ∷ (p.0 ++ 41 ∷ [])) k is (list p.2)))))

  opened_sound : (n i : Text) → IsName n → Holds (Refers n (40 ∷ []) i) (opened inner n i)
  unfolding opened
  opened_sound n i is = eats 41 i (λ shut. if shut then with_part inner n [] else (eat 58 >>= (λ colon. if colon then with_low inner n None else (inner >>= (λ first. with_first inner n first))))) (Refers n (40 ∷ []) i)
      (λ j c. shifts n (40 ∷ []) (40 ∷ 41 ∷ []) i j (with_part inner n [] j) (ap (λ x. 40 ∷ x) c) (with_part_sound n [] (40 ∷ 41 ∷ []) j is empty_list))
      (eats 58 i (λ colon. if colon then with_low inner n None else (inner >>= (λ first. with_first inner n first))) (Refers n (40 ∷ []) i)
      (λ j c. shifts n (40 ∷ []) (40 ∷ 58 ∷ []) i j (with_low inner n None j) (ap (λ x. 40 ∷ x) c) (with_low_sound n None [] j is left_out))
      (holds_bind (inner i) _ (Begins top_level i) (Refers n (40 ∷ []) i) (sound i) (λ first j p.
      shifts n (40 ∷ []) (40 ∷ p.0) i j (with_first inner n first j) (ap (λ x. 40 ∷ x) p.1) (with_first_sound n first p.0 j is p.2))))

  pub reference_sound : Sound (reading.reference inner) 0
  unfolding reading.reference
  reference_sound i = holds_bind (name i) _ (λ n r. (i ≡ n ++ r) × IsName n) (Begins 0 i) (name_sound i) (λ n j h. eats 40 j (λ opens. if opens then opened inner n else pure (reference_of n None None)) (Begins 0 i)
      (λ k c. holds_weak (opened inner n k) (Refers n (40 ∷ []) k) (Begins 0 i) (opened_sound n k h.1) (λ a r w. (n ++ w.0, h.0 ∙ ap (λ x. n ++ x) (c ∙ w.1) ∙ sym (append_assoc n w.0 r), w.2)))
      (n, h.0, subst (Spells 0 (reference_of n None None)) (append-nil n) (spelled.reference n h.1 no_list no_part)))

  pub primary_sound : Sound (primary inner) 0
  unfolding primary
  primary_sound i = eats 40 i (λ opens. if opens then (inner >>= (λ a. expect 41 >> pure (expr.Paren a))) else (literal >>= (λ found. on_some found (λ a. pure a) (reading.reference inner)))) (Begins 0 i)
      (λ k c. holds_bind (inner k) _ (Begins top_level k) (Begins 0 i) (sound k) (λ a l b. holds_bind (expect 41 l) _ (λ u m. l ≡ 41 ∷ m) (Begins 0 i) (expects 41 l) (λ u m d.
      (40 ∷ (b.0 ++ 41 ∷ []), closes i k l m b.0 c b.1 d, parentheses b.2))))
      (holds_bind (literal i) _ (Offers 0 i) (Begins 0 i) (literal_sound i) by)
    where
      by : (found : Option Expr) (j : Text) → Offers 0 i found j → Holds (Begins 0 i) (on_some found (λ a. pure a) (reading.reference inner) j)
      by None j h = subst (λ x. Holds (Begins 0 x) (reading.reference inner j)) (sym h) (reference_sound j)
      by (Some a) j h = h

  -- what stands behind a first operand that is no more than that
  rest_sound : (k : ℕ) (t : Grouping) → grouping (suc k) ≡ t → Sound (level inner k) k → (a : Expr) (s i : Text) → Spells k a s → Holds (Longer (suc k) s i) (rest_of t (level inner k) (suc k) a i)
  rest_sound k to_left g below a s i h = more_sound (level inner k) k below g (length i) a s i (lower h)
  rest_sound k to_right g below a s i h = power_sound (level inner k) k below g (length i) a s i h
  rest_sound k once g below a s i h = one_sound (level inner k) k below g a s i h

  prefix_left : (o : Prefix) → grouping (suc (under o)) ≡ to_left
  prefix_left before.Plus = refl
  prefix_left before.Neg = refl
  prefix_left before.Not = refl

  -- what stands behind a first operand that has its operator before it
  prefixed_sound : (k : ℕ) (t : Grouping) → grouping (suc k) ≡ t → to_left ≡ t → Sound (level inner k) k → (a : Expr) (s i : Text) → Spells (suc k) a s → Holds (Longer (suc k) s i) (rest_of t (level inner k) (suc k) a i)
  prefixed_sound k to_left g e below a s i h = more_sound (level inner k) k below g (length i) a s i h
  prefixed_sound k to_right g e below a s i h = cc
  prefixed_sound k once g e below a s i h = cc

  level_sound : (k : ℕ) → Sound (level inner k) k
  unfolding level
  level_sound zero i = primary_sound i
  level_sound (suc k) i = heads (suc k) i (λ found. level inner k >>= (λ first. rest_of (grouping (suc k)) (level inner k) (suc k) (prefixed found first))) (Begins (suc k) i)
      (λ o j e c. holds_bind (level inner k j) _ (Begins k j) (Begins (suc k) i) (level_sound k j) (λ a q p.
      let n : suc (under o) ≡ suc k = found_has (λ o. suc (under o) ≡ suc k) is_before (prefixes (suc k)) i o (prefixes_have (suc k)) e in
      holds_weak (rest_of (grouping (suc k)) (level inner k) (suc k) (expr.Unary (prefix_operator o) a) q) (Longer (suc k) (prefix_spelling o ++ p.0) q) (Begins (suc k) i)
      (prefixed_sound k (grouping (suc k)) refl (sym (prefix_left o) ∙ ap grouping n) (level_sound k) (expr.Unary (prefix_operator o) a) (prefix_spelling o ++ p.0) q (behind k i o a p.0 e p.2))
      (λ x r w. (w.0, c ∙ ap (λ z. prefix_spelling o ++ z) p.1 ∙ sym (append_assoc (prefix_spelling o) p.0 q) ∙ w.1, w.2))))
      (holds_bind (level inner k i) _ (Begins k i) (Begins (suc k) i) (level_sound k i) (λ a q p.
      holds_weak (rest_of (grouping (suc k)) (level inner k) (suc k) a q) (Longer (suc k) p.0 q) (Begins (suc k) i)
      (rest_sound k (grouping (suc k)) refl (level_sound k) a p.0 q p.2)
      (λ x r w. (w.0, p.1 ∙ w.1, w.2))))

-- what is read as an expr before a rest is spelled so
pub within_sound : (depth : ℕ) → Sound (expr_within depth) top_level
unfolding expr_within
within_sound zero i = tt
within_sound (suc depth) i = level_sound (expr_within depth) (within_sound depth) 9 i

all_sound : (text : Text) (o : Outcome Expr) (a : Expr) → Holds (Begins top_level text) o → all_of o ≡ Some a → Spells top_level a text
all_sound text None a h e = cc
all_sound text (Some (b, [])) a h e =
    let k : b ≡ a = cc in
    let t : text ≡ h.0 = h.1 ∙ append-nil h.0 in
    rw (t, ← k) h.2
all_sound text (Some (b, c ∷ r)) a h e = cc

pub read_is_spelled : (text : Text) (a : Expr) → expr_of text ≡ Some a → Spells top_level a text
unfolding expr_of
read_is_spelled text a e = all_sound text (expr_within (suc (length text)) text) a (within_sound (suc (length text)) text) e
