-- What is spelled is read.
use Rattle.std.proofs.Common.{◌≡◌, ◌≢◌, ℕ, zero, suc, ◌+◌, ◌≤◌, ◌<◌, Bool, false, if◌then◌else◌, [], ◌∷◌, ◌++◌, length, drop, Option, Some, None, refl, sym, ap, ◌∙◌, arith, length-append}
use Rattle.std.proofs.lemmas.List.{append_assoc}
use Rattle.std.specs.Prelude.{codes}
use Rattle.f77_ast.specs.declared.expr.Expr.{Expr}
use Rattle.f77_ast.specs.declared.expr.Expr.TheVariants as expr
use Rattle.f77_exprs.specs.declared.operators.Infix.{Infix}
use Rattle.f77_exprs.specs.declared.operators.Infix.TheVariants as between
use Rattle.f77_exprs.specs.declared.operators.Prefix.{Prefix}
use Rattle.f77_exprs.specs.declared.operators.Prefix.TheVariants as before
use Rattle.f77_exprs.specs.Operators.{Text, spelling, below, prefix_operator, prefix_spelling, under, infixes, prefixes, Grouping, to_left, to_right, once, grouping, left_level, right_level, begins, is_here, is_before, first_passing}
use Rattle.f77_exprs.specs.Spelling.{top_level}
use Rattle.f77_exprs.specs.Reading.{Outcome, Parser, and_then, ◌>>=◌, pure, sees, eat, eat_word, skip, next_prefix, prefixed, binary, digits, alphanumerics, more_operands, power, one_operator_at_most, rest_of, primary, level, expr_within}
use Rattle.f77_exprs.proofs.Words.{drop_all, some_spelling}
use Rattle.f77_exprs.proofs.Turns.{no_turn, one_turn}
use Rattle.f77_exprs.proofs.Powers.{power_ends, power_one}

pub bind : {A B : Type 0} (o : Outcome A) (f : A → Parser B) (a : A) (j : Text) → o ≡ Some (a, j) → and_then o f ≡ f a j
bind o f a j e = ap (λ x. and_then x f) e

pub eats_no : {B : Type 0} (b : ℕ) (r : Text) (f : Bool → Parser B) → sees b r ≡ false → and_then (eat b r) f ≡ f false r
eats_no b r f e = ap (λ t. f t (if t then drop 1 r else r)) e

pub word_no : {B : Type 0} (w r : Text) (f : Bool → Parser B) → begins w r ≡ false → and_then (eat_word w r) f ≡ f false r
word_no w r f e = ap (λ t. f t (if t then drop (length w) r else r)) e

-- ---- what may follow an operand

-- what ends a primary: no letter or digit, no apostrophe and no parenthesis
abbrev pub Ends : Text → Type 0
Ends r = (digits r ≡ 0) × (alphanumerics r ≡ 0) × (sees 39 r ≡ false) × (sees 40 r ≡ false)

-- the operator of a level that comes next
abbrev Found : ℕ → Text → Option Infix
Found k i = first_passing is_here (infixes k) i

-- what ends an operand of a level: no operator of it, or of a lower one
abbrev pub Free : ℕ → Text → Type 0
Free zero r = Ends r
Free (suc k) r = (Found (suc k) r ≡ None) × Free k r

-- what no operand begins with: what an operator may go on with, or what stands behind an operand that is left out
abbrev pub Starts : Text → Type 0
Starts t = (sees 42 t ≡ false) × (sees 47 t ≡ false) × (sees 41 t ≡ false) × (sees 58 t ≡ false)

-- what an operand of a level doesn't begin with: the operator at the head of a higher one
abbrev pub Bare : ℕ → Text → Type 0
Bare k t = (k < 3 → sees 43 t ≡ false) × (k < 3 → sees 45 t ≡ false) × (k < 6 → begins (codes ".NOT.") t ≡ false)

-- an operator is none of a lower level
apart : (o : Infix) (t : Text) → Starts t → Free (below o) (spelling o ++ t)
apart between.Pow t h = (refl, refl, refl, refl)
apart between.Mul [] h = (refl, (refl, refl, refl, refl))
apart between.Mul (c ∷ t) h = (rw h.0 refl, (refl, refl, refl, refl))
apart between.Div t h = (refl, (refl, refl, refl, refl))
apart between.Add t h = (refl, (refl, (refl, refl, refl, refl)))
apart between.Sub t h = (refl, (refl, (refl, refl, refl, refl)))
apart between.Cat t h = (refl, (refl, (refl, (refl, refl, refl, refl))))
apart between.Eq t h = (refl, (refl, (refl, (refl, (refl, refl, refl, refl)))))
apart between.Ne t h = (refl, (refl, (refl, (refl, (refl, refl, refl, refl)))))
apart between.Lt t h = (refl, (refl, (refl, (refl, (refl, refl, refl, refl)))))
apart between.Le t h = (refl, (refl, (refl, (refl, (refl, refl, refl, refl)))))
apart between.Gt t h = (refl, (refl, (refl, (refl, (refl, refl, refl, refl)))))
apart between.Ge t h = (refl, (refl, (refl, (refl, (refl, refl, refl, refl)))))
apart between.And t h = (refl, (refl, (refl, (refl, (refl, (refl, (refl, refl, refl, refl)))))))
apart between.Or t h = (refl, (refl, (refl, (refl, (refl, (refl, (refl, (refl, refl, refl, refl))))))))
apart between.Eqv t h = (refl, (refl, (refl, (refl, (refl, (refl, (refl, (refl, (refl, refl, refl, refl)))))))))
apart between.Neqv t h = (refl, (refl, (refl, (refl, (refl, (refl, (refl, (refl, (refl, refl, refl, refl)))))))))

-- an operator is found at its own level
found : (o : Infix) (t : Text) → Starts t → Found (suc (below o)) (spelling o ++ t) ≡ Some o
found between.Pow t h = refl
found between.Mul t h = refl
found between.Div [] h = refl
found between.Div (c ∷ t) h = rw h.1 refl
found between.Add t h = refl
found between.Sub t h = refl
found between.Cat t h = refl
found between.Eq t h = refl
found between.Ne t h = refl
found between.Lt t h = refl
found between.Le t h = refl
found between.Gt t h = refl
found between.Ge t h = refl
found between.And t h = refl
found between.Or t h = refl
found between.Eqv t h = refl
found between.Neqv t h = refl

-- no sign of no level
pub closing : (m : Text) → Free top_level (41 ∷ m)
closing m = (refl, (refl, (refl, (refl, (refl, (refl, (refl, (refl, (refl, (refl, refl, refl, refl))))))))))

pub comma : (m : Text) → Free top_level (44 ∷ m)
comma m = (refl, (refl, (refl, (refl, (refl, (refl, (refl, (refl, (refl, (refl, refl, refl, refl))))))))))

pub colon : (m : Text) → Free top_level (58 ∷ m)
colon m = (refl, (refl, (refl, (refl, (refl, (refl, (refl, (refl, (refl, (refl, refl, refl, refl))))))))))

pub ending : Free top_level []
ending = (refl, (refl, (refl, (refl, (refl, (refl, (refl, (refl, (refl, (refl, refl, refl, refl))))))))))

-- ---- operators at the head of a level

no_head : (k : ℕ) (t : Text) → Bare k t → next_prefix (suc k) t ≡ Some (None, t)
no_head k t h = ap (λ y. Some (y, skip prefix_spelling y t)) (by k h)
  where
    two : (t : Text) → sees 43 t ≡ false → sees 45 t ≡ false → first_passing is_before (before.Plus ∷ before.Neg ∷ []) t ≡ None
    two [] a b = refl
    two (c ∷ t) a b = rw (a, b) refl

    by : (k : ℕ) → Bare k t → first_passing is_before (prefixes (suc k)) t ≡ None
    by zero h = refl
    by (suc zero) h = refl
    by (suc (suc zero)) h = two t (h.0 (omega arith)) (h.1 (omega arith))
    by (suc (suc (suc zero))) h = refl
    by (suc (suc (suc (suc zero)))) h = refl
    by (suc (suc (suc (suc (suc zero))))) h = rw (h.2 (omega arith)) refl
    by (suc (suc (suc (suc (suc (suc k)))))) h = refl

some_head : (o : Prefix) (t : Text) → next_prefix (suc (under o)) (prefix_spelling o ++ t) ≡ Some (Some o, t)
some_head before.Plus t = refl
some_head before.Neg t = refl
some_head before.Not t = refl

-- ---- what is to be shown at each level

-- a count of turns that is enough for the rest
abbrev Enough : Text → (ℕ → Type 0) → Type 0
Enough r P = (n : ℕ) × (length r ≤ n) × P n

-- the reader of a level, where parentheses nest less deep than this
abbrev At : ℕ → ℕ → Parser Expr
At d k = level (expr_within d) k

-- a text is read as a tree, before any rest that may follow
abbrev pub Reads : ℕ → (ℕ → Parser Expr) → Expr → Text → Type 0
Reads k p a s = (d : ℕ) → length s ≤ d → (r : Text) → Free k r → p d (s ++ r) ≡ Some (a, r)

abbrev Completes : Grouping → ℕ → Expr → Text → Type 0
Completes to_left k a s = (d : ℕ) → length s ≤ d → (r : Text) → Free k r → Enough r (λ n. At d (suc k) (s ++ r) ≡ more_operands (At d k) (suc k) n a r)
Completes to_right k a s = (d : ℕ) → length s ≤ d → (r : Text) → Free (suc k) r → (b : Expr) × (j : Text) × (At d k (s ++ r) ≡ Some (b, j)) × (length j ≤ length (s ++ r)) × ((n : ℕ) → length j ≤ n → power (At d k) (suc k) n b j ≡ Some (a, r))
Completes once k a s = Reads (suc k) (λ d. At d (suc k)) a s

abbrev pub Complete : ℕ → Expr → Text → Type 0
Complete zero a s = Reads 0 (λ d. primary (expr_within d)) a s
Complete (suc k) a s = Completes (grouping (suc k)) k a s

-- a level without an operator at its head
headless : (k : ℕ) (t : Grouping) → grouping (suc k) ≡ t → t ≢ to_left → prefixes (suc k) ≡ []
headless zero t e f = refl
headless (suc zero) t e f = refl
headless (suc (suc zero)) t e f = absurd (f (sym e))
headless (suc (suc (suc zero))) t e f = refl
headless (suc (suc (suc (suc zero)))) t e f = refl
headless (suc (suc (suc (suc (suc zero))))) t e f = absurd (f (sym e))
headless (suc (suc (suc (suc (suc (suc k)))))) t e f = refl

-- so what is read there is what stands behind its first operand
without_head : (d k : ℕ) (i : Text) → prefixes (suc k) ≡ [] → At d (suc k) i ≡ and_then (At d k i) (rest_of (grouping (suc k)) (At d k) (suc k))
unfolding level
without_head d k i e = bind (next_prefix (suc k) i) (λ found. level (expr_within d) k >>= (λ first. rest_of (grouping (suc k)) (level (expr_within d) k) (suc k) (prefixed found first))) None i (ap (λ y. Some (first_passing is_before y i, skip prefix_spelling (first_passing is_before y i) i)) e)

is_read : (k : ℕ) (t : Grouping) (a : Expr) (s : Text) → grouping (suc k) ≡ t → Completes t k a s → Reads (suc k) (λ d. At d (suc k)) a s
is_read k to_left a s g h d le r free = let t = h d le r free.1 in t.2 ∙ no_turn (At d k) (suc k) t.0 a r free.0
is_read k to_right a s g h d le r free =
    let t = h d le r free in
    without_head d k (s ++ r) (headless k to_right g (λ e. cc))
    ∙ ap (λ x. and_then (At d k (s ++ r)) (rest_of x (At d k) (suc k))) g
    ∙ bind (At d k (s ++ r)) (rest_of to_right (At d k) (suc k)) t.0 t.1 t.2
    ∙ t.4 (length t.1) (omega arith)
is_read k once a s g h d le r free = h d le r free

pub level_read : (k : ℕ) (a : Expr) (s : Text) → Complete k a s → Reads k (λ d. At d k) a s
unfolding level
level_read zero a s h d le r free = h d le r free
level_read (suc k) a s h d le r free = is_read k (grouping (suc k)) a s refl h d le r free

-- a level of one operator at most
one_ends : (item : Parser Expr) (k : ℕ) (a : Expr) (r : Text) → Found k r ≡ None → one_operator_at_most item k a r ≡ Some (a, r)
unfolding one_operator_at_most
one_ends item k a r e = rw e refl

one_goes : (item : Parser Expr) (k : ℕ) (o : Infix) (a b : Expr) (i r : Text) → Found k (spelling o ++ i) ≡ Some o → item i ≡ Some (b, r) → one_operator_at_most item k a (spelling o ++ i) ≡ Some (binary o a b, r)
unfolding one_operator_at_most
one_goes item k o a b i r e f = rw (e, drop_all, f) refl

-- ---- an operand of the level below

pub lower_step : (t : Grouping) (k : ℕ) (a : Expr) (s : Text) → grouping (suc k) ≡ t → ((r : Text) → Bare k (s ++ r)) → Reads k (λ d. At d k) a s → Completes t k a s
unfolding level
lower_step to_left k a s g bare h = λ d le r free. (
  length r,
  omega arith,
  bind (next_prefix (suc k) (s ++ r)) (λ found. level (expr_within d) k >>= (λ first. rest_of (grouping (suc k)) (level (expr_within d) k) (suc k) (prefixed found first))) None (s ++ r) (no_head k (s ++ r) (bare r))
      ∙ bind (At d k (s ++ r)) (rest_of (grouping (suc k)) (At d k) (suc k)) a r (h d le r free)
      ∙ ap (λ x. rest_of x (At d k) (suc k) a r) g,
)
lower_step to_right k a s g bare h = λ d le r free.
    let l = length-append s r in
    (a, r, h d le r free.1, omega arith, λ n few. power_ends (At d k) (suc k) n a r r free.0 (rw free.0 refl))
lower_step once k a s g bare h = λ d le r free.
    without_head d k (s ++ r) (headless k once g (λ e. cc))
    ∙ ap (λ x. and_then (At d k (s ++ r)) (rest_of x (At d k) (suc k))) g
    ∙ bind (At d k (s ++ r)) (one_operator_at_most (At d k) (suc k)) a r (h d le r free.1)
    ∙ one_ends (At d k) (suc k) a r free.0

-- ---- an operator before its operand

head_step : (o : Prefix) (a : Expr) (s : Text) → grouping (suc (under o)) ≡ to_left → Reads (under o) (λ d. At d (under o)) a s → Completes to_left (under o) (expr.Unary (prefix_operator o) a) (prefix_spelling o ++ s)
unfolding level
head_step o a s g h d le r free =
    let l = length-append (prefix_spelling o) s in
    let k = under o in (
      length r,
      omega arith,
      ap (At d (suc k)) (append_assoc (prefix_spelling o) s r)
          ∙ bind (next_prefix (suc k) (prefix_spelling o ++ (s ++ r))) (λ found. level (expr_within d) k >>= (λ first. rest_of (grouping (suc k)) (level (expr_within d) k) (suc k) (prefixed found first))) (Some o) (s ++ r) (some_head o (s ++ r))
          ∙ bind (At d k (s ++ r)) (λ first. rest_of (grouping (suc k)) (At d k) (suc k) (prefixed (Some o) first)) a r (h d (omega arith) r free)
          ∙ ap (λ x. rest_of x (At d k) (suc k) (expr.Unary (prefix_operator o) a) r) g,
    )

pub prefix_step : (o : Prefix) (a : Expr) (s : Text) → Complete (under o) a s → Complete (suc (under o)) (expr.Unary (prefix_operator o) a) (prefix_spelling o ++ s)
prefix_step before.Plus a s h = head_step before.Plus a s refl (level_read 2 a s h)
prefix_step before.Neg a s h = head_step before.Neg a s refl (level_read 2 a s h)
prefix_step before.Not a s h = head_step before.Not a s refl (level_read 5 a s h)

-- ---- an operator between two operands

-- the text of two operands and what follows
sides : (s m t r : Text) → (s ++ (m ++ t)) ++ r ≡ s ++ (m ++ (t ++ r))
sides s m t r = append_assoc s (m ++ t) r ∙ ap (λ i. s ++ i) (append_assoc m t r)

-- its length
longer : (s m t : Text) → 1 ≤ length m → length s + length t < length (s ++ (m ++ t))
longer s m t z = let l = length-append s (m ++ t) in let q = length-append m t in omega arith

items_more : (item : Parser Expr) (o : Infix) (n : ℕ) (a b : Expr) (j r : Text) → Starts j → length r ≤ length j → suc (length j) ≤ n → item j ≡ Some (b, r)
    → Enough r (λ m. more_operands item (suc (below o)) n a (spelling o ++ j) ≡ more_operands item (suc (below o)) m (binary o a b) r)
items_more item o zero a b j r h k g f = absurd (omega arith)
items_more item o (suc n) a b j r h k g f = (
  n,
  omega arith,
  one_turn item (suc (below o)) n a (spelling o ++ j) o (found o j h)
      ∙ bind (item (drop (length (spelling o)) (spelling o ++ j))) (λ right. more_operands item (suc (below o)) n (binary o a right)) b r (ap item (drop_all (spelling o) j) ∙ f),
)

left_step : (o : Infix) (a b : Expr) (s t : Text) → ((r : Text) → Starts (t ++ r)) → Completes to_left (below o) a s → Reads (below o) (λ d. At d (below o)) b t → Completes to_left (below o) (binary o a b) (s ++ (spelling o ++ t))
left_step o a b s t starts h g d le r free =
    let z = some_spelling o in
    let l = longer s (spelling o) t (omega arith) in
    let k = length-append t r in
    let j = length-append (spelling o) (t ++ r) in
    let y = h d (omega arith) (spelling o ++ (t ++ r)) (apart o (t ++ r) (starts r)) in
    let w = items_more (At d (below o)) o y.0 a b (t ++ r) r (starts r) (omega arith) (omega arith) (g d (omega arith) r free) in
    (w.0, w.1, ap (At d (suc (below o))) (sides s (spelling o) t r) ∙ y.2 ∙ w.2)

right_step : (o : Infix) (a b : Expr) (s t : Text) → ((r : Text) → Starts (t ++ r)) → Reads (below o) (λ d. At d (below o)) a s → Completes to_right (below o) b t → Completes to_right (below o) (binary o a b) (s ++ (spelling o ++ t))
right_step o a b s t starts h g d le r free =
    let z = some_spelling o in
    let l = longer s (spelling o) t (omega arith) in
    let k = below o in
    let i = t ++ r in
    let y = g d (omega arith) r free in
    let p = length-append s (spelling o ++ i) in
    let e = ap length (sides s (spelling o) t r) in
    (a, spelling o ++ i, ap (At d k) (sides s (spelling o) t r) ∙ h d (omega arith) (spelling o ++ i) (apart o i (starts r)), omega arith, goes d i r y.0 y.1 (starts r) y.2 y.3 y.4)
  where
    goes : (d : ℕ) (i r : Text) (x : Expr) (j : Text) → Starts i → At d (below o) i ≡ Some (x, j) → length j ≤ length i → ((n : ℕ) → length j ≤ n → power (At d (below o)) (suc (below o)) n x j ≡ Some (b, r)) → (n : ℕ) → length (spelling o ++ i) ≤ n → power (At d (below o)) (suc (below o)) n a (spelling o ++ i) ≡ Some (binary o a b, r)
    goes d i r x j begin first within then_ zero few = let z = some_spelling o in let q = length-append (spelling o) i in absurd (omega arith)
    goes d i r x j begin first within then_ (suc n) few =
        let z = some_spelling o in
        let q = length-append (spelling o) i in
        power_one (At d (below o)) (suc (below o)) n a (spelling o ++ i) o (found o i begin)
        ∙ ap (λ x. and_then (and_then (At d (below o) x) (power (At d (below o)) (suc (below o)) n)) (λ right. pure (binary o a right))) (drop_all (spelling o) i)
        ∙ ap (λ x. and_then (and_then x (power (At d (below o)) (suc (below o)) n)) (λ right. pure (binary o a right))) first
        ∙ ap (λ x. and_then x (λ right. pure (binary o a right))) (then_ n (omega arith))

once_step : (o : Infix) (a b : Expr) (s t : Text) → grouping (suc (below o)) ≡ once → ((r : Text) → Starts (t ++ r)) → Reads (below o) (λ d. At d (below o)) a s → Reads (below o) (λ d. At d (below o)) b t → Completes once (below o) (binary o a b) (s ++ (spelling o ++ t))
once_step o a b s t g starts h f d le r free =
    let z = some_spelling o in
    let l = longer s (spelling o) t (omega arith) in
    let k = below o in
    let i = t ++ r in
    ap (At d (suc k)) (sides s (spelling o) t r)
    ∙ without_head d k (s ++ (spelling o ++ i)) (headless k once g (λ e. cc))
    ∙ ap (λ x. and_then (At d k (s ++ (spelling o ++ i))) (rest_of x (At d k) (suc k))) g
    ∙ bind (At d k (s ++ (spelling o ++ i))) (one_operator_at_most (At d k) (suc k)) a (spelling o ++ i) (h d (omega arith) (spelling o ++ i) (apart o i (starts r)))
    ∙ one_goes (At d k) (suc k) o a b i r (found o i (starts r)) (f d (omega arith) r free.1)

pub joined_step : (o : Infix) (a b : Expr) (s t : Text) → ((r : Text) → Starts (t ++ r)) → Complete (left_level o) a s → Complete (right_level o) b t → Complete (suc (below o)) (binary o a b) (s ++ (spelling o ++ t))
joined_step between.Pow a b s t starts h g = right_step between.Pow a b s t starts (level_read 0 a s h) g
joined_step between.Mul a b s t starts h g = left_step between.Mul a b s t starts h (level_read 1 b t g)
joined_step between.Div a b s t starts h g = left_step between.Div a b s t starts h (level_read 1 b t g)
joined_step between.Add a b s t starts h g = left_step between.Add a b s t starts h (level_read 2 b t g)
joined_step between.Sub a b s t starts h g = left_step between.Sub a b s t starts h (level_read 2 b t g)
joined_step between.Cat a b s t starts h g = left_step between.Cat a b s t starts h (level_read 3 b t g)
joined_step between.Eq a b s t starts h g = once_step between.Eq a b s t refl starts (level_read 4 a s h) (level_read 4 b t g)
joined_step between.Ne a b s t starts h g = once_step between.Ne a b s t refl starts (level_read 4 a s h) (level_read 4 b t g)
joined_step between.Lt a b s t starts h g = once_step between.Lt a b s t refl starts (level_read 4 a s h) (level_read 4 b t g)
joined_step between.Le a b s t starts h g = once_step between.Le a b s t refl starts (level_read 4 a s h) (level_read 4 b t g)
joined_step between.Gt a b s t starts h g = once_step between.Gt a b s t refl starts (level_read 4 a s h) (level_read 4 b t g)
joined_step between.Ge a b s t starts h g = once_step between.Ge a b s t refl starts (level_read 4 a s h) (level_read 4 b t g)
joined_step between.And a b s t starts h g = left_step between.And a b s t starts h (level_read 6 b t g)
joined_step between.Or a b s t starts h g = left_step between.Or a b s t starts h (level_read 7 b t g)
joined_step between.Eqv a b s t starts h g = left_step between.Eqv a b s t starts h (level_read 8 b t g)
joined_step between.Neqv a b s t starts h g = left_step between.Neqv a b s t starts h (level_read 8 b t g)

-- ---- expr

pub whole_read : (a : Expr) (s : Text) → Complete top_level a s → (d : ℕ) → length s < d → (r : Text) → Free top_level r → expr_within d (s ++ r) ≡ Some (a, r)
unfolding expr_within
whole_read a s h zero le r free = absurd (omega arith)
whole_read a s h (suc d) le r free = level_read top_level a s h d (omega arith) r free
