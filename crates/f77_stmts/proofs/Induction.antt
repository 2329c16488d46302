-- What is spelled is read, what is read is spelled, and no text spells two statements.
use Rattle.std.proofs.Common.{◌≡◌, ℕ, suc, ◌≤◌, ◌<◌, Bool, true, false, ◌||◌, if◌then◌else◌, [], ◌∷◌, ◌++◌, length, drop, Option, Some, None, Ok, Err, refl, sym, ap, ◌∙◌, subst, arith, length-append}
use Rattle.std.proofs.lemmas.Bool.{and_parts}
use Rattle.std.proofs.lemmas.List.{append_assoc, append-nil}
use Rattle.std.specs.Prelude.{codes, option_map}
use Rattle.std.specs.Char.{is_ascii_digit}
use Rattle.f77_ast.specs.Refusal.{refusal_by}
use Rattle.f77_ast.specs.Name.{is_letter, is_alphanumeric}
use Rattle.f77_ast.specs.declared.expr.Expr.{Expr, out-Expr}
use Rattle.f77_ast.specs.declared.refusal.Refusal.{Refusal}
use Rattle.f77_ast.specs.declared.refusal.FrontError.TheVariants.{Refused}
use Rattle.f77_ast.specs.declared.stmt.Stmt.{Stmt}
use Rattle.f77_ast.specs.declared.stmt.Stmt.TheVariants as stmt
use Rattle.f77_exprs.specs.Operators.{Text, begins}
use Rattle.f77_exprs.specs.Spelling.{SpellsExpr}
use Rattle.f77_exprs.specs.Reading.{Outcome, is_empty, all_of}
use Rattle.f77_exprs.proofs.Primaries.{letter_first, digit_first}
use Rattle.f77_exprs.proofs.Sound.{Holds}
use Rattle.f77_exprs.proofs.Words.{begins_splits, drop_all, passing}
use Rattle.f77_stmts.specs.declared.keyword.Keyword.{Keyword}
use Rattle.f77_stmts.specs.declared.keyword.Keyword.TheVariants as word
use Rattle.f77_stmts.specs.Answer.{Answers}
use Rattle.f77_stmts.specs.Cause.{rule_of}
use Rattle.f77_forms.specs.Form.{Spells, passes, read}
use Rattle.f77_stmts.specs.Rows.{spelling, keywords, is_action, is_here, keyword_at, assignment, three_labels, jumps, rule}
use Rattle.f77_forms.specs.Depth.{has_at_depth}
use Rattle.f77_stmts.specs.Spelling.{SpellsAction, assign, action, arithmetic_if, SpellsStmt, simple, row, block_if, logical_if}
use Rattle.f77_stmts.specs.Statement.{or_else, condition, behind_word, begun, by_word, arithmetic, jumps_behind, if_by, is_if, action_within, is_then, any_behind, statement_within, statement_of}
use Rattle.f77_forms.proofs.Forms.{head, complete, sound, Front}
use Rattle.f77_stmts.proofs.IfLemmas.{if_unassigned, condition_read}
use Rattle.f77_forms.proofs.LeafLemmas.{shape}
use Rattle.f77_stmts.proofs.RowLemmas.{row_complete, row_sound, keyword_found, no_if, assigned, row_unassigned}

-- ---- whole texts

-- what is read of a whole text is spelled
whole_spelled : {A : Type 0} (R : A → Text → Type 0) (i : Text) (o : Outcome A) (v : A) → Holds (λ a r. (s : Text) × (i ≡ s ++ r) × R a s) o → all_of o ≡ Some v → R v i
whole_spelled R i None v h e = cc
whole_spelled R i (Some (a, [])) v h e =
    let t : i ≡ h.0 = h.1 ∙ append-nil h.0 in
    let k : a ≡ v = cc in
    subst (λ x. R x i) k (subst (R a) (sym t) h.2)
whole_spelled R i (Some (a, c ∷ r)) v h e = cc

whole_assigned : (d : ℕ) (i : Text) (v : Stmt) → all_of (read d assignment i) ≡ Some v → Spells assignment v i
whole_assigned d i v e = whole_spelled (Spells assignment) i (read d assignment i) v (sound assignment refl d i) e

-- where no assignment is spelled none is read
unassigned : (d : ℕ) (i : Text) → ((w : Stmt) → Spells assignment w i → ⊥) → all_of (read d assignment i) ≡ None
unassigned d i h = by (all_of (read d assignment i)) refl
  where
    by : (o : Option Stmt) → all_of (read d assignment i) ≡ o → all_of (read d assignment i) ≡ None
    by None e = e
    by (Some v) e = absurd (h v (whole_assigned d i v e))

assigned_read : (d : ℕ) (i : Text) (v : Stmt) → length i < d → Spells assignment v i → all_of (read d assignment i) ≡ Some v
assigned_read d i v lt h = ap all_of (ap (read d assignment) (sym (append-nil i)) ∙ complete assignment refl d v i [] lt h tt)

labels_read : (d : ℕ) (t : Text) (v : ℕ × (ℕ × ℕ)) → length t < d → Spells three_labels v t → all_of (read d three_labels t) ≡ Some v
labels_read d t v lt h = ap all_of (ap (read d three_labels) (sym (append-nil t)) ∙ complete three_labels refl d v t [] lt h tt)

-- ---- what stands behind a condition

-- three labels begin with a digit
labels_begin : (v : ℕ × (ℕ × ℕ)) (t : Text) → Spells three_labels v t → (c : ℕ) × (r : Text) × (t ≡ c ∷ r) × (is_ascii_digit c ≡ true)
labels_begin v t h =
    let f = digit_first h.3.0 h.3.2.1 in
    (f.0, (f.1 ++ codes ",") ++ h.1, h.2 ∙ ap (λ x. x ++ h.1) (h.3.1 ∙ ap (λ x. x ++ codes ",") f.2), f.3)

-- a text without its first byte
rest : Text → Text
rest [] = []
rest (c ∷ i) = i

word_begins : (k : Keyword) → (spelling k ≡ head (spelling k) ∷ rest (spelling k)) × (is_letter (head (spelling k)) ≡ true)
unfolding rest
word_begins word.Do = (refl, refl)
word_begins k = (refl, refl)

-- an action begins with a letter
action_begins : {v : Stmt} {t : Text} → SpellsAction v t → (c : ℕ) × (r : Text) × (t ≡ c ∷ r) × (is_letter c ≡ true)
unfolding out-Expr denote.Hole.Carrier.out
action_begins (assign v s h) =
    let p = h.2 in
    let f = shape p.3.2 in
    let l = letter_first f.0 f.3 in
    (l.0, ((l.1 ++ f.1) ++ codes "=") ++ p.1, p.2 ∙ ap (λ x. x ++ p.1) (p.3.1 ∙ ap (λ x. x ++ codes "=") (f.2 ∙ ap (λ x. x ++ f.1) l.2)), l.3)
action_begins (action k v s ok h) = let w = word_begins k in (head (spelling k), rest (spelling k) ++ s, ap (λ x. x ++ s) w.0, w.1)
action_begins (arithmetic_if v t h g) = (73, _, refl, refl)

letter_is : (c : ℕ) → is_letter c ≡ true → is_alphanumeric c ≡ true
letter_is c e = rw e refl

digit_is : (c : ℕ) → is_ascii_digit c ≡ true → is_alphanumeric c ≡ true
digit_is c e = by (is_letter c)
  where
    by : (t : Bool) → (t || is_ascii_digit c) ≡ true
    by true = refl
    by false = e

letter_no_digit : (c : ℕ) → is_letter c ≡ true → is_ascii_digit c ≡ false
letter_no_digit c e = by (is_ascii_digit c) refl
  where
    by : (u : Bool) → is_ascii_digit c ≡ u → is_ascii_digit c ≡ false
    by false k = k
    by true k = absurd (grind (arith, e, k))

apart : {X : Type 0} (b : Bool) → b ≡ true → b ≡ false → X
apart true e f = cc
apart false e f = cc

-- `THEN` is no action
no_action_then : {v : Stmt} {t : Text} → SpellsAction v t → t ≡ codes "THEN" → ⊥
no_action_then (assign v s h) e = apart (has_at_depth 61 0 false 0 s) (assigned v s h) (ap (has_at_depth 61 0 false 0) e)
no_action_then (action k v s ok h) e = let w : Some k ≡ None = sym (keyword_found k v s h) ∙ ap keyword_at e in cc
no_action_then (arithmetic_if v t h g) e = let k : true ≡ false = ap is_if e in cc

then_is : (t : Text) → is_then t ≡ true → t ≡ codes "THEN"
then_is t e =
    let p = and_parts (begins (codes "THEN") t) (is_empty (drop 4 t)) e in
    begins_splits (codes "THEN") t p.0 ∙ by (drop 4 t) p.1
  where
    by : (r : Text) → is_empty r ≡ true → codes "THEN" ++ r ≡ codes "THEN"
    by [] e = refl
    by (c ∷ r) e = cc

not_then : {v : Stmt} {t : Text} → SpellsAction v t → is_then t ≡ false
not_then {t = t} h = by (is_then t) refl
  where
    by : (u : Bool) → is_then t ≡ u → is_then t ≡ false
    by false e = e
    by true e = absurd (no_action_then h (then_is t e))

-- ---- what is spelled is read

row_read : (all : Bool) (k : Keyword) (v : Stmt) (s : Text) → (all || is_action k) ≡ true → Spells (rule k) v s → (d : ℕ) → length s < d → by_word all d (spelling k ++ s) ≡ Some v
unfolding by_word
row_read all k v s ok h d lt =
    ap (begun all d (spelling k ++ s)) (keyword_found k v s h)
    ∙ chosen (all || is_action k) (all_of (read d (rule k) (behind_word k (spelling k ++ s)))) None ok
    ∙ ap (λ x. all_of (read d (rule k) x)) (drop_all (spelling k) s)
    ∙ ap all_of (row_complete k v s h d lt)
  where
    chosen : (t : Bool) (x y : Option Stmt) → t ≡ true → (if t then x else y) ≡ x
    chosen true x y e = refl
    chosen false x y e = cc

-- what is read of a text without an assignment
by_if : (next : Expr → Text → Option Stmt) (d : ℕ) (i : Text) (other : Option Stmt) → all_of (read d assignment i) ≡ None → or_else (all_of (read d assignment i)) (if is_if i then if_by next (read d condition (drop 3 i)) else other) ≡ (if is_if i then if_by next (read d condition (drop 3 i)) else other)
by_if next d i other e = ap (λ o. or_else o (if is_if i then if_by next (read d condition (drop 3 i)) else other)) e

longer : (k : Keyword) (s : Text) → length s ≤ length (spelling k ++ s)
longer k s = let l = length-append (spelling k) s in omega arith

word_statement : (next : Expr → Text → Option Stmt) (all : Bool) (k : Keyword) (v : Stmt) (s : Text) → (all || is_action k) ≡ true → Spells (rule k) v s → (d : ℕ) → length (spelling k ++ s) < d
    → or_else (all_of (read d assignment (spelling k ++ s))) (if is_if (spelling k ++ s) then if_by next (read d condition (drop 3 (spelling k ++ s))) else by_word all d (spelling k ++ s)) ≡ Some v
word_statement next all k v s ok h d lt =
    let i = spelling k ++ s in
    let l = longer k s in
    by_if next d i (by_word all d i) (unassigned d i (row_unassigned k v s h))
    ∙ ap (λ t. if t then if_by next (read d condition (drop 3 i)) else by_word all d i) (no_if k s)
    ∙ row_read all k v s ok h d (omega arith)

if_statement : (next : Expr → Text → Option Stmt) (a : Expr) (s : Text) (c : ℕ) (r : Text) → SpellsExpr s a → is_alphanumeric c ≡ true → (d : ℕ) (other : Option Stmt) → length (codes "IF(" ++ (s ++ 41 ∷ c ∷ r)) < d
    → or_else (all_of (read d assignment (codes "IF(" ++ (s ++ 41 ∷ c ∷ r)))) (if_by next (read d condition (s ++ 41 ∷ c ∷ r))) ≡ next a (c ∷ r)
if_statement next a s c r h alnum d other lt =
    let l = length-append s (41 ∷ c ∷ r) in
    ap (λ o. or_else o (if_by next (read d condition (s ++ 41 ∷ c ∷ r)))) (unassigned d (codes "IF(" ++ (s ++ 41 ∷ c ∷ r)) (if_unassigned a s c r h alnum))
    ∙ ap (if_by next) (condition_read d a s (c ∷ r) (omega arith) h)

arithmetic_read : (d : ℕ) (a : Expr) (v : ℕ × (ℕ × ℕ)) (t : Text) → length t < d → Spells three_labels v t → arithmetic d a t ≡ Some (jumps a v)
arithmetic_read d a v t lt h = ap (option_map (jumps a)) (labels_read d t v lt h)

action_read : {v : Stmt} {i : Text} → SpellsAction v i → (d : ℕ) → length i < d → action_within d i ≡ Some v
unfolding action_within
action_read (assign v s h) d lt = ap (λ o. or_else o (if is_if s then if_by (jumps_behind d) (read d condition (drop 3 s)) else by_word false d s)) (assigned_read d s v lt h)
action_read (action k v s ok h) d lt = word_statement (jumps_behind d) false k v s ok h d lt
action_read (arithmetic_if {a = a} v {s = s} t h g) d lt =
    let b = labels_begin v t g in
    let l = length-append s (41 ∷ t) in
    ap (λ x. or_else (all_of (read d assignment (codes "IF(" ++ (s ++ 41 ∷ x)))) (if_by (jumps_behind d) (read d condition (s ++ 41 ∷ x)))) b.2
    ∙ if_statement (jumps_behind d) a s b.0 b.1 h (digit_is b.0 b.3) d None (let m = ap length b.2 in let n = length-append s (41 ∷ b.0 ∷ b.1) in omega arith)
    ∙ (rw b.3 refl)
    ∙ ap (arithmetic d a) (sym b.2)
    ∙ arithmetic_read d a v t (omega arith) g

pub statement_read : {v : Stmt} {i : Text} → SpellsStmt v i → (d : ℕ) → length i < d → statement_within d i ≡ Some v
unfolding statement_within
statement_read (simple (assign v s h)) d lt = ap (λ o. or_else o (if is_if s then if_by (any_behind d) (read d condition (drop 3 s)) else by_word true d s)) (assigned_read d s v lt h)
statement_read (simple (action k v s ok h)) d lt = word_statement (any_behind d) true k v s refl h d lt
statement_read (simple (arithmetic_if {a = a} v {s = s} t h g)) d lt =
    let b = labels_begin v t g in
    let l = length-append s (41 ∷ t) in
    ap (λ x. or_else (all_of (read d assignment (codes "IF(" ++ (s ++ 41 ∷ x)))) (if_by (any_behind d) (read d condition (s ++ 41 ∷ x)))) b.2
    ∙ if_statement (any_behind d) a s b.0 b.1 h (digit_is b.0 b.3) d None (let m = ap length b.2 in let n = length-append s (41 ∷ b.0 ∷ b.1) in omega arith)
    ∙ (rw b.3 refl)
    ∙ ap (arithmetic d a) (sym b.2)
    ∙ arithmetic_read d a v t (omega arith) g
statement_read (row k v s h) d lt = word_statement (any_behind d) true k v s refl h d lt
statement_read (block_if {a = a} {s = s} h) d lt = if_statement (any_behind d) a s 84 (codes "HEN") h refl d None lt
statement_read (logical_if {a = a} {v = v} {s = s} {t = t} h g) d lt =
    let b = action_begins g in
    let l = length-append s (41 ∷ t) in
    ap (λ x. or_else (all_of (read d assignment (codes "IF(" ++ (s ++ 41 ∷ x)))) (if_by (any_behind d) (read d condition (s ++ 41 ∷ x)))) b.2
    ∙ if_statement (any_behind d) a s b.0 b.1 h (letter_is b.0 b.3) d None (let m = ap length b.2 in let n = length-append s (41 ∷ b.0 ∷ b.1) in omega arith)
    ∙ ap (any_behind d a) (sym b.2)
    ∙ ap (λ u. if u then arithmetic d a t else (if is_then t then Some (stmt.BlockIf a) else option_map (λ v. stmt.LogicalIf a v) (action_within d t))) (ap (passes is_ascii_digit) b.2 ∙ letter_no_digit b.0 b.3)
    ∙ ap (λ u. if u then Some (stmt.BlockIf a) else option_map (λ v. stmt.LogicalIf a v) (action_within d t)) (not_then g)
    ∙ ap (option_map (λ v. stmt.LogicalIf a v)) (action_read g d (omega arith))

pub spelled_is_read : (text : Text) (v : Stmt) → SpellsStmt v text → statement_of text ≡ Some v
spelled_is_read text v h = statement_read h (suc (length text)) (omega arith)

got : Stmt → Option Stmt → Stmt
got v (Some w) = w
got v None = v

pub one_statement : (text : Text) (one other : Stmt) → SpellsStmt one text → SpellsStmt other text → one ≡ other
unfolding got
one_statement text one other h g = ap (got one) (sym (spelled_is_read text one h) ∙ spelled_is_read text other g)

-- ---- what is read is spelled

-- what holds of what is there
abbrev If : (Stmt → Type 0) → Option Stmt → Type 0
If P None = Unit {0}
If P (Some v) = P v

if_some : (P : Stmt → Type 0) (o : Option Stmt) (v : Stmt) → If P o → o ≡ Some v → P v
if_some P None v h e = cc
if_some P (Some w) v h e = let k : w ≡ v = cc in subst P k h

or_sound : (P : Stmt → Type 0) (a b : Option Stmt) → If P a → If P b → If P (or_else a b)
or_sound P (Some v) b x y = x
or_sound P None b x y = y

cases_sound : (P : Stmt → Type 0) (t : Bool) (a b : Option Stmt) → (t ≡ true → If P a) → If P b → If P (if t then a else b)
cases_sound P true a b x y = x refl
cases_sound P false a b x y = y

whole_sound : (P : Stmt → Type 0) (o : Option Stmt) → ((v : Stmt) → o ≡ Some v → P v) → If P o
whole_sound P None h = tt
whole_sound P (Some v) h = h v refl

assigned_sound : (P : Stmt → Type 0) (d : ℕ) (i : Text) → ((v : Stmt) → Spells assignment v i → P v) → If P (all_of (read d assignment i))
assigned_sound P d i h = whole_sound P (all_of (read d assignment i)) (λ v e. h v (whole_assigned d i v e))

word_sound : (P : Stmt → Type 0) (all : Bool) (d : ℕ) (i : Text) → ((k : Keyword) (v : Stmt) (s : Text) → i ≡ spelling k ++ s → (all || is_action k) ≡ true → Spells (rule k) v s → P v) → If P (by_word all d i)
unfolding by_word
word_sound P all d i h = by (keyword_at i) refl
  where
    inner : (k : Keyword) → keyword_at i ≡ Some k → (t : Bool) → (all || is_action k) ≡ t → If P (if t then all_of (read d (rule k) (behind_word k i)) else None)
    inner k e false ok = tt
    inner k e true ok = whole_sound P (all_of (read d (rule k) (behind_word k i))) (λ v w. h k v (behind_word k i) (begins_splits (spelling k) i (passing is_here keywords i k e)) ok (whole_spelled (Spells (rule k)) (behind_word k i) (read d (rule k) (behind_word k i)) v (row_sound k d (behind_word k i)) w))

    by : (o : Option Keyword) → keyword_at i ≡ o → If P (begun all d i o)
    by None e = tt
    by (Some k) e = inner k e (all || is_action k) refl

-- the text of an IF
if_text : (i j s x t : Text) → i ≡ codes "IF(" ++ j → j ≡ s ++ t → s ≡ x ++ codes ")" → i ≡ codes "IF(" ++ (x ++ 41 ∷ t)
if_text i j s x t a b c = a ∙ ap (λ k. codes "IF(" ++ k) (b ∙ ap (λ k. k ++ t) c ∙ append_assoc x (41 ∷ []) t)

if_sound : (P : Stmt → Type 0) (next : Expr → Text → Option Stmt) (d : ℕ) (i : Text) → is_if i ≡ true → ((a : Expr) (x t : Text) → SpellsExpr x a → i ≡ codes "IF(" ++ (x ++ 41 ∷ t) → If P (next a t)) → If P (if_by next (read d condition (drop 3 i)))
if_sound P next d i e h = by (read d condition (drop 3 i)) (sound condition refl d (drop 3 i))
  where
    by : (o : Outcome Expr) → Holds (Front condition (drop 3 i)) o → If P (if_by next o)
    by None x = tt
    by (Some p) x = h p.0 x.2.0 p.1 x.2.2 (if_text i (drop 3 i) x.0 x.2.0 p.1 (begins_splits (codes "IF(") i e) x.1 x.2.1)

mapped : {A : Type 0} (P : Stmt → Type 0) (f : A → Stmt) (o : Option A) → ((v : A) → o ≡ Some v → P (f v)) → If P (option_map f o)
mapped P f None h = tt
mapped P f (Some v) h = h v refl

arithmetic_sound : (P : Stmt → Type 0) (d : ℕ) (a : Expr) (t : Text) → ((v : ℕ × (ℕ × ℕ)) → Spells three_labels v t → P (jumps a v)) → If P (arithmetic d a t)
arithmetic_sound P d a t h = mapped P (jumps a) (all_of (read d three_labels t)) (λ v e. h v (whole_spelled (Spells three_labels) t (read d three_labels t) v (sound three_labels refl d t) e))

abbrev IsAction : Text → Stmt → Type 0
IsAction i v = SpellsAction v i

abbrev IsStatement : Text → Stmt → Type 0
IsStatement i v = SpellsStmt v i

is_arithmetic : (a : Expr) (x t i : Text) → SpellsExpr x a → i ≡ codes "IF(" ++ (x ++ 41 ∷ t) → (v : ℕ × (ℕ × ℕ)) → Spells three_labels v t → SpellsAction (jumps a v) i
is_arithmetic a x t i h e v g = subst (SpellsAction (jumps a v)) (sym e) (arithmetic_if v t h g)

action_sound : (d : ℕ) (i : Text) → If (IsAction i) (action_within d i)
unfolding action_within
action_sound d i = or_sound (IsAction i) (all_of (read d assignment i)) (if is_if i then if_by (jumps_behind d) (read d condition (drop 3 i)) else by_word false d i)
    (assigned_sound (IsAction i) d i (λ v h. assign v i h))
    (cases_sound (IsAction i) (is_if i) (if_by (jumps_behind d) (read d condition (drop 3 i))) (by_word false d i)
    (λ e. if_sound (IsAction i) (jumps_behind d) d i e (λ a x t h w. cases_sound (IsAction i) (passes is_ascii_digit t) (arithmetic d a t) None (λ _. arithmetic_sound (IsAction i) d a t (is_arithmetic a x t i h w)) tt))
    (word_sound (IsAction i) false d i (λ k v s e ok h. subst (SpellsAction v) (sym e) (action k v s ok h))))

statement_sound : (d : ℕ) (i : Text) → If (IsStatement i) (statement_within d i)
unfolding statement_within
statement_sound d i = or_sound (IsStatement i) (all_of (read d assignment i)) (if is_if i then if_by (any_behind d) (read d condition (drop 3 i)) else by_word true d i)
    (assigned_sound (IsStatement i) d i (λ v h. simple (assign v i h)))
    (cases_sound (IsStatement i) (is_if i) (if_by (any_behind d) (read d condition (drop 3 i))) (by_word true d i)
    (λ e. if_sound (IsStatement i) (any_behind d) d i e (λ a x t h w. cases_sound (IsStatement i) (passes is_ascii_digit t) (arithmetic d a t) (if is_then t then Some (stmt.BlockIf a) else option_map (λ v. stmt.LogicalIf a v) (action_within d t))
    (λ _. arithmetic_sound (IsStatement i) d a t (λ v g. simple (is_arithmetic a x t i h w v g)))
    (cases_sound (IsStatement i) (is_then t) (Some (stmt.BlockIf a)) (option_map (λ v. stmt.LogicalIf a v) (action_within d t))
    (λ k. subst (SpellsStmt (stmt.BlockIf a)) (sym (w ∙ ap (λ y. codes "IF(" ++ (x ++ 41 ∷ y)) (then_is t k))) (block_if h))
    (mapped (IsStatement i) (λ v. stmt.LogicalIf a v) (action_within d t) (λ v k. subst (SpellsStmt (stmt.LogicalIf a v)) (sym w) (logical_if h (if_some (IsAction t) (action_within d t) v (action_sound d t) k)))))))
    (word_sound (IsStatement i) true d i (λ k v s e ok h. subst (SpellsStmt v) (sym e) (row k v s h))))

pub read_is_spelled : (text : Text) (v : Stmt) → statement_of text ≡ Some v → SpellsStmt v text
read_is_spelled text v e = if_some (IsStatement text) (statement_of text) v (statement_sound (suc (length text)) text) e

-- ---- what is answered

pub answers_statement : (line : ℕ) (text : Text) (v : Stmt) → Some v ≡ statement_of text → Answers line text (Ok v)
answers_statement line text v e = (read_is_spelled text v (sym e), λ other h. one_statement text other v h (read_is_spelled text v (sym e)))

pub answers_none : (line : ℕ) (text : Text) (refusal : Refusal) → None ≡ statement_of text → refusal ≡ refusal_by line (rule_of text) → Answers line text (Err (Refused refusal))
answers_none line text refusal e is = ((λ v h. let k : None ≡ Some v = e ∙ spelled_is_read text v h in cc), is)
