-- What begins with `IF(`.
use Rattle.std.proofs.Common.{◌≡◌, ℕ, suc, ◌+◌, ◌<◌, Bool, true, false, ◌==◌, if◌then◌else◌, [], ◌∷◌, ◌++◌, length, Some, None, refl, sym, ap, ◌∙◌, arith, length-append}
use Rattle.std.proofs.lemmas.Bool.{eqb-true}
use Rattle.std.proofs.lemmas.List.{append_assoc}
use Rattle.std.specs.Prelude.{codes}
use Rattle.f77_ast.specs.Name.{is_alphanumeric}
use Rattle.f77_ast.specs.declared.expr.Expr.{Expr}
use Rattle.f77_ast.specs.declared.expr.Expr.TheVariants as expr
use Rattle.f77_ast.specs.declared.stmt.Stmt.{Stmt}
use Rattle.f77_exprs.specs.Operators.{Text}
use Rattle.f77_exprs.specs.Spelling.{top_level, Spells, reference_of, part_of}
use Rattle.f77_exprs.specs.Reading.{Outcome, ◌>>=◌, ◌>>◌, pure, sees, eat, expect, name, bound, more_arguments, arguments, substring, with_part, with_low, with_first, opened, reference, expr_within}
use Rattle.f77_exprs.proofs.Complete.{bind, eats_no, closing}
use Rattle.f77_exprs.proofs.Induction.{starts, expr_is_read}
use Rattle.f77_exprs.proofs.Primaries.{name_read}
use Rattle.f77_exprs.proofs.Turns.{no_more}
use Rattle.f77_forms.specs.Form.{read}
use Rattle.f77_forms.specs.Form as form
use Rattle.f77_stmts.specs.Rows.{assignment}
use Rattle.f77_stmts.specs.Statement.{condition}
use Rattle.f77_forms.proofs.Forms.{next, complete}
use Rattle.f77_forms.proofs.LeafLemmas.{Next, read_reference}

-- an IF with its condition, as a reference is read
if_reference : (d : ℕ) (a : Expr) (s t : Text) → length s < d → Spells top_level a s → sees 40 t ≡ false → reference (expr_within d) (codes "IF(" ++ (s ++ 41 ∷ t)) ≡ Some (reference_of (codes "IF") (Some (a ∷ [])) None, t)
unfolding reference opened with_first with_part arguments substring
if_reference d a s t lt h none =
    let n = codes "IF" in
    let z = s ++ 41 ∷ t in
    bind (name (n ++ 40 ∷ z)) (λ n. eat 40 >>= (λ opens. if opens then opened (expr_within d) n else pure (reference_of n None None))) n (40 ∷ z) (name_read n (40 ∷ z) refl refl)
    ∙ eats_no 41 z (λ shut. if shut then with_part (expr_within d) n [] else (eat 58 >>= (λ colon. if colon then with_low (expr_within d) n None else (expr_within d >>= (λ first. with_first (expr_within d) n first))))) (starts h (41 ∷ t)).2
    ∙ eats_no 58 z (λ colon. if colon then with_low (expr_within d) n None else (expr_within d >>= (λ first. with_first (expr_within d) n first))) (starts h (41 ∷ t)).3
    ∙ bind (expr_within d z) (λ first. with_first (expr_within d) n first) a (41 ∷ t) (expr_is_read a s h d lt (41 ∷ t) (closing t))
    ∙ bind (more_arguments (expr_within d) (length (41 ∷ t)) (a ∷ []) (41 ∷ t)) (λ all. expect 41 >> with_part (expr_within d) n all) (a ∷ []) (41 ∷ t) (no_more (expr_within d) (length (41 ∷ t)) (a ∷ []) (41 ∷ t) refl)
    ∙ bind (substring (expr_within d) t) (λ part. pure (reference_of n (Some (a ∷ [])) part)) None t (eats_no 40 t (λ opens. if opens then (bound (expr_within d) 58 >>= (λ low. bound (expr_within d) 41 >>= (λ high. pure (Some (part_of low high))))) else pure None) none)

rest_of : {A : Type 0} → Text → Outcome A → Text
rest_of other (Some p) = p.1
rest_of other None = other

same_rest : {A : Type 0} (a b : A) (i j : Text) → ◌≡◌ {A = Outcome A} (Some (a, i)) (Some (b, j)) → i ≡ j
unfolding rest_of
same_rest a b i j e = ap (rest_of i) e

apart : {X : Type 0} (b : Bool) → b ≡ true → b ≡ false → X
apart true e f = cc
apart false e f = cc

no_parenthesis : (c : ℕ) → is_alphanumeric c ≡ true → (c == 40) ≡ false
no_parenthesis c e = by (c == 40) refl
  where
    by : (t : Bool) → (c == 40) ≡ t → (c == 40) ≡ false
    by false k = k
    by true k = let m : c ≡ 40 = eqb-true c 40 k in apart (is_alphanumeric c) e (ap is_alphanumeric m)

-- where a letter or a digit stands behind the condition, no assignment is spelled
pub if_unassigned : (a : Expr) (s : Text) (c : ℕ) (r : Text) → Spells top_level a s → is_alphanumeric c ≡ true → (w : Stmt) → form.Spells assignment w (codes "IF(" ++ (s ++ 41 ∷ c ∷ r)) → ⊥
if_unassigned a s c r h alnum w g =
    let text = codes "IF(" ++ (s ++ 41 ∷ c ∷ r) in
    let p = g.2 in
    let x = p.3.0 in
    let l = length-append s (41 ∷ c ∷ r) in
    let e : text ≡ x ++ 61 ∷ p.1 = p.2 ∙ ap (λ k. k ++ p.1) p.3.1 ∙ append_assoc x (61 ∷ []) p.1 in
    let m = ap length e in
    let n = length-append x (61 ∷ p.1) in
    let d = suc (length text) in
    let one : reference (expr_within d) text ≡ Some (expr.Ref g.0.0, 61 ∷ p.1) = ap (reference (expr_within d)) e ∙ read_reference d g.0.0 x (61 ∷ p.1) (omega arith) p.3.2 refl in
    let two : reference (expr_within d) text ≡ Some (reference_of (codes "IF") (Some (a ∷ [])) None, c ∷ r) = if_reference d a s (c ∷ r) (omega arith) h (no_parenthesis c alnum) in
    let same : 61 ∷ p.1 ≡ c ∷ r = same_rest (expr.Ref g.0.0) (reference_of (codes "IF") (Some (a ∷ [])) None) (61 ∷ p.1) (c ∷ r) (sym one ∙ two) in
    let k : 61 ≡ c = cc in
    apart (is_alphanumeric c) alnum (ap is_alphanumeric (sym k))

-- the condition, as it is read
pub condition_read : (d : ℕ) (a : Expr) (s t : Text) → length s + 1 < d → Spells top_level a s → read d condition (s ++ 41 ∷ t) ≡ Some (a, t)
condition_read d a s t lt h =
    let l = length-append s (41 ∷ []) in
    ap (read d condition) (sym (append_assoc s (41 ∷ []) t))
    ∙ complete condition refl d a (s ++ 41 ∷ []) t (omega arith) (s, refl, h) (by t)
  where
    by : (t : Text) → Next (next condition) t
    by [] = tt
    by (c ∷ t) = refl
