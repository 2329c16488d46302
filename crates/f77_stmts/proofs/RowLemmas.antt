-- Rows: what is spelled is read, what is read is spelled, and none is an assignment.
use Rattle.std.proofs.Common.{◌≡◌, inl, inr, ℕ, ◌<◌, Bool, true, false, if◌then◌else◌, List, [], ◌∷◌, ◌++◌, length, Some, refl, sym, ap, ◌∙◌, arith}
use Rattle.std.proofs.lemmas.List.{append_assoc, append-nil}
use Rattle.std.specs.Prelude.{codes}
use Rattle.std.specs.Char.{is_ascii_digit}
use Rattle.f77_ast.specs.declared.stmt.Item.{Item}
use Rattle.f77_ast.specs.declared.stmt.Stmt.{Stmt}
use Rattle.f77_ast.specs.declared.stmt.Stmt.TheVariants as stmt
use Rattle.f77_exprs.specs.Operators.{Text}
use Rattle.f77_exprs.specs.Reading.{Outcome, and_then, pure}
use Rattle.f77_exprs.proofs.Primaries.{other, digit_first}
use Rattle.f77_exprs.proofs.Sound.{Holds, holds_bind, holds_weak}
use Rattle.f77_stmts.specs.declared.keyword.Keyword.{Keyword}
use Rattle.f77_stmts.specs.declared.keyword.Keyword.TheVariants as word
use Rattle.f77_forms.specs.Form.{after, past, Spells, passes, expect_word, read}
use Rattle.f77_parts.specs.Parts.{is_any, control}
use Rattle.f77_parts.specs.Items.{SpellsItems, items_within}
use Rattle.f77_stmts.specs.Rows.{spelling, keyword_at, assignment, printed, written, rule}
use Rattle.f77_stmts.specs.Statement.{is_if}
use Rattle.f77_forms.specs.Depth.{has_at_depth}
use Rattle.f77_stmts.proofs.Clear.{is_plain, rule_is_clear}
use Rattle.f77_forms.proofs.Forms.{complete, sound, Front, word_sound}
use Rattle.f77_parts.proofs.ItemLemmas.{control_text, items_quiet, complete_items, items_sound, items_filled}
use Rattle.f77_forms.proofs.DepthLemmas.{passes as scans, passes_name, passes_digits, rise, rises}

-- ---- what is spelled is read

plain_row : (k : Keyword) → is_plain k ≡ true → (v : Stmt) (s : Text) → Spells (rule k) v s → (d : ℕ) → length s < d → read d (rule k) s ≡ Some (v, [])
plain_row k e v s h d lt = ap (read d (rule k)) (sym (append-nil s)) ∙ complete (rule k) (rule_is_clear k e) d v s [] lt h tt

all_items : (refs : Bool) (all : List Item) (s : Text) → SpellsItems refs all s → (d : ℕ) → length s < d → items_within refs d s ≡ Some (all, [])
all_items refs all s h d lt = ap (items_within refs d) (sym (append-nil s)) ∙ complete_items h d lt [] tt refl

chosen : {A : Type 0} (t : Bool) (x y : A) → t ≡ true → (if t then x else y) ≡ x
chosen true x y e = refl
chosen false x y e = cc

print_complete : (v : Stmt) (s : Text) → Spells (rule word.Print) v s → (d : ℕ) → length s < d → read d (rule word.Print) s ≡ Some (v, [])
print_complete v s h d lt = by h.2
  where
    by : Spells printed h.0 s → read d (rule word.Print) s ≡ Some (v, [])
    by (inl x) =
        let l = ap length x.1 in
        ap (read d (rule word.Print)) x.1
        ∙ ap (λ o. and_then o (λ all. pure (stmt.Print all))) (all_items false h.0 x.0 x.2 d (omega arith))
        ∙ ap (λ y. Some (y, [])) (sym h.1)
    by (inr x) = ap (read d (rule word.Print)) x.1 ∙ ap (λ y. Some (stmt.Print y, [])) (sym x.0) ∙ ap (λ y. Some (y, [])) (sym h.1)

write_complete : (v : Stmt) (s : Text) → Spells (rule word.Write) v s → (d : ℕ) → length s < d → read d (rule word.Write) s ≡ Some (v, [])
write_complete v s h d lt = by h.2
  where
    by : Spells written h.0 s → read d (rule word.Write) s ≡ Some (v, [])
    by (inl x) =
        let f = items_filled x in
        ap (λ o. and_then o (λ all. pure (stmt.Print all))) (chosen (passes is_any s) (items_within false d s) (Some ([], s)) (ap (passes is_any) f.2) ∙ all_items false h.0 s x d lt)
        ∙ ap (λ y. Some (y, [])) (sym h.1)
    by (inr x) = ap (read d (rule word.Write)) x.1 ∙ ap (λ y. Some (stmt.Print y, [])) (sym x.0) ∙ ap (λ y. Some (y, [])) (sym h.1)

pub row_complete : (k : Keyword) (v : Stmt) (s : Text) → Spells (rule k) v s → (d : ℕ) → length s < d → read d (rule k) s ≡ Some (v, [])
row_complete word.Print v s h d lt = print_complete v s h d lt
row_complete word.Write v s h d lt = write_complete v s h d lt
row_complete word.ReadList v s h d lt = ap (λ o. and_then o (λ all. pure (stmt.Read all))) (all_items true h.0 s h.2 d lt) ∙ ap (λ y. Some (y, [])) (sym h.1)
row_complete word.ReadUnit v s h d lt = ap (λ o. and_then o (λ all. pure (stmt.Read all))) (all_items true h.0 s h.2 d lt) ∙ ap (λ y. Some (y, [])) (sym h.1)
row_complete k v s h d lt = plain_row k refl v s h d lt

-- ---- what is read is spelled

printed_sound : (d : ℕ) (i : Text) → Holds (Front printed i) (read d printed i)
printed_sound d i = by (passes is_any i)
    (holds_bind (expect_word (codes ",") i) (λ _. items_within false d) (λ u r. i ≡ codes "," ++ r) (Front printed i) (word_sound (codes ",") i) (λ u j e.
    holds_weak (items_within false d j) _ (Front printed i) (items_sound false d j) (λ v r x. (44 ∷ x.0, e ∙ ap (λ z. 44 ∷ z) x.1, inl (x.0, refl, x.2)))))
  where
    by : (t : Bool) → Holds (Front printed i) (and_then (expect_word (codes ",") i) (λ _. items_within false d)) → Holds (Front printed i) (if◌then◌else◌ {A = Outcome (List Item)} t (and_then (expect_word (codes ",") i) (λ _. items_within false d)) (Some ([], i)))
    by true x = x
    by false x = ([], refl, inr (refl, refl))

written_sound : (d : ℕ) (i : Text) → Holds (Front written i) (read d written i)
written_sound d i = by (passes is_any i) (holds_weak (items_within false d i) _ (Front written i) (items_sound false d i) (λ v r x. (x.0, x.1, inl x.2)))
  where
    by : (t : Bool) → Holds (Front written i) (items_within false d i) → Holds (Front written i) (if◌then◌else◌ {A = Outcome (List Item)} t (items_within false d i) (Some ([], i)))
    by true x = x
    by false x = ([], refl, inr (refl, refl))

pub row_sound : (k : Keyword) (d : ℕ) (i : Text) → Holds (Front (rule k) i) (read d (rule k) i)
row_sound word.Print d i = holds_bind (read d printed i) (λ all. pure (stmt.Print all)) (Front printed i) (Front (rule word.Print) i) (printed_sound d i) (λ a j x. (x.0, x.1, (a, refl, x.2)))
row_sound word.Write d i = holds_bind (read d written i) (λ all. pure (stmt.Print all)) (Front written i) (Front (rule word.Write) i) (written_sound d i) (λ a j x. (x.0, x.1, (a, refl, x.2)))
row_sound word.ReadList d i = holds_bind (items_within true d i) (λ all. pure (stmt.Read all)) _ (Front (rule word.ReadList) i) (items_sound true d i) (λ a j x. (x.0, x.1, (a, refl, x.2)))
row_sound word.ReadUnit d i = holds_bind (items_within true d i) (λ all. pure (stmt.Read all)) _ (Front (rule word.ReadUnit) i) (items_sound true d i) (λ a j x. (x.0, x.1, (a, refl, x.2)))
row_sound k d i = sound (rule k) (rule_is_clear k refl) d i

-- ---- first words

pub keyword_found : (k : Keyword) (v : Stmt) (s : Text) → Spells (rule k) v s → keyword_at (spelling k ++ s) ≡ Some k
keyword_found word.Else v s h = ap (λ x. keyword_at (codes "ELSE" ++ x)) h.1
keyword_found word.End v s h = ap (λ x. keyword_at (codes "END" ++ x)) h.1
keyword_found word.Goto v s h =
    let f = digit_first s h.2.1 in
    ap (λ x. keyword_at (codes "GOTO" ++ x)) f.2 ∙ (rw (other is_ascii_digit 40 f.0 refl f.3) refl)
keyword_found k v s h = refl

pub no_if : (k : Keyword) (s : Text) → is_if (spelling k ++ s) ≡ false
no_if word.Do s = refl
no_if k s = refl

-- ---- an assignment has one `=` outside parentheses, and no comma

pub assigned : (v : Stmt) (s : Text) → Spells assignment v s → has_at_depth 61 0 false 0 s ≡ true
assigned v s h =
    let p = h.2 in
    ap (has_at_depth 61 0 false 0) (p.2 ∙ ap (λ x. x ++ p.1) p.3.1 ∙ append_assoc p.3.0 (61 ∷ []) p.1)
    ∙ scans true 0 p.3.2 0 (omega arith) (61 ∷ p.1)

no_comma_assigned : (v : Stmt) (s : Text) → Spells assignment v s → has_at_depth 44 0 false 0 s ≡ false
no_comma_assigned v s h =
    let p = h.2 in
    ap (has_at_depth 44 0 false 0) (p.2 ∙ ap (λ x. x ++ p.1) p.3.1 ∙ append_assoc p.3.0 (61 ∷ []) p.1)
    ∙ scans false 0 p.3.2 0 (omega arith) (61 ∷ p.1)
    ∙ ap (has_at_depth 44 0 false 0) (sym (append-nil p.1))
    ∙ scans false 0 p.4 0 (omega arith) []

-- ---- other rows have none, and a loop has a comma

abbrev is_quiet : Keyword → Bool
is_quiet word.Do = false
is_quiet k = is_plain k

rise_of : (k : Keyword) → is_quiet k ≡ true → rise 0 (after (spelling k) (rule k)) ≡ Some 0
rise_of word.Do e = cc
rise_of word.Print e = cc
rise_of word.Write e = cc
rise_of word.ReadList e = cc
rise_of word.ReadUnit e = cc
rise_of k e = refl

quiet_row : (k : Keyword) → is_quiet k ≡ true → (v : Stmt) (s : Text) → Spells (rule k) v s → has_at_depth 61 0 false 0 (spelling k ++ s) ≡ false
quiet_row k e v s h = ap (has_at_depth 61 0 false 0) (sym (append-nil (spelling k ++ s))) ∙ rises (after (spelling k) (rule k)) 0 0 (rise_of k e) v (spelling k ++ s) [] (s, refl, h)

quiet_items : (refs : Bool) (all : List Item) (s : Text) → SpellsItems refs all s → has_at_depth 61 0 false 0 s ≡ false
quiet_items refs all s h = ap (has_at_depth 61 0 false 0) (sym (append-nil s)) ∙ items_quiet h []

loop_comma : (v : Stmt) (s : Text) → Spells (rule word.Do) v s → has_at_depth 44 0 false 0 (codes "DO" ++ s) ≡ true
loop_comma v s h =
    let p = h.2 in
    ap (has_at_depth 44 0 false 0) p.2
    ∙ passes_digits false 0 p.0 p.3.1 0 (omega arith) p.1
    ∙ by p.4
  where
    by : Spells (past (codes ",") control) h.0.1 h.2.1 → has_at_depth 44 0 false 0 h.2.1 ≡ true
    by (inl x) = ap (has_at_depth 44 0 false 0) x.1
    by (inr x) =
        let c = control_text h.0.1 h.2.1 x in
        ap (has_at_depth 44 0 false 0) c.6
        ∙ passes_name false 0 c.0 c.7 0 (omega arith) (61 ∷ (c.1 ++ 44 ∷ (c.2 ++ c.3)))
        ∙ scans false 0 c.8 0 (omega arith) (44 ∷ (c.2 ++ c.3))

apart : {X : Type 0} (b : Bool) → b ≡ true → b ≡ false → X
apart true e f = cc
apart false e f = cc

pub row_unassigned : (k : Keyword) (v : Stmt) (s : Text) → Spells (rule k) v s → (w : Stmt) → Spells assignment w (spelling k ++ s) → ⊥
row_unassigned word.Do v s h w g = apart (has_at_depth 44 0 false 0 (codes "DO" ++ s)) (loop_comma v s h) (no_comma_assigned w (codes "DO" ++ s) g)
row_unassigned word.Print v s h w g = apart (has_at_depth 61 0 false 0 (codes "PRINT*" ++ s)) (assigned w (codes "PRINT*" ++ s) g) (by h.2)
  where
    by : Spells printed h.0 s → has_at_depth 61 0 false 0 s ≡ false
    by (inl x) = ap (has_at_depth 61 0 false 0) x.1 ∙ quiet_items false h.0 x.0 x.2
    by (inr x) = ap (has_at_depth 61 0 false 0) x.1
row_unassigned word.Write v s h w g = apart (has_at_depth 61 0 false 0 (codes "WRITE(*,*)" ++ s)) (assigned w (codes "WRITE(*,*)" ++ s) g) (by h.2)
  where
    by : Spells written h.0 s → has_at_depth 61 0 false 0 s ≡ false
    by (inl x) = quiet_items false h.0 s x
    by (inr x) = ap (has_at_depth 61 0 false 0) x.1
row_unassigned word.ReadList v s h w g = apart (has_at_depth 61 0 false 0 (codes "READ*," ++ s)) (assigned w (codes "READ*," ++ s) g) (quiet_items true h.0 s h.2)
row_unassigned word.ReadUnit v s h w g = apart (has_at_depth 61 0 false 0 (codes "READ(*,*)" ++ s)) (assigned w (codes "READ(*,*)" ++ s) g) (quiet_items true h.0 s h.2)
row_unassigned k v s h w g = apart (has_at_depth 61 0 false 0 (spelling k ++ s)) (assigned w (spelling k ++ s) g) (quiet_row k refl v s h)
