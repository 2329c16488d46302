-- The statements of units, by their places.
use Rattle.std.proofs.Common.{◌≡◌, ℕ, zero, suc, ◌+◌, ◌<◌, ◌≤◌, drop, List, [], ◌∷◌, ◌++◌, All, Option, None, Some, IsSome, IsTrue, refl, sym, ap, subst, ◌∙◌, arith, slice_get, Bool, true, false, not, cond}
use Rattle.std.specs.Option.{option_and_then}
use Rattle.f77_ast.specs.declared.program.Listed.{Listed}
use Rattle.f77_ast.specs.declared.program.Unit.{Unit as ProgramUnit}
use Rattle.f77_ast.specs.declared.stmt.Stmt.{Stmt, End}
use Rattle.f77_ast.specs.declared.stmt.Stmt as stmt
use Rattle.f77_structure.specs.Statements.{is_executable, may_end_range, terminal_label}
use Rattle.f77_structure.specs.Units.{listing_of, first_executable, next_place, EndsWithEnd, executes, is_main, main_unit}

-- whether control goes on after a statement: after all but END
abbrev pub goes_on : Stmt → Type 0
goes_on End = ⊥
goes_on _ = Unit {0}

-- a terminal statement is no END
pub terminal_goes_on : (s : Stmt) → IsTrue (may_end_range s) → goes_on s
terminal_goes_on End e = absurd (cc)
terminal_goes_on _ e = tt

-- after such a statement of statements that end with END comes a statement
pub after_one : (before : List Listed) (last listed : Listed) (at : ℕ) → last.stmt ≡ End → slice_get (before ++ last ∷ []) at ≡ Some listed → goes_on listed.stmt → IsSome (slice_get (before ++ last ∷ []) (at + 1))
after_one [] last listed zero e h p =
    let same : last ≡ listed = cc in
    let ends : listed.stmt ≡ End = ap (λ l. l.stmt) (sym same) ∙ e in
    absurd (subst goes_on ends p)
after_one [] last listed (suc at) e h p = absurd cc
after_one (b ∷ []) last listed zero e h p = refl
after_one (b ∷ c ∷ before) last listed zero e h p = refl
after_one (b ∷ before) last listed (suc at) e h p =
    let next : suc (at + 1) ≡ suc at + 1 = omega arith in
    subst (λ n. IsSome (slice_get (b ∷ (before ++ last ∷ [])) n)) next (after_one before last listed at e h p)

-- the same of the statements of a unit
pub after_in : (listing : List Listed) (listed : Listed) (at : ℕ) → EndsWithEnd listing → slice_get listing at ≡ Some listed → goes_on listed.stmt → IsSome (slice_get listing (at + 1))
after_in listing listed at ended h p =
    let there : slice_get (ended.before ++ ended.last ∷ []) at ≡ Some listed = subst (λ xs. slice_get xs at ≡ Some listed) ended.joined h in
    subst (λ xs. IsSome (slice_get xs (at + 1))) (sym ended.joined) (after_one ended.before ended.last listed at ended.is_end there p)

-- what holds of the statements of each unit holds of those of a unit that has some
pub of_unit : (P : List Listed → Type 0) (units : List ProgramUnit) (u at : ℕ) (listed : Listed) → All (λ unit. P unit.listing) units → slice_get (listing_of units u) at ≡ Some listed → P (listing_of units u)
of_unit P [] u at listed all e = absurd (cc)
of_unit P (first ∷ units) zero at listed all e = all 0 first (omega arith)
of_unit P (first ∷ units) (suc u) at listed all e = of_unit P units u at listed (λ k d h. all (suc k) d (omega (arith, h))) e

-- the statement at a place of a unit, by the unit
pub statement_in : (units : List ProgramUnit) (u at : ℕ) → slice_get (listing_of units u) at ≡ option_and_then (λ unit. slice_get unit.listing at) (slice_get units u)
statement_in [] u at = refl
statement_in (first ∷ units) zero at = refl
statement_in (first ∷ units) (suc u) at = statement_in units u at

-- there are statements before a place at which one stands
pub stands_before : {A : Type 0} (xs : List A) (a b : ℕ) → a ≤ b → IsSome (slice_get xs b) → IsSome (slice_get xs a)
stands_before [] a b h s = absurd (cc)
stands_before (x ∷ xs) zero b h s = refl
stands_before (x ∷ xs) (suc a) zero h s = absurd (omega (arith, h))
stands_before (x ∷ xs) (suc a) (suc b) h s = stands_before xs a b (omega (arith, h)) s

-- END is executable, so there is a first executable statement
pub first_stands : (before : List Listed) (last : Listed) → last.stmt ≡ End → IsSome (slice_get (before ++ last ∷ []) (first_executable (before ++ last ∷ [])))
first_stands [] last e = subst (λ s. IsSome (slice_get (last ∷ []) (cond (not (is_executable s)) (1 + 0) 0))) (sym e) refl
first_stands (b ∷ before) last e = by (is_executable b.stmt) (first_stands before last e)
  where
    next : suc (first_executable (before ++ last ∷ [])) ≡ 1 + first_executable (before ++ last ∷ [])
    next = omega arith

    by : (x : Bool) → IsSome (slice_get (before ++ last ∷ []) (first_executable (before ++ last ∷ []))) → IsSome (slice_get (b ∷ (before ++ last ∷ [])) (cond (not x) (1 + first_executable (before ++ last ∷ [])) 0))
    by true h = refl
    by false h = subst (λ n. IsSome (slice_get (b ∷ (before ++ last ∷ [])) n)) next h

-- and that one is executable
pub first_executes : (before : List Listed) (last : Listed) → last.stmt ≡ End → executes (slice_get (before ++ last ∷ []) (first_executable (before ++ last ∷ []))) ≡ true
first_executes [] last e = by (is_executable last.stmt) refl (ap is_executable e)
  where
    by : (x : Bool) → is_executable last.stmt ≡ x → is_executable last.stmt ≡ true → executes (slice_get (last ∷ []) (cond (not x) (1 + 0) 0)) ≡ true
    by true h k = h
    by false h k = let wrong : false ≡ true = sym h ∙ k in absurd (cc)
first_executes (b ∷ before) last e = by (is_executable b.stmt) refl (first_executes before last e)
  where
    next : suc (first_executable (before ++ last ∷ [])) ≡ 1 + first_executable (before ++ last ∷ [])
    next = omega arith

    by : (x : Bool) → is_executable b.stmt ≡ x → executes (slice_get (before ++ last ∷ []) (first_executable (before ++ last ∷ []))) ≡ true → executes (slice_get (b ∷ (before ++ last ∷ [])) (cond (not x) (1 + first_executable (before ++ last ∷ [])) 0)) ≡ true
    by true h k = h
    by false h k = subst (λ n. executes (slice_get (b ∷ (before ++ last ∷ [])) n) ≡ true) next k

-- a statement that is there, and is executable
pub executes_here : (o : Option Listed) (listed : Listed) → o ≡ Some listed → is_executable listed.stmt ≡ true → executes o ≡ true
executes_here o listed e h = ap executes e ∙ h

-- a DO statement is executable
pub do_executes : (s : Stmt) (label : ℕ) → terminal_label s ≡ Some label → is_executable s ≡ true
do_executes (stmt.Do terminal control) label e = refl
do_executes _ label e = absurd (cc)

-- a DO statement is no END
pub do_goes_on : (s : Stmt) (label : ℕ) → terminal_label s ≡ Some label → goes_on s
do_goes_on End label e = absurd (cc)
do_goes_on _ label e = tt

-- a terminal statement is executable
pub terminal_executes : (s : Stmt) → IsTrue (may_end_range s) → is_executable s ≡ true
terminal_executes (stmt.Program name) e = absurd (cc)
terminal_executes (stmt.Subroutine name dummies) e = absurd (cc)
terminal_executes (stmt.Function typ name dummies) e = absurd (cc)
terminal_executes (stmt.Declare typ entities) e = absurd (cc)
terminal_executes (stmt.Dimension arrays) e = absurd (cc)
terminal_executes (stmt.Common groups) e = absurd (cc)
terminal_executes (stmt.Equivalence groups) e = absurd (cc)
terminal_executes (stmt.Parameter constants) e = absurd (cc)
terminal_executes (stmt.Implicit rules) e = absurd (cc)
terminal_executes (stmt.Save entries) e = absurd (cc)
terminal_executes (stmt.Init groups) e = absurd (cc)
terminal_executes _ e = refl

-- a statement that executes is there
pub executes_some : (o : Option Listed) → executes o ≡ true → IsSome o
executes_some None e = absurd (cc)
executes_some (Some listed) e = refl

-- the next place, counted from a statement further on
next_zero : (b : Listed) (l : List Listed) → next_place (b ∷ l) 0 ≡ suc (first_executable l)
next_zero b l = omega arith

next_suc : (b : Listed) (l : List Listed) (at : ℕ) → next_place (b ∷ l) (suc at) ≡ suc (next_place l at)
next_suc b l at =
    let e : suc at + 1 ≡ suc (at + 1) = omega arith in
    let f : suc (at + 1) + first_executable (drop (at + 1) l) ≡ suc (at + 1 + first_executable (drop (at + 1) l)) = omega arith in
    ap (λ n. n + first_executable (drop n (b ∷ l))) e ∙ f

next_one : (before : List Listed) (last listed : Listed) (at : ℕ) → last.stmt ≡ End → slice_get (before ++ last ∷ []) at ≡ Some listed → goes_on listed.stmt → executes (slice_get (before ++ last ∷ []) (next_place (before ++ last ∷ []) at)) ≡ true
next_one [] last listed zero e h p =
    let same : last ≡ listed = cc in
    let ends : listed.stmt ≡ End = ap (λ l. l.stmt) (sym same) ∙ e in
    absurd (subst goes_on ends p)
next_one [] last listed (suc at) e h p = absurd cc
next_one (b ∷ before) last listed zero e h p =
    subst (λ n. executes (slice_get (b ∷ (before ++ last ∷ [])) n) ≡ true) (sym (next_zero b (before ++ last ∷ []))) (first_executes before last e)
next_one (b ∷ before) last listed (suc at) e h p =
    subst (λ n. executes (slice_get (b ∷ (before ++ last ∷ [])) n) ≡ true) (sym (next_suc b (before ++ last ∷ []) at)) (next_one before last listed at e h p)

-- where control goes on after a statement that isn't END, an executable statement is there
pub next_executes : (listing : List Listed) (listed : Listed) (at : ℕ) → EndsWithEnd listing → slice_get listing at ≡ Some listed → goes_on listed.stmt → executes (slice_get listing (next_place listing at)) ≡ true
next_executes listing listed at ended h p =
    let there : slice_get (ended.before ++ ended.last ∷ []) at ≡ Some listed = subst (λ xs. slice_get xs at ≡ Some listed) ended.joined h in
    subst (λ xs. executes (slice_get xs (next_place xs at)) ≡ true) (sym ended.joined) (next_one ended.before ended.last listed at ended.is_end there p)

-- the first executable statement is no later than any other
first_least : (l : List Listed) (n : ℕ) → executes (slice_get l n) ≡ true → first_executable l ≤ n
first_least [] n e = absurd (cc)
first_least (b ∷ l) zero e = by (is_executable b.stmt) e
  where
    by : (x : Bool) → x ≡ true → cond (not x) (1 + first_executable l) 0 ≤ 0
    by true h = omega arith
    by false h = absurd (cc)
first_least (b ∷ l) (suc n) e = by (is_executable b.stmt) (first_least l n e)
  where
    by : (x : Bool) → first_executable l ≤ n → cond (not x) (1 + first_executable l) 0 ≤ suc n
    by true h = omega arith
    by false h = omega (arith, h)

-- and the next place is no later than that of any executable statement further on
pub next_least : (listing : List Listed) (at n : ℕ) → at < n → executes (slice_get listing n) ≡ true → next_place listing at ≤ n
next_least [] at n h e = absurd (cc)
next_least (b ∷ l) at zero h e = absurd (omega (arith, h))
next_least (b ∷ l) zero (suc n) h e = omega (arith, next_zero b l, first_least l n e)
next_least (b ∷ l) (suc at) (suc n) h e = omega (arith, next_suc b l at, next_least l at n (omega (arith, h)) e)

-- where one of some units is a main unit, there is a main unit among them
pub main_is_there : (units : List ProgramUnit) (k : ℕ) (unit : ProgramUnit) → slice_get units k ≡ Some unit → IsTrue (is_main unit.listing) → IsSome (slice_get units (main_unit units))
main_is_there [] k unit e m = absurd (cc)
main_is_there (first ∷ units) zero unit e m =
    let same : first ≡ unit = cc in
    let main : is_main first.listing ≡ true = ap (λ (u : ProgramUnit). is_main u.listing) same ∙ m in
    subst (λ b. IsSome (slice_get (first ∷ units) (cond (not b) (1 + main_unit units) 0))) (sym main) refl
main_is_there (first ∷ units) (suc k) unit e m = by (is_main first.listing) (main_is_there units k unit e m)
  where
    next : suc (main_unit units) ≡ 1 + main_unit units
    next = omega arith

    by : (b : Bool) → IsSome (slice_get units (main_unit units)) → IsSome (slice_get (first ∷ units) (cond (not b) (1 + main_unit units) 0))
    by true h = refl
    by false h = subst (λ n. IsSome (slice_get (first ∷ units) n)) next h
