-- What an assignment asks for and writes, one answer after another.
use Rattle.std.proofs.Common.{◌≡◌, ℕ, ℤ, Bool, true, false, cond, List, [], ◌∷◌, ◌++◌, Option, None, Some, refl, sym, ap, ◌∙◌}
use Rattle.hyb_base.specs.Reduction.{apply}
use Rattle.hyb_base.specs.declared.ops.RedOp.{RedOp}
use Rattle.f77_ast.specs.declared.expr.Expr.{Expr}
use Rattle.f77_ast.specs.declared.expr.Ref.{Ref}
use Rattle.f77_ast.specs.declared.fault.Fault.TheVariants.{OutsideRegion}
use Rattle.f77_structure.specs.Values.{Value}
use Rattle.f77_meaning.specs.Assign.{Accumulation, Written, accumulate, accumulate_at, accumulated, accumulation_of, plainly, written_by, written_of}
use Rattle.f77_meaning.specs.Demand.{Demand, gives, wants, calls, fails, and_then, Evaluation, Located, Setting, demand_of, is_outside, location_of, number_of, written_at}
use Rattle.f77_meaning.specs.Process.{Binding, placed, valued, unvalued}
use Rattle.f77_meaning.proofs.Demands.{demand_asks, given, location_asks, written_asks}
use Rattle.f77_meaning.proofs.Evaluations.{AsksInTurn, extends, leaves_none, then_asks, unmarked, uses_up}
use Rattle.f77_meaning.proofs.Held.{Combines, IfAccumulates, IsHeld, accumulates}

-- after the read of an accumulation: whatever the answer, it is combined with one number, and written where it was read
pub record Combined (d : List ℤ → Demand Written) (answers : List ℤ) (address : ℕ) (op : RedOp) : Type 0 where
  pub added : ℤ
  pub writes : (x : ℤ) → d (answers ++ x ∷ []) ≡ gives (record { address = address; value = apply op x added; by = Some op }) []

-- how an evaluation that writes uses its answers
pub record Accumulates (d : List ℤ → Demand Written) : Type 0 where
  -- after a marked read comes the marked write
  pub combined : (answers : List ℤ) (address : ℕ) (op : RedOp) → d answers ≡ wants address (Some op) → Combined d answers address op
  -- after an unmarked read comes no marked write
  pub plain : (answers rest : List ℤ) (address : ℕ) (x : ℤ) (w : Written) (op : RedOp) → d answers ≡ wants address None → d (answers ++ x ∷ []) ≡ gives w rest → w.by ≡ Some op → ⊥
  -- without an answer there is no marked write
  pub fresh : (rest : List ℤ) (w : Written) (op : RedOp) → d [] ≡ gives w rest → w.by ≡ Some op → ⊥

-- the last read: all answers are used up, it has the mark, and with an answer more its address is written
record LastRead (d : List ℤ → Demand Written) (op : RedOp) (f : ℤ → ℤ) (rest : List ℤ) (a : ℕ) (m : Option RedOp) : Type 0 where
  none : rest ≡ []
  mark : Some op ≡ m
  writes : (x : ℤ) → d (x ∷ []) ≡ gives (record { address = a; value = f x; by = Some op }) []

last_read : (op : RedOp) (bound : Binding) (f : ℤ → ℤ) (rest : List ℤ) (a : ℕ) (m : Option RedOp) → accumulate op bound f rest ≡ wants a m → LastRead (accumulate op bound f) op f rest a m
last_read op (placed address region length) f [] a m e =
    let c : wants address (Some op) ≡ wants a m = e in
    let same : address ≡ a = cc in
    record { none = refl; mark = cc; writes = λ x i. gives (record { address = same i; value = f x; by = Some op }) [] }
last_read op (placed address region length) f (v ∷ rest) a m e = absurd (cc)
last_read op (valued value) f rest a m e = absurd (cc)
last_read op (unvalued length) f rest a m e = absurd (cc)

-- without an answer nothing is written
no_answer : (op : RedOp) (bound : Binding) (f : ℤ → ℤ) (more rest : List ℤ) (w : Written) → accumulate op bound f more ≡ gives w rest → more ≡ [] → ⊥
no_answer op (placed address region length) f [] rest w e n = absurd (cc)
no_answer op (placed address region length) f (v ∷ more) rest w e n = absurd (cc)
no_answer op (valued value) f more rest w e n = absurd (cc)
no_answer op (unvalued length) f more rest w e n = absurd (cc)

-- the same, where the place is looked for in its region first
module _ (s : Setting) (op : RedOp) (bound : Binding) (f : ℤ → ℤ) where
  last_read_at : (rest : List ℤ) (a : ℕ) (m : Option RedOp) → accumulate_at s op bound f rest ≡ wants a m → LastRead (accumulate_at s op bound f) op f rest a m
  last_read_at rest a m e = by (is_outside s bound) refl e
    where
      by : (b : Bool) → is_outside s bound ≡ b → cond b (fails OutsideRegion) (accumulate op bound f rest) ≡ wants a m → LastRead (accumulate_at s op bound f) op f rest a m
      by true h e = absurd (cc)
      by false h e =
          let l : LastRead (accumulate op bound f) op f rest a m = last_read op bound f rest a m e in
          record { none = l.none; mark = l.mark; writes = λ x. ap (λ b. cond b (fails OutsideRegion) (accumulate op bound f (x ∷ []))) h ∙ l.writes x }

  no_answer_at : (more rest : List ℤ) (w : Written) → accumulate_at s op bound f more ≡ gives w rest → more ≡ [] → ⊥
  no_answer_at more rest w e n = by (is_outside s bound) e
    where
      by : (b : Bool) → cond b (fails OutsideRegion) (accumulate op bound f more) ≡ gives w rest → ⊥
      by true e = absurd (cc)
      by false e = no_answer op bound f more rest w e n

module _ (s : Setting) (place : Located) (a : Accumulation) (held : IsHeld a.op a.held) where
  marked : (answers : List ℤ) (address : ℕ) (op : RedOp) → accumulated s place a answers ≡ wants address (Some op) → Combined (accumulated s place a) answers address op
  marked answers address op e = by (a.held answers) refl e
    where
      by : (d : Demand (ℤ → ℤ)) → a.held answers ≡ d → and_then d (λ value rest. accumulate_at s a.op place.bound value rest) ≡ wants address (Some op) → Combined (accumulated s place a) answers address op
      by (gives f rest) g e =
          let l : LastRead (accumulate_at s a.op place.bound f) a.op f rest address (Some op) = last_read_at s a.op place.bound f rest address (Some op) e in
          let c : Combines a.op f = held.combines answers rest f g in
          let none : a.held answers ≡ gives f [] = g ∙ ap (gives f) l.none in
          let same : a.op ≡ op = let m : Some a.op ≡ Some op = l.mark in cc in
          record {
            added = c.added;
            writes = λ x.
                ap (λ d. and_then d (λ value rest. accumulate_at s a.op place.bound value rest)) (extends a.held answers [] (x ∷ []) f held.asks none)
                ∙ l.writes x
                ∙ (λ i. gives (record { address = address; value = c.is x i; by = Some a.op }) [])
                ∙ (λ i. gives (record { address = address; value = apply (same i) x c.added; by = Some (same i) }) []);
          }
      by (wants b m) g e =
          let c : wants b m ≡ wants address (Some op) = e in
          let none : m ≡ None = unmarked a.held answers b m held.asks g in
          absurd (cc)
      by (calls u b) g e = absurd (cc)
      by (fails x) g e = absurd (cc)

  written_last : (answers rest : List ℤ) (address : ℕ) (x : ℤ) (w : Written) → accumulated s place a answers ≡ wants address None → accumulated s place a (answers ++ x ∷ []) ≡ gives w rest → ⊥
  written_last answers rest address x w e g = by (a.held answers) refl e
    where
      later : (b : ℕ) (m : Option RedOp) → a.held answers ≡ wants b m → (d : Demand (ℤ → ℤ)) → a.held (answers ++ x ∷ []) ≡ d → and_then d (λ value more. accumulate_at s a.op place.bound value more) ≡ gives w rest → ⊥
      later b m h (gives f more) k e = no_answer_at s a.op place.bound f more rest w e (uses_up a.held answers more b m x f held.asks h k)
      later b m h (wants c n) k e = absurd (cc)
      later b m h (calls u c) k e = absurd (cc)
      later b m h (fails y) k e = absurd (cc)

      by : (d : Demand (ℤ → ℤ)) → a.held answers ≡ d → and_then d (λ value more. accumulate_at s a.op place.bound value more) ≡ wants address None → ⊥
      by (gives f more) h e = let l : LastRead (accumulate_at s a.op place.bound f) a.op f more address None = last_read_at s a.op place.bound f more address None e in absurd (let m : Some a.op ≡ None = l.mark in cc)
      by (wants b m) h e = later b m h (a.held (answers ++ x ∷ [])) refl g
      by (calls u b) h e = absurd (cc)
      by (fails y) h e = absurd (cc)

  never_at_once : (rest : List ℤ) (w : Written) → accumulated s place a [] ≡ gives w rest → ⊥
  never_at_once rest w e = by (a.held []) refl e
    where
      by : (d : Demand (ℤ → ℤ)) → a.held [] ≡ d → and_then d (λ value more. accumulate_at s a.op place.bound value more) ≡ gives w rest → ⊥
      by (gives f more) h e = no_answer_at s a.op place.bound f more rest w e (leaves_none a.held more f held.asks h)
      by (wants b m) h e = absurd (cc)
      by (calls u b) h e = absurd (cc)
      by (fails y) h e = absurd (cc)

  accumulated_accumulates : Accumulates (accumulated s place a)
  accumulated_accumulates = record {
    combined = marked;
    plain = λ answers rest address x w op e g m. written_last answers rest address x w e g;
    fresh = λ rest w op e m. never_at_once rest w e;
  }

-- an assignment that is no accumulation asks in turn, and writes without a mark
plain_asks : (s : Setting) (place : Located) (value : Evaluation) → AsksInTurn Value value → AsksInTurn Written (plainly s place value)
plain_asks s place value h =
    then_asks value (λ v rest. and_then (written_at s place.bound rest) (λ address more. gives (record { address = address; value = number_of v; by = None }) more)) h
    (λ v. then_asks (written_at s place.bound) (λ address more. gives (record { address = address; value = number_of v; by = None }) more) (written_asks s place.bound) (λ address. given (record { address = address; value = number_of v; by = None })))

plain_write : (s : Setting) (place : Located) (value : Evaluation) (answers rest : List ℤ) (w : Written) → plainly s place value answers ≡ gives w rest → w.by ≡ None
plain_write s place value answers rest w e = by (value answers) e
  where
    then : (v : Value) (d : Demand ℕ) → and_then d (λ address more. gives (record { address = address; value = number_of v; by = None }) more) ≡ gives w rest → w.by ≡ None
    then v (gives address more) e = let same : record { address = address; value = number_of v; by = None } ≡ w = cc in ap (λ x. x.by) (sym same)
    then v (wants b m) e = absurd (cc)
    then v (calls u b) e = absurd (cc)
    then v (fails y) e = absurd (cc)

    by : (d : Demand Value) → and_then d (λ v more. and_then (written_at s place.bound more) (λ address left. gives (record { address = address; value = number_of v; by = None }) left)) ≡ gives w rest → w.by ≡ None
    by (gives v more) e = then v (written_at s place.bound more) e
    by (wants b m) e = absurd (cc)
    by (calls u b) e = absurd (cc)
    by (fails y) e = absurd (cc)

plainly_accumulates : (s : Setting) (place : Located) (value : Evaluation) → AsksInTurn Value value → Accumulates (plainly s place value)
plainly_accumulates s place value h = record {
  combined = λ answers address op e. let n : Some op ≡ None = unmarked (plainly s place value) answers address (Some op) (plain_asks s place value h) e in absurd (cc);
  plain = λ answers rest address x w op e g m. let n : Some op ≡ None = sym m ∙ plain_write s place value (answers ++ x ∷ []) rest w g in absurd (cc);
  fresh = λ rest w op e m. let n : Some op ≡ None = sym m ∙ plain_write s place value [] rest w e in absurd (cc);
}

either_accumulates : (s : Setting) (o : Option Accumulation) (place : Located) (value : Evaluation) → IfAccumulates o → AsksInTurn Value value → Accumulates (written_by s o place value)
either_accumulates s None place value i h = plainly_accumulates s place value h
either_accumulates s (Some a) place value i h = accumulated_accumulates s place a i

-- what comes after an evaluation that asks in turn, and leaves no answer that it needn't
module _ {A : Type 0} (d : List ℤ → Demand A) (go : A → List ℤ → Demand Written) (asks : AsksInTurn A d) (goes : (value : A) → Accumulates (go value)) where
  after_marked : (answers : List ℤ) (address : ℕ) (op : RedOp) → and_then (d answers) go ≡ wants address (Some op) → Combined (λ more. and_then (d more) go) answers address op
  after_marked answers address op e = by (d answers) refl e
    where
      by : (r : Demand A) → d answers ≡ r → and_then r go ≡ wants address (Some op) → Combined (λ more. and_then (d more) go) answers address op
      by (gives v rest) h e =
          let c : Combined (go v) rest address op = (goes v).combined rest address op e in
          record { added = c.added; writes = λ x. ap (λ r. and_then r go) (extends d answers rest (x ∷ []) v asks h) ∙ c.writes x }
      by (wants b m) h e = let n : m ≡ None = unmarked d answers b m asks h in absurd (let k : wants b m ≡ wants address (Some op) = e in cc)
      by (calls u b) h e = absurd (cc)
      by (fails y) h e = absurd (cc)

  after_plain : (answers rest : List ℤ) (address : ℕ) (x : ℤ) (w : Written) (op : RedOp) → and_then (d answers) go ≡ wants address None → and_then (d (answers ++ x ∷ [])) go ≡ gives w rest → w.by ≡ Some op → ⊥
  after_plain answers rest address x w op e g marked = by (d answers) refl e
    where
      none : (v : A) (more : List ℤ) → more ≡ [] → go v more ≡ gives w rest → ⊥
      none v more n e = (goes v).fresh rest w op (ap (go v) (sym n) ∙ e) marked

      later : (b : ℕ) (m : Option RedOp) → d answers ≡ wants b m → (r : Demand A) → d (answers ++ x ∷ []) ≡ r → and_then r go ≡ gives w rest → ⊥
      later b m h (gives v more) k e = none v more (uses_up d answers more b m x v asks h k) e
      later b m h (wants c n) k e = absurd (cc)
      later b m h (calls u c) k e = absurd (cc)
      later b m h (fails y) k e = absurd (cc)

      by : (r : Demand A) → d answers ≡ r → and_then r go ≡ wants address None → ⊥
      by (gives v more) h e = (goes v).plain more rest address x w op e (ap (λ r. and_then r go) (sym (extends d answers more (x ∷ []) v asks h)) ∙ g) marked
      by (wants b m) h e = later b m h (d (answers ++ x ∷ [])) refl g
      by (calls u b) h e = absurd (cc)
      by (fails y) h e = absurd (cc)

  after_fresh : (rest : List ℤ) (w : Written) (op : RedOp) → and_then (d []) go ≡ gives w rest → w.by ≡ Some op → ⊥
  after_fresh rest w op e marked = by (d []) refl e
    where
      by : (r : Demand A) → d [] ≡ r → and_then r go ≡ gives w rest → ⊥
      by (gives v more) h e = (goes v).fresh rest w op (ap (go v) (sym (leaves_none d more v asks h)) ∙ e) marked
      by (wants b m) h e = absurd (cc)
      by (calls u b) h e = absurd (cc)
      by (fails y) h e = absurd (cc)

  then_accumulates : Accumulates (λ answers. and_then (d answers) go)
  then_accumulates = record { combined = after_marked; plain = after_plain; fresh = after_fresh }

-- each assignment
pub written_accumulates : (s : Setting) (target : Ref) (value : Expr) → Accumulates (written_of s target value)
written_accumulates s target value =
    then_accumulates (location_of s target) (λ place rest. written_by s (accumulation_of s target value) place (demand_of s value) rest) (location_asks s target)
    (λ place. either_accumulates s (accumulation_of s target value) place (demand_of s value) (accumulates s target value) (demand_asks s value))
