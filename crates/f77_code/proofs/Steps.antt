-- The code of a statement comes to its step.
use Rattle.std.proofs.Common.{◌≡◌, ℕ, ◌∷◌, ◌++◌, ℤ, Bool, List, [], Option, None, Some, IsTrue, refl, sym, ap, ◌∙◌, append_assoc}
use Rattle.std.specs.Prelude.{◌&&◌}
use Rattle.hyb_base.specs.Reduction.{apply}
use Rattle.f77_ast.specs.Entity.{entity_in, is_named, number_in}
use Rattle.f77_ast.specs.Loop.{loop_at}
use Rattle.f77_ast.specs.declared.code.Instr.{Instr}
use Rattle.f77_ast.specs.declared.code.Instr.TheVariants as instr
use Rattle.f77_ast.specs.declared.expr.Expr.{Expr}
use Rattle.f77_ast.specs.declared.expr.Ref.{Ref}
use Rattle.f77_ast.specs.declared.program.Entity.{Entity}
use Rattle.f77_ast.specs.declared.program.Loop.{Loop}
use Rattle.f77_ast.specs.declared.program.Program.{Program}
use Rattle.f77_ast.specs.declared.stmt.LoopControl.{LoopControl}
use Rattle.f77_structure.specs.HasMeaning.{control_has_meaning, expr_has_meaning, increment_has_meaning, is_integer_variable, target_has_meaning}
use Rattle.f77_structure.specs.Values.{integer}
use Rattle.f77_meaning.specs.Assign.{Accumulation, Written, accumulate_at, accumulation_of, plainly, written_by, written_of}
use Rattle.f77_meaning.specs.Demand.{Demand, gives, wants, calls, fails, and_then, Located, Setting, demand_of, located, location_of, number_demand, setting_of}
use Rattle.f77_meaning.specs.Do.{Begun, Parameters, begun_of, begun_with, increment_of, parameters_of}
use Rattle.f77_meaning.specs.Operands.{Operand, entity, value}
use Rattle.f77_meaning.specs.Perform.{asked, given, leaving_none, performed, stored_by, accumulated_by}
use Rattle.f77_meaning.specs.Print.{Printing}
use Rattle.f77_meaning.specs.Process.{Frame}
use Rattle.f77_meaning.specs.Step.{begin_move, do_move, write_move}
use Rattle.f77_code.specs.Accumulations.{Joining, joining_code}
use Rattle.f77_code.specs.Exprs.{expr_code, ref_code}
use Rattle.f77_code.specs.Statements.{assign_code, assigned_code, do_code, increment_code, parameters_code}
use Rattle.f77_code.proofs.Asking.{IsAtPlace, LeavesPlace, asked_same, asked_where, with_place_there}
use Rattle.f77_code.proofs.Entities.{HasNumber, found_at}
use Rattle.f77_code.proofs.Expressions.{entity_left, expr_leaves, first_of_two, second_of_two, target_leaves}
use Rattle.f77_code.proofs.Joins.{IfJoining, LeavesNumber, accumulation_joins, number_leaves}
use Rattle.f77_code.proofs.Numbers.{twice}

module _ (program : Program) (texts : List (List ℕ)) (below : List Frame) (p : Printing) where
  abbrev s : Setting
  s = setting_of program p.frame

  -- what is asked before a write
  write_asked : {A : Type 0} (d : Demand A) (f : A → List ℤ → Demand Written) → asked program texts below d p (λ x rest. Some (write_move program p.frame below p.line (f x rest))) ≡ Some (write_move program p.frame below p.line (and_then d f))
  write_asked (gives x rest) f = refl
  write_asked (wants address by) f = refl
  write_asked (calls unit bindings) f = refl
  write_asked (fails fault) f = refl

  -- before a loop begins
  begin_asked : {A : Type 0} (loop : Loop) (d : Demand A) (f : A → List ℤ → Demand Begun) → asked program texts below d p (λ x rest. Some (begin_move program p.frame below p.line loop (f x rest))) ≡ Some (begin_move program p.frame below p.line loop (and_then d f))
  begin_asked loop (gives x rest) f = refl
  begin_asked loop (wants address by) f = refl
  begin_asked loop (calls unit bindings) f = refl
  begin_asked loop (fails fault) f = refl

  -- the right side, and the write
  assigned_steps : (target : Ref) (v : Expr) (is : List Instr) (o : Operand) (at : Located) (rest : List ℤ) → IsTrue (expr_has_meaning program.units program.layout p.frame.unit v) → IsAtPlace program texts below p o at → (a : Option Accumulation) (j : Option Joining) → IfJoining program texts below p a j →
      performed program texts below (assigned_code program.layout p.frame.unit j v ++ is) (o ∷ []) rest p ≡ Some (write_move program p.frame below p.line (written_by s a at (demand_of s v) rest))
  assigned_steps target v is o at rest m there None None h =
      ap (λ c. performed program texts below c (o ∷ []) rest p) (append_assoc (expr_code program.layout p.frame.unit v) (instr.Store ∷ []) is)
      ∙ (expr_leaves program texts below p v m).leaves (instr.Store ∷ is) (o ∷ []) rest
      ∙ asked_same program texts below p (demand_of s v rest)
      (λ x more. performed program texts below (instr.Store ∷ is) (value x ∷ o ∷ []) more p)
      (λ x more. Some (write_move program p.frame below p.line (plainly s at (given x) more)))
      (λ x more. with_place_there program texts below p o at [] (λ location left. leaving_none left (Some (write_move program p.frame below p.line (stored_by s x location more)))) there)
      ∙ write_asked (demand_of s v rest) (λ x more. plainly s at (given x) more)
  assigned_steps target v is o at rest m there None (Some j) h = absurd h
  assigned_steps target v is o at rest m there (Some a) None h = absurd h
  assigned_steps target v is o at rest m there (Some a) (Some j) h =
      let held : a.held rest ≡ and_then (h.joins.number rest) (λ y more. gives (λ x. apply j.op x y) more) = h.joins.joins rest in
      ap (λ c. performed program texts below c (o ∷ []) rest p) (append_assoc j.code (instr.Accumulate j.op ∷ []) is)
      ∙ h.joins.leaves.leaves (instr.Accumulate j.op ∷ is) (o ∷ []) rest
      ∙ asked_same program texts below p (h.joins.number rest)
      (λ n more. performed program texts below (instr.Accumulate j.op ∷ is) (value (integer n) ∷ o ∷ []) more p)
      (λ n more. Some (write_move program p.frame below p.line (accumulate_at s j.op at.bound (λ x. apply j.op x n) more)))
      (λ n more. with_place_there program texts below p o at [] (λ location left. leaving_none left (Some (write_move program p.frame below p.line (accumulated_by s j.op (integer n) location more)))) there)
      ∙ write_asked (h.joins.number rest) (λ n more. accumulate_at s j.op at.bound (λ x. apply j.op x n) more)
      ∙ ap (λ d. Some (write_move program p.frame below p.line d))
      (sym (twice (h.joins.number rest) (λ y more. gives (λ x. apply j.op x y) more) (λ f more. accumulate_at s j.op at.bound f more))
      ∙ ap (λ d. and_then d (λ f more. accumulate_at s j.op at.bound f more)) (sym held)
      ∙ ap (λ op. and_then (a.held rest) (λ f more. accumulate_at s op at.bound f more)) (sym h.op))

  -- an assignment
  pub assign_steps : (target : Ref) (v : Expr) (is : List Instr) → IsTrue (target_has_meaning program.units program.layout p.frame.unit target) → IsTrue (expr_has_meaning program.units program.layout p.frame.unit v) →
      performed program texts below (assign_code program.layout p.frame.unit target v ++ is) [] p.frame.answers p ≡ Some (write_move program p.frame below p.line (written_of s target v p.frame.answers))
  assign_steps target v is t m =
      let l : LeavesPlace program texts below p (ref_code program.layout p.frame.unit target) (location_of s target) = target_leaves program texts below p target t in
      let a = accumulation_of s target v in
      let j = joining_code program.layout p.frame.unit target v in
      ap (λ c. performed program texts below c [] p.frame.answers p) (append_assoc (ref_code program.layout p.frame.unit target) (assigned_code program.layout p.frame.unit j v) is)
      ∙ l.leaves (assigned_code program.layout p.frame.unit j v ++ is) [] p.frame.answers
      ∙ asked_where program texts below p (location_of s target p.frame.answers)
      (λ at rest. performed program texts below (assigned_code program.layout p.frame.unit j v ++ is) (l.operand at ∷ []) rest p)
      (λ at rest. Some (write_move program p.frame below p.line (written_by s a at (demand_of s v) rest)))
      (λ at rest g. assigned_steps target v is (l.operand at) at rest m (l.there p.frame.answers rest at g) a j (accumulation_joins program texts below p target v m))
      ∙ write_asked (location_of s target p.frame.answers) (λ at rest. written_by s a at (demand_of s v) rest)

  -- the increment of a DO
  increment_leaves : (o : Option Expr) → IsTrue (increment_has_meaning program.units program.layout p.frame.unit o) → LeavesNumber program texts below p (increment_code program.layout p.frame.unit o) (increment_of s o)
  increment_leaves None m = record { leaves = λ is stack answers. refl }
  increment_leaves (Some e) m = number_leaves program texts below p e m

  -- the parameters of a DO, and what comes after them
  parameters_steps : (control : LoopControl) (loop : Loop) (e : Entity) (is : List Instr) → IsTrue (expr_has_meaning program.units program.layout p.frame.unit control.first) → IsTrue (expr_has_meaning program.units program.layout p.frame.unit control.last) → IsTrue (increment_has_meaning program.units program.layout p.frame.unit control.increment) → loop_at program.loops loop.ordinal ≡ Some loop →
      performed program texts below (parameters_code program.layout p.frame.unit control ++ instr.Count loop.ordinal ∷ is) (entity e ∷ []) p.frame.answers p
      ≡ Some (begin_move program p.frame below p.line loop (and_then (parameters_of s control p.frame.answers) (λ m rest. and_then (located s (Some e) None rest) (λ variable more. begun_with s variable.bound m more))))
  parameters_steps control loop e is mf ml mi found =
      let first = expr_code program.layout p.frame.unit control.first in
      let last = expr_code program.layout p.frame.unit control.last in
      let increment = increment_code program.layout p.frame.unit control.increment in
      let after : Parameters → List ℤ → Demand Begun = λ m rest. and_then (located s (Some e) None rest) (λ variable more. begun_with s variable.bound m more) in
      ap (λ c. performed program texts below c (entity e ∷ []) p.frame.answers p) (append_assoc (first ++ last) increment (instr.Count loop.ordinal ∷ is) ∙ append_assoc first last (increment ++ (instr.Count loop.ordinal ∷ is)))
      ∙ (number_leaves program texts below p control.first mf).leaves (last ++ (increment ++ (instr.Count loop.ordinal ∷ is))) (entity e ∷ []) p.frame.answers
      ∙ asked_same program texts below p (number_demand s control.first p.frame.answers)
      (λ m1 rest. performed program texts below (last ++ (increment ++ (instr.Count loop.ordinal ∷ is))) (value (integer m1) ∷ entity e ∷ []) rest p)
      (λ m1 rest. Some (begin_move program p.frame below p.line loop (and_then (number_demand s control.last rest) (λ m2 more. and_then (increment_of s control.increment more) (λ m3 left. after (record { first = m1; last = m2; increment = m3 }) left)))))
      (λ m1 rest.
      (number_leaves program texts below p control.last ml).leaves (increment ++ (instr.Count loop.ordinal ∷ is)) (value (integer m1) ∷ entity e ∷ []) rest
      ∙ asked_same program texts below p (number_demand s control.last rest)
      (λ m2 more. performed program texts below (increment ++ (instr.Count loop.ordinal ∷ is)) (value (integer m2) ∷ value (integer m1) ∷ entity e ∷ []) more p)
      (λ m2 more. Some (begin_move program p.frame below p.line loop (and_then (increment_of s control.increment more) (λ m3 left. after (record { first = m1; last = m2; increment = m3 }) left))))
      (λ m2 more.
      (increment_leaves control.increment mi).leaves (instr.Count loop.ordinal ∷ is) (value (integer m2) ∷ value (integer m1) ∷ entity e ∷ []) more
      ∙ asked_same program texts below p (increment_of s control.increment more)
      (λ m3 left. performed program texts below (instr.Count loop.ordinal ∷ is) (value (integer m3) ∷ value (integer m2) ∷ value (integer m1) ∷ entity e ∷ []) left p)
      (λ m3 left. Some (begin_move program p.frame below p.line loop (after (record { first = m1; last = m2; increment = m3 }) left)))
      (λ m3 left. ap (λ o. Some (do_move program p.frame below p.line o (after (record { first = m1; last = m2; increment = m3 }) left))) found)
      ∙ begin_asked loop (increment_of s control.increment more) (λ m3 left. after (record { first = m1; last = m2; increment = m3 }) left))
      ∙ begin_asked loop (number_demand s control.last rest) (λ m2 more. and_then (increment_of s control.increment more) (λ m3 left. after (record { first = m1; last = m2; increment = m3 }) left)))
      ∙ begin_asked loop (number_demand s control.first p.frame.answers) (λ m1 rest. and_then (number_demand s control.last rest) (λ m2 more. and_then (increment_of s control.increment more) (λ m3 left. after (record { first = m1; last = m2; increment = m3 }) left)))
      ∙ ap (λ d. Some (begin_move program p.frame below p.line loop d)) (sym (
      twice (number_demand s control.first p.frame.answers) (λ m1 rest. and_then (number_demand s control.last rest) (λ m2 more. and_then (increment_of s control.increment more) (λ m3 left. gives (record { first = m1; last = m2; increment = m3 }) left))) after
      ∙ ap (and_then (number_demand s control.first p.frame.answers)) (λ i m1 rest.
      (twice (number_demand s control.last rest) (λ m2 more. and_then (increment_of s control.increment more) (λ m3 left. gives (record { first = m1; last = m2; increment = m3 }) left)) after
      ∙ ap (and_then (number_demand s control.last rest)) (λ j m2 more. twice (increment_of s control.increment more) (λ m3 left. gives (record { first = m1; last = m2; increment = m3 }) left) after j)) i)))

  -- a DO, by its variable and its loop
  do_by : (control : LoopControl) (is : List Instr) → IsTrue (expr_has_meaning program.units program.layout p.frame.unit control.first) → IsTrue (expr_has_meaning program.units program.layout p.frame.unit control.last) → IsTrue (increment_has_meaning program.units program.layout p.frame.unit control.increment) →
      (found : Option Entity) → entity_in program.layout.entities p.frame.unit control.variable ≡ found → IsTrue (is_integer_variable found) → (o : Option Loop) → ((loop : Loop) → o ≡ Some loop → loop_at program.loops loop.ordinal ≡ Some loop) →
      performed program texts below (do_code program.layout p.frame.unit control (number_in program.layout.entities p.frame.unit control.variable) o ++ is) [] p.frame.answers p ≡ Some (do_move program p.frame below p.line o (begun_of s control p.frame.answers))
  do_by control is mf ml mi None h m o known = absurd (cc)
  do_by control is mf ml mi (Some e) h m None known =
      let n : HasNumber program.layout.entities (number_in program.layout.entities p.frame.unit control.variable) e = found_at (is_named p.frame.unit control.variable) program.layout.entities e h in
      ap (λ x. performed program texts below (do_code program.layout p.frame.unit control x None ++ is) [] p.frame.answers p) n.is
  do_by control is mf ml mi (Some e) h m (Some loop) known =
      let n : HasNumber program.layout.entities (number_in program.layout.entities p.frame.unit control.variable) e = found_at (is_named p.frame.unit control.variable) program.layout.entities e h in
      ap (λ x. performed program texts below (do_code program.layout p.frame.unit control x (Some loop) ++ is) [] p.frame.answers p) n.is
      ∙ ap (λ c. performed program texts below c [] p.frame.answers p) (append_assoc (instr.Entity n.number ∷ parameters_code program.layout p.frame.unit control) (instr.Count loop.ordinal ∷ []) is)
      ∙ entity_left program texts below p n.number e (parameters_code program.layout p.frame.unit control ++ instr.Count loop.ordinal ∷ is) [] p.frame.answers n.stands
      ∙ parameters_steps control loop e is mf ml mi (known loop refl)
      ∙ ap (λ f. Some (begin_move program p.frame below p.line loop (and_then (parameters_of s control p.frame.answers) (λ m rest. and_then (located s f None rest) (λ variable more. begun_with s variable.bound m more))))) (sym h)

  -- a DO
  pub do_steps : (control : LoopControl) (o : Option Loop) (is : List Instr) → IsTrue (control_has_meaning program.units program.layout p.frame.unit control) → ((loop : Loop) → o ≡ Some loop → loop_at program.loops loop.ordinal ≡ Some loop) →
      performed program texts below (do_code program.layout p.frame.unit control (number_in program.layout.entities p.frame.unit control.variable) o ++ is) [] p.frame.answers p ≡ Some (do_move program p.frame below p.line o (begun_of s control p.frame.answers))
  do_steps control o is m known =
      let mf : Bool = expr_has_meaning program.units program.layout p.frame.unit control.first in
      let ml : Bool = expr_has_meaning program.units program.layout p.frame.unit control.last in
      let mi : Bool = increment_has_meaning program.units program.layout p.frame.unit control.increment in
      let rest = second_of_two (is_integer_variable (entity_in program.layout.entities p.frame.unit control.variable)) (mf && (ml && mi)) m in
      let both = second_of_two mf (ml && mi) rest in
      do_by control is (first_of_two mf (ml && mi) rest) (first_of_two ml mi both) (second_of_two ml mi both)
      (entity_in program.layout.entities p.frame.unit control.variable) refl (first_of_two (is_integer_variable (entity_in program.layout.entities p.frame.unit control.variable)) (mf && (ml && mi)) m) o known
