-- The code of the right side of an accumulation leaves the number with which v is joined.
use Rattle.std.proofs.Common.{◌≡◌, ℕ, zero, suc, ◌∷◌, ◌++◌, ℤ, Bool, true, false, cond, List, [], Option, None, Some, IsTrue, refl, sym, ap, subst, ◌∙◌, append_assoc, w64}
use Rattle.std.specs.Prelude.{◌&&◌, neg_ℤ}
use Rattle.std.specs.Option.{option_map, option_or}
use Rattle.std.proofs.lemmas.Int.{int_wrap-add_right}
use Rattle.hyb_base.specs.Reduction.{apply}
use Rattle.hyb_base.specs.Wrap.{negation_of}
use Rattle.hyb_base.specs.declared.ops.RedOp.{RedOp}
use Rattle.hyb_base.specs.declared.ops.RedOp.TheVariants as red
use Rattle.hyb_base.proofs.Reductions.{operators_reduce}
use Rattle.f77_ast.specs.declared.code.Instr.{Instr}
use Rattle.f77_ast.specs.declared.code.Instr.TheVariants as instr
use Rattle.f77_ast.specs.declared.expr.Expr.{Expr, out-Expr, roll-out-Expr}
use Rattle.f77_ast.specs.declared.expr.Expr.TheFolds.{fold-roll-Expr, map-Expr}
use Rattle.f77_ast.specs.declared.expr.Expr.TheOpen.{Expr-F, Part-F, Ref-F}
use Rattle.f77_ast.specs.declared.expr.Expr.TheOpen as layer
use Rattle.f77_ast.specs.declared.expr.Op.{Op}
use Rattle.f77_ast.specs.declared.expr.Op.TheVariants.{Plus, Neg, Not, Add, Sub, Mul, Div, Pow, Cat, Rel, And, Or, Eqv, Neqv}
use Rattle.f77_ast.specs.declared.expr.Part.{Part}
use Rattle.f77_ast.specs.declared.expr.Ref.{Ref}
use Rattle.f77_ast.specs.declared.program.Program.{Program}
use Rattle.f77_structure.specs.HasMeaning.{expr_has_meaning, meaning_part, meaning_ref, meaning_step, ref_has_meaning}
use Rattle.f77_structure.specs.Values.{binary_of, integer, is_arithmetic}
use Rattle.f77_meaning.specs.Assign.{Accumulation, Held, Operand, Operation, accumulates_by, accumulation_of, chain_by, chain_of, chain_within, exchanged, held_first, held_last, held_next, is_v, joined_by, last_by, last_with, layer_operation, operation_of, operators_at_left, stands_in_product, stands_in_sum}
use Rattle.f77_meaning.specs.Demand.{gives, and_then, Setting, demand_of, number_demand, number_of, operated, setting_of}
use Rattle.f77_meaning.specs.Operands.{Stack, value}
use Rattle.f77_meaning.specs.Perform.{asked, performed}
use Rattle.f77_meaning.specs.Print.{Printing}
use Rattle.f77_meaning.specs.Process.{Frame}
use Rattle.f77_code.specs.Accumulations.{Joining, chain_code, chain_code_by, chain_code_within, first_code, joining_by, joining_code, last_code, last_code_with}
use Rattle.f77_code.specs.Exprs.{expr_code}
use Rattle.f77_code.proofs.Asking.{asked_same, asked_then}
use Rattle.f77_code.proofs.Expressions.{expr_leaves, first_of_two, second_of_two}
use Rattle.f77_code.proofs.Numbers.{expr_gives, twice}

-- an operator of a chain, on two numbers and on v
record Chains (op : RedOp) (o : Op) : Type 0 where
  moves : (v z y : ℤ) → joined_by o (apply op v z) y ≡ apply op v (joined_by o z y)
  binary : (z y : ℤ) (rest : List ℤ) → operated (binary_of o (integer z) (integer y)) rest ≡ gives (integer (joined_by o z y)) rest

chains_add : Chains red.Add Add
chains_add = record { moves = λ v z y. (operators_reduce red.Add).groups v z y; binary = λ z y rest. refl }

chains_sub : Chains red.Add Sub
chains_sub = record { moves = λ v z y. (operators_reduce red.Add).groups v z (neg_ℤ y); binary = λ z y rest. refl }

chains_mul : Chains red.Mul Mul
chains_mul = record { moves = λ v z y. (operators_reduce red.Mul).groups v z y; binary = λ z y rest. refl }

chains_of_sum : (o : Op) → stands_in_sum o ≡ true → Chains red.Add o
chains_of_sum Add e = chains_add
chains_of_sum Sub e = chains_sub
chains_of_sum Plus e = absurd (cc)
chains_of_sum Neg e = absurd (cc)
chains_of_sum Not e = absurd (cc)
chains_of_sum Mul e = absurd (cc)
chains_of_sum Div e = absurd (cc)
chains_of_sum Pow e = absurd (cc)
chains_of_sum Cat e = absurd (cc)
chains_of_sum (Rel rel) e = absurd (cc)
chains_of_sum And e = absurd (cc)
chains_of_sum Or e = absurd (cc)
chains_of_sum Eqv e = absurd (cc)
chains_of_sum Neqv e = absurd (cc)

chains_of_product : (o : Op) → stands_in_product o ≡ true → Chains red.Mul o
chains_of_product Mul e = chains_mul
chains_of_product Plus e = absurd (cc)
chains_of_product Neg e = absurd (cc)
chains_of_product Not e = absurd (cc)
chains_of_product Add e = absurd (cc)
chains_of_product Sub e = absurd (cc)
chains_of_product Div e = absurd (cc)
chains_of_product Pow e = absurd (cc)
chains_of_product Cat e = absurd (cc)
chains_of_product (Rel rel) e = absurd (cc)
chains_of_product And e = absurd (cc)
chains_of_product Or e = absurd (cc)
chains_of_product Eqv e = absurd (cc)
chains_of_product Neqv e = absurd (cc)

-- exchanged operands
exchanges : (o : Op) (op : RedOp) → exchanged o ≡ Some op → (v y : ℤ) → joined_by o y v ≡ apply op v y
exchanges Add op e v y = let same : red.Add ≡ op = cc in (operators_reduce red.Add).commutes y v ∙ ap (λ b. apply b v y) same
exchanges Mul op e v y = let same : red.Mul ≡ op = cc in (operators_reduce red.Mul).commutes y v ∙ ap (λ b. apply b v y) same
exchanges Plus op e v y = absurd (cc)
exchanges Neg op e v y = absurd (cc)
exchanges Not op e v y = absurd (cc)
exchanges Sub op e v y = absurd (cc)
exchanges Div op e v y = absurd (cc)
exchanges Pow op e v y = absurd (cc)
exchanges Cat op e v y = absurd (cc)
exchanges (Rel rel) op e v y = absurd (cc)
exchanges And op e v y = absurd (cc)
exchanges Or op e v y = absurd (cc)
exchanges Eqv op e v y = absurd (cc)
exchanges Neqv op e v y = absurd (cc)

module _ (program : Program) (texts : List (List ℕ)) (below : List Frame) (p : Printing) where
  abbrev s : Setting
  s = setting_of program p.frame

  -- code that leaves a number
  pub record LeavesNumber (code : List Instr) (d : Operand) : Type 0 where
    pub leaves : (is : List Instr) (stack : Stack) (answers : List ℤ) → performed program texts below (code ++ is) stack answers p ≡ asked program texts below (d answers) p (λ n rest. performed program texts below is (value (integer n) ∷ stack) rest p)

  pub number_leaves : (e : Expr) → IsTrue (expr_has_meaning program.units program.layout p.frame.unit e) → LeavesNumber (expr_code program.layout p.frame.unit e) (number_demand s e)
  number_leaves e m = record {
    leaves = λ is stack answers.
        (expr_leaves program texts below p e m).leaves is stack answers
        ∙ ap (λ d. asked program texts below d p (λ x rest. performed program texts below is (value x ∷ stack) rest p)) (sym ((expr_gives s e m).same answers))
        ∙ asked_then program texts below p (demand_of s e answers) (λ x rest. gives (integer (number_of x)) rest) (λ x rest. performed program texts below is (value x ∷ stack) rest p)
        ∙ sym (asked_then program texts below p (demand_of s e answers) (λ x rest. gives (number_of x) rest) (λ n rest. performed program texts below is (value (integer n) ∷ stack) rest p));
  }

  -- the code of a right side with v held open
  pub record Joins (op : RedOp) (held : Held) (code : List Instr) : Type 0 where
    pub number : Operand
    pub leaves : LeavesNumber code number
    pub joins : (answers : List ℤ) → held answers ≡ and_then (number answers) (λ y rest. gives (λ v. apply op v y) rest)

  -- a sign before a number
  negated : (code : List Instr) (d : Operand) → LeavesNumber code d → LeavesNumber (code ++ instr.Unary Neg ∷ []) (λ answers. and_then (d answers) (λ y rest. gives (negation_of y) rest))
  negated code d l = record {
    leaves = λ is stack answers.
        ap (λ c. performed program texts below c stack answers p) (append_assoc code (instr.Unary Neg ∷ []) is)
        ∙ l.leaves (instr.Unary Neg ∷ is) stack answers
        ∙ sym (asked_then program texts below p (d answers) (λ y rest. gives (negation_of y) rest) (λ n rest. performed program texts below is (value (integer n) ∷ stack) rest p));
  }

  differs : (v y : ℤ) → joined_by Sub v y ≡ apply red.Add v (negation_of y)
  differs v y = sym (int_wrap-add_right w64 v (neg_ℤ y))

  -- v, and an operand to its right
  first_sub : (right : Expr) → IsTrue (expr_has_meaning program.units program.layout p.frame.unit right) → Joins red.Add (held_first Sub (number_demand s right)) (expr_code program.layout p.frame.unit right ++ instr.Unary Neg ∷ [])
  first_sub right m = record {
    number = λ answers. and_then (number_demand s right answers) (λ y rest. gives (negation_of y) rest);
    leaves = negated (expr_code program.layout p.frame.unit right) (number_demand s right) (number_leaves right m);
    joins = λ answers.
        ap (and_then (number_demand s right answers)) (λ i y rest. gives (λ v. differs v y i) rest)
        ∙ sym (twice (number_demand s right answers) (λ y rest. gives (negation_of y) rest) (λ y rest. gives (λ v. apply red.Add v y) rest));
  }

  first_of_sum : (o : Op) (right : Expr) → stands_in_sum o ≡ true → IsTrue (expr_has_meaning program.units program.layout p.frame.unit right) → Joins red.Add (held_first o (number_demand s right)) (first_code o (expr_code program.layout p.frame.unit right))
  first_of_sum Add right e m = record { number = number_demand s right; leaves = number_leaves right m; joins = λ answers. refl }
  first_of_sum Sub right e m = first_sub right m
  first_of_sum Plus right e m = absurd (cc)
  first_of_sum Neg right e m = absurd (cc)
  first_of_sum Not right e m = absurd (cc)
  first_of_sum Mul right e m = absurd (cc)
  first_of_sum Div right e m = absurd (cc)
  first_of_sum Pow right e m = absurd (cc)
  first_of_sum Cat right e m = absurd (cc)
  first_of_sum (Rel rel) right e m = absurd (cc)
  first_of_sum And right e m = absurd (cc)
  first_of_sum Or right e m = absurd (cc)
  first_of_sum Eqv right e m = absurd (cc)
  first_of_sum Neqv right e m = absurd (cc)

  first_of_product : (o : Op) (right : Expr) → stands_in_product o ≡ true → IsTrue (expr_has_meaning program.units program.layout p.frame.unit right) → Joins red.Mul (held_first o (number_demand s right)) (first_code o (expr_code program.layout p.frame.unit right))
  first_of_product Mul right e m = record { number = number_demand s right; leaves = number_leaves right m; joins = λ answers. refl }
  first_of_product Plus right e m = absurd (cc)
  first_of_product Neg right e m = absurd (cc)
  first_of_product Not right e m = absurd (cc)
  first_of_product Add right e m = absurd (cc)
  first_of_product Sub right e m = absurd (cc)
  first_of_product Div right e m = absurd (cc)
  first_of_product Pow right e m = absurd (cc)
  first_of_product Cat right e m = absurd (cc)
  first_of_product (Rel rel) right e m = absurd (cc)
  first_of_product And right e m = absurd (cc)
  first_of_product Or right e m = absurd (cc)
  first_of_product Eqv right e m = absurd (cc)
  first_of_product Neqv right e m = absurd (cc)

  -- a chain from v on, and one operand more
  next_joins : (op : RedOp) (o : Op) (right : Expr) (held : Held) (code : List Instr) → Chains op o → IsTrue (expr_has_meaning program.units program.layout p.frame.unit right) → Joins op held code → Joins op (held_next o (number_demand s right) held) (code ++ expr_code program.layout p.frame.unit right ++ instr.Binary o ∷ [])
  next_joins op o right held code c m j = record {
    number = λ answers. and_then (j.number answers) (λ z rest. and_then (number_demand s right rest) (λ y more. gives (joined_by o z y) more));
    leaves = record {
      leaves = λ is stack answers.
          ap (λ c. performed program texts below c stack answers p) (append_assoc (code ++ expr_code program.layout p.frame.unit right) (instr.Binary o ∷ []) is ∙ append_assoc code (expr_code program.layout p.frame.unit right) (instr.Binary o ∷ is))
          ∙ j.leaves.leaves (expr_code program.layout p.frame.unit right ++ instr.Binary o ∷ is) stack answers
          ∙ asked_same program texts below p (j.number answers)
          (λ z rest. performed program texts below (expr_code program.layout p.frame.unit right ++ instr.Binary o ∷ is) (value (integer z) ∷ stack) rest p)
          (λ z rest. asked program texts below (and_then (number_demand s right rest) (λ y more. gives (joined_by o z y) more)) p (λ n more. performed program texts below is (value (integer n) ∷ stack) more p))
          (λ z rest.
          (number_leaves right m).leaves (instr.Binary o ∷ is) (value (integer z) ∷ stack) rest
          ∙ asked_same program texts below p (number_demand s right rest)
          (λ y more. performed program texts below (instr.Binary o ∷ is) (value (integer y) ∷ value (integer z) ∷ stack) more p)
          (λ y more. performed program texts below is (value (integer (joined_by o z y)) ∷ stack) more p)
          (λ y more. ap (λ d. asked program texts below d p (λ x left. performed program texts below is (value x ∷ stack) left p)) (c.binary z y more))
          ∙ sym (asked_then program texts below p (number_demand s right rest) (λ y more. gives (joined_by o z y) more) (λ n more. performed program texts below is (value (integer n) ∷ stack) more p)))
          ∙ sym (asked_then program texts below p (j.number answers) (λ z rest. and_then (number_demand s right rest) (λ y more. gives (joined_by o z y) more)) (λ n more. performed program texts below is (value (integer n) ∷ stack) more p));
    };
    joins = λ answers.
        ap (λ d. and_then d (λ chain rest. and_then (number_demand s right rest) (λ y more. gives (λ v. joined_by o (chain v) y) more))) (j.joins answers)
        ∙ twice (j.number answers) (λ z rest. gives (λ v. apply op v z) rest) (λ chain rest. and_then (number_demand s right rest) (λ y more. gives (λ v. joined_by o (chain v) y) more))
        ∙ ap (and_then (j.number answers)) (λ i z rest. and_then (number_demand s right rest) (λ y more. gives (λ v. c.moves v z y i) more))
        ∙ ap (and_then (j.number answers)) (λ i z rest. sym (twice (number_demand s right rest) (λ y more. gives (joined_by o z y) more) (λ n more. gives (λ v. apply op v n) more)) i)
        ∙ sym (twice (j.number answers) (λ z rest. and_then (number_demand s right rest) (λ y more. gives (joined_by o z y) more)) (λ n more. gives (λ v. apply op v n) more));
  }

  -- an operand, and v to its right
  last_joins : (op : RedOp) (o : Op) (left : Expr) → exchanged o ≡ Some op → IsTrue (expr_has_meaning program.units program.layout p.frame.unit left) → Joins op (held_last o (number_demand s left)) (expr_code program.layout p.frame.unit left)
  last_joins op o left e m = record {
    number = number_demand s left;
    leaves = number_leaves left m;
    joins = λ answers. ap (and_then (number_demand s left answers)) (λ i y rest. gives (λ v. exchanges o op e v y i) rest);
  }

  -- the operands of the outermost operator have a meaning
  record OperandsMean (o : Operation) : Type 0 where
    left : IsTrue (expr_has_meaning program.units program.layout p.frame.unit o.left)
    right : IsTrue (expr_has_meaning program.units program.layout p.frame.unit o.right)

  abbrev IfOperandsMean : Option Operation → Type 0
  IfOperandsMean None = Unit {0}
  IfOperandsMean (Some o) = OperandsMean o

  layer_operands : (z : Expr-F Expr Part Ref) → IsTrue (meaning_step (map-Expr Expr Part Ref Bool (Unit {0}) Bool (expr_has_meaning program.units program.layout p.frame.unit) (λ x. tt) (ref_has_meaning program.units program.layout p.frame.unit) z)) → IfOperandsMean (layer_operation z)
  layer_operands (layer.Int n) m = tt
  layer_operands (layer.Truth b) m = tt
  layer_operands (layer.Chars text) m = tt
  layer_operands (layer.Ref r) m = tt
  layer_operands (layer.Unary op x) m = tt
  layer_operands (layer.Binary op x y) m =
      let both = second_of_two (is_arithmetic op) (expr_has_meaning program.units program.layout p.frame.unit x && expr_has_meaning program.units program.layout p.frame.unit y) m in
      record {
        left = first_of_two (expr_has_meaning program.units program.layout p.frame.unit x) (expr_has_meaning program.units program.layout p.frame.unit y) both;
        right = second_of_two (expr_has_meaning program.units program.layout p.frame.unit x) (expr_has_meaning program.units program.layout p.frame.unit y) both;
      }
  layer_operands (layer.Paren x) m = tt

  operands : (e : Expr) → IsTrue (expr_has_meaning program.units program.layout p.frame.unit e) → IfOperandsMean (operation_of e)
  operands e m =
      layer_operands (out-Expr e)
      (subst (λ b. IsTrue b) (fold-roll-Expr Bool (Unit {0}) Bool meaning_step meaning_part (meaning_ref program.units program.layout p.frame.unit) (out-Expr e)) (subst (λ x. IsTrue (expr_has_meaning program.units program.layout p.frame.unit x)) (sym (roll-out-Expr e)) m))

  -- a right side that may be there, and its code
  abbrev IfJoins : RedOp → Option Held → Option (List Instr) → Type 0
  IfJoins op None None = Unit {0}
  IfJoins op None (Some code) = ⊥
  IfJoins op (Some held) None = ⊥
  IfJoins op (Some held) (Some code) = Joins op held code

  -- an accumulation that may be there, and its code
  pub record JoinsBy (a : Accumulation) (j : Joining) : Type 0 where
    pub op : a.op ≡ j.op
    pub joins : Joins j.op a.held j.code

  abbrev pub IfJoining : Option Accumulation → Option Joining → Type 0
  IfJoining None None = Unit {0}
  IfJoining None (Some j) = ⊥
  IfJoining (Some a) None = ⊥
  IfJoining (Some a) (Some j) = JoinsBy a j

  module _ (v : Ref) where
    module _ (in_chain : Op → Bool) (op : RedOp) (chains : (o : Op) → in_chain o ≡ true → Chains op o) (first : (o : Op) (right : Expr) → in_chain o ≡ true → IsTrue (expr_has_meaning program.units program.layout p.frame.unit right) → Joins op (held_first o (number_demand s right)) (first_code o (expr_code program.layout p.frame.unit right))) where
      longer : (o : Operation) → Chains op o.op → IsTrue (expr_has_meaning program.units program.layout p.frame.unit o.right) → (held : Option Held) (code : Option (List Instr)) → IfJoins op held code →
          IfJoins op (option_map (held_next o.op (number_demand s o.right)) held) (option_map (λ chain. chain ++ expr_code program.layout p.frame.unit o.right ++ instr.Binary o.op ∷ []) code)
      longer o c m None None h = tt
      longer o c m None (Some code) h = absurd h
      longer o c m (Some held) None h = absurd h
      longer o c m (Some held) (Some code) h = next_joins op o.op o.right held code c m h

      by_operation : (held : Expr → Option Held) (code : Expr → Option (List Instr)) → ((e : Expr) → IsTrue (expr_has_meaning program.units program.layout p.frame.unit e) → IfJoins op (held e) (code e)) → (o : Option Operation) → IfOperandsMean o →
          IfJoins op (chain_by s v in_chain held o) (chain_code_by program.layout p.frame.unit v in_chain code o)
      by_operation held code h None m = tt
      by_operation held code h (Some o) m = by (in_chain o.op) refl (is_v v o.left)
        where
          by : (b : Bool) → in_chain o.op ≡ b → (here : Bool) → IfJoins op (cond b (cond here (Some (held_first o.op (number_demand s o.right))) (option_map (held_next o.op (number_demand s o.right)) (held o.left))) None)
              (cond b (cond here (Some (first_code o.op (expr_code program.layout p.frame.unit o.right))) (option_map (λ chain. chain ++ expr_code program.layout p.frame.unit o.right ++ instr.Binary o.op ∷ []) (code o.left))) None)
          by true e true = first o.op o.right e m.right
          by true e false = longer o (chains o.op e) m.right (held o.left) (code o.left) (h o.left m.left)
          by false e here = tt

      within : (operators : ℕ) (e : Expr) → IsTrue (expr_has_meaning program.units program.layout p.frame.unit e) → IfJoins op (chain_within s v in_chain operators e) (chain_code_within program.layout p.frame.unit v in_chain operators e)
      within zero e m = tt
      within (suc operators) e m = by_operation (chain_within s v in_chain operators) (chain_code_within program.layout p.frame.unit v in_chain operators) (within operators) (operation_of e) (operands e m)

      chain_joins : (e : Expr) → IsTrue (expr_has_meaning program.units program.layout p.frame.unit e) → IfJoining (accumulates_by op (chain_of s v in_chain e)) (option_map (joining_by op) (chain_code program.layout p.frame.unit v in_chain e))
      chain_joins e m = by (chain_of s v in_chain e) (chain_code program.layout p.frame.unit v in_chain e) (within (operators_at_left e) e m)
        where
          by : (held : Option Held) (code : Option (List Instr)) → IfJoins op held code → IfJoining (accumulates_by op held) (option_map (joining_by op) code)
          by None None h = tt
          by None (Some code) h = absurd h
          by (Some held) None h = absurd h
          by (Some held) (Some code) h = record { op = refl; joins = h }

    last_joining : (o : Option Operation) → IfOperandsMean o → IfJoining (last_by s v o) (last_code program.layout p.frame.unit v o)
    last_joining None m = tt
    last_joining (Some o) m = with (exchanged o.op) refl
      where
        with : (by : Option RedOp) → exchanged o.op ≡ by → IfJoining (last_with s v o by) (last_code_with program.layout p.frame.unit v o by)
        with None e = tt
        with (Some op) e = here (is_v v o.right)
          where
            here : (b : Bool) → IfJoining (cond b (Some (record { op = op; held = held_last o.op (number_demand s o.left) })) None) (cond b (Some (joining_by op (expr_code program.layout p.frame.unit o.left))) None)
            here true = record { op = refl; joins = last_joins op o.op o.left e m.left }
            here false = tt

    either : (a b : Option Accumulation) (j k : Option Joining) → IfJoining a j → IfJoining b k → IfJoining (option_or a b) (option_or j k)
    either None b None k h g = g
    either None b (Some j) k h g = absurd h
    either (Some a) b None k h g = absurd h
    either (Some a) b (Some j) k h g = h

    -- the right side of each accumulation is joined
    pub accumulation_joins : (e : Expr) → IsTrue (expr_has_meaning program.units program.layout p.frame.unit e) → IfJoining (accumulation_of s v e) (joining_code program.layout p.frame.unit v e)
    accumulation_joins e m =
        either (accumulates_by red.Add (chain_of s v stands_in_sum e)) (option_or (accumulates_by red.Mul (chain_of s v stands_in_product e)) (last_by s v (operation_of e)))
        (option_map (joining_by red.Add) (chain_code program.layout p.frame.unit v stands_in_sum e)) (option_or (option_map (joining_by red.Mul) (chain_code program.layout p.frame.unit v stands_in_product e)) (last_code program.layout p.frame.unit v (operation_of e)))
        (chain_joins stands_in_sum red.Add chains_of_sum first_of_sum e m)
        (either (accumulates_by red.Mul (chain_of s v stands_in_product e)) (last_by s v (operation_of e))
        (option_map (joining_by red.Mul) (chain_code program.layout p.frame.unit v stands_in_product e)) (last_code program.layout p.frame.unit v (operation_of e))
        (chain_joins stands_in_product red.Mul chains_of_product first_of_product e m)
        (last_joining (operation_of e) (operands e m)))
