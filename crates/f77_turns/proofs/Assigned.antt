-- What assignments with a meaning read and write lies in storage.
use Rattle.std.proofs.Common.{◌≡◌, ℕ, zero, suc, ◌<◌, ◌&&◌, ℤ, Bool, true, false, cond, List, [], ◌∷◌, length, Option, None, Some, IsTrue, sym, subst}
use Rattle.std.specs.Option.{option_map, option_or}
use Rattle.hyb_base.specs.declared.ops.RedOp.{RedOp}
use Rattle.hyb_base.specs.declared.ops.RedOp.TheVariants as red
use Rattle.f77_ast.specs.Entity.{entity_in}
use Rattle.f77_ast.specs.declared.expr.Expr.{Expr, out-Expr, roll-out-Expr}
use Rattle.f77_ast.specs.declared.expr.Expr.TheFolds.{fold-roll-Expr, map-Expr}
use Rattle.f77_ast.specs.declared.expr.Expr.TheOpen.{Expr-F, Part-F, Ref-F}
use Rattle.f77_ast.specs.declared.expr.Expr.TheOpen as layer
use Rattle.f77_ast.specs.declared.expr.Kind.{Kind}
use Rattle.f77_ast.specs.declared.expr.Op.{Op}
use Rattle.f77_ast.specs.declared.expr.Part.{Part}
use Rattle.f77_ast.specs.declared.expr.Ref.{Ref, out-Ref}
use Rattle.f77_ast.specs.declared.fault.Fault.TheVariants.{OutsideRegion}
use Rattle.f77_structure.specs.HasMeaning.{expr_has_meaning, is_kept, meaning_part, meaning_ref, meaning_step, ref_has_meaning, target_has_meaning}
use Rattle.f77_structure.specs.Storage.{IsStorage}
use Rattle.f77_structure.specs.Values.{is_arithmetic}
use Rattle.f77_meaning.specs.Assign.{Accumulation, Held, Operation, Written, accumulate, accumulate_at, accumulates_by, accumulation_of, chain_by, chain_of, chain_within, exchanged, held_first, held_last, held_next, is_v, joined_by, last_by, last_with, layer_operation, operation_of, operators_at_left, stands_in_product, stands_in_sum, written_by, written_of}
use Rattle.f77_meaning.specs.Demand.{fails, gives, and_then, is_outside, Located, Setting, demand_of, location_of, number_demand, number_of, written_at}
use Rattle.f77_meaning.specs.Process.{Binding, placed, valued, unvalued}
use Rattle.f77_turns.proofs.Cells.{Any, Asks, BoundIn, InStorage, IsAddress, both, place_asks, then_asks}
use Rattle.f77_turns.proofs.Expressions.{demand_asks, location_asks, number_asks}

module _ (s : Setting) (storage : IsStorage s.program.layout) where
  abbrev total : ℕ
  total = length s.program.layout.first

  abbrev Means : Expr → Type 0
  Means e = IsTrue (expr_has_meaning s.program.units s.program.layout s.unit e)

  -- the operands of the outermost operator of an expression with a meaning have one
  record OperandsMean (o : Operation) : Type 0 where
    left : Means o.left
    right : Means o.right

  abbrev IfOperandsMean : Option Operation → Type 0
  IfOperandsMean None = Unit {0}
  IfOperandsMean (Some o) = OperandsMean o

  layer_operands : (z : Expr-F Expr Part Ref) → IsTrue (meaning_step (map-Expr Expr Part Ref Bool (Unit {0}) Bool (expr_has_meaning s.program.units s.program.layout s.unit) (λ p. tt) (ref_has_meaning s.program.units s.program.layout s.unit) z)) → IfOperandsMean (layer_operation z)
  layer_operands (layer.Int value) m = tt
  layer_operands (layer.Truth value) m = tt
  layer_operands (layer.Chars text) m = tt
  layer_operands (layer.Ref r) m = tt
  layer_operands (layer.Unary op x) m = tt
  layer_operands (layer.Binary op x y) m =
      let operands : (expr_has_meaning s.program.units s.program.layout s.unit x ≡ true) × (expr_has_meaning s.program.units s.program.layout s.unit y ≡ true) =
      both (expr_has_meaning s.program.units s.program.layout s.unit x) (expr_has_meaning s.program.units s.program.layout s.unit y) (both (is_arithmetic op) (expr_has_meaning s.program.units s.program.layout s.unit x && expr_has_meaning s.program.units s.program.layout s.unit y) m).1 in
      record { left = operands.0; right = operands.1 }
  layer_operands (layer.Paren x) m = tt

  operands : (e : Expr) → Means e → IfOperandsMean (operation_of e)
  operands e m =
      layer_operands (out-Expr e)
      (subst IsTrue (fold-roll-Expr Bool (Unit {0}) Bool meaning_step meaning_part (meaning_ref s.program.units s.program.layout s.unit) (out-Expr e)) (subst Means (sym (roll-out-Expr e)) m))

  -- a right side with v held open asks for what lies in storage
  abbrev pub IsHeld : Held → Type 0
  IsHeld held = (answers : List ℤ) → Asks total Any (held answers)

  abbrev IfHeld : Option Held → Type 0
  IfHeld None = Unit {0}
  IfHeld (Some held) = IsHeld held

  abbrev pub IfAccumulates : Option Accumulation → Type 0
  IfAccumulates None = Unit {0}
  IfAccumulates (Some a) = IsHeld a.held

  first_held : (op : Op) (right : Expr) → Means right → IsHeld (held_first op (number_demand s right))
  first_held op right m answers = then_asks total Any Any (number_demand s right answers) (λ y rest. gives (λ v. joined_by op v y) rest) (number_asks s storage right m answers) (λ y rest good. tt)

  last_held : (op : Op) (left : Expr) → Means left → IsHeld (held_last op (number_demand s left))
  last_held op left m answers = then_asks total Any Any (number_demand s left answers) (λ y rest. gives (λ v. joined_by op y v) rest) (number_asks s storage left m answers) (λ y rest good. tt)

  next_held : (op : Op) (right : Expr) (left : Held) → Means right → IsHeld left → IsHeld (held_next op (number_demand s right) left)
  next_held op right left m h answers =
      then_asks total Any Any (left answers) (λ chain rest. and_then (number_demand s right rest) (λ y more. gives (λ v. joined_by op (chain v) y) more)) (h answers)
      (λ chain rest good. then_asks total Any Any (number_demand s right rest) (λ y more. gives (λ v. joined_by op (chain v) y) more) (number_asks s storage right m rest) (λ y more fine. tt))

  longer : (o : Operation) → Means o.right → (inner : Option Held) → IfHeld inner → IfHeld (option_map (held_next o.op (number_demand s o.right)) inner)
  longer o m None h = tt
  longer o m (Some held) h = next_held o.op o.right held m h

  module _ (v : Ref) where
    module _ (in_chain : Op → Bool) where
      by_operation : (inner : Expr → Option Held) → ((e : Expr) → Means e → IfHeld (inner e)) → (o : Option Operation) → IfOperandsMean o → IfHeld (chain_by s v in_chain inner o)
      by_operation inner h None m = tt
      by_operation inner h (Some o) m = by (in_chain o.op) (is_v v o.left)
        where
          by : (b here : Bool) → IfHeld (cond b (cond here (Some (held_first o.op (number_demand s o.right))) (option_map (held_next o.op (number_demand s o.right)) (inner o.left))) None)
          by true true = first_held o.op o.right m.right
          by true false = longer o m.right (inner o.left) (h o.left m.left)
          by false here = tt

      within : (operators : ℕ) (e : Expr) → Means e → IfHeld (chain_within s v in_chain operators e)
      within zero e m = tt
      within (suc operators) e m = by_operation (chain_within s v in_chain operators) (within operators) (operation_of e) (operands e m)

    chain_accumulates : (op : RedOp) (held : Option Held) → IfHeld held → IfAccumulates (accumulates_by op held)
    chain_accumulates op None h = tt
    chain_accumulates op (Some held) h = h

    last_accumulates : (o : Option Operation) → IfOperandsMean o → IfAccumulates (last_by s v o)
    last_accumulates None m = tt
    last_accumulates (Some o) m = with (exchanged o.op)
      where
        with : (op : Option RedOp) → IfAccumulates (last_with s v o op)
        with None = tt
        with (Some op) = by (is_v v o.right)
          where
            by : (b : Bool) → IfAccumulates (cond b (Some (record { op = op; held = held_last o.op (number_demand s o.left) })) None)
            by true = last_held o.op o.left m.left
            by false = tt

    first_of : (a b : Option Accumulation) → IfAccumulates a → IfAccumulates b → IfAccumulates (option_or a b)
    first_of None b h k = k
    first_of (Some a) b h k = h

    accumulates : (e : Expr) → Means e → IfAccumulates (accumulation_of s v e)
    accumulates e m =
        first_of (accumulates_by red.Add (chain_of s v stands_in_sum e)) (option_or (accumulates_by red.Mul (chain_of s v stands_in_product e)) (last_by s v (operation_of e)))
        (chain_accumulates red.Add (chain_of s v stands_in_sum e) (within stands_in_sum (operators_at_left e) e m))
        (first_of (accumulates_by red.Mul (chain_of s v stands_in_product e)) (last_by s v (operation_of e))
        (chain_accumulates red.Mul (chain_of s v stands_in_product e) (within stands_in_product (operators_at_left e) e m)) (last_accumulates (operation_of e) (operands e m)))

  -- what is written lies in storage
  abbrev pub WritesIn : Written → Type 0
  WritesIn w = w.address < total

  last_asks : (op : RedOp) (k : Kind) (bound : Binding) (value : ℤ → ℤ) → BoundIn total k bound → (answers : List ℤ) → Asks total WritesIn (accumulate op bound value answers)
  last_asks op k (placed address region length) value h [] = h.0
  last_asks op k (placed address region length) value h (v ∷ rest) = h.0
  last_asks op k (valued held) value h answers = tt
  last_asks op k (unvalued length) value h answers = tt

  -- where it is in its region
  last_at : (op : RedOp) (k : Kind) (bound : Binding) (value : ℤ → ℤ) → BoundIn total k bound → (answers : List ℤ) → Asks total WritesIn (accumulate_at s op bound value answers)
  last_at op k bound value h answers = by (is_outside s bound)
    where
      by : (b : Bool) → Asks total WritesIn (cond b (fails OutsideRegion) (accumulate op bound value answers))
      by true = tt
      by false = last_asks op k bound value h answers

  either_asks : (value : Expr) → Means value → (a : Option Accumulation) → IfAccumulates a → (place : Located) → InStorage total place → (answers : List ℤ) → Asks total WritesIn (written_by s a place (demand_of s value) answers)
  either_asks value m None h place in_storage answers =
      then_asks total Any WritesIn (demand_of s value answers) (λ v rest. and_then (written_at s place.bound rest) (λ address more. gives (record { address = address; value = number_of v; by = None }) more)) (demand_asks s storage value m answers)
      (λ v rest good. then_asks total (IsAddress total) WritesIn (written_at s place.bound rest) (λ address more. gives (record { address = address; value = number_of v; by = None }) more) (place_asks total s place.kind place.bound in_storage rest)
      (λ address more within. within))
  either_asks value m (Some a) h place in_storage answers =
      then_asks total Any WritesIn (a.held answers) (λ f rest. accumulate_at s a.op place.bound f rest) (h answers) (λ f rest good. last_at a.op place.kind place.bound f in_storage rest)

  -- what an assignment reads and writes lies in storage
  pub written_asks : (target : Ref) (value : Expr) → IsTrue (target_has_meaning s.program.units s.program.layout s.unit target && expr_has_meaning s.program.units s.program.layout s.unit value) → (answers : List ℤ) → Asks total WritesIn (written_of s target value answers)
  written_asks target value m answers =
      let tests : (target_has_meaning s.program.units s.program.layout s.unit target ≡ true) × (expr_has_meaning s.program.units s.program.layout s.unit value ≡ true) = both (target_has_meaning s.program.units s.program.layout s.unit target) (expr_has_meaning s.program.units s.program.layout s.unit value) m in
      let means : ref_has_meaning s.program.units s.program.layout s.unit target ≡ true = (both (ref_has_meaning s.program.units s.program.layout s.unit target) (is_kept (entity_in s.program.layout.entities s.unit (out-Ref target).name)) tests.0).0 in
      then_asks total (InStorage total) WritesIn (location_of s target answers) (λ place rest. written_by s (accumulation_of s target value) place (demand_of s value) rest) (location_asks s storage target means answers)
      (λ place rest good. either_asks value tests.1 (accumulation_of s target value) (accumulates target value tests.1) place good rest)
