-- The right side of an accumulation, with v held open: v combined with one number by the accumulation's operator.
use Rattle.std.proofs.Common.{◌≡◌, ℕ, zero, suc, ℤ, Bool, true, false, cond, List, Option, None, Some, refl, ap, subst, ◌∙◌}
use Rattle.std.specs.Prelude.{neg_ℤ}
use Rattle.std.specs.Option.{option_map, option_or}
use Rattle.hyb_base.specs.Reduction.{apply}
use Rattle.hyb_base.specs.Wrap.{sum_of, product_of}
use Rattle.hyb_base.specs.declared.ops.RedOp.{RedOp}
use Rattle.hyb_base.specs.declared.ops.RedOp.TheVariants as red
use Rattle.hyb_base.proofs.Reductions.{operators_reduce}
use Rattle.f77_ast.specs.declared.expr.Expr.{Expr}
use Rattle.f77_ast.specs.declared.expr.Op.{Op}
use Rattle.f77_ast.specs.declared.expr.Op.TheVariants.{Plus, Neg, Not, Add, Sub, Mul, Div, Pow, Cat, Rel, And, Or, Eqv, Neqv}
use Rattle.f77_ast.specs.declared.expr.Ref.{Ref}
use Rattle.f77_meaning.specs.Assign.{Accumulation, Held, Operand, Operation, accumulates_by, accumulation_of, chain_by, chain_of, chain_within, exchanged, held_first, held_last, held_next, is_v, joined_by, last_by, last_with, operation_of, operators_at_left, stands_in_product, stands_in_sum}
use Rattle.f77_meaning.specs.Demand.{Demand, gives, wants, calls, fails, and_then, Setting, number_demand}
use Rattle.f77_meaning.proofs.Demands.{given, number_asks}
use Rattle.f77_meaning.proofs.Evaluations.{AsksInTurn, then_asks}

-- a function of v that combines it with one number
pub record Combines (op : RedOp) (f : ℤ → ℤ) : Type 0 where
  pub added : ℤ
  pub is : (x : ℤ) → f x ≡ apply op x added

-- a right side that asks in turn, and whose value combines v with one number
pub record IsHeld (op : RedOp) (held : Held) : Type 0 where
  pub asks : AsksInTurn (ℤ → ℤ) held
  pub combines : (answers rest : List ℤ) (f : ℤ → ℤ) → held answers ≡ gives f rest → Combines op f

-- an operator of a chain: with an operand to the right of v, and of what a chain gives
record Chains (op : RedOp) (o : Op) : Type 0 where
  first : (y : ℤ) → Combines op (λ v. joined_by o v y)
  next : (f : ℤ → ℤ) (y : ℤ) → Combines op f → Combines op (λ v. joined_by o (f v) y)

chains_add : Chains red.Add Add
chains_add = record {
  first = λ y. record { added = y; is = λ x. refl };
  next = λ f y c. record { added = sum_of c.added y; is = λ x. ap (λ z. sum_of z y) (c.is x) ∙ (operators_reduce red.Add).groups x c.added y };
}

chains_sub : Chains red.Add Sub
chains_sub = record {
  first = λ y. record { added = neg_ℤ y; is = λ x. refl };
  next = λ f y c. record { added = sum_of c.added (neg_ℤ y); is = λ x. ap (λ z. sum_of z (neg_ℤ y)) (c.is x) ∙ (operators_reduce red.Add).groups x c.added (neg_ℤ y) };
}

chains_mul : Chains red.Mul Mul
chains_mul = record {
  first = λ y. record { added = y; is = λ x. refl };
  next = λ f y c. record { added = product_of c.added y; is = λ x. ap (λ z. product_of z y) (c.is x) ∙ (operators_reduce red.Mul).groups x c.added y };
}

chains_of_sum : (o : Op) → stands_in_sum o ≡ true → Chains red.Add o
chains_of_sum Add e = chains_add
chains_of_sum Sub e = chains_sub
chains_of_sum Plus e = absurd (cc)
chains_of_sum Neg e = absurd (cc)
chains_of_sum Not e = absurd (cc)
chains_of_sum Mul e = absurd (cc)
chains_of_sum Div e = absurd (cc)
chains_of_sum Pow e = absurd (cc)
chains_of_sum Cat e = absurd (cc)
chains_of_sum (Rel rel) e = absurd (cc)
chains_of_sum And e = absurd (cc)
chains_of_sum Or e = absurd (cc)
chains_of_sum Eqv e = absurd (cc)
chains_of_sum Neqv e = absurd (cc)

chains_of_product : (o : Op) → stands_in_product o ≡ true → Chains red.Mul o
chains_of_product Mul e = chains_mul
chains_of_product Plus e = absurd (cc)
chains_of_product Neg e = absurd (cc)
chains_of_product Not e = absurd (cc)
chains_of_product Add e = absurd (cc)
chains_of_product Sub e = absurd (cc)
chains_of_product Div e = absurd (cc)
chains_of_product Pow e = absurd (cc)
chains_of_product Cat e = absurd (cc)
chains_of_product (Rel rel) e = absurd (cc)
chains_of_product And e = absurd (cc)
chains_of_product Or e = absurd (cc)
chains_of_product Eqv e = absurd (cc)
chains_of_product Neqv e = absurd (cc)

-- v, and an operand to its right
first_is_held : (op : RedOp) (o : Op) (right : Operand) → Chains op o → AsksInTurn ℤ right → IsHeld op (held_first o right)
first_is_held op o right c asks = record {
  asks = then_asks right (λ y rest. gives (λ v. joined_by o v y) rest) asks (λ y. given (λ v. joined_by o v y));
  combines = λ answers rest f e. by rest f (right answers) e;
}
  where
    by : (rest : List ℤ) (f : ℤ → ℤ) (d : Demand ℤ) → and_then d (λ y more. gives (λ v. joined_by o v y) more) ≡ gives f rest → Combines op f
    by rest f (gives y more) e = let same : (λ v. joined_by o v y) ≡ f = cc in subst (Combines op) same (c.first y)
    by rest f (wants a m) e = absurd (cc)
    by rest f (calls u b) e = absurd (cc)
    by rest f (fails x) e = absurd (cc)

-- a chain from v on, and one operand more
next_is_held : (op : RedOp) (o : Op) (right : Operand) (left : Held) → Chains op o → AsksInTurn ℤ right → IsHeld op left → IsHeld op (held_next o right left)
next_is_held op o right left c asks h = record {
  asks = then_asks left (λ chain rest. and_then (right rest) (λ y more. gives (λ v. joined_by o (chain v) y) more)) h.asks
      (λ chain. then_asks right (λ y more. gives (λ v. joined_by o (chain v) y) more) asks (λ y. given (λ v. joined_by o (chain v) y)));
  combines = λ answers rest f e. by answers rest f (left answers) refl e;
}
  where
    then : (rest : List ℤ) (f chain : ℤ → ℤ) → Combines op chain → (d : Demand ℤ) → and_then d (λ y more. gives (λ v. joined_by o (chain v) y) more) ≡ gives f rest → Combines op f
    then rest f chain k (gives y more) e = let same : (λ v. joined_by o (chain v) y) ≡ f = cc in subst (Combines op) same (c.next chain y k)
    then rest f chain k (wants a m) e = absurd (cc)
    then rest f chain k (calls u b) e = absurd (cc)
    then rest f chain k (fails x) e = absurd (cc)

    by : (answers rest : List ℤ) (f : ℤ → ℤ) (d : Demand (ℤ → ℤ)) → left answers ≡ d → and_then d (λ chain more. and_then (right more) (λ y further. gives (λ v. joined_by o (chain v) y) further)) ≡ gives f rest → Combines op f
    by answers rest f (gives chain more) g e = then rest f chain (h.combines answers more chain g) (right more) e
    by answers rest f (wants a m) g e = absurd (cc)
    by answers rest f (calls u b) g e = absurd (cc)
    by answers rest f (fails x) g e = absurd (cc)

-- an operand, and v to its right
last_is_held : (op : RedOp) (o : Op) (left : Operand) → ((y : ℤ) → Combines op (λ v. joined_by o y v)) → AsksInTurn ℤ left → IsHeld op (held_last o left)
last_is_held op o left c asks = record {
  asks = then_asks left (λ y rest. gives (λ v. joined_by o y v) rest) asks (λ y. given (λ v. joined_by o y v));
  combines = λ answers rest f e. by rest f (left answers) e;
}
  where
    by : (rest : List ℤ) (f : ℤ → ℤ) (d : Demand ℤ) → and_then d (λ y more. gives (λ v. joined_by o y v) more) ≡ gives f rest → Combines op f
    by rest f (gives y more) e = let same : (λ v. joined_by o y v) ≡ f = cc in subst (Combines op) same (c y)
    by rest f (wants a m) e = absurd (cc)
    by rest f (calls u b) e = absurd (cc)
    by rest f (fails x) e = absurd (cc)

-- exchanged operands
exchanges : (o : Op) (op : RedOp) → exchanged o ≡ Some op → (y : ℤ) → Combines op (λ v. joined_by o y v)
exchanges Add op e y = let same : red.Add ≡ op = cc in subst (λ p. Combines p (λ v. joined_by Add y v)) same (record { added = y; is = λ x. (operators_reduce red.Add).commutes y x })
exchanges Mul op e y = let same : red.Mul ≡ op = cc in subst (λ p. Combines p (λ v. joined_by Mul y v)) same (record { added = y; is = λ x. (operators_reduce red.Mul).commutes y x })
exchanges Plus op e y = absurd (cc)
exchanges Neg op e y = absurd (cc)
exchanges Not op e y = absurd (cc)
exchanges Sub op e y = absurd (cc)
exchanges Div op e y = absurd (cc)
exchanges Pow op e y = absurd (cc)
exchanges Cat op e y = absurd (cc)
exchanges (Rel rel) op e y = absurd (cc)
exchanges And op e y = absurd (cc)
exchanges Or op e y = absurd (cc)
exchanges Eqv op e y = absurd (cc)
exchanges Neqv op e y = absurd (cc)

-- where there is a right side, it is held
abbrev IfHeld : RedOp → Option Held → Type 0
IfHeld op None = Unit {0}
IfHeld op (Some held) = IsHeld op held

-- an accumulation whose right side is held
abbrev pub IfAccumulates : Option Accumulation → Type 0
IfAccumulates None = Unit {0}
IfAccumulates (Some a) = IsHeld a.op a.held

module _ (s : Setting) (v : Ref) where
  module _ (in_chain : Op → Bool) (op : RedOp) (chains : (o : Op) → in_chain o ≡ true → Chains op o) where
    longer : (o : Operation) → Chains op o.op → (inner : Option Held) → IfHeld op inner → IfHeld op (option_map (held_next o.op (number_demand s o.right)) inner)
    longer o c None h = tt
    longer o c (Some held) h = next_is_held op o.op (number_demand s o.right) held c (number_asks s o.right) h

    by_operation : (inner : Expr → Option Held) → ((e : Expr) → IfHeld op (inner e)) → (o : Option Operation) → IfHeld op (chain_by s v in_chain inner o)
    by_operation inner h None = tt
    by_operation inner h (Some o) = by (in_chain o.op) refl (is_v v o.left)
      where
        by : (b : Bool) → in_chain o.op ≡ b → (here : Bool) → IfHeld op (cond b (cond here (Some (held_first o.op (number_demand s o.right))) (option_map (held_next o.op (number_demand s o.right)) (inner o.left))) None)
        by true e true = first_is_held op o.op (number_demand s o.right) (chains o.op e) (number_asks s o.right)
        by true e false = longer o (chains o.op e) (inner o.left) (h o.left)
        by false e here = tt

    within : (operators : ℕ) (e : Expr) → IfHeld op (chain_within s v in_chain operators e)
    within zero e = tt
    within (suc operators) e = by_operation (chain_within s v in_chain operators) (within operators) (operation_of e)

  chain_accumulates : (op : RedOp) (held : Option Held) → IfHeld op held → IfAccumulates (accumulates_by op held)
  chain_accumulates op None h = tt
  chain_accumulates op (Some held) h = h

  last_accumulates : (o : Option Operation) → IfAccumulates (last_by s v o)
  last_accumulates None = tt
  last_accumulates (Some o) = with (exchanged o.op) refl
    where
      with : (op : Option RedOp) → exchanged o.op ≡ op → IfAccumulates (last_with s v o op)
      with None e = tt
      with (Some op) e = by (is_v v o.right)
        where
          by : (b : Bool) → IfAccumulates (cond b (Some (record { op = op; held = held_last o.op (number_demand s o.left) })) None)
          by true = last_is_held op o.op (number_demand s o.left) (exchanges o.op op e) (number_asks s o.left)
          by false = tt

  first_of : (a b : Option Accumulation) → IfAccumulates a → IfAccumulates b → IfAccumulates (option_or a b)
  first_of None b h k = k
  first_of (Some a) b h k = h

  -- the right side of each accumulation is held
  pub accumulates : (e : Expr) → IfAccumulates (accumulation_of s v e)
  accumulates e =
      first_of (accumulates_by red.Add (chain_of s v stands_in_sum e)) (option_or (accumulates_by red.Mul (chain_of s v stands_in_product e)) (last_by s v (operation_of e)))
      (chain_accumulates red.Add (chain_of s v stands_in_sum e) (within stands_in_sum red.Add chains_of_sum (operators_at_left e) e))
      (first_of (accumulates_by red.Mul (chain_of s v stands_in_product e)) (last_by s v (operation_of e))
      (chain_accumulates red.Mul (chain_of s v stands_in_product e) (within stands_in_product red.Mul chains_of_product (operators_at_left e) e))
      (last_accumulates (operation_of e)))
