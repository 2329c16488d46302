-- No instruction of an expression ends an item or an iteration.
use Rattle.std.proofs.Common.{◌≡◌, ℕ, zero, suc, ◌+◌, ◌≤◌, ◌∷◌, ◌++◌, Bool, true, false, cond, List, [], length, drop, Option, None, Some, IsTrue, refl, sym, ap, subst, ◌∙◌, append_assoc, arith}
use Rattle.std.specs.Prelude.{◌&&◌, map, not}
use Rattle.std.specs.List.{list_all, prefix_len}
use Rattle.std.specs.Option.{is_some, option_map, option_or}
use Rattle.std.proofs.Math.Seq.{drop-append_seam}
use Rattle.std.proofs.lemmas.List.Folds.{list_all-append}
use Rattle.hyb_base.specs.declared.ops.RedOp.{RedOp}
use Rattle.hyb_base.specs.declared.ops.RedOp.TheVariants as red
use Rattle.f77_ast.specs.Entity.{entity_in, number_in}
use Rattle.f77_ast.specs.declared.code.Instr.{Instr}
use Rattle.f77_ast.specs.declared.code.Instr.TheVariants as instr
use Rattle.f77_ast.specs.declared.expr.Expr.{Expr, out-Expr}
use Rattle.f77_ast.specs.declared.expr.Expr.TheFolds.{fold-Part, fold-roll-Expr, fold-roll-Ref, ind-Expr, map-Expr, map-Ref}
use Rattle.f77_ast.specs.declared.expr.Expr.TheOpen.{Expr-F, Part-F, Ref-F}
use Rattle.f77_ast.specs.declared.expr.Expr.TheOpen as layer
use Rattle.f77_ast.specs.declared.expr.Expr.TheViews.{roll-Expr, roll-Ref}
use Rattle.f77_ast.specs.declared.expr.Op.{Op}
use Rattle.f77_ast.specs.declared.expr.Op.TheVariants as op_of
use Rattle.f77_ast.specs.declared.expr.Part.{Part}
use Rattle.f77_ast.specs.declared.expr.Ref.{Ref, out-Ref}
use Rattle.f77_ast.specs.declared.program.Layout.{Layout}
use Rattle.f77_ast.specs.declared.program.Loop.{Loop}
use Rattle.f77_ast.specs.declared.stmt.Item.{Item}
use Rattle.f77_ast.specs.declared.stmt.Item as item
use Rattle.f77_ast.specs.declared.stmt.LoopControl.{LoopControl}
use Rattle.f77_ast.specs.declared.stmt.Stmt.{Stmt}
use Rattle.f77_ast.specs.declared.stmt.Stmt as stmt
use Rattle.f77_structure.specs.Arrays.{array_named}
use Rattle.f77_structure.specs.HasMeaning.{item_has_meaning}
use Rattle.f77_structure.specs.Loops.{loop_with_range_from}
use Rattle.f77_meaning.specs.Assign.{Operation, exchanged, is_v, operation_of, operators_at_left, stands_in_product, stands_in_sum}
use Rattle.f77_meaning.specs.IsCodeOf.{after_item_end, after_item_ends, ends_item, ends_iteration, from_iteration_end}
use Rattle.f77_code.specs.Accumulations.{Joining, chain_code, chain_code_by, chain_code_within, first_code, joining_by, joining_code, last_code, last_code_with}
use Rattle.f77_code.specs.Exprs.{code_part, code_ref, code_step, constant_named, expr_code, literal_layer_code, place_code, read_code, ref_code, value_code}
use Rattle.f77_code.specs.Statements.{assign_code, assigned_code, do_code, increment_code, items_code, layer_place, own_code, parameters_code, plain_code}
use Rattle.f77_code.proofs.Expressions.{first_of_two, second_of_two}

-- an instruction within an item
abbrev within_item : Instr → Bool
within_item i = not (ends_item i) && not (ends_iteration i)

-- one that ends no iteration
abbrev within_iteration : Instr → Bool
within_iteration i = not (ends_iteration i)

-- code of such instructions alone
pub record Quiet (code : List Instr) : Type 0 where
  pub all : list_all within_item code ≡ true

pub record Turnless (code : List Instr) : Type 0 where
  pub all : list_all within_iteration code ≡ true

joined : (a b : List Instr) → Quiet a → Quiet b → Quiet (a ++ b)
joined a b h g = record { all = list_all-append within_item a b ∙ (λ i. h.all i && g.all i) }

turnless_joined : (a b : List Instr) → Turnless a → Turnless b → Turnless (a ++ b)
turnless_joined a b h g = record { all = list_all-append within_iteration a b ∙ (λ i. h.all i && g.all i) }

weaker : (i : Instr) → IsTrue (within_item i) → IsTrue (within_iteration i)
weaker i h = second_of_two (not (ends_item i)) (not (ends_iteration i)) h

both : (a b : Bool) → a ≡ true → b ≡ true → (a && b) ≡ true
both true true h g = refl
both true false h g = g
both false b h g = h

turnless : (code : List Instr) → list_all within_item code ≡ true → list_all within_iteration code ≡ true
turnless [] h = refl
turnless (i ∷ code) h = both (within_iteration i) (list_all within_iteration code) (weaker i (first_of_two (within_item i) (list_all within_item code) h)) (turnless code (second_of_two (within_item i) (list_all within_item code) h))

quiet_turnless : (code : List Instr) → Quiet code → Turnless code
quiet_turnless code h = record { all = turnless code h.all }

itemless : (code : List Instr) → list_all within_item code ≡ true → list_all (λ i. not (ends_item i)) code ≡ true
itemless [] h = refl
itemless (i ∷ code) h =
    both (not (ends_item i)) (list_all (λ i. not (ends_item i)) code) (first_of_two (not (ends_item i)) (not (ends_iteration i)) (first_of_two (within_item i) (list_all within_item code) h))
    (itemless code (second_of_two (within_item i) (list_all within_item code) h))

-- the first instruction that fails a test, after some that pass it
first_failing : (test : Instr → Bool) (code : List Instr) (i : Instr) (rest : List Instr) → list_all test code ≡ true → test i ≡ false → prefix_len test (code ++ i ∷ rest) ≡ length code
first_failing test [] i rest h g = ap (λ b. cond b (1 + prefix_len test rest) 0) g
first_failing test (x ∷ code) i rest h g =
    ap (λ b. cond b (1 + prefix_len test (code ++ i ∷ rest)) 0) (first_of_two (test x) (list_all test code) h)
    ∙ ap (λ n. 1 + n) (first_failing test code i rest (second_of_two (test x) (list_all test code) h) g)
    ∙ one_more (length code)
  where
    one_more : (n : ℕ) → 1 + n ≡ suc n
    one_more n = omega arith

-- after an item
pub item_passed : (code : List Instr) (i : Instr) (rest : List Instr) → Quiet code → ends_item i ≡ true → after_item_end ((code ++ i ∷ []) ++ rest) ≡ rest
item_passed code i rest h g =
    ap after_item_end (append_assoc code (i ∷ []) rest)
    ∙ ap (λ n. drop (n + 1) (code ++ i ∷ rest)) (first_failing (λ j. not (ends_item j)) code i rest (itemless code h.all) (ap not g))
    ∙ ap (λ n. drop n (code ++ i ∷ rest)) (longer code i)
    ∙ ap (drop (length (code ++ i ∷ []))) (sym (append_assoc code (i ∷ []) rest))
    ∙ drop-append_seam (code ++ i ∷ []) rest
  where
    longer : (code : List Instr) (i : Instr) → length code + 1 ≡ length (code ++ i ∷ [])
    longer [] i = refl
    longer (x ∷ code) i = step (length code) (length (code ++ i ∷ [])) (longer code i)
      where
        step : (m n : ℕ) → m + 1 ≡ n → suc m + 1 ≡ suc n
        step m n e = omega (arith, e)

-- the ends of iterations, after code without one
pub turn_reached : (code : List Instr) (ordinal : ℕ) (rest : List Instr) → Turnless code → from_iteration_end (code ++ instr.Next ordinal ∷ rest) ≡ instr.Next ordinal ∷ rest
turn_reached code ordinal rest h =
    ap (λ n. drop n (code ++ instr.Next ordinal ∷ rest)) (first_failing within_iteration code (instr.Next ordinal) rest h.all refl)
    ∙ drop-append_seam code (instr.Next ordinal ∷ rest)

module _ (layout : Layout) (unit : ℕ) where
  abbrev ExprQuiet : Expr → Type 0
  ExprQuiet e = Quiet (expr_code layout unit e)

  abbrev PartQuiet : Part → Type 0
  PartQuiet part = Unit {0}

  abbrev RefQuiet : Ref → Type 0
  RefQuiet r = Quiet (value_code layout unit r)

  abbrev SomeExpr : Type 0
  SomeExpr = (e : Expr) × ExprQuiet e

  abbrev SomePart : Type 0
  SomePart = (x : Part) × PartQuiet x

  abbrev SomeRef : Type 0
  SomeRef = (r : Ref) × RefQuiet r

  abbrev coded : Expr-F Expr Part Ref → Expr-F (List Instr) (Unit {0}) (List Instr)
  coded = map-Expr Expr Part Ref (List Instr) (Unit {0}) (List Instr) (expr_code layout unit) (fold-Part (List Instr) (Unit {0}) (List Instr) code_step code_part (code_ref layout unit)) (value_code layout unit)

  abbrev coded_ref : Ref-F Expr Part Ref → Ref-F (List Instr) (Unit {0}) (List Instr)
  coded_ref = map-Ref Expr Part Ref (List Instr) (Unit {0}) (List Instr) (expr_code layout unit) (fold-Part (List Instr) (Unit {0}) (List Instr) code_step code_part (code_ref layout unit)) (value_code layout unit)

  of_layer : (z : Expr-F Expr Part Ref) → Quiet (code_step (coded z)) → ExprQuiet (roll-Expr z)
  of_layer z h = subst (λ code. Quiet code) (sym (fold-roll-Expr (List Instr) (Unit {0}) (List Instr) code_step code_part (code_ref layout unit) z)) h

  of_ref_layer : (z : Ref-F Expr Part Ref) → Quiet (code_ref layout unit (coded_ref z)) → RefQuiet (roll-Ref z)
  of_ref_layer z h = subst (λ code. Quiet code) (sym (fold-roll-Ref (List Instr) (Unit {0}) (List Instr) code_step code_part (code_ref layout unit) z)) h

  abbrev plain_expr : Expr-F SomeExpr SomePart SomeRef → Expr-F Expr Part Ref
  plain_expr = map-Expr SomeExpr SomePart SomeRef Expr Part Ref (λ e. e.0) (λ x. x.0) (λ r. r.0)

  abbrev plain_ref : Ref-F SomeExpr SomePart SomeRef → Ref-F Expr Part Ref
  plain_ref = map-Ref SomeExpr SomePart SomeRef Expr Part Ref (λ e. e.0) (λ x. x.0) (λ r. r.0)

  expr_layer : (y : Expr-F SomeExpr SomePart SomeRef) → ExprQuiet (roll-Expr (plain_expr y))
  expr_layer (layer.Int number) = of_layer (layer.Int number) (record { all = refl })
  expr_layer (layer.Truth holds) = of_layer (layer.Truth holds) (record { all = refl })
  expr_layer (layer.Chars text) = of_layer (layer.Chars text) (record { all = refl })
  expr_layer (layer.Ref r) = of_layer (layer.Ref r.0) r.1
  expr_layer (layer.Unary op x) = of_layer (layer.Unary op x.0) (joined (expr_code layout unit x.0) (instr.Unary op ∷ []) x.1 (record { all = refl }))
  expr_layer (layer.Binary op x y) =
      of_layer (layer.Binary op x.0 y.0)
      (joined (expr_code layout unit x.0 ++ expr_code layout unit y.0) (instr.Binary op ∷ []) (joined (expr_code layout unit x.0) (expr_code layout unit y.0) x.1 y.1) (record { all = refl }))
  expr_layer (layer.Paren x) = of_layer (layer.Paren x.0) x.1

  none : Quiet []
  none = record { all = refl }

  -- an entity before other code
  entity_first : (n : ℕ) (code : List Instr) → Quiet code → Quiet (instr.Entity n ∷ code)
  entity_first n code h = record { all = h.all }

  element_quiet : (n : ℕ) (code : List Instr) → Quiet code → Quiet (instr.Entity n ∷ code ++ instr.Index 1 ∷ [])
  element_quiet n code h = joined (instr.Entity n ∷ code) (instr.Index 1 ∷ []) (entity_first n code h) (record { all = refl })

  -- the value of a reference, by the code of its place
  read_quiet : (o : Option Expr) (place : List Instr) → Quiet place → Quiet (read_code o place)
  read_quiet None place h = joined place (instr.Load ∷ []) h (record { all = refl })
  read_quiet (Some literal) place h = by (out-Expr literal)
    where
      by : (z : Expr-F Expr Part Ref) → Quiet (literal_layer_code z)
      by (layer.Int number) = record { all = refl }
      by (layer.Truth holds) = record { all = refl }
      by (layer.Chars text) = none
      by (layer.Ref r) = none
      by (layer.Unary op x) = none
      by (layer.Binary op x y) = none
      by (layer.Paren x) = none

  ref_by : (y : Ref-F SomeExpr SomePart SomeRef) (number : Option ℕ) (args : Option (List SomeExpr)) (part : Option SomePart) → Quiet (place_code number (coded_ref (plain_ref (record y { args = args; part = part }))).args (coded_ref (plain_ref (record y { args = args; part = part }))).part)
  ref_by y None args part = none
  ref_by y (Some n) None None = record { all = refl }
  ref_by y (Some n) None (Some part) = none
  ref_by y (Some n) (Some []) part = none
  ref_by y (Some n) (Some (x ∷ [])) None = element_quiet n (expr_code layout unit x.0) x.1
  ref_by y (Some n) (Some (x ∷ [])) (Some part) = none
  ref_by y (Some n) (Some (x ∷ z ∷ others)) part = none

  ref_layer : (y : Ref-F SomeExpr SomePart SomeRef) → RefQuiet (roll-Ref (plain_ref y))
  ref_layer y =
      let z : Ref-F (List Instr) (Unit {0}) (List Instr) = coded_ref (plain_ref y) in
      of_ref_layer (plain_ref y)
      (read_quiet (constant_named (entity_in layout.entities unit z.name) z.args z.part) (place_code (number_in layout.entities unit z.name) z.args z.part) (ref_by y (number_in layout.entities unit y.name) y.args y.part))

  pub expr_quiet : (e : Expr) → ExprQuiet e
  expr_quiet = ind-Expr ExprQuiet PartQuiet RefQuiet
      (λ x y is. subst (λ z. ExprQuiet (roll-Expr z)) is (expr_layer y))
      (λ x y is. tt)
      (λ x y is. subst (λ z. RefQuiet (roll-Ref z)) is (ref_layer y))

  place_by : (number : Option ℕ) (args : Option (List Expr)) (part : Option Part) → Quiet (place_code number (option_map (map (expr_code layout unit)) args) (option_map (λ x. tt) part))
  place_by None args part = none
  place_by (Some n) None None = record { all = refl }
  place_by (Some n) None (Some part) = none
  place_by (Some n) (Some []) part = none
  place_by (Some n) (Some (x ∷ [])) None = element_quiet n (expr_code layout unit x) (expr_quiet x)
  place_by (Some n) (Some (x ∷ [])) (Some part) = none
  place_by (Some n) (Some (x ∷ z ∷ others)) part = none

  pub ref_quiet : (r : Ref) → Quiet (ref_code layout unit r)
  ref_quiet r = place_by (number_in layout.entities unit (out-Ref r).name) (out-Ref r).args (out-Ref r).part

  layer_quiet : (z : Expr-F Expr Part Ref) → Quiet (layer_place layout unit z)
  layer_quiet (layer.Int number) = none
  layer_quiet (layer.Truth holds) = none
  layer_quiet (layer.Chars text) = none
  layer_quiet (layer.Ref r) = ref_quiet r
  layer_quiet (layer.Unary op x) = none
  layer_quiet (layer.Binary op x y) = none
  layer_quiet (layer.Paren x) = none

  -- after one item
  plain_passed : (e : Expr) (rest : List Instr) → after_item_end (plain_code layout unit e ++ rest) ≡ rest
  plain_passed e rest = by (is_some (array_named layout unit e))
    where
      by : (b : Bool) → after_item_end (cond b (layer_place layout unit (out-Expr e) ++ instr.EmitArray ∷ []) (expr_code layout unit e ++ instr.Emit ∷ []) ++ rest) ≡ rest
      by true = item_passed (layer_place layout unit (out-Expr e)) instr.EmitArray rest (layer_quiet (out-Expr e)) refl
      by false = item_passed (expr_code layout unit e) instr.Emit rest (expr_quiet e) refl

  -- after some items
  pub items_passed : (done : ℕ) (items : List Item) (rest : List Instr) → done ≤ length items → (units : _) → IsTrue (list_all (item_has_meaning units layout unit) items) → after_item_ends done (items_code layout unit items ++ rest) ≡ items_code layout unit (drop done items) ++ rest
  items_passed zero items rest h units m = refl
  items_passed (suc done) [] rest h units m = absurd (omega (arith, h))
  items_passed (suc done) (item.Plain e ∷ items) rest h units m =
      ap (λ c. after_item_ends done (after_item_end c)) (append_assoc (plain_code layout unit e) (items_code layout unit items) rest)
      ∙ ap (after_item_ends done) (plain_passed e (items_code layout unit items ++ rest))
      ∙ items_passed done items rest (omega (arith, h)) units (second_of_two (item_has_meaning units layout unit (item.Plain e)) (list_all (item_has_meaning units layout unit) items) m)
  items_passed (suc done) (item.Implied' list pointer control ∷ items) rest h units m = absurd (cc)

  first_quiet : (op : Op) (right : Expr) → Quiet (first_code op (expr_code layout unit right))
  first_quiet op_of.Plus right = expr_quiet right
  first_quiet op_of.Neg right = expr_quiet right
  first_quiet op_of.Not right = expr_quiet right
  first_quiet op_of.Add right = expr_quiet right
  first_quiet op_of.Sub right = joined (expr_code layout unit right) (instr.Unary op_of.Neg ∷ []) (expr_quiet right) (record { all = refl })
  first_quiet op_of.Mul right = expr_quiet right
  first_quiet op_of.Div right = expr_quiet right
  first_quiet op_of.Pow right = expr_quiet right
  first_quiet op_of.Cat right = expr_quiet right
  first_quiet (op_of.Rel rel) right = expr_quiet right
  first_quiet op_of.And right = expr_quiet right
  first_quiet op_of.Or right = expr_quiet right
  first_quiet op_of.Eqv right = expr_quiet right
  first_quiet op_of.Neqv right = expr_quiet right

  -- the code of a right side that may be an accumulation
  abbrev IfQuiet : Option (List Instr) → Type 0
  IfQuiet None = Unit {0}
  IfQuiet (Some code) = Quiet code

  abbrev pub IfQuietly : Option Joining → Type 0
  IfQuietly None = Unit {0}
  IfQuietly (Some j) = Quiet j.code

  module _ (v : Ref) where
    module _ (in_chain : Op → Bool) where
      longer_quiet : (o : Operation) (inner : Option (List Instr)) → IfQuiet inner → IfQuiet (option_map (λ chain. chain ++ expr_code layout unit o.right ++ instr.Binary o.op ∷ []) inner)
      longer_quiet o None h = tt
      longer_quiet o (Some code) h = joined (code ++ expr_code layout unit o.right) (instr.Binary o.op ∷ []) (joined code (expr_code layout unit o.right) h (expr_quiet o.right)) (record { all = refl })

      by_operation : (inner : Expr → Option (List Instr)) → ((e : Expr) → IfQuiet (inner e)) → (o : Option Operation) → IfQuiet (chain_code_by layout unit v in_chain inner o)
      by_operation inner h None = tt
      by_operation inner h (Some o) = by (in_chain o.op) (is_v v o.left)
        where
          by : (b here : Bool) → IfQuiet (cond b (cond here (Some (first_code o.op (expr_code layout unit o.right))) (option_map (λ chain. chain ++ expr_code layout unit o.right ++ instr.Binary o.op ∷ []) (inner o.left))) None)
          by true true = first_quiet o.op o.right
          by true false = longer_quiet o (inner o.left) (h o.left)
          by false here = tt

      within_quiet : (operators : ℕ) (e : Expr) → IfQuiet (chain_code_within layout unit v in_chain operators e)
      within_quiet zero e = tt
      within_quiet (suc operators) e = by_operation (chain_code_within layout unit v in_chain operators) (within_quiet operators) (operation_of e)

    named_quiet : (op : RedOp) (code : Option (List Instr)) → IfQuiet code → IfQuietly (option_map (joining_by op) code)
    named_quiet op None h = tt
    named_quiet op (Some code) h = h

    last_quiet : (o : Option Operation) → IfQuietly (last_code layout unit v o)
    last_quiet None = tt
    last_quiet (Some o) = with (exchanged o.op)
      where
        with : (by : Option RedOp) → IfQuietly (last_code_with layout unit v o by)
        with None = tt
        with (Some op) = here (is_v v o.right)
          where
            here : (b : Bool) → IfQuietly (cond b (Some (joining_by op (expr_code layout unit o.left))) None)
            here true = expr_quiet o.left
            here false = tt

    either : (a b : Option Joining) → IfQuietly a → IfQuietly b → IfQuietly (option_or a b)
    either None b h g = g
    either (Some j) b h g = h

    joining_quiet : (e : Expr) → IfQuietly (joining_code layout unit v e)
    joining_quiet e =
        either (option_map (joining_by red.Add) (chain_code layout unit v stands_in_sum e)) (option_or (option_map (joining_by red.Mul) (chain_code layout unit v stands_in_product e)) (last_code layout unit v (operation_of e)))
        (named_quiet red.Add (chain_code layout unit v stands_in_sum e) (within_quiet stands_in_sum (operators_at_left e) e))
        (either (option_map (joining_by red.Mul) (chain_code layout unit v stands_in_product e)) (last_code layout unit v (operation_of e))
        (named_quiet red.Mul (chain_code layout unit v stands_in_product e) (within_quiet stands_in_product (operators_at_left e) e))
        (last_quiet (operation_of e)))

  assigned_quiet : (j : Option Joining) (v : Expr) → IfQuietly j → Quiet (assigned_code layout unit j v)
  assigned_quiet None v h = joined (expr_code layout unit v) (instr.Store ∷ []) (expr_quiet v) (record { all = refl })
  assigned_quiet (Some j) v h = joined j.code (instr.Accumulate j.op ∷ []) h (record { all = refl })

  assign_turnless : (target : Ref) (v : Expr) → Turnless (assign_code layout unit target v)
  assign_turnless target v =
      quiet_turnless (assign_code layout unit target v)
      (joined (ref_code layout unit target) (assigned_code layout unit (joining_code layout unit target v) v) (ref_quiet target) (assigned_quiet (joining_code layout unit target v) v (joining_quiet target v)))

  increment_quiet : (o : Option Expr) → Quiet (increment_code layout unit o)
  increment_quiet None = record { all = refl }
  increment_quiet (Some e) = expr_quiet e

  parameters_quiet : (control : LoopControl) → Quiet (parameters_code layout unit control)
  parameters_quiet control =
      joined (expr_code layout unit control.first ++ expr_code layout unit control.last) (increment_code layout unit control.increment)
      (joined (expr_code layout unit control.first) (expr_code layout unit control.last) (expr_quiet control.first) (expr_quiet control.last)) (increment_quiet control.increment)

  do_turnless : (control : LoopControl) (number : Option ℕ) (loop : Option Loop) → Turnless (do_code layout unit control number loop)
  do_turnless control None loop = record { all = refl }
  do_turnless control (Some n) None = record { all = refl }
  do_turnless control (Some n) (Some loop) =
      quiet_turnless (instr.Entity n ∷ parameters_code layout unit control ++ instr.Count loop.ordinal ∷ [])
      (joined (instr.Entity n ∷ parameters_code layout unit control) (instr.Count loop.ordinal ∷ []) (entity_first n (parameters_code layout unit control) (parameters_quiet control)) (record { all = refl }))

  plain_turnless : (e : Expr) → Turnless (plain_code layout unit e)
  plain_turnless e = by (is_some (array_named layout unit e))
    where
      by : (b : Bool) → Turnless (cond b (layer_place layout unit (out-Expr e) ++ instr.EmitArray ∷ []) (expr_code layout unit e ++ instr.Emit ∷ []))
      by true = turnless_joined (layer_place layout unit (out-Expr e)) (instr.EmitArray ∷ []) (quiet_turnless (layer_place layout unit (out-Expr e)) (layer_quiet (out-Expr e))) (record { all = refl })
      by false = turnless_joined (expr_code layout unit e) (instr.Emit ∷ []) (quiet_turnless (expr_code layout unit e) (expr_quiet e)) (record { all = refl })

  items_turnless : (items : List Item) → Turnless (items_code layout unit items)
  items_turnless [] = record { all = refl }
  items_turnless (item.Plain e ∷ items) = turnless_joined (plain_code layout unit e) (items_code layout unit items) (plain_turnless e) (items_turnless items)
  items_turnless (item.Implied' list pointer control ∷ items) = items_turnless items

module _ (loops : List Loop) (layout : Layout) (unit : ℕ) where
  -- no statement ends an iteration in its own code
  pub own_turnless : (number : ℕ) (s : Stmt) → Turnless (own_code loops layout unit number s)
  own_turnless number (stmt.Assign target value) = assign_turnless layout unit target value
  own_turnless number (stmt.Do terminal control) = do_turnless layout unit control (number_in layout.entities unit control.variable) (loop_with_range_from loops (number + 1))
  own_turnless number stmt.Continue = record { all = refl }
  own_turnless number stmt.Return = record { all = refl }
  own_turnless number stmt.Else = record { all = refl }
  own_turnless number stmt.EndIf = record { all = refl }
  own_turnless number stmt.End = record { all = refl }
  own_turnless number (stmt.Stop code) = record { all = refl }
  own_turnless number (stmt.Goto label) = record { all = refl }
  own_turnless number (stmt.ComputedGoto labels index) = record { all = refl }
  own_turnless number (stmt.ArithmeticIf value negative zeroth positive) = record { all = refl }
  own_turnless number (stmt.LogicalIf' condition pointer inner) = record { all = refl }
  own_turnless number (stmt.BlockIf condition) = record { all = refl }
  own_turnless number (stmt.ElseIf condition) = record { all = refl }
  own_turnless number (stmt.Call name args) = record { all = refl }
  own_turnless number (stmt.Print items) = turnless_joined (items_code layout unit items) (instr.Print ∷ []) (items_turnless layout unit items) (record { all = refl })
  own_turnless number (stmt.Read items) = record { all = refl }
  own_turnless number (stmt.Program name) = record { all = refl }
  own_turnless number (stmt.Subroutine name dummies) = record { all = refl }
  own_turnless number (stmt.Function typ name dummies) = record { all = refl }
  own_turnless number (stmt.Declare typ entities) = record { all = refl }
  own_turnless number (stmt.Dimension arrays) = record { all = refl }
  own_turnless number (stmt.Common groups) = record { all = refl }
  own_turnless number (stmt.Equivalence groups) = record { all = refl }
  own_turnless number (stmt.Parameter constants) = record { all = refl }
  own_turnless number (stmt.Implicit rules) = record { all = refl }
  own_turnless number (stmt.Save entries) = record { all = refl }
  own_turnless number (stmt.Init groups) = record { all = refl }
