-- References in statements without a miscount have as many subscripts as their arrays have dimensions.
use Rattle.std.proofs.Common.{false, ◌||◌, List, [], ◌∷◌, ◌++◌, length, map, nat_lt, Option, None, Some, sym, subst}
use Rattle.std.specs.List.{flat_map}
use Rattle.f77_ast.specs.Limits.{most_dimensions}
use Rattle.f77_ast.specs.declared.data.DataGroup.{DataGroup}
use Rattle.f77_ast.specs.declared.expr.Expr.{Expr}
use Rattle.f77_ast.specs.declared.expr.Ref.{Ref}
use Rattle.f77_ast.specs.declared.specification.Bound.{Bound}
use Rattle.f77_ast.specs.declared.specification.CommonGroup.{CommonGroup}
use Rattle.f77_ast.specs.declared.specification.Declarator.{Declarator}
use Rattle.f77_ast.specs.declared.specification.EquivalenceGroup.{EquivalenceGroup}
use Rattle.f77_ast.specs.declared.specification.ImplicitRule.{ImplicitRule}
use Rattle.f77_ast.specs.declared.specification.Length.TheVariants as length_of
use Rattle.f77_ast.specs.declared.specification.Length.{Length}
use Rattle.f77_ast.specs.declared.specification.NamedConstant.{NamedConstant}
use Rattle.f77_ast.specs.declared.specification.TypeSpec.TheVariants as typ
use Rattle.f77_ast.specs.declared.specification.TypeSpec.{TypeSpec}
use Rattle.f77_ast.specs.declared.specification.TypedDeclarator.{TypedDeclarator}
use Rattle.f77_ast.specs.declared.stmt.Item.{Item}
use Rattle.f77_ast.specs.declared.stmt.Item.TheFolds.{fold-roll-Item, ind-Item, map-Item}
use Rattle.f77_ast.specs.declared.stmt.Item.TheOpen.{Item-F}
use Rattle.f77_ast.specs.declared.stmt.Item.TheOpen as item
use Rattle.f77_ast.specs.declared.stmt.Item.TheViews.{roll-Item}
use Rattle.f77_ast.specs.declared.stmt.LoopControl.{LoopControl}
use Rattle.f77_ast.specs.declared.stmt.Stmt.{Stmt}
use Rattle.f77_ast.specs.declared.stmt.Stmt.TheFolds.{fold-roll-Stmt, ind-Stmt, map-Stmt}
use Rattle.f77_ast.specs.declared.stmt.Stmt.TheOpen.{Stmt-F}
use Rattle.f77_ast.specs.declared.stmt.Stmt.TheOpen as stmt
use Rattle.f77_ast.specs.declared.stmt.Stmt.TheViews.{roll-Stmt}
use Rattle.f77_leaves.specs.Declarations.{Declarations}
use Rattle.f77_kinds.specs.Breaches.{any_of}
use Rattle.f77_kinds.specs.Breaches as breaches
use Rattle.f77_kinds.specs.Found.{expr_found, member_found, ref_found}
use Rattle.f77_kinds.specs.Statements.{constant_breach, control_breach, data_breach, data_value_breach, declarator_breach, dimension_breach, entity_breach, equivalence_breach, group_breach, integer_breach, item_breach, item_step, length_breach, member_breach, plain_breach, rule_breach, stmt_breach, stmt_step, type_breach}
use Rattle.f77_kinds.specs.declared.breach.Breach.{Breach}
use Rattle.f77_kinds.specs.declared.items.Transfer.{Transfer}
use Rattle.f77_kinds.specs.declared.items.Transfer.TheVariants as transfer
use Rattle.f77_counted.specs.References.{Reference, bound_references, constant_references, control_references, data_references, declarator_references, entity_references, equivalence_references, expr_references, group_references, if_there, in_all, item_references, length_references, member_references, ref_references, references_of, rule_references, type_references}
use Rattle.f77_counted.specs.References as refs
use Rattle.f77_counted.proofs.Counting.{Clean, none, both, left, expr_clean, ref_clean, member_clean}

module _ (unit : Declarations) where
  each : {A : Type 0} (f : A → Breach) (g : A → List Reference) → ((x : A) → Clean unit (f x).miscount (g x)) → (xs : List A) → Clean unit (any_of f xs).miscount (flat_map g xs)
  each f g h [] = none unit false
  each f g h (x ∷ xs) = both unit (f x).miscount (any_of f xs).miscount (g x) (flat_map g xs) (h x) (each f g h xs)

  there : {A : Type 0} (f : A → Breach) (g : A → List Reference) → ((x : A) → Clean unit (f x).miscount (g x)) → (o : Option A) → Clean unit (breaches.if_there f o).miscount (if_there g o)
  there f g h None = none unit false
  there f g h (Some x) = h x

  integer_clean : (e : Expr) → Clean unit (integer_breach unit e).miscount (expr_references e)
  integer_clean e = left unit (expr_found unit e).breach.miscount false (expr_references e) (expr_clean unit e)

  control_clean : (c : LoopControl) → Clean unit (control_breach unit c).miscount (control_references c)
  control_clean c =
      both unit (integer_breach unit c.first).miscount ((integer_breach unit c.last).miscount || (breaches.if_there (integer_breach unit) c.increment).miscount) (expr_references c.first) (expr_references c.last ++ if_there expr_references c.increment)
      (integer_clean c.first)
      (both unit (integer_breach unit c.last).miscount (breaches.if_there (integer_breach unit) c.increment).miscount (expr_references c.last) (if_there expr_references c.increment) (integer_clean c.last) (there (integer_breach unit) expr_references integer_clean c.increment))

  -- ---- items

  plain_clean : (way : Transfer) (e : Expr) → Clean unit (plain_breach way (expr_found unit e)).miscount (expr_references e)
  plain_clean transfer.Input e = left unit (expr_found unit e).breach.miscount false (expr_references e) (expr_clean unit e)
  plain_clean transfer.Output e = left unit (expr_found unit e).breach.miscount false (expr_references e) (expr_clean unit e)

  module _ (way : Transfer) where
    abbrev ItemClean : Item → Type 0
    ItemClean i = Clean unit (item_breach unit way i).miscount (item_references i)

    abbrev SomeItem : Type 0
    SomeItem = (i : Item) × ItemClean i

    items_clean : (xs : List SomeItem) → Clean unit (any_of (λ b. b) (map (item_breach unit way) (map (λ x. x.0) xs))).miscount (in_all (map item_references (map (λ x. x.0) xs)))
    items_clean [] = none unit false
    items_clean (x ∷ xs) =
        both unit (item_breach unit way x.0).miscount (any_of (λ b. b) (map (item_breach unit way) (map (λ y. y.0) xs))).miscount (item_references x.0) (in_all (map item_references (map (λ y. y.0) xs))) x.1 (items_clean xs)

    abbrev breach_layer : Item-F Item → Breach
    breach_layer z = item_step unit way (map-Item Item Breach (item_breach unit way) z)

    abbrev references_layer : Item-F Item → List Reference
    references_layer z = refs.item_step (map-Item Item (List Reference) item_references z)

    of_item_layer : (z : Item-F Item) → Clean unit (breach_layer z).miscount (references_layer z) → ItemClean (roll-Item z)
    of_item_layer z h =
        subst (λ (b : Breach). Clean unit b.miscount (item_references (roll-Item z))) (sym (fold-roll-Item Breach (item_step unit way) z))
        (subst (λ (l : List Reference). Clean unit (breach_layer z).miscount l) (sym (fold-roll-Item (List Reference) refs.item_step z)) h)

    item_layer : (y : Item-F SomeItem) → ItemClean (roll-Item (map-Item SomeItem Item (λ x. x.0) y))
    item_layer (item.Plain e) = of_item_layer (item.Plain e) (plain_clean way e)
    item_layer (item.Implied xs c) =
        of_item_layer (item.Implied (map (λ x. x.0) xs) c)
        (both unit (any_of (λ b. b) (map (item_breach unit way) (map (λ x. x.0) xs))).miscount (control_breach unit c).miscount (in_all (map item_references (map (λ x. x.0) xs))) (control_references c) (items_clean xs) (control_clean c))

    item_clean : (i : Item) → ItemClean i
    item_clean = ind-Item ItemClean (λ x y is. subst (λ z. ItemClean (roll-Item z)) is (item_layer y))

  -- ---- specification statements and DATA

  length_clean : (len : Length) → Clean unit (length_breach unit len).miscount (length_references len)
  length_clean (length_of.Digits digits) = none unit false
  length_clean (length_of.Paren e) = integer_clean e
  length_clean length_of.Asterisk = none unit false

  type_clean : (t : TypeSpec) → Clean unit (type_breach unit t).miscount (type_references t)
  type_clean typ.Integer = none unit false
  type_clean typ.Logical = none unit false
  type_clean (typ.Character len) = there (length_breach unit) length_references length_clean len

  bound_clean : (b : Bound) → Clean unit (dimension_breach unit b).miscount (bound_references b)
  bound_clean b =
      both unit (breaches.if_there (integer_breach unit) b.low).miscount (breaches.if_there (integer_breach unit) b.high).miscount (if_there expr_references b.low) (if_there expr_references b.high)
      (there (integer_breach unit) expr_references integer_clean b.low) (there (integer_breach unit) expr_references integer_clean b.high)

  declarator_clean : (d : Declarator) → Clean unit (declarator_breach unit d).miscount (declarator_references d)
  declarator_clean d = left unit (any_of (dimension_breach unit) d.bounds).miscount (nat_lt most_dimensions (length d.bounds)) (flat_map bound_references d.bounds) (each (dimension_breach unit) bound_references bound_clean d.bounds)

  entity_clean : (e : TypedDeclarator) → Clean unit (entity_breach unit e).miscount (entity_references e)
  entity_clean e =
      both unit (declarator_breach unit e.declarator).miscount (breaches.if_there (length_breach unit) e.length).miscount (declarator_references e.declarator) (if_there length_references e.length)
      (declarator_clean e.declarator) (there (length_breach unit) length_references length_clean e.length)

  group_clean : (g : CommonGroup) → Clean unit (group_breach unit g).miscount (group_references g)
  group_clean g = each (declarator_breach unit) declarator_references declarator_clean g.members

  part_of_list : (r : Ref) → Clean unit (member_breach unit r).miscount (member_references r)
  part_of_list r = left unit (member_found unit r).breach.miscount false (member_references r) (member_clean unit r)

  equivalence_clean : (g : EquivalenceGroup) → Clean unit (equivalence_breach unit g).miscount (equivalence_references g)
  equivalence_clean g = each (member_breach unit) member_references part_of_list g.members

  constant_clean : (c : NamedConstant) → Clean unit (constant_breach unit c).miscount (constant_references c)
  constant_clean c = left unit (expr_found unit c.value).breach.miscount false (expr_references c.value) (expr_clean unit c.value)

  rule_clean : (r : ImplicitRule) → Clean unit (rule_breach unit r).miscount (rule_references r)
  rule_clean r = type_clean r.typ

  data_clean : (g : DataGroup) → Clean unit (data_breach unit g).miscount (data_references g)
  data_clean g = left unit (any_of (member_breach unit) g.targets).miscount (any_of (data_value_breach unit) g.values).miscount (data_references g) (each (member_breach unit) member_references part_of_list g.targets)

  -- ---- statements

  abbrev StmtClean : Stmt → Type 0
  StmtClean s = Clean unit (stmt_breach unit s).miscount (references_of s)

  abbrev SomeStmt : Type 0
  SomeStmt = (s : Stmt) × StmtClean s

  abbrev stmt_breach_layer : Stmt-F Stmt → Breach
  stmt_breach_layer z = stmt_step unit (map-Stmt Stmt Breach (stmt_breach unit) z)

  abbrev stmt_references_layer : Stmt-F Stmt → List Reference
  stmt_references_layer z = refs.stmt_step (map-Stmt Stmt (List Reference) references_of z)

  of_layer : (z : Stmt-F Stmt) → Clean unit (stmt_breach_layer z).miscount (stmt_references_layer z) → StmtClean (roll-Stmt z)
  of_layer z h =
      subst (λ (b : Breach). Clean unit b.miscount (references_of (roll-Stmt z))) (sym (fold-roll-Stmt Breach (stmt_step unit) z))
      (subst (λ (l : List Reference). Clean unit (stmt_breach_layer z).miscount l) (sym (fold-roll-Stmt (List Reference) refs.stmt_step z)) h)

  stmt_layer : (y : Stmt-F SomeStmt) → StmtClean (roll-Stmt (map-Stmt SomeStmt Stmt (λ s. s.0) y))
  stmt_layer (stmt.Assign target value) =
      of_layer (stmt.Assign target value)
      (both unit (ref_found unit target).breach.miscount ((expr_found unit value).breach.miscount || false) (ref_references target) (expr_references value)
      (ref_clean unit target) (left unit (expr_found unit value).breach.miscount false (expr_references value) (expr_clean unit value)))
  stmt_layer (stmt.Do terminal control) = of_layer (stmt.Do terminal control) (control_clean control)
  stmt_layer stmt.Continue = of_layer stmt.Continue (none unit false)
  stmt_layer stmt.Return = of_layer stmt.Return (none unit false)
  stmt_layer stmt.Else = of_layer stmt.Else (none unit false)
  stmt_layer stmt.EndIf = of_layer stmt.EndIf (none unit false)
  stmt_layer stmt.End = of_layer stmt.End (none unit false)
  stmt_layer (stmt.Stop code) = of_layer (stmt.Stop code) (none unit false)
  stmt_layer (stmt.Goto label) = of_layer (stmt.Goto label) (none unit false)
  stmt_layer (stmt.ComputedGoto labels index) = of_layer (stmt.ComputedGoto labels index) (integer_clean index)
  stmt_layer (stmt.ArithmeticIf value negative zeroth positive) = of_layer (stmt.ArithmeticIf value negative zeroth positive) (integer_clean value)
  stmt_layer (stmt.LogicalIf condition inner) =
      of_layer (stmt.LogicalIf condition inner.0)
      (both unit ((expr_found unit condition).breach.miscount || false) (stmt_breach unit inner.0).miscount (expr_references condition) (references_of inner.0)
      (left unit (expr_found unit condition).breach.miscount false (expr_references condition) (expr_clean unit condition)) inner.1)
  stmt_layer (stmt.BlockIf condition) = of_layer (stmt.BlockIf condition) (left unit (expr_found unit condition).breach.miscount false (expr_references condition) (expr_clean unit condition))
  stmt_layer (stmt.ElseIf condition) = of_layer (stmt.ElseIf condition) (left unit (expr_found unit condition).breach.miscount false (expr_references condition) (expr_clean unit condition))
  stmt_layer (stmt.Call name args) = of_layer (stmt.Call name args) (each (λ e. (expr_found unit e).breach) expr_references (expr_clean unit) args)
  stmt_layer (stmt.Print items) = of_layer (stmt.Print items) (each (item_breach unit transfer.Output) item_references (item_clean transfer.Output) items)
  stmt_layer (stmt.Read items) = of_layer (stmt.Read items) (each (item_breach unit transfer.Input) item_references (item_clean transfer.Input) items)
  stmt_layer (stmt.Program name) = of_layer (stmt.Program name) (none unit false)
  stmt_layer (stmt.Subroutine name dummies) = of_layer (stmt.Subroutine name dummies) (none unit false)
  stmt_layer (stmt.Function t name dummies) = of_layer (stmt.Function t name dummies) (there (type_breach unit) type_references type_clean t)
  stmt_layer (stmt.Declare t entities) =
      of_layer (stmt.Declare t entities)
      (both unit (type_breach unit t).miscount (any_of (entity_breach unit) entities).miscount (type_references t) (flat_map entity_references entities) (type_clean t) (each (entity_breach unit) entity_references entity_clean entities))
  stmt_layer (stmt.Dimension arrays) = of_layer (stmt.Dimension arrays) (each (declarator_breach unit) declarator_references declarator_clean arrays)
  stmt_layer (stmt.Common groups) = of_layer (stmt.Common groups) (each (group_breach unit) group_references group_clean groups)
  stmt_layer (stmt.Equivalence groups) = of_layer (stmt.Equivalence groups) (each (equivalence_breach unit) equivalence_references equivalence_clean groups)
  stmt_layer (stmt.Parameter constants) = of_layer (stmt.Parameter constants) (each (constant_breach unit) constant_references constant_clean constants)
  stmt_layer (stmt.Implicit rules) = of_layer (stmt.Implicit rules) (each (rule_breach unit) rule_references rule_clean rules)
  stmt_layer (stmt.Save entries) = of_layer (stmt.Save entries) (none unit false)
  stmt_layer (stmt.Init groups) = of_layer (stmt.Init groups) (each (data_breach unit) data_references data_clean groups)

  pub stmt_clean : (s : Stmt) → StmtClean s
  stmt_clean = ind-Stmt StmtClean (λ x y is. subst (λ z. StmtClean (roll-Stmt z)) is (stmt_layer y))
