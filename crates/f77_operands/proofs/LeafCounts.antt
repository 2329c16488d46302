-- What is in a statement is as much as its need.
use Rattle.std.proofs.Common.{◌≡◌, ℕ, ◌+◌, List, [], ◌∷◌, ◌++◌, length, map, Option, None, Some, refl, sym, ap, ◌∙◌, subst, arith}
use Rattle.std.proofs.lemmas.List.{length-append, length-map}
use Rattle.std.proofs.lemmas.List.Sums.{sum_by-cons}
use Rattle.std.specs.List.{flat_map, sum, sum_by}
use Rattle.f77_ast.specs.declared.data.DataConstant.TheVariants as constant
use Rattle.f77_ast.specs.declared.data.DataConstant.{DataConstant}
use Rattle.f77_ast.specs.declared.data.DataGroup.{DataGroup}
use Rattle.f77_ast.specs.declared.data.DataValue.{DataValue}
use Rattle.f77_ast.specs.declared.data.Repeat.TheVariants as repeat
use Rattle.f77_ast.specs.declared.data.Repeat.{Repeat}
use Rattle.f77_ast.specs.declared.expr.Expr.{Expr}
use Rattle.f77_ast.specs.declared.expr.Expr.TheFolds.{fold-Part, fold-roll-Expr, fold-roll-Part, fold-roll-Ref, ind-Expr, ind-Ref, map-Expr, map-Part, map-Ref}
use Rattle.f77_ast.specs.declared.expr.Expr.TheOpen.{Expr-F, Part-F, Ref-F}
use Rattle.f77_ast.specs.declared.expr.Expr.TheOpen as layer
use Rattle.f77_ast.specs.declared.expr.Expr.TheViews.{roll-Expr, roll-Part, roll-Ref}
use Rattle.f77_ast.specs.declared.expr.Part.{Part}
use Rattle.f77_ast.specs.declared.expr.Ref.{Ref}
use Rattle.f77_ast.specs.declared.specification.Bound.{Bound}
use Rattle.f77_ast.specs.declared.specification.CommonGroup.{CommonGroup}
use Rattle.f77_ast.specs.declared.specification.Declarator.{Declarator}
use Rattle.f77_ast.specs.declared.specification.EquivalenceGroup.{EquivalenceGroup}
use Rattle.f77_ast.specs.declared.specification.ImplicitRule.{ImplicitRule}
use Rattle.f77_ast.specs.declared.specification.Length.TheVariants as length_of
use Rattle.f77_ast.specs.declared.specification.Length.{Length}
use Rattle.f77_ast.specs.declared.specification.NamedConstant.{NamedConstant}
use Rattle.f77_ast.specs.declared.specification.SaveEntry.TheVariants as entry
use Rattle.f77_ast.specs.declared.specification.SaveEntry.{SaveEntry}
use Rattle.f77_ast.specs.declared.specification.TypeSpec.TheVariants as typ
use Rattle.f77_ast.specs.declared.specification.TypeSpec.{TypeSpec}
use Rattle.f77_ast.specs.declared.specification.TypedDeclarator.{TypedDeclarator}
use Rattle.f77_ast.specs.declared.stmt.Item.{Item}
use Rattle.f77_ast.specs.declared.stmt.Item.TheFolds.{fold-roll-Item, ind-Item, map-Item}
use Rattle.f77_ast.specs.declared.stmt.Item.TheOpen.{Item-F}
use Rattle.f77_ast.specs.declared.stmt.Item.TheOpen as item
use Rattle.f77_ast.specs.declared.stmt.Item.TheViews.{roll-Item}
use Rattle.f77_ast.specs.declared.stmt.LoopControl.{LoopControl}
use Rattle.f77_ast.specs.declared.stmt.Stmt.{Stmt}
use Rattle.f77_ast.specs.declared.stmt.Stmt.TheFolds.{fold-roll-Stmt, ind-Stmt, map-Stmt}
use Rattle.f77_ast.specs.declared.stmt.Stmt.TheOpen.{Stmt-F}
use Rattle.f77_ast.specs.declared.stmt.Stmt.TheOpen as stmt
use Rattle.f77_ast.specs.declared.stmt.Stmt.TheViews.{roll-Stmt}
use Rattle.f77_ast.specs.declared.stmt.StopCode.{StopCode}
use Rattle.f77_ast.specs.declared.stmt.StopCode.TheVariants as stop
use Rattle.f77_leaves.specs.Leaves.{alone, leaves_if, operands, operands_if, operand_if, expr_leaves, part_leaves, ref_leaves, operand_leaves, option_leaves, control_leaves, inner_leaves, item_leaves, items_leaves, length_leaves, type_leaves, option_type_leaves, bound_leaves, declarator_leaves, typed_role, entity_leaves, block_leaves, group_leaves, refs_leaves, member_leaves, named_leaves, rule_leaves, entry_leaves, constant_leaves, repeat_leaves, value_leaves, data_leaves, stop_leaves, names_leaves, leaves_of}
use Rattle.f77_leaves.specs.Leaves as leaves
use Rattle.f77_leaves.specs.declared.leaves.Leaf.{Leaf}
use Rattle.f77_leaves.specs.declared.leaves.Role.{Role}
use Rattle.f77_leaves.specs.declared.leaves.Role.TheVariants as role
use Rattle.f77_structure.specs.Needs.{option_need, one_if, expr_need, ref_need, control_need, item_need, length_need, type_need, bound_need, declarator_need, entity_need, group_need, members_need, named_need, rule_need, value_need, data_need, need_of}
use Rattle.f77_structure.specs.Needs as needs
use Rattle.f77_operands.specs.Laws.{NeedsAreLeaves}

-- ---- lists

both : (xs ys : List Leaf) (m n : ℕ) → length xs ≡ m → length ys ≡ n → length (xs ++ ys) ≡ m + n
both xs ys m n e f = length-append xs ys ∙ ap (λ k. k + length ys) e ∙ ap (λ k. m + k) f

one_and : (x : Leaf) (xs : List Leaf) (n : ℕ) → length xs ≡ n → length (x ∷ xs) ≡ 1 + n
one_and x xs n e = omega (arith, e)

each : {A : Type 0} (f : A → List Leaf) (g : A → ℕ) → ((x : A) → length (f x) ≡ g x) → (xs : List A) → length (flat_map f xs) ≡ sum_by g xs
each f g h [] = refl
each f g h (x ∷ xs) = both (f x) (flat_map f xs) (g x) (sum_by g xs) (h x) (each f g h xs) ∙ sym (sum_by-cons g x xs)

singles : {A : Type 0} (f : A → List Leaf) → ((x : A) → length (f x) ≡ 1) → (xs : List A) → length (flat_map f xs) ≡ length xs
singles f h [] = refl
singles f h (x ∷ xs) = let all = both (f x) (flat_map f xs) 1 (length xs) (h x) (singles f h xs) in omega (arith, all)

names_count : (part : Role) (names : List (List ℕ)) → length (names_leaves part names) ≡ length names
names_count part names = length-map names (λ name. alone name part)

-- ---- expressions

abbrev part_need : Part → ℕ
part_need = fold-Part ℕ ℕ ℕ needs.expr_step needs.part_step needs.ref_step

abbrev ExprCounts : Expr → Type 0
ExprCounts e = (part : Role) → length (expr_leaves e part) ≡ expr_need e

abbrev PartCounts : Part → Type 0
PartCounts p = length (part_leaves p) ≡ part_need p

abbrev RefCounts : Ref → Type 0
RefCounts r = (part : Role) → length (ref_leaves r part) ≡ ref_need r

abbrev SomeExpr : Type 0
SomeExpr = (e : Expr) × ExprCounts e

abbrev SomePart : Type 0
SomePart = (p : Part) × PartCounts p

abbrev SomeRef : Type 0
SomeRef = (r : Ref) × RefCounts r

abbrev exprs : List SomeExpr → List Expr
exprs xs = map (λ x. x.0) xs

operands_count : (xs : List SomeExpr) → length (operands (map expr_leaves (exprs xs))) ≡ sum (map expr_need (exprs xs))
operands_count [] = refl
operands_count (x ∷ xs) =
    both (expr_leaves x.0 role.Operand) (operands (map expr_leaves (exprs xs))) (expr_need x.0) (sum (map expr_need (exprs xs))) (x.1 role.Operand) (operands_count xs)
    ∙ sym (sum_by-cons (λ n. n) (expr_need x.0) (map expr_need (exprs xs)))

abbrev leaves_layer : Expr-F Expr Part Ref → Role → List Leaf
leaves_layer z = leaves.expr_step (map-Expr Expr Part Ref (Role → List Leaf) (List Leaf) (Role → List Leaf) expr_leaves part_leaves ref_leaves z)

abbrev need_layer : Expr-F Expr Part Ref → ℕ
need_layer z = needs.expr_step (map-Expr Expr Part Ref ℕ ℕ ℕ expr_need part_need ref_need z)

of_layer : (z : Expr-F Expr Part Ref) → ((part : Role) → length (leaves_layer z part) ≡ need_layer z) → ExprCounts (roll-Expr z)
of_layer z h = λ part.
    ap (λ (f : Role → List Leaf). length (f part)) (fold-roll-Expr (Role → List Leaf) (List Leaf) (Role → List Leaf) leaves.expr_step leaves.part_step leaves.ref_step z)
    ∙ h part
    ∙ sym (fold-roll-Expr ℕ ℕ ℕ needs.expr_step needs.part_step needs.ref_step z)

abbrev plain_expr : Expr-F SomeExpr SomePart SomeRef → Expr-F Expr Part Ref
plain_expr = map-Expr SomeExpr SomePart SomeRef Expr Part Ref (λ e. e.0) (λ p. p.0) (λ r. r.0)

expr_layer : (y : Expr-F SomeExpr SomePart SomeRef) → ExprCounts (roll-Expr (plain_expr y))
expr_layer (layer.Int number) = of_layer (layer.Int number) (λ part. refl)
expr_layer (layer.Truth holds) = of_layer (layer.Truth holds) (λ part. refl)
expr_layer (layer.Chars text) = of_layer (layer.Chars text) (λ part. refl)
expr_layer (layer.Ref r) = of_layer (layer.Ref r.0) r.1
expr_layer (layer.Unary op x) = of_layer (layer.Unary op x.0) (λ part. x.1 role.Operand)
expr_layer (layer.Binary op x y) = of_layer (layer.Binary op x.0 y.0) (λ part. both (expr_leaves x.0 role.Operand) (expr_leaves y.0 role.Operand) (expr_need x.0) (expr_need y.0) (x.1 role.Operand) (y.1 role.Operand))
expr_layer (layer.Paren x) = of_layer (layer.Paren x.0) (λ part. x.1 role.Operand)

-- ---- bounds of substrings

abbrev part_leaves_layer : Part-F Expr Part Ref → List Leaf
part_leaves_layer z = leaves.part_step (map-Part Expr Part Ref (Role → List Leaf) (List Leaf) (Role → List Leaf) expr_leaves part_leaves ref_leaves z)

abbrev part_need_layer : Part-F Expr Part Ref → ℕ
part_need_layer z = needs.part_step (map-Part Expr Part Ref ℕ ℕ ℕ expr_need part_need ref_need z)

of_part_layer : (z : Part-F Expr Part Ref) → length (part_leaves_layer z) ≡ part_need_layer z → PartCounts (roll-Part z)
of_part_layer z h =
    ap length (fold-roll-Part (Role → List Leaf) (List Leaf) (Role → List Leaf) leaves.expr_step leaves.part_step leaves.ref_step z)
    ∙ h
    ∙ sym (fold-roll-Part ℕ ℕ ℕ needs.expr_step needs.part_step needs.ref_step z)

abbrev plain_part : Part-F SomeExpr SomePart SomeRef → Part-F Expr Part Ref
plain_part = map-Part SomeExpr SomePart SomeRef Expr Part Ref (λ e. e.0) (λ p. p.0) (λ r. r.0)

part_by : (y : Part-F SomeExpr SomePart SomeRef) (low high : Option SomeExpr) → length (part_leaves_layer (plain_part (record y { low = low; high = high }))) ≡ part_need_layer (plain_part (record y { low = low; high = high }))
part_by y None None = refl
part_by y None (Some b) = both [] (expr_leaves b.0 role.Operand) 0 (expr_need b.0) refl (b.1 role.Operand)
part_by y (Some a) None = both (expr_leaves a.0 role.Operand) [] (expr_need a.0) 0 (a.1 role.Operand) refl
part_by y (Some a) (Some b) = both (expr_leaves a.0 role.Operand) (expr_leaves b.0 role.Operand) (expr_need a.0) (expr_need b.0) (a.1 role.Operand) (b.1 role.Operand)

part_layer : (y : Part-F SomeExpr SomePart SomeRef) → PartCounts (roll-Part (plain_part y))
part_layer y = of_part_layer (plain_part y) (part_by y y.low y.high)

-- ---- references

abbrev ref_leaves_layer : Ref-F Expr Part Ref → Role → List Leaf
ref_leaves_layer z = leaves.ref_step (map-Ref Expr Part Ref (Role → List Leaf) (List Leaf) (Role → List Leaf) expr_leaves part_leaves ref_leaves z)

abbrev ref_need_layer : Ref-F Expr Part Ref → ℕ
ref_need_layer z = needs.ref_step (map-Ref Expr Part Ref ℕ ℕ ℕ expr_need part_need ref_need z)

of_ref_layer : (z : Ref-F Expr Part Ref) → ((part : Role) → length (ref_leaves_layer z part) ≡ ref_need_layer z) → RefCounts (roll-Ref z)
of_ref_layer z h = λ part.
    ap (λ (f : Role → List Leaf). length (f part)) (fold-roll-Ref (Role → List Leaf) (List Leaf) (Role → List Leaf) leaves.expr_step leaves.part_step leaves.ref_step z)
    ∙ h part
    ∙ sym (fold-roll-Ref ℕ ℕ ℕ needs.expr_step needs.part_step needs.ref_step z)

abbrev plain_ref : Ref-F SomeExpr SomePart SomeRef → Ref-F Expr Part Ref
plain_ref = map-Ref SomeExpr SomePart SomeRef Expr Part Ref (λ e. e.0) (λ p. p.0) (λ r. r.0)

named : (x : Leaf) (xs ys : List Leaf) (m n : ℕ) → length xs ≡ m → length ys ≡ n → length (x ∷ (xs ++ ys)) ≡ 1 + m + n
named x xs ys m n e f = let rest = both xs ys m n e f in let all = one_and x (xs ++ ys) (m + n) rest in omega (arith, all)

reference_by : (y : Ref-F SomeExpr SomePart SomeRef) (args : Option (List SomeExpr)) (part : Option SomePart) (place : Role) → length (ref_leaves_layer (plain_ref (record y { args = args; part = part })) place) ≡ ref_need_layer (plain_ref (record y { args = args; part = part }))
reference_by y None None place = refl
reference_by y None (Some p) place = named (alone y.name place) [] (part_leaves p.0) 0 (part_need p.0) refl p.1
reference_by y (Some xs) None place = named (alone y.name place) (operands (map expr_leaves (exprs xs))) [] (sum (map expr_need (exprs xs))) 0 (operands_count xs) refl
reference_by y (Some xs) (Some p) place = named (alone y.name place) (operands (map expr_leaves (exprs xs))) (part_leaves p.0) (sum (map expr_need (exprs xs))) (part_need p.0) (operands_count xs) p.1

ref_layer : (y : Ref-F SomeExpr SomePart SomeRef) → RefCounts (roll-Ref (plain_ref y))
ref_layer y = of_ref_layer (plain_ref y) (reference_by y y.args y.part)

expr_count : (e : Expr) → ExprCounts e
expr_count = ind-Expr ExprCounts PartCounts RefCounts
    (λ x y is. subst (λ z. ExprCounts (roll-Expr z)) is (expr_layer y))
    (λ x y is. subst (λ z. PartCounts (roll-Part z)) is (part_layer y))
    (λ x y is. subst (λ z. RefCounts (roll-Ref z)) is (ref_layer y))

ref_count : (r : Ref) → RefCounts r
ref_count = ind-Ref ExprCounts PartCounts RefCounts
    (λ x y is. subst (λ z. ExprCounts (roll-Expr z)) is (expr_layer y))
    (λ x y is. subst (λ z. PartCounts (roll-Part z)) is (part_layer y))
    (λ x y is. subst (λ z. RefCounts (roll-Ref z)) is (ref_layer y))

-- ---- parts of statements

operand_count : (e : Expr) → length (operand_leaves e) ≡ expr_need e
operand_count e = expr_count e role.Operand

option_count : (o : Option Expr) → length (option_leaves o) ≡ option_need expr_need o
option_count None = refl
option_count (Some e) = operand_count e

control_count : (c : LoopControl) → length (control_leaves c) ≡ control_need c
control_count c =
    let first = operand_count c.first in
    let last = operand_count c.last in
    let increment = option_count c.increment in
    let last_two = both (operand_leaves c.last) (option_leaves c.increment) (expr_need c.last) (option_need expr_need c.increment) last increment in
    let values = both (operand_leaves c.first) (operand_leaves c.last ++ option_leaves c.increment) (expr_need c.first) (expr_need c.last + option_need expr_need c.increment) first last_two in
    let all = one_and (alone c.variable role.Control) (operand_leaves c.first ++ (operand_leaves c.last ++ option_leaves c.increment)) (expr_need c.first + (expr_need c.last + option_need expr_need c.increment)) values in
    omega (arith, all)

length_count : (o : Option Length) → length (length_leaves o) ≡ option_need length_need o
length_count None = refl
length_count (Some (length_of.Digits digits)) = refl
length_count (Some (length_of.Paren e)) = operand_count e
length_count (Some length_of.Asterisk) = refl

type_count : (t : TypeSpec) → length (type_leaves t) ≡ type_need t
type_count typ.Integer = refl
type_count typ.Logical = refl
type_count (typ.Character len) = length_count len

option_type_count : (o : Option TypeSpec) → length (option_type_leaves o) ≡ option_need type_need o
option_type_count None = refl
option_type_count (Some t) = type_count t

bound_count : (b : Bound) → length (bound_leaves b) ≡ bound_need b
bound_count b = both (option_leaves b.low) (option_leaves b.high) (option_need expr_need b.low) (option_need expr_need b.high) (option_count b.low) (option_count b.high)

declarator_count : (part : Role) (d : Declarator) → length (declarator_leaves part d) ≡ declarator_need d
declarator_count part d = one_and (alone d.name part) (flat_map bound_leaves d.bounds) (sum_by bound_need d.bounds) (each bound_leaves bound_need bound_count d.bounds)

entity_count : (e : TypedDeclarator) → length (entity_leaves e) ≡ entity_need e
entity_count e =
    both (declarator_leaves (typed_role e.declarator.bounds) e.declarator) (length_leaves e.length) (declarator_need e.declarator) (option_need length_need e.length)
    (declarator_count (typed_role e.declarator.bounds) e.declarator) (length_count e.length)

block_count : (o : Option (List ℕ)) → length (block_leaves o) ≡ one_if o
block_count None = refl
block_count (Some name) = refl

group_count : (g : CommonGroup) → length (group_leaves g) ≡ group_need g
group_count g =
    both (block_leaves g.block) (flat_map (declarator_leaves role.Common) g.members) (one_if g.block) (sum_by declarator_need g.members)
    (block_count g.block) (each (declarator_leaves role.Common) declarator_need (declarator_count role.Common) g.members)

refs_count : (part : Role) (refs : List Ref) → length (refs_leaves part refs) ≡ sum_by ref_need refs
refs_count part refs = each (λ reference. ref_leaves reference part) ref_need (λ r. ref_count r part) refs

members_count : (g : EquivalenceGroup) → length (member_leaves g) ≡ members_need g
members_count g = refs_count role.Member g.members

constant_count : (c : NamedConstant) → length (named_leaves c) ≡ named_need c
constant_count c = one_and (alone c.name role.Constant) (operand_leaves c.value) (expr_need c.value) (operand_count c.value)

rule_count : (r : ImplicitRule) → length (rule_leaves r) ≡ rule_need r
rule_count r = type_count r.typ

entry_count : (e : SaveEntry) → length (entry_leaves e) ≡ 1
entry_count (entry.Entity name) = refl
entry_count (entry.Block name) = refl

datum_count : (c : DataConstant) → length (constant_leaves c) ≡ 1
datum_count (constant.Int value) = refl
datum_count (constant.Truth value) = refl
datum_count (constant.Chars text) = refl
datum_count (constant.Named name) = refl

repeat_count : (o : Option Repeat) → length (repeat_leaves o) ≡ one_if o
repeat_count None = refl
repeat_count (Some (repeat.Digits digits)) = refl
repeat_count (Some (repeat.Named name)) = refl

value_count : (v : DataValue) → length (value_leaves v) ≡ value_need v
value_count v = both (repeat_leaves v.repeat) (constant_leaves v.constant) (one_if v.repeat) 1 (repeat_count v.repeat) (datum_count v.constant)

data_count : (g : DataGroup) → length (data_leaves g) ≡ data_need g
data_count g =
    both (refs_leaves role.Filled g.targets) (flat_map value_leaves g.values) (sum_by ref_need g.targets) (sum_by value_need g.values)
    (refs_count role.Filled g.targets) (each value_leaves value_need value_count g.values)

stop_count : (o : Option StopCode) → length (stop_leaves o) ≡ one_if o
stop_count None = refl
stop_count (Some (stop.Digits digits)) = refl
stop_count (Some (stop.Chars text)) = refl

-- ---- items

abbrev ItemCounts : Item → Type 0
ItemCounts i = (part : Role) → length (item_leaves i part) ≡ item_need i

abbrev SomeItem : Type 0
SomeItem = (i : Item) × ItemCounts i

abbrev inner_items : List SomeItem → List Item
inner_items xs = map (λ x. x.0) xs

inner_count : (part : Role) (xs : List SomeItem) → length (inner_leaves part (map item_leaves (inner_items xs))) ≡ sum (map item_need (inner_items xs))
inner_count part [] = refl
inner_count part (x ∷ xs) =
    both (item_leaves x.0 part) (inner_leaves part (map item_leaves (inner_items xs))) (item_need x.0) (sum (map item_need (inner_items xs))) (x.1 part) (inner_count part xs)
    ∙ sym (sum_by-cons (λ n. n) (item_need x.0) (map item_need (inner_items xs)))

abbrev item_leaves_layer : Item-F Item → Role → List Leaf
item_leaves_layer z = leaves.item_step (map-Item Item (Role → List Leaf) item_leaves z)

abbrev item_need_layer : Item-F Item → ℕ
item_need_layer z = needs.item_step (map-Item Item ℕ item_need z)

of_item_layer : (z : Item-F Item) → ((part : Role) → length (item_leaves_layer z part) ≡ item_need_layer z) → ItemCounts (roll-Item z)
of_item_layer z h = λ part.
    ap (λ (f : Role → List Leaf). length (f part)) (fold-roll-Item (Role → List Leaf) leaves.item_step z)
    ∙ h part
    ∙ sym (fold-roll-Item ℕ needs.item_step z)

item_layer : (y : Item-F SomeItem) → ItemCounts (roll-Item (map-Item SomeItem Item (λ x. x.0) y))
item_layer (item.Plain e) = of_item_layer (item.Plain e) (expr_count e)
item_layer (item.Implied xs c) =
    of_item_layer (item.Implied (inner_items xs) c)
    (λ part. both (inner_leaves part (map item_leaves (inner_items xs))) (control_leaves c) (sum (map item_need (inner_items xs))) (control_need c) (inner_count part xs) (control_count c))

item_count : (i : Item) → ItemCounts i
item_count = ind-Item ItemCounts (λ x y is. subst (λ z. ItemCounts (roll-Item z)) is (item_layer y))

items_count : (part : Role) (items : List Item) → length (items_leaves part items) ≡ sum_by item_need items
items_count part items = each (λ i. item_leaves i part) item_need (λ i. item_count i part) items

-- ---- statements

abbrev StmtCounts : Stmt → Type 0
StmtCounts s = length (leaves_of s) ≡ need_of s

abbrev SomeStmt : Type 0
SomeStmt = (s : Stmt) × StmtCounts s

abbrev stmt_leaves_layer : Stmt-F Stmt → List Leaf
stmt_leaves_layer z = leaves.stmt_step (map-Stmt Stmt (List Leaf) leaves_of z)

abbrev stmt_need_layer : Stmt-F Stmt → ℕ
stmt_need_layer z = needs.stmt_step (map-Stmt Stmt ℕ need_of z)

of_stmt_layer : (z : Stmt-F Stmt) → length (stmt_leaves_layer z) ≡ stmt_need_layer z → StmtCounts (roll-Stmt z)
of_stmt_layer z h = ap length (fold-roll-Stmt (List Leaf) leaves.stmt_step z) ∙ h ∙ sym (fold-roll-Stmt ℕ needs.stmt_step z)

function_count : (t : Option TypeSpec) (name : List ℕ) (dummies : List (List ℕ)) → length (option_type_leaves t ++ (alone name role.Function ∷ names_leaves role.Dummy dummies)) ≡ option_need type_need t + 1 + length dummies
function_count t name dummies =
    let headed = one_and (alone name role.Function) (names_leaves role.Dummy dummies) (length dummies) (names_count role.Dummy dummies) in
    let all = both (option_type_leaves t) (alone name role.Function ∷ names_leaves role.Dummy dummies) (option_need type_need t) (1 + length dummies) (option_type_count t) headed in
    omega (arith, all)

stmt_layer : (y : Stmt-F SomeStmt) → StmtCounts (roll-Stmt (map-Stmt SomeStmt Stmt (λ s. s.0) y))
stmt_layer (stmt.Assign target value) = of_stmt_layer (stmt.Assign target value) (both (ref_leaves target role.Target) (operand_leaves value) (ref_need target) (expr_need value) (ref_count target role.Target) (operand_count value))
stmt_layer (stmt.Do terminal control) = of_stmt_layer (stmt.Do terminal control) (control_count control)
stmt_layer stmt.Continue = of_stmt_layer stmt.Continue refl
stmt_layer stmt.Return = of_stmt_layer stmt.Return refl
stmt_layer stmt.Else = of_stmt_layer stmt.Else refl
stmt_layer stmt.EndIf = of_stmt_layer stmt.EndIf refl
stmt_layer stmt.End = of_stmt_layer stmt.End refl
stmt_layer (stmt.Stop code) = of_stmt_layer (stmt.Stop code) (stop_count code)
stmt_layer (stmt.Goto label) = of_stmt_layer (stmt.Goto label) refl
stmt_layer (stmt.ComputedGoto labels index) = of_stmt_layer (stmt.ComputedGoto labels index) (operand_count index)
stmt_layer (stmt.ArithmeticIf value negative zeroth positive) = of_stmt_layer (stmt.ArithmeticIf value negative zeroth positive) (operand_count value)
stmt_layer (stmt.LogicalIf condition inner) = of_stmt_layer (stmt.LogicalIf condition inner.0) (both (operand_leaves condition) (leaves_of inner.0) (expr_need condition) (need_of inner.0) (operand_count condition) inner.1)
stmt_layer (stmt.BlockIf condition) = of_stmt_layer (stmt.BlockIf condition) (operand_count condition)
stmt_layer (stmt.ElseIf condition) = of_stmt_layer (stmt.ElseIf condition) (operand_count condition)
stmt_layer (stmt.Call name args) = of_stmt_layer (stmt.Call name args) (one_and (alone name role.Called) (flat_map operand_leaves args) (sum_by expr_need args) (each operand_leaves expr_need operand_count args))
stmt_layer (stmt.Print items) = of_stmt_layer (stmt.Print items) (items_count role.Operand items)
stmt_layer (stmt.Read items) = of_stmt_layer (stmt.Read items) (items_count role.Input items)
stmt_layer (stmt.Program name) = of_stmt_layer (stmt.Program name) refl
stmt_layer (stmt.Subroutine name dummies) = of_stmt_layer (stmt.Subroutine name dummies) (one_and (alone name role.Heading) (names_leaves role.Dummy dummies) (length dummies) (names_count role.Dummy dummies))
stmt_layer (stmt.Function t name dummies) = of_stmt_layer (stmt.Function t name dummies) (function_count t name dummies)
stmt_layer (stmt.Declare t entities) = of_stmt_layer (stmt.Declare t entities) (both (type_leaves t) (flat_map entity_leaves entities) (type_need t) (sum_by entity_need entities) (type_count t) (each entity_leaves entity_need entity_count entities))
stmt_layer (stmt.Dimension arrays) = of_stmt_layer (stmt.Dimension arrays) (each (declarator_leaves role.Shaped) declarator_need (declarator_count role.Shaped) arrays)
stmt_layer (stmt.Common groups) = of_stmt_layer (stmt.Common groups) (each group_leaves group_need group_count groups)
stmt_layer (stmt.Equivalence groups) = of_stmt_layer (stmt.Equivalence groups) (each member_leaves members_need members_count groups)
stmt_layer (stmt.Parameter constants) = of_stmt_layer (stmt.Parameter constants) (each named_leaves named_need constant_count constants)
stmt_layer (stmt.Implicit rules) = of_stmt_layer (stmt.Implicit rules) (each rule_leaves rule_need rule_count rules)
stmt_layer (stmt.Save entries) = of_stmt_layer (stmt.Save entries) (singles entry_leaves entry_count entries)
stmt_layer (stmt.Init groups) = of_stmt_layer (stmt.Init groups) (each data_leaves data_need data_count groups)

stmt_count : (s : Stmt) → StmtCounts s
stmt_count = ind-Stmt StmtCounts (λ x y is. subst (λ z. StmtCounts (roll-Stmt z)) is (stmt_layer y))

pub needs_are_leaves : NeedsAreLeaves
needs_are_leaves statement = sym (stmt_count statement)
