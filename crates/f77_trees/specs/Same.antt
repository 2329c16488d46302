-- Which trees are the same: those of the same shape, with the same operators, constants and names at the same places.
use Rattle.std.specs.Prelude.{ℕ, ◌+◌, Bool, true, false, ◌&&◌, ◌==◌, List, [], ◌∷◌, Option, None, Some}
use Rattle.std.specs.Ordering.{int_eq}
use Rattle.std.specs.Str.{bytes_eq}
use Rattle.hyb_base.specs.declared.ops.Rel.{Rel}
use Rattle.hyb_base.specs.declared.ops.Rel.TheVariants.{Eq, Ne, Lt, Le, Gt, Ge}
use Rattle.f77_ast.specs.declared.expr.Op.{Op}
use Rattle.f77_ast.specs.declared.expr.Op.TheVariants as op
use Rattle.f77_ast.specs.declared.expr.Expr.{Expr, out-Expr}
use Rattle.f77_ast.specs.declared.expr.Part.{Part, out-Part}
use Rattle.f77_ast.specs.declared.expr.Ref.{Ref, out-Ref}
use Rattle.f77_ast.specs.declared.expr.Expr.TheOpen.{Expr-F, Part-F, Ref-F}
use Rattle.f77_ast.specs.declared.expr.Expr.TheOpen as layer
use Rattle.f77_ast.specs.declared.expr.Expr.TheFolds.{fold-Expr, fold-Part, fold-Ref}

-- the place of a relational operator in the list of them
abbrev pub rel_place : Rel → ℕ
rel_place Eq = 0
rel_place Ne = 1
rel_place Lt = 2
rel_place Le = 3
rel_place Gt = 4
rel_place Ge = 5

-- the place of an operator in the list of them
abbrev pub op_place : Op → ℕ
op_place op.Plus = 0
op_place op.Neg = 1
op_place op.Not = 2
op_place op.Add = 3
op_place op.Sub = 4
op_place op.Mul = 5
op_place op.Div = 6
op_place op.Pow = 7
op_place op.Cat = 8
op_place op.And = 9
op_place op.Or = 10
op_place op.Eqv = 11
op_place op.Neqv = 12
op_place (op.Rel rel) = 13 + rel_place rel

-- the same operator
abbrev pub same_op : Op → Op → Bool
same_op a b = op_place a == op_place b

-- the same truth
abbrev pub same_truth : Bool → Bool → Bool
same_truth true b = b
same_truth false true = false
same_truth false false = true

-- whether another tree is the same
abbrev pub SameExpr : Type 0
SameExpr = Expr → Bool

abbrev pub SamePart : Type 0
SamePart = Part → Bool

abbrev pub SameRef : Type 0
SameRef = Ref → Bool

-- a tree that may be there
abbrev pub same_option : {A : Type 0} → Option (A → Bool) → Option A → Bool
same_option None None = true
same_option (Some same) (Some tree) = same tree
same_option _ _ = false

-- trees in order
abbrev pub same_list : List SameExpr → List Expr → Bool
same_list [] [] = true
same_list (same ∷ all) (tree ∷ trees) = same tree && same_list all trees
same_list _ _ = false

-- a list of trees that may be there
abbrev pub same_args : Option (List SameExpr) → Option (List Expr) → Bool
same_args None None = true
same_args (Some all) (Some trees) = same_list all trees
same_args _ _ = false

-- one level of an expression beside one level of another
abbrev pub same_layers : Expr-F SameExpr SamePart SameRef → Expr-F Expr Part Ref → Bool
same_layers (layer.Int a) (layer.Int b) = int_eq a b
same_layers (layer.Truth a) (layer.Truth b) = same_truth a b
same_layers (layer.Chars a) (layer.Chars b) = bytes_eq a b
same_layers (layer.Ref a) (layer.Ref b) = a b
same_layers (layer.Unary o a) (layer.Unary p b) = same_op o p && a b
same_layers (layer.Binary o a b) (layer.Binary p c d) = same_op o p && (a c && b d)
same_layers (layer.Paren a) (layer.Paren b) = a b
same_layers _ _ = false

abbrev pub expr_step : Expr-F SameExpr SamePart SameRef → SameExpr
expr_step a tree = same_layers a (out-Expr tree)

-- one level of the part of a substring
abbrev pub same_parts : Part-F SameExpr SamePart SameRef → Part-F Expr Part Ref → Bool
same_parts a b = same_option a.low b.low && same_option a.high b.high

abbrev pub part_step : Part-F SameExpr SamePart SameRef → SamePart
part_step a tree = same_parts a (out-Part tree)

-- one level of a reference: the name, what stands in its parentheses, and its part
abbrev pub same_refs : Ref-F SameExpr SamePart SameRef → Ref-F Expr Part Ref → Bool
same_refs a b = bytes_eq a.name b.name && (same_args a.args b.args && same_option a.part b.part)

abbrev pub ref_step : Ref-F SameExpr SamePart SameRef → SameRef
ref_step a tree = same_refs a (out-Ref tree)

-- the same expression
abbrev pub same_expr : Expr → Expr → Bool
same_expr = fold-Expr SameExpr SamePart SameRef expr_step part_step ref_step

-- the same part
abbrev pub same_part : Part → Part → Bool
same_part = fold-Part SameExpr SamePart SameRef expr_step part_step ref_step

-- the same reference
abbrev pub same_ref : Ref → Ref → Bool
same_ref = fold-Ref SameExpr SamePart SameRef expr_step part_step ref_step
