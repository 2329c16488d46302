-- What is found in an expression of a unit: what it is, its kind, and what is broken in it (ANSI X3.9-1978, sections 5.3, 5.6,
-- 5.7.1, 6 and 15.10).
use Rattle.std.specs.Prelude.{ℕ, suc, Bool, true, false, not, ◌&&◌, ◌||◌, ◌==◌, ◌-◌, nat_lt, List, [], ◌∷◌, length, map, Option, None, Some, slice_get, if◌then◌else◌}
use Rattle.std.specs.Option.{is_none, is_some, option_map}
use Rattle.f77_ast.specs.declared.expr.Expr.{Expr}
use Rattle.f77_ast.specs.declared.expr.Expr.TheFolds.{fold-Expr, fold-Part, fold-Ref}
use Rattle.f77_ast.specs.declared.expr.Expr.TheOpen.{Expr-F, Part-F, Ref-F}
use Rattle.f77_ast.specs.declared.expr.Expr.TheOpen as layer
use Rattle.f77_ast.specs.declared.expr.Kind.{Kind}
use Rattle.f77_ast.specs.declared.expr.Kind.TheVariants as kind
use Rattle.f77_ast.specs.declared.expr.Op.{Op}
use Rattle.f77_ast.specs.declared.expr.Part.{Part}
use Rattle.f77_ast.specs.declared.expr.Ref.{Ref, out-Ref}
use Rattle.f77_ast.specs.declared.specification.Bound.{Bound}
use Rattle.f77_leaves.specs.Declarations.{Declarations, name_kind}
use Rattle.f77_leaves.specs.Intrinsics.{takes, gives, takes_count}
use Rattle.f77_leaves.specs.Meant.{meant_of}
use Rattle.f77_leaves.specs.declared.declarations.Known.{Known}
use Rattle.f77_leaves.specs.declared.intrinsics.Intrinsic.{Intrinsic}
use Rattle.f77_leaves.specs.declared.intrinsics.Intrinsic.TheVariants as the
use Rattle.f77_leaves.specs.declared.meant.Meant.{Meant}
use Rattle.f77_leaves.specs.declared.meant.Meant.TheVariants as meant
use Rattle.f77_kinds.specs.Breaches.{no_breach, clash_if, miscount_if, either}
use Rattle.f77_kinds.specs.Kinds.{result_kind, is_taken, fits, kinds_differ}
use Rattle.f77_kinds.specs.declared.breach.Breach.{Breach}
use Rattle.f77_kinds.specs.declared.forms.Form.{Form}
use Rattle.f77_kinds.specs.declared.forms.Form.TheVariants as form
use Rattle.f77_kinds.specs.declared.found.Found.{Found}

-- ---- what an expression is

-- whether it is the name of an array without subscripts
abbrev pub is_whole : Form → Bool
is_whole form.Variable = false
is_whole form.Constant = false
is_whole form.Array = true
is_whole form.AssumedSize = true
is_whole form.Element = false
is_whole form.Function = false
is_whole form.Call = false
is_whole form.Substring = false
is_whole form.Value = false

-- whether it is the name of an array whose last upper bound is `*`, without subscripts
abbrev pub is_assumed_size : Form → Bool
is_assumed_size form.Variable = false
is_assumed_size form.Constant = false
is_assumed_size form.Array = false
is_assumed_size form.AssumedSize = true
is_assumed_size form.Element = false
is_assumed_size form.Function = false
is_assumed_size form.Call = false
is_assumed_size form.Substring = false
is_assumed_size form.Value = false

-- whether the upper bound of a dimension that may be there is `*`
abbrev pub is_open : Option Bound → Bool
is_open None = false
is_open (Some bound) = is_none bound.high

-- whether the last upper bound is `*`
abbrev pub is_open_last : List Bound → Bool
is_open_last bounds = is_open (slice_get bounds (length bounds - 1))

-- what a name without a list is: an array, where it has bounds; else a constant, where PARAMETER names it; else a variable,
-- as dummy arguments and results are
abbrev pub whole_form : List Bound → Form
whole_form bounds = if is_open_last bounds then form.AssumedSize else form.Array

abbrev pub scalar_form : (is_constant : Bool) → Form
scalar_form is_constant = if is_constant then form.Constant else form.Variable

abbrev pub form_by : Option (List Bound) → (is_constant : Bool) → Form
form_by None is_constant = scalar_form is_constant
form_by (Some bounds) is_constant = whole_form bounds

abbrev pub name_form : Known → Form
name_form known = form_by known.bounds (is_some known.value)

abbrev pub name_found : Declarations → (name : List ℕ) → Found
name_found unit name = record { kind = name_kind unit name; form = name_form (unit.known name); breach = no_breach }

-- ---- a name with a list

abbrev pub listed_form : Meant → Form
listed_form meant.Element = form.Element
listed_form (meant.Function intrinsic) = form.Function
listed_form meant.Call = form.Call

-- its kind: none of something called, of which nothing is said yet
abbrev pub listed_kind : Declarations → (name : List ℕ) → Meant → Option Kind
listed_kind unit name meant.Element = name_kind unit name
listed_kind unit name (meant.Function intrinsic) = Some (gives intrinsic)
listed_kind unit name meant.Call = None

-- an operand of a kind that is wanted: an array's name alone is none
abbrev pub is_no_operand : (wanted : Kind) → Found → Bool
is_no_operand wanted found = is_whole found.form || not (fits wanted found.kind)

abbrev pub operand_breach : (wanted : Kind) → Found → Breach
operand_breach wanted found = either found.breach (clash_if (is_no_operand wanted found))

-- whether an intrinsic function takes an argument at a place, counted from 0
abbrev pub takes_at : Intrinsic → (place : ℕ) → Bool
takes_at the.Abs place = nat_lt place 1
takes_at the.Iabs place = nat_lt place 1
takes_at the.Mod place = nat_lt place 2
takes_at the.Sign place = nat_lt place 2
takes_at the.Isign place = nat_lt place 2
takes_at the.Dim place = nat_lt place 2
takes_at the.Idim place = nat_lt place 2
takes_at the.Max place = true
takes_at the.Max0 place = true
takes_at the.Min place = true
takes_at the.Min0 place = true
takes_at the.Ichar place = nat_lt place 1
takes_at the.Char place = nat_lt place 1
takes_at the.Len place = nat_lt place 1
takes_at the.Index place = nat_lt place 2
takes_at the.Lge place = nat_lt place 2
takes_at the.Lgt place = nat_lt place 2
takes_at the.Lle place = nat_lt place 2
takes_at the.Llt place = nat_lt place 2

-- an argument of an intrinsic function: no array's name alone, and of the kind that is taken at its place, if one is
abbrev pub is_no_argument : Intrinsic → (place : ℕ) → Found → Bool
is_no_argument intrinsic place found = is_whole found.form || (takes_at intrinsic place && not (fits (takes intrinsic) found.kind))

abbrev pub intrinsic_breach : Intrinsic → (place : ℕ) → Found → Breach
intrinsic_breach intrinsic place found = either found.breach (clash_if (is_no_argument intrinsic place found))

-- a subscript is an INTEGER; an actual argument of something called is looked at by itself, and may be an array's name alone
abbrev pub argument_breach : Meant → (place : ℕ) → Found → Breach
argument_breach meant.Element place found = operand_breach kind.Integer found
argument_breach (meant.Function intrinsic) place found = intrinsic_breach intrinsic place found
argument_breach meant.Call place found = found.breach

-- subscripts or arguments, the first of which is at this place
abbrev pub arguments_breach : Meant → (place : ℕ) → List Found → Breach
arguments_breach meaning place [] = no_breach
arguments_breach meaning place (found ∷ founds) = either (argument_breach meaning place found) (arguments_breach meaning (suc place) founds)

-- how many dimensions there are
abbrev pub dimensions_of : Option (List Bound) → ℕ
dimensions_of None = 0
dimensions_of (Some bounds) = length bounds

-- whether there are more or fewer subscripts than bounds, or another number of arguments than an intrinsic function takes;
-- of calls nothing is said yet
abbrev pub is_miscounted : Known → Meant → (count : ℕ) → Bool
is_miscounted known meant.Element count = not (count == dimensions_of known.bounds)
is_miscounted known (meant.Function intrinsic) count = not (takes_count intrinsic count)
is_miscounted known meant.Call count = false

-- a name with a list of this number of subscripts or arguments, in which this is broken
abbrev pub listed_found : Declarations → (name : List ℕ) → Meant → (count : ℕ) → Breach → Found
listed_found unit name meaning count breach =
    record { kind = listed_kind unit name meaning; form = listed_form meaning; breach = either breach (miscount_if (is_miscounted (unit.known name) meaning count)) }

abbrev pub base_found : Declarations → (name : List ℕ) → Meant → Option (List Found) → Found
base_found unit name meaning None = name_found unit name
base_found unit name meaning (Some founds) = listed_found unit name meaning (length founds) (arguments_breach meaning 0 founds)

-- ---- a substring

-- whether a substring may be taken of it: of a CHARACTER variable or element. Of that of a call nothing is said yet
abbrev pub has_substrings : Form → Option Kind → Bool
has_substrings form.Variable given = fits kind.Character given
has_substrings form.Constant given = false
has_substrings form.Array given = false
has_substrings form.AssumedSize given = false
has_substrings form.Element given = fits kind.Character given
has_substrings form.Function given = false
has_substrings form.Call given = true
has_substrings form.Substring given = false
has_substrings form.Value given = false

-- what a substring of it is: that of something called counts as called
abbrev pub part_form : Form → Form
part_form form.Variable = form.Substring
part_form form.Constant = form.Substring
part_form form.Array = form.Substring
part_form form.AssumedSize = form.Substring
part_form form.Element = form.Substring
part_form form.Function = form.Substring
part_form form.Call = form.Call
part_form form.Substring = form.Substring
part_form form.Value = form.Substring

-- its substring whose bounds break this
abbrev pub part_found : Found → Breach → Found
part_found base bounds =
    record { kind = base.kind; form = part_form base.form; breach = either base.breach (either bounds (clash_if (not (has_substrings base.form base.kind)))) }

abbrev pub with_part : Found → Option Breach → Found
with_part base None = base
with_part base (Some bounds) = part_found base bounds

-- ---- trees

-- a value of a kind, in which nothing is broken
abbrev pub value_found : Kind → Found
value_found given = record { kind = Some given; form = form.Value; breach = no_breach }

-- an operand of an operator: an array's name alone is none
abbrev pub is_not_taken : Op → Found → Bool
is_not_taken operator found = is_whole found.form || not (is_taken operator found.kind)

abbrev pub taken_breach : Op → Found → Breach
taken_breach operator found = either found.breach (clash_if (is_not_taken operator found))

-- an operator with one operand
abbrev pub unary_found : Op → Found → Found
unary_found operator operand = record { kind = Some (result_kind operator); form = form.Value; breach = taken_breach operator operand }

-- an operator with two operands: they are of one kind
abbrev pub binary_found : Op → Found → Found → Found
binary_found operator left right =
    record { kind = Some (result_kind operator); form = form.Value; breach = either (taken_breach operator left) (either (taken_breach operator right) (clash_if (kinds_differ left.kind right.kind))) }

-- an expression in parentheses: no array's name alone
abbrev pub paren_found : Found → Found
paren_found inner = record { kind = inner.kind; form = form.Value; breach = either inner.breach (clash_if (is_whole inner.form)) }

-- one level of an expression
abbrev pub expr_step : Expr-F Found Breach Found → Found
expr_step (layer.Int value) = value_found kind.Integer
expr_step (layer.Truth value) = value_found kind.Logical
expr_step (layer.Chars text) = value_found kind.Character
expr_step (layer.Ref reference) = reference
expr_step (layer.Unary operator operand) = unary_found operator operand
expr_step (layer.Binary operator left right) = binary_found operator left right
expr_step (layer.Paren inner) = paren_found inner

-- a bound of a substring that may be left out is an INTEGER
abbrev pub bound_breach : Option Found → Breach
bound_breach None = no_breach
bound_breach (Some found) = operand_breach kind.Integer found

-- one level of a substring's bounds
abbrev pub part_step : Part-F Found Breach Found → Breach
part_step part = either (bound_breach part.low) (bound_breach part.high)

-- one level of a reference
abbrev pub ref_step : Declarations → Ref-F Found Breach Found → Found
ref_step unit reference = with_part (base_found unit reference.name (meant_of unit reference.name) reference.args) reference.part

-- what is found in an expression, in a substring's bounds, and in a reference of an expression
abbrev pub expr_found : Declarations → Expr → Found
expr_found unit = fold-Expr Found Breach Found expr_step part_step (ref_step unit)

abbrev pub part_breach : Declarations → Part → Breach
part_breach unit = fold-Part Found Breach Found expr_step part_step (ref_step unit)

abbrev pub ref_found : Declarations → Ref → Found
ref_found unit = fold-Ref Found Breach Found expr_step part_step (ref_step unit)

-- the kind of an expression: a name's or reference's own, none where it is REAL or called; an operator's or intrinsic
-- function's that of its result, whatever its operands are
abbrev pub kind_of : Declarations → Expr → Option Kind
kind_of unit expr = (expr_found unit expr).kind

-- ---- members of EQUIVALENCE and DATA

-- a name with a list is an element there, where it is an array, and else something called
abbrev pub member_meant : Known → Meant
member_meant known = if is_some known.bounds then meant.Element else meant.Call

abbrev pub member_found : Declarations → Ref → Found
member_found unit reference =
    with_part (base_found unit (out-Ref reference).name (member_meant (unit.known (out-Ref reference).name)) (option_map (map (expr_found unit)) (out-Ref reference).args)) (option_map (part_breach unit) (out-Ref reference).part)
