-- No operator takes operands of wrong kinds.
use Rattle.std.proofs.Common.{◌≡◌, ℤ, Bool, List, ℕ, Option, None, refl}
use Rattle.f77_ast.specs.declared.expr.Op.{Op}
use Rattle.f77_ast.specs.declared.expr.Op.TheVariants as op
use Rattle.f77_structure.specs.Values.{Value, integer, truth, chars, unary_of, binary_of}
use Rattle.f77_constants.specs.Constants.{given_value}

pub one_text : (operator : Op) (text : List ℕ) → given_value (unary_of operator (chars text)) ≡ None
one_text op.Plus text = refl
one_text op.Neg text = refl
one_text op.Not text = refl
one_text op.Add text = refl
one_text op.Sub text = refl
one_text op.Mul text = refl
one_text op.Div text = refl
one_text op.Pow text = refl
one_text op.Cat text = refl
one_text (op.Rel relation) text = refl
one_text op.And text = refl
one_text op.Or text = refl
one_text op.Eqv text = refl
one_text op.Neqv text = refl

pub number_with_truth : (operator : Op) (x : ℤ) (y : Bool) → given_value (binary_of operator (integer x) (truth y)) ≡ None
number_with_truth op.Plus x y = refl
number_with_truth op.Neg x y = refl
number_with_truth op.Not x y = refl
number_with_truth op.Add x y = refl
number_with_truth op.Sub x y = refl
number_with_truth op.Mul x y = refl
number_with_truth op.Div x y = refl
number_with_truth op.Pow x y = refl
number_with_truth op.Cat x y = refl
number_with_truth (op.Rel relation) x y = refl
number_with_truth op.And x y = refl
number_with_truth op.Or x y = refl
number_with_truth op.Eqv x y = refl
number_with_truth op.Neqv x y = refl

pub number_with_text : (operator : Op) (x : ℤ) (y : List ℕ) → given_value (binary_of operator (integer x) (chars y)) ≡ None
number_with_text op.Plus x y = refl
number_with_text op.Neg x y = refl
number_with_text op.Not x y = refl
number_with_text op.Add x y = refl
number_with_text op.Sub x y = refl
number_with_text op.Mul x y = refl
number_with_text op.Div x y = refl
number_with_text op.Pow x y = refl
number_with_text op.Cat x y = refl
number_with_text (op.Rel relation) x y = refl
number_with_text op.And x y = refl
number_with_text op.Or x y = refl
number_with_text op.Eqv x y = refl
number_with_text op.Neqv x y = refl

pub truth_with_number : (operator : Op) (x : Bool) (y : ℤ) → given_value (binary_of operator (truth x) (integer y)) ≡ None
truth_with_number op.Plus x y = refl
truth_with_number op.Neg x y = refl
truth_with_number op.Not x y = refl
truth_with_number op.Add x y = refl
truth_with_number op.Sub x y = refl
truth_with_number op.Mul x y = refl
truth_with_number op.Div x y = refl
truth_with_number op.Pow x y = refl
truth_with_number op.Cat x y = refl
truth_with_number (op.Rel relation) x y = refl
truth_with_number op.And x y = refl
truth_with_number op.Or x y = refl
truth_with_number op.Eqv x y = refl
truth_with_number op.Neqv x y = refl

pub truth_with_text : (operator : Op) (x : Bool) (y : List ℕ) → given_value (binary_of operator (truth x) (chars y)) ≡ None
truth_with_text op.Plus x y = refl
truth_with_text op.Neg x y = refl
truth_with_text op.Not x y = refl
truth_with_text op.Add x y = refl
truth_with_text op.Sub x y = refl
truth_with_text op.Mul x y = refl
truth_with_text op.Div x y = refl
truth_with_text op.Pow x y = refl
truth_with_text op.Cat x y = refl
truth_with_text (op.Rel relation) x y = refl
truth_with_text op.And x y = refl
truth_with_text op.Or x y = refl
truth_with_text op.Eqv x y = refl
truth_with_text op.Neqv x y = refl

pub text_with_number : (operator : Op) (x : List ℕ) (y : ℤ) → given_value (binary_of operator (chars x) (integer y)) ≡ None
text_with_number op.Plus x y = refl
text_with_number op.Neg x y = refl
text_with_number op.Not x y = refl
text_with_number op.Add x y = refl
text_with_number op.Sub x y = refl
text_with_number op.Mul x y = refl
text_with_number op.Div x y = refl
text_with_number op.Pow x y = refl
text_with_number op.Cat x y = refl
text_with_number (op.Rel relation) x y = refl
text_with_number op.And x y = refl
text_with_number op.Or x y = refl
text_with_number op.Eqv x y = refl
text_with_number op.Neqv x y = refl

pub text_with_truth : (operator : Op) (x : List ℕ) (y : Bool) → given_value (binary_of operator (chars x) (truth y)) ≡ None
text_with_truth op.Plus x y = refl
text_with_truth op.Neg x y = refl
text_with_truth op.Not x y = refl
text_with_truth op.Add x y = refl
text_with_truth op.Sub x y = refl
text_with_truth op.Mul x y = refl
text_with_truth op.Div x y = refl
text_with_truth op.Pow x y = refl
text_with_truth op.Cat x y = refl
text_with_truth (op.Rel relation) x y = refl
text_with_truth op.And x y = refl
text_with_truth op.Or x y = refl
text_with_truth op.Eqv x y = refl
text_with_truth op.Neqv x y = refl
