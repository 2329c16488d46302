-- What has a meaning has it in its parts.
use Rattle.std.proofs.Common.{◌≡◌, ℕ, ◌&&◌, ◌<◌, ◌≤◌, Bool, true, false, List, [], ◌∷◌, length, map, get_or, Option, Some, IsTrue, refl, sym, subst, ◌∙◌, arith}
use Rattle.std.specs.Option.{option_map}
use Rattle.f77_ast.specs.declared.expr.Expr.{Expr, Binary}
use Rattle.f77_ast.specs.declared.expr.Expr as expr_of
use Rattle.f77_ast.specs.declared.expr.Ref.{Ref}
use Rattle.f77_ast.specs.declared.expr.Expr.TheFolds.{fold-roll-Expr}
use Rattle.f77_ast.specs.declared.expr.Expr.TheOpen as layer
use Rattle.f77_ast.specs.declared.expr.Expr.TheVariants.{rolls-Binary, rolls-Ref}
use Rattle.f77_ast.specs.declared.expr.Op.{Op}
use Rattle.f77_ast.specs.declared.program.Layout.{Layout}
use Rattle.f77_ast.specs.declared.program.Entity.{Entity}
use Rattle.f77_ast.specs.declared.program.Place.{Place}
use Rattle.f77_ast.specs.declared.program.Place.TheVariants.{Stored, Dummy, Constant}
use Rattle.f77_ast.specs.declared.program.Unit.{Unit as ProgramUnit}
use Rattle.f77_structure.specs.HasMeaning.{expr_has_meaning, is_integer_variable, is_integer_vector, meaning_part, meaning_ref, meaning_step, names_integer}
use Rattle.f77_structure.specs.Storage.{is_scalar, is_stored}
use Rattle.f77_structure.specs.Values.{is_arithmetic, is_integer_kind}
use Rattle.f77_ast.specs.declared.fault.Fault.TheVariants.{Subscript}
use Rattle.f77_meaning.specs.Demand.{Bounds, Location, Setting, Term, and_then, demand_of, expr_step, fails, located, located_by, location_of, part_step, ref_step, stored, term_of, value_at}
use Rattle.std.proofs.Common.{ℤ, ap}

-- both of the last two of three tests
pub last_two : (a b c : Bool) → IsTrue (a && (b && c)) → IsTrue b × IsTrue c
last_two true true true h = (h, h)
last_two true true false h = absurd (cc)
last_two true false c h = absurd (cc)
last_two false b c h = absurd (cc)

-- the first of two tests
first : (a b : Bool) → IsTrue (a && b) → IsTrue a
first true b h = refl
first false b h = absurd (cc)

-- the second of two tests
pub second : (a b : Bool) → IsTrue (a && b) → IsTrue b
second true b h = h
second false b h = absurd (cc)

-- an operator and its operands
binary_means : (units : List ProgramUnit) (layout : Layout) (unit : ℕ) (op : Op) (left right : Expr) → expr_has_meaning units layout unit (Binary op left right) ≡ (is_arithmetic op && (expr_has_meaning units layout unit left && expr_has_meaning units layout unit right))
binary_means units layout unit op left right = ap (expr_has_meaning units layout unit) (sym (rolls-Binary op left right)) ∙ fold-roll-Expr Bool (Unit {0}) Bool meaning_step meaning_part (meaning_ref units layout unit) (layer.Binary op left right)

pub op_means : (units : List ProgramUnit) (layout : Layout) (unit : ℕ) (expr left right : Expr) (op : Op) → expr ≡ Binary op left right → IsTrue (expr_has_meaning units layout unit expr) → IsTrue (is_arithmetic op)
op_means units layout unit expr left right op e h =
    first (is_arithmetic op) (expr_has_meaning units layout unit left && expr_has_meaning units layout unit right) (subst (λ b. IsTrue b) (binary_means units layout unit op left right) (subst (λ x. IsTrue (expr_has_meaning units layout unit x)) e h))

-- the operands of an operator
pub operands_mean : (units : List ProgramUnit) (layout : Layout) (unit : ℕ) (expr left right l r : Expr) (op : Op) → expr ≡ Binary op left right → l ≡ left → r ≡ right → IsTrue (expr_has_meaning units layout unit expr) → IsTrue (expr_has_meaning units layout unit l) × IsTrue (expr_has_meaning units layout unit r)
operands_mean units layout unit expr left right l r op e f g h =
    let parts : IsTrue (expr_has_meaning units layout unit left) × IsTrue (expr_has_meaning units layout unit right) =
    last_two (is_arithmetic op) (expr_has_meaning units layout unit left) (expr_has_meaning units layout unit right) (subst (λ b. IsTrue b) (binary_means units layout unit op left right) (subst (λ x. IsTrue (expr_has_meaning units layout unit x)) e h)) in
    (subst (λ x. IsTrue (expr_has_meaning units layout unit x)) (sym f) parts.0, subst (λ x. IsTrue (expr_has_meaning units layout unit x)) (sym g) parts.1)

-- the one item of a list
pub only_one : {X : Type 0} (xs : List X) (x : X) → 1 ≤ length xs → length xs < 2 → x ≡ get_or xs 0 x → xs ≡ x ∷ []
only_one [] x l h e = absurd (omega (arith, l))
only_one (y ∷ []) x l h e = ap (λ z. z ∷ []) (sym e)
only_one (y ∷ z ∷ xs) x l h e = absurd (omega (arith, h))

-- the one subscript of an element
pub subscript_means : (means : Expr → Bool) (entity : Entity) (subscript : Expr) (xs : List Expr) (args : Option (List Expr)) → args ≡ Some xs → xs ≡ subscript ∷ [] → IsTrue (names_integer (Some entity) (option_map (map means) args)) → IsTrue (means subscript)
subscript_means means entity subscript xs args e f h =
    second (is_integer_vector (Some entity)) (means subscript)
    (subst (λ ys. IsTrue (names_integer (Some entity) (Some (map means ys)))) f (subst (λ a. IsTrue (names_integer (Some entity) (option_map (map means) a))) e h))

-- an INTEGER variable is stored
pub variable_stored : (entity : Entity) → IsTrue (is_integer_variable (Some entity)) → is_stored entity.place ≡ true
variable_stored entity h = first (is_stored entity.place) (is_scalar entity.bounds) (second (is_integer_kind entity.kind) (is_stored entity.place && is_scalar entity.bounds) h)

-- what is in storage is located by its subscripts
pub located_stored : (s : Setting) (entity : Entity) (args : Option (List Term)) (answers : List ℤ) → is_stored entity.place ≡ true → located s (Some entity) args answers ≡ stored s entity args answers
located_stored s entity args answers h = by entity.place h
  where
    by : (place : Place) → is_stored place ≡ true → located_by s entity place args answers ≡ stored s entity args answers
    by (Stored address) h = refl
    by (Dummy k) h = absurd (cc)
    by (Constant value) h = absurd (cc)

-- no reference with two subscripts or more has a meaning yet
pub many_subscripts : (s : Setting) (entity : Entity) (xs : List Expr) (args : Option (List Expr)) (answers : List ℤ) → args ≡ Some xs → 2 ≤ length xs → stored s entity (option_map (map (term_of s)) args) answers ≡ fails Subscript
many_subscripts s entity [] args answers e h = absurd (omega (arith, h))
many_subscripts s entity (x ∷ []) args answers e h = absurd (omega (arith, h))
many_subscripts s entity (x ∷ y ∷ xs) args answers e h = ap (λ a. stored s entity (option_map (map (term_of s)) a) answers) e

-- the value of a reference is that of what it stands for
pub reference_value : (s : Setting) (expr : Expr) (reference : Ref) (answers : List ℤ) → expr ≡ expr_of.Ref reference → and_then (location_of s reference answers) (value_at s) ≡ demand_of s expr answers
reference_value s expr reference answers e =
    ap (λ t. t.value answers) (sym (fold-roll-Expr Term Bounds Location (expr_step s) (part_step s) (ref_step s) (layer.Ref reference)) ∙ ap (term_of s) (rolls-Ref reference))
    ∙ ap (λ x. demand_of s x answers) (sym e)
