use Rattle.std.proofs.Common.{◌≡◌, ◌++◌, List, Option, Ok, Err, IfOk, subst, ap, ◌∙◌}
use Rattle.std.specs.Prelude.{Result}
use Rattle.f77_ast.specs.declared.program.Listed.{Listed}
use Rattle.f77_ast.specs.declared.program.Unit.{Unit as ProgramUnit}
use Rattle.f77_ast.specs.declared.refusal.Refusal.{Refusal}
use Rattle.f77_ast.specs.Refusal.{first_of}
use Rattle.f77_shape.specs.Limits.{statement_breaks}
use Rattle.f77_shape.specs.Program.{end_breaks}
use Rattle.f77_shape.specs.Shape.{breaks_among, breaks_of, unless_refused, shape_of}
use Rattle.f77_structure.specs.Units.{units_of}
use Rattle.f77_shape.proofs.Firsts.{joined_first}
use Rattle.f77_shape.proofs.shape.shape.Goals as goal

-- the first refusal of the file
first : (c : goal.After-unless_refused) → c.sooner-first.result ≡ first_of (breaks_of c.args.statements)
first c =
    let s = c.args.statements in
    c.sooner-first.ensures
    ∙ joined_first c.statements_break-of_statements.result c.in_ok-of_units.of_units (end_breaks s ++ statement_breaks s) (breaks_among (units_of s))
    (c.statements_break-of_statements.ensures ∙ ap (λ (l : List Listed). first_of (end_breaks l ++ statement_breaks l)) c.as_slice.ensures)
    (c.in_ok-of_units.ensures ∙ ap (λ (l : List ProgramUnit). first_of (breaks_among l)) (c.as_slice-2.ensures ∙ c.in_ok-units.ensures))

-- what the last call is given makes what the statements make
same : (c : goal.After-unless_refused) → unless_refused c.sooner-first.result c.in_ok-units.units ≡ shape_of c.args.statements
same c = ap (λ (o : Option Refusal). unless_refused o c.in_ok-units.units) (first c) ∙ ap (unless_refused (first_of (breaks_of c.args.statements))) c.in_ok-units.ensures

pub returns-clause-accepted : goal.returns-clause-accepted
returns-clause-accepted c = subst (λ (r : Result (List ProgramUnit) Refusal). IfOk c.unless_refused.result (λ units. r ≡ Ok units)) (same c) c.unless_refused.ensures.accepted

pub returns-clause-refused : goal.returns-clause-refused
returns-clause-refused c = λ refusal is. subst (λ (r : Result (List ProgramUnit) Refusal). r ≡ Err refusal) (same c) (c.unless_refused.ensures.refused refusal is)
