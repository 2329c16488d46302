use Rattle.std.proofs.Common.{◌≡◌, subst, Err}
use Rattle.f77_ast.specs.declared.refusal.FrontError.TheVariants.{Refused}
use Rattle.f77_front.proofs.Listings.{answered_listed, answered_refused}
use Rattle.f77_front.proofs.statements.listed.Goals as goal
use Rattle.f77_stmts.specs.Answer.{Answers}

pub returns-in-Err-clause-refused : goal.returns-in-Err-clause-refused
returns-in-Err-clause-refused c =
    λ refusal e.
    let same : c.in-Err.error ≡ Refused refusal = cc in
    answered_refused c.args.card refusal (subst (λ x. Answers c.args.card.line c.args.card.text (Err x)) same c.in-Err.ensures)

pub returns-in-Ok-clause-accepted : goal.returns-in-Ok-clause-accepted
returns-in-Ok-clause-accepted c = answered_listed c.args.card c.in-Ok.stmt c.in-Ok.ensures
