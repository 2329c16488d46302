use Rattle.std.proofs.Common.{◌≡◌, ◌++◌, ◌∷◌, [], sym, ap, ◌∙◌, append_assoc, rules}
use Rattle.f77_code.specs.Statements.{ends_at, turn_if, turns_code}
use Rattle.f77_code.proofs.Turns.{turns_code_last}
use Rattle.f77_code.proofs.statements.add_turns.Goals as goal

-- the last of the loops that are left comes first
pub loop-last-preserved : goal.loop-last-preserved
loop-last-preserved c =
    let before = c.in-Some.before.now in
    let last = c.in-Some.last.now in
    let split : c.loop-last.rest.now ≡ before ++ last ∷ [] = search rules in
    let added : c.add_turn.new.code ≡ c.loop-last.code ++ turn_if (ends_at c.args.number last) last = search rules in
    ap (λ code. code ++ turns_code before c.args.number) added
    ∙ append_assoc c.loop-last.code (turn_if (ends_at c.args.number last) last) (turns_code before c.args.number)
    ∙ ap (λ is. c.loop-last.code ++ is) (sym (turns_code_last before last c.args.number))
    ∙ ap (λ loops. c.loop-last.code ++ turns_code loops c.args.number) (sym split)
    ∙ c.loop-last.invariant
