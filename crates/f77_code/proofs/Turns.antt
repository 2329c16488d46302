-- The ends of iterations, the last loop first.
use Rattle.std.proofs.Common.{◌≡◌, ℕ, ◌++◌, List, [], ◌∷◌, sym, ap, ◌∙◌, append_assoc, append-nil}
use Rattle.f77_ast.specs.declared.program.Loop.{Loop}
use Rattle.f77_code.specs.Statements.{ends_at, turn_if, turns_code}

-- the last loop comes first
pub turns_code_last : (before : List Loop) (last : Loop) (number : ℕ) → turns_code (before ++ last ∷ []) number ≡ turn_if (ends_at number last) last ++ turns_code before number
turns_code_last [] last number = sym (append-nil (turn_if (ends_at number last) last))
turns_code_last (loop ∷ before) last number =
    ap (λ is. is ++ turn_if (ends_at number loop) loop) (turns_code_last before last number)
    ∙ append_assoc (turn_if (ends_at number last) last) (turns_code before number) (turn_if (ends_at number loop) loop)
