-- What a status is outside: an exit code, and a line of the notes.
use Rattle.std.specs.Prelude.{ℕ, pos, List, [], ◌∷◌, ◌++◌, codes}
use Rattle.hyb_base.specs.Decimal.{decimal_of}
use Rattle.f77_ast.specs.Fault.{code_of}
use Rattle.hybrid_top.specs.declared.status.Status.{Status}
use Rattle.hybrid_top.specs.declared.status.Status.TheVariants as status

-- the exit code of a status
abbrev pub exit_code_of : Status → ℕ
exit_code_of status.Done = 0
exit_code_of status.Usage = 1
exit_code_of (status.Refused refusal) = 2
exit_code_of (status.BadSchedule line) = 3
exit_code_of (status.Faulted fault line) = 4
exit_code_of status.StepsSpent = 5
exit_code_of status.ReadFault = 6
exit_code_of status.WriteFault = 7
exit_code_of status.NoMemory = 8
exit_code_of (status.FileLimit file) = 9

-- a number's text
abbrev pub number : ℕ → List ℕ
number n = decimal_of (pos n)

-- the status line, with its LF; none of Done, and none of a fault of writing
abbrev pub status_text : Status → List ℕ
status_text status.Done = []
status_text status.Usage = codes "USAGE" ++ 10 ∷ []
status_text (status.Refused refusal) = codes "REFUSED " ++ number refusal.line ++ codes " " ++ number refusal.code ++ 10 ∷ []
status_text (status.BadSchedule line) = codes "BAD SCHEDULE " ++ number line ++ 10 ∷ []
status_text (status.Faulted fault line) = codes "FAULT " ++ number (code_of fault) ++ codes " LINE " ++ number line ++ 10 ∷ []
status_text status.StepsSpent = codes "STEPS SPENT" ++ 10 ∷ []
status_text status.ReadFault = codes "READ FAULT" ++ 10 ∷ []
status_text status.WriteFault = []
status_text status.NoMemory = codes "NO MEMORY" ++ 10 ∷ []
status_text (status.FileLimit file) = codes "FILE LIMIT " ++ number file ++ 10 ∷ []
