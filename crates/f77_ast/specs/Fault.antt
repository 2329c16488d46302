-- The codes of faults.
use Rattle.std.specs.Prelude.{ℕ}
use Rattle.f77_ast.specs.declared.fault.Fault.{Fault}
use Rattle.f77_ast.specs.declared.fault.Fault.TheVariants.{ZeroDivisor, Subscript, OutsideRegion, Substring, ZeroIncrement, DoRange, ValueDummyAssigned, InputEnd, InputForm, LineLimit, CharRange, DoVariableWritten}

-- a fault's code: its place in the list of faults, from 1
abbrev pub code_of : Fault → ℕ
code_of ZeroDivisor = 1
code_of Subscript = 2
code_of OutsideRegion = 3
code_of Substring = 4
code_of ZeroIncrement = 5
code_of DoRange = 6
code_of ValueDummyAssigned = 7
code_of InputEnd = 8
code_of InputForm = 9
code_of LineLimit = 10
code_of CharRange = 11
code_of DoVariableWritten = 12
