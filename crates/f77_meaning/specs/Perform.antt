-- What postfix code does: on a stack of operands and a list of answers it goes on up to the next step of its statement.
--
-- docs/CODE.md has the code of statements of each kind. What takes operands is of the same words as the trees: `located`, `value_at`,
-- `unary_of`, `binary_of`, `plainly`, `accumulate_at`, `begun_with` and the moves of a step.
use Rattle.std.specs.Prelude.{ℕ, zero, suc, ◌-◌, ◌==◌, ℤ, List, [], ◌∷◌, map, Option, None, Some, slice_get, if◌then◌else◌}
use Rattle.hyb_base.specs.Reduction.{apply}
use Rattle.hyb_base.specs.declared.ops.RedOp.{RedOp}
use Rattle.f77_ast.specs.Loop.{loop_at}
use Rattle.f77_ast.specs.declared.code.Instr.{Instr}
use Rattle.f77_ast.specs.declared.code.Instr.TheVariants as instr
use Rattle.f77_ast.specs.declared.fault.Fault.TheVariants.{LineLimit}
use Rattle.f77_ast.specs.declared.program.Entity.{Entity}
use Rattle.f77_ast.specs.declared.program.Program.{Program}
use Rattle.f77_structure.specs.Storage.{elements_of}
use Rattle.f77_structure.specs.Values.{Value, integer, truth, chars, unary_of, binary_of}
use Rattle.f77_meaning.specs.Assign.{Written, accumulate_at, plainly}
use Rattle.f77_meaning.specs.Demand.{Demand, gives, wants, calls, fails, and_then, Evaluation, Location, Setting, setting_of, located, number_of, operated, term, value_at}
use Rattle.f77_meaning.specs.Do.{Begun, begun_with}
use Rattle.f77_meaning.specs.Operands.{Stack, value, entity, place, with_value, with_values, with_entity, with_place}
use Rattle.f77_meaning.specs.Print.{Printing, element_after, next_item, next_cell, or_blank, text_of, with_text}
use Rattle.f77_meaning.specs.Process.{ActiveLoop, Frame, process_with}
use Rattle.f77_meaning.specs.Step.{Move, reading, moving, printing, ending, failing, do_move, increment_move, past_statement, write_move}

-- a value as an evaluation of its own
abbrev pub given : Value → Evaluation
given x answers = gives x answers

-- what is written where a location is: the value
abbrev pub stored_by : Setting → Value → Location → List ℤ → Demand Written
stored_by s x location answers = and_then (location answers) (λ at rest. plainly s at (given x) rest)

-- there: its own value joined with this one
abbrev pub accumulated_by : Setting → RedOp → Value → Location → List ℤ → Demand Written
accumulated_by s op x location answers = and_then (location answers) (λ at rest. accumulate_at s op at.bound (λ v. apply op v (number_of x)) rest)

-- a DO whose variable is there begins with these parameters
abbrev pub begun_by : Setting → (first last increment : Value) → Location → List ℤ → Demand Begun
begun_by s first last increment location answers =
    and_then (location answers) (λ at rest. begun_with s at.bound (record { first = number_of first; last = number_of last; increment = number_of increment }) rest)

-- goes on with an entity that may be there
abbrev pub with_found : Option Entity → (Entity → Option Move) → Option Move
with_found None go = None
with_found (Some e) go = go e

-- goes on with a text that may be there
abbrev pub with_chars : Option (List ℕ) → (List ℕ → Option Move) → Option Move
with_chars None go = None
with_chars (Some text) go = go text

-- goes on with the line, where it isn't past its limit
abbrev pub with_line : Option (List ℕ) → (List ℕ → Option Move) → Option Move
with_line None go = Some (failing LineLimit)
with_line (Some line) go = go line

-- a step that leaves no operand
abbrev pub leaving_none : Stack → Option Move → Option Move
leaving_none [] move = move
leaving_none (x ∷ stack) move = None

-- a program, the texts of a unit's code, and the frames below the last one
module _ (program : Program) (texts : List (List ℕ)) (below : List Frame) where
  -- what is asked for is the next step, and so is a fault; else it goes on. A PRINT is so far, and another statement at its frame
  abbrev pub asked : {A : Type 0} → Demand A → Printing → (A → List ℤ → Option Move) → Option Move
  asked (gives x rest) p go = go x rest
  asked (wants address by) p go = Some (reading address by p.frame below p.line)
  asked (calls unit bindings) p go = Some ending
  asked (fails fault) p go = Some (failing fault)

  -- a text joins the line of a PRINT
  abbrev pub shown : Value → Printing → (List ℕ → Option Move) → Option Move
  shown x p go = with_line (with_text p.line (text_of x)) go

  -- an item that is an array, of which `left` elements are left: each is read, and joins the line
  abbrev pub elements_shown : Entity → (left : ℕ) → List ℤ → Printing → (Printing → Option Move) → Option Move
  elements_shown array zero answers p go = go (next_item p p.line)
  elements_shown array (suc left) answers p go =
      asked (element_after (setting_of program p.frame) array array.place p.frame.cells answers) p (λ x rest. shown x p (λ line. elements_shown array left [] (next_cell p line) go))

  -- the end of an iteration of a DO, where that is the innermost active loop; and else what comes after it
  abbrev pub turned_by : (ordinal : ℕ) → List ActiveLoop → Printing → Option Move → Option Move
  turned_by ordinal [] p following = following
  turned_by ordinal (loop ∷ outer) p following =
      if loop.ordinal == ordinal then Some (increment_move program p.frame below p.line (loop ∷ outer)) else following

  -- what code comes to from an instruction on, on a stack and these answers, at a frame and the line of what is done of its PRINT:
  -- its next step; or none, where an operand lacks or is of another kind, code ends, or an instruction has no meaning yet
  abbrev pub performed : List Instr → Stack → List ℤ → Printing → Option Move
  performed [] stack answers p = None
  performed (instr.Lit number ∷ is) stack answers p = performed is (value (integer number) ∷ stack) answers p
  performed (instr.Truth holds ∷ is) stack answers p = performed is (value (truth holds) ∷ stack) answers p
  performed (instr.Text number ∷ is) stack answers p = with_chars (slice_get texts number) (λ text. performed is (value (chars text) ∷ stack) answers p)
  performed (instr.Entity number ∷ is) stack answers p =
      with_found (slice_get program.layout.entities number) (λ e. performed is (entity e ∷ stack) answers p)
  performed (instr.Index count ∷ is) stack answers p =
      with_values count stack [] (λ subscripts others. with_entity others (λ e left.
      asked (located (setting_of program p.frame) (Some e) (Some (map (λ x. term (given x)) subscripts)) answers) p (λ at rest. performed is (place at ∷ left) rest p)))
  performed (instr.Slice ∷ is) stack answers p = None
  performed (instr.SliceFrom ∷ is) stack answers p = None
  performed (instr.Unary op ∷ is) stack answers p =
      with_value stack (λ x left. asked (operated (unary_of op x) answers) p (λ y rest. performed is (value y ∷ left) rest p))
  performed (instr.Binary op ∷ is) stack answers p =
      with_value stack (λ y others. with_value others (λ x left. asked (operated (binary_of op x y) answers) p (λ z rest. performed is (value z ∷ left) rest p)))
  performed (instr.Intrinsic function count ∷ is) stack answers p = None
  performed (instr.Bind ∷ is) stack answers p = None
  performed (instr.Enter unit count ∷ is) stack answers p = None
  performed (instr.Fix number ∷ is) stack answers p = None
  performed (instr.Load ∷ is) stack answers p =
      with_place (setting_of program p.frame) stack (λ location left.
      asked (and_then (location answers) (value_at (setting_of program p.frame))) p (λ x rest. performed is (value x ∷ left) rest p))
  performed (instr.Store ∷ is) stack answers p =
      with_value stack (λ x others. with_place (setting_of program p.frame) others (λ location left. leaving_none left
      (Some (write_move program p.frame below p.line (stored_by (setting_of program p.frame) x location answers)))))
  performed (instr.Accumulate op ∷ is) stack answers p =
      with_value stack (λ x others. with_place (setting_of program p.frame) others (λ location left. leaving_none left
      (Some (write_move program p.frame below p.line (accumulated_by (setting_of program p.frame) op x location answers)))))
  performed (instr.Branch target ∷ is) stack answers p = None
  performed (instr.When ∷ is) stack answers p = None
  performed (instr.Jump target ∷ is) stack answers p = None
  performed (instr.Choose first count ∷ is) stack answers p = None
  performed (instr.Sign first ∷ is) stack answers p = None
  performed (instr.Move ∷ is) stack answers p = leaving_none stack (Some (moving (process_with p.line (past_statement program p.frame ∷ below))))
  performed (instr.Count ordinal ∷ is) stack answers p =
      with_value stack (λ increment others. with_value others (λ last more. with_value more (λ first variables.
      with_place (setting_of program p.frame) variables (λ location left. leaving_none left
      (Some (do_move program p.frame below p.line (loop_at program.loops ordinal) (begun_by (setting_of program p.frame) first last increment location answers)))))))
  performed (instr.Next ordinal ∷ is) stack answers p = turned_by ordinal p.frame.active p (performed is stack answers p)
  performed (instr.CountItems target ∷ is) stack answers p = None
  performed (instr.NextItems target ∷ is) stack answers p = None
  performed (instr.Emit ∷ is) stack answers p = with_value stack (λ x left. leaving_none left (shown x p (λ line. performed is [] [] (next_item p line))))
  performed (instr.EmitArray ∷ is) stack answers p =
      with_entity stack (λ e left. leaving_none left (elements_shown e (elements_of e - p.frame.cells) answers p (λ q. performed is [] [] q)))
  performed (instr.Print ∷ is) stack answers p = leaving_none stack (Some (printing (or_blank p.line) (process_with [] (past_statement program p.frame ∷ below))))
  performed (instr.Take ∷ is) stack answers p = None
  performed (instr.TakeArray ∷ is) stack answers p = None
  performed (instr.Leave ∷ is) stack answers p = None
  performed (instr.Stop ∷ is) stack answers p = leaving_none stack (Some ending)
