-- What an accumulation does with the value that it reads.
use Rattle.std.specs.Prelude.{◌≡◌, ◌⊎◌, ℕ, ℤ, List, [], ◌∷◌, Option, None, Some}
use Rattle.hyb_base.specs.Reduction.{apply}
use Rattle.hyb_base.specs.declared.ops.RedOp.{RedOp}
use Rattle.f77_ast.specs.declared.fault.Fault.TheVariants.{DoVariableWritten}
use Rattle.f77_ast.specs.declared.program.Program.{Program}
use Rattle.f77_ast.specs.declared.step.Control.{Control}
use Rattle.f77_meaning.specs.Event.{reads, writes, faults}
use Rattle.f77_meaning.specs.Process.{Frame, Process}
use Rattle.f77_meaning.specs.Step.{event, once_done, resumed}

-- after the marked read: one number is such that for every answer the next event is the marked write of the operator applied to the
-- answer and that number, and the process after it doesn't depend on the answer
pub record CombinesWith (program : Program) (p : Process) (address : ℕ) (op : RedOp) : Type 0 where
  pub added : ℤ
  pub after : Process
  pub combines : (x : ℤ) → event program (resumed program p x) ≡ writes address (apply op x added) (Some op) None
  pub goes_on : (x : ℤ) → once_done program (resumed program p x) ≡ after

-- after the marked read of an accumulation it is so, or the next event is the same fault whatever the answer, since the write would be to
-- the variable of a running loop
abbrev pub AccumulationsCombine : Type 0
AccumulationsCombine = (program : Program) (p : Process) (address : ℕ) (op : RedOp) → event program p ≡ reads address (Some op) →
    CombinesWith program p address op ⊎ ((x : ℤ) → event program (resumed program p x) ≡ faults DoVariableWritten)

-- after any other read comes no marked write
abbrev pub PlainReadsLeadToNone : Type 0
PlainReadsLeadToNone = (program : Program) (p : Process) (address written : ℕ) (x value : ℤ) (op : RedOp) (control : Option Control) → event program p ≡ reads address None →
    event program (resumed program p x) ≡ writes written value (Some op) control → ⊥

-- a process whose last frame has no answers isn't before one
abbrev pub FreshFramesWriteNone : Type 0
FreshFramesWriteNone = (program : Program) (p : Process) (frame : Frame) (below : List Frame) (written : ℕ) (value : ℤ) (op : RedOp) (control : Option Control) → p.frames ≡ frame ∷ below → frame.answers ≡ [] →
    event program p ≡ writes written value (Some op) control → ⊥
