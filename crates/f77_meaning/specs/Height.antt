-- How many operands code holds, and in which order iterations end.
use Rattle.std.specs.Prelude.{ℕ, ◌+◌, ◌-◌, ◌<◌, ◌≤◌, List, [], ◌∷◌}
use Rattle.f77_ast.specs.declared.code.Instr.{Instr}
use Rattle.f77_ast.specs.declared.code.Instr.TheVariants as instr

-- code that begins with so many operands never holds more than there is room for, up to the step that ends its statement. What has no
-- meaning yet does nothing
abbrev pub HoldsAtMost : (room : ℕ) → List Instr → (held : ℕ) → Type 0
HoldsAtMost room [] held = held ≤ room
HoldsAtMost room (instr.Lit number ∷ is) held = (held ≤ room) × HoldsAtMost room is (held + 1)
HoldsAtMost room (instr.Truth holds ∷ is) held = (held ≤ room) × HoldsAtMost room is (held + 1)
HoldsAtMost room (instr.Text number ∷ is) held = (held ≤ room) × HoldsAtMost room is (held + 1)
HoldsAtMost room (instr.Entity number ∷ is) held = (held ≤ room) × HoldsAtMost room is (held + 1)
HoldsAtMost room (instr.Index count ∷ is) held = (held ≤ room) × HoldsAtMost room is (held - count)
HoldsAtMost room (instr.Slice ∷ is) held = held ≤ room
HoldsAtMost room (instr.SliceFrom ∷ is) held = held ≤ room
HoldsAtMost room (instr.Unary op ∷ is) held = (held ≤ room) × HoldsAtMost room is held
HoldsAtMost room (instr.Binary op ∷ is) held = (held ≤ room) × HoldsAtMost room is (held - 1)
HoldsAtMost room (instr.Intrinsic function count ∷ is) held = held ≤ room
HoldsAtMost room (instr.Bind ∷ is) held = held ≤ room
HoldsAtMost room (instr.Enter unit count ∷ is) held = held ≤ room
HoldsAtMost room (instr.Fix number ∷ is) held = held ≤ room
HoldsAtMost room (instr.Load ∷ is) held = (held ≤ room) × HoldsAtMost room is held
HoldsAtMost room (instr.Store ∷ is) held = held ≤ room
HoldsAtMost room (instr.Accumulate op ∷ is) held = held ≤ room
HoldsAtMost room (instr.Branch target ∷ is) held = held ≤ room
HoldsAtMost room (instr.When ∷ is) held = held ≤ room
HoldsAtMost room (instr.Jump target ∷ is) held = held ≤ room
HoldsAtMost room (instr.Choose first count ∷ is) held = held ≤ room
HoldsAtMost room (instr.Sign first ∷ is) held = held ≤ room
HoldsAtMost room (instr.Move ∷ is) held = held ≤ room
HoldsAtMost room (instr.Count ordinal ∷ is) held = held ≤ room
HoldsAtMost room (instr.Next ordinal ∷ is) held = held ≤ room
HoldsAtMost room (instr.CountItems target ∷ is) held = held ≤ room
HoldsAtMost room (instr.NextItems target ∷ is) held = held ≤ room
HoldsAtMost room (instr.Emit ∷ is) held = (held ≤ room) × HoldsAtMost room is (held - 1)
HoldsAtMost room (instr.EmitArray ∷ is) held = (held ≤ room) × HoldsAtMost room is (held - 1)
HoldsAtMost room (instr.Print ∷ is) held = held ≤ room
HoldsAtMost room (instr.Take ∷ is) held = held ≤ room
HoldsAtMost room (instr.TakeArray ∷ is) held = held ≤ room
HoldsAtMost room (instr.Leave ∷ is) held = held ≤ room
HoldsAtMost room (instr.Stop ∷ is) held = held ≤ room

-- the ordinals of the loops whose iterations end at the next instructions
abbrev pub turn_ordinals : List Instr → List ℕ
turn_ordinals [] = []
turn_ordinals (instr.Lit number ∷ is) = []
turn_ordinals (instr.Truth holds ∷ is) = []
turn_ordinals (instr.Text number ∷ is) = []
turn_ordinals (instr.Entity number ∷ is) = []
turn_ordinals (instr.Index count ∷ is) = []
turn_ordinals (instr.Slice ∷ is) = []
turn_ordinals (instr.SliceFrom ∷ is) = []
turn_ordinals (instr.Unary op ∷ is) = []
turn_ordinals (instr.Binary op ∷ is) = []
turn_ordinals (instr.Intrinsic function count ∷ is) = []
turn_ordinals (instr.Bind ∷ is) = []
turn_ordinals (instr.Enter unit count ∷ is) = []
turn_ordinals (instr.Fix number ∷ is) = []
turn_ordinals (instr.Load ∷ is) = []
turn_ordinals (instr.Store ∷ is) = []
turn_ordinals (instr.Accumulate op ∷ is) = []
turn_ordinals (instr.Branch target ∷ is) = []
turn_ordinals (instr.When ∷ is) = []
turn_ordinals (instr.Jump target ∷ is) = []
turn_ordinals (instr.Choose first count ∷ is) = []
turn_ordinals (instr.Sign first ∷ is) = []
turn_ordinals (instr.Move ∷ is) = []
turn_ordinals (instr.Count ordinal ∷ is) = []
turn_ordinals (instr.Next ordinal ∷ is) = ordinal ∷ turn_ordinals is
turn_ordinals (instr.CountItems target ∷ is) = []
turn_ordinals (instr.NextItems target ∷ is) = []
turn_ordinals (instr.Emit ∷ is) = []
turn_ordinals (instr.EmitArray ∷ is) = []
turn_ordinals (instr.Print ∷ is) = []
turn_ordinals (instr.Take ∷ is) = []
turn_ordinals (instr.TakeArray ∷ is) = []
turn_ordinals (instr.Leave ∷ is) = []
turn_ordinals (instr.Stop ∷ is) = []

-- ordinals, each below the one before, and the first below this one
abbrev pub FallBelow : (above : ℕ) → List ℕ → Type 0
FallBelow above [] = Unit {0}
FallBelow above (ordinal ∷ ordinals) = (ordinal < above) × FallBelow ordinal ordinals
