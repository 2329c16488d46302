-- The rules on labels (ANSI X3.9-1978, section 3.4).
use Rattle.std.specs.Prelude.{ℕ, Bool, List, take}
use Rattle.std.specs.List.{list_any}
use Rattle.std.specs.Option.{is_none}
use Rattle.f77_ast.specs.declared.program.Listed.{Listed}
use Rattle.f77_structure.specs.Labels.{labels_of, target_in, has_any}

-- LabelMissing: a label that no executable statement of the unit has
abbrev pub misses_label : (unit : List Listed) → ℕ → Listed → List Listed → Bool
misses_label unit place listed following = list_any (λ label. is_none (target_in label unit)) (labels_of listed.stmt)

-- DoubleLabel: a label that an earlier statement of the unit has
abbrev pub doubles_label : (unit : List Listed) → ℕ → Listed → List Listed → Bool
doubles_label unit place listed following = has_any listed.card.label (take place unit)
