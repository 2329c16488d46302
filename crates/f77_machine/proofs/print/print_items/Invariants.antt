use Rattle.std.proofs.Common.{◌≡◌, ◌+◌, ◌<◌, ◌^◌, drop}
use Rattle.f77_io.specs.Line.{text_of}
use Rattle.f77_meaning.specs.Print.{after_items}
use Rattle.f77_meaning.specs.Process.{Frame}
use Rattle.f77_machine.specs.Print.{as_printing, BeginsWith}
use Rattle.f77_machine.specs.Setting.{setting_in}
use Rattle.f77_machine.proofs.print.print_items.Given as goal

-- where the items that are left come to is where all of them come to
abbrev pub invariant-loop-item : goal.invariant-loop-item
invariant-loop-item l = record {
  rest : (frame : Frame) → after_items (setting_in l.program l.unit) (drop l.item-index l.items) (as_printing frame l.at (text_of l.line)) ≡ after_items (setting_in l.program l.unit) l.items (as_printing frame l.from (text_of l.initial.line));
  items : l.at.items ≡ l.from.items + l.item-index;
  cells : l.at.cells < 2 ^ 32;
  answers : BeginsWith l.from.answers.now l.at.answers.now;
  begins : BeginsWith (text_of l.line) (text_of l.initial.line);
}
