-- What a book was told.
use Rattle.std.specs.Prelude.{ℕ, suc, ◌≡◌, ◌+◌, ◌<◌, ◌==◌, ◌^◌, List, [], ◌∷◌, ◌++◌, length, map, nat_eq, Option, if◌then◌else◌}
use Rattle.std.specs.Option.{unwrap_or}
use Rattle.indexmap.specs.IndexMap.{IndexMap, get}
use Rattle.hyb_base.specs.declared.ops.RedOp.{RedOp}
use Rattle.interleaving.specs.Traces as traces
use Rattle.f77_ast.specs.declared.program.Layout.{Layout}
use Rattle.f77_ast.specs.declared.step.Stepped.{Stepped}
use Rattle.f77_ast.specs.declared.step.Stepped.TheVariants.{Read, Wrote, Inner, Printed, Ended, Faulted}
use Rattle.dependence.specs.declared.modes.Verdict.{Verdict}
use Rattle.dependence.specs.Executions.{Trace}
use Rattle.dependence.specs.Regions.{Interval}
use Rattle.dependence.specs.Verdicts.{IsRight}
use Rattle.loop_trace.specs.declared.book.Book.{Book}
use Rattle.loop_trace.specs.declared.cell.Cell.{Cell}
use Rattle.loop_trace.specs.Cells.{IsCell, after_read, after_write, found_by_read, found_by_write, untouched}
use Rattle.loop_trace.specs.Marks.{AreMarked}
use Rattle.loop_trace.specs.Places.{IsPlace, ReadAt, WriteAt}

-- the accesses that a step is: one at most
abbrev pub told_by : Stepped → Trace
told_by (Read a by) = traces.Read a by ∷ []
told_by (Wrote a by control) = traces.Write a by ∷ []
told_by Inner = []
told_by Printed = []
told_by Ended = []
told_by (Faulted fault) = []

-- a step whose address, where it has one, is below a limit
abbrev pub IsBelow : (limit : ℕ) → Stepped → Type 0
IsBelow limit (Read a by) = a < limit
IsBelow limit (Wrote a by control) = a < limit
IsBelow limit Inner = Unit {0}
IsBelow limit Printed = Unit {0}
IsBelow limit Ended = Unit {0}
IsBelow limit (Faulted fault) = Unit {0}

-- regions one after the other, none empty, from an address to another
abbrev pub AreInLine : (from : ℕ) → List Interval → (to : ℕ) → Type 0
AreInLine from [] to = from ≡ to
AreInLine from (region ∷ regions) to = (region.start ≡ from) × (0 < region.len) × AreInLine (from + region.len) regions to

-- the regions of a layout
abbrev pub regions_of : Layout → List Interval
regions_of layout = map (λ region. record { start = region.start; len = region.len }) layout.regions

-- a layout whose regions are one after the other from address 0 to its total
abbrev pub IsLaid : Layout → Type 0
IsLaid layout = AreInLine 0 (regions_of layout) layout.total

-- what a book has of an address
abbrev pub cell_at : {S : Type 0} → IndexMap ℕ Cell S → ℕ → Cell
cell_at cells a = unwrap_or (get nat_eq cells a) untouched

-- a book of a layout was told the traces of these iterations, which ended, and these accesses of the current one
pub record Told (book : Book) (layout : Layout) (ended : List Trace) (current : Trace) : Type 0 where
  pub laid : IsLaid layout
  pub starts : book.starts.items ≡ map (λ region. region.start) (regions_of layout)
  pub iteration : book.iteration ≡ suc (length ended)
  pub regions : AreMarked (ended ++ current ∷ []) (regions_of layout) book.regions.items
  pub cells : (a : ℕ) → IsCell (ended ++ current ∷ []) book.iteration a (cell_at book.cells a)

-- a book with a read more, and one with a write more
pub record HasRead (a : ℕ) (by : Option RedOp) (old new : Book) : Type 0 where
  pub starts : new.starts.items ≡ old.starts.items
  pub iteration : new.iteration ≡ old.iteration
  pub cells : (q : ℕ) → cell_at new.cells q ≡ (if a == q then after_read old.iteration (cell_at old.cells a) else cell_at old.cells q)
  pub place : ℕ
  pub is_place : IsPlace old.starts.items a place
  pub regions : ReadAt by (found_by_read a old.iteration (cell_at old.cells a)) place old.regions.items new.regions.items

pub record HasWritten (a : ℕ) (by : Option RedOp) (old new : Book) : Type 0 where
  pub starts : new.starts.items ≡ old.starts.items
  pub iteration : new.iteration ≡ old.iteration
  pub cells : (q : ℕ) → cell_at new.cells q ≡ (if a == q then after_write old.iteration (cell_at old.cells a) else cell_at old.cells q)
  pub place : ℕ
  pub is_place : IsPlace old.starts.items a place
  pub regions : WriteAt by (found_by_write a old.iteration (cell_at old.cells a)) place old.regions.items new.regions.items

-- a book that was told what another was
pub record IsSame (old new : Book) : Type 0 where
  pub starts : new.starts.items ≡ old.starts.items
  pub iteration : new.iteration ≡ old.iteration
  pub cells : (q : ℕ) → cell_at new.cells q ≡ cell_at old.cells q
  pub regions : new.regions.items ≡ old.regions.items

-- a book that was told a step more, one that was told the end of an iteration, and one that was told nothing more
abbrev pub TellsMore : Stepped → (old new : Book) → Type 0
TellsMore step old new = (layout : Layout) (ended : List Trace) (current : Trace) → IsBelow layout.total step → Told old layout ended current → Told new layout ended (current ++ told_by step)

abbrev pub EndsTold : (old new : Book) → Type 0
EndsTold old new = (layout : Layout) (ended : List Trace) (current : Trace) → length ended < 2 ^ 63 → Told old layout ended current → Told new layout (ended ++ current ∷ []) []

abbrev pub KeepsTold : (old new : Book) → Type 0
KeepsTold old new = (layout : Layout) (ended : List Trace) (current : Trace) → Told old layout ended current → Told new layout ended current

-- a right verdict on the traces that a book was told
abbrev pub IsRightOf : Book → Verdict → Type 0
IsRightOf book verdict = (layout : Layout) (ended : List Trace) (current : Trace) → Told book layout ended current → IsRight (ended ++ current ∷ []) (regions_of layout) verdict
