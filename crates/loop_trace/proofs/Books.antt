-- A book that is told an access, and the end of an iteration; its verdict.
use Rattle.std.proofs.Common.{ℕ, zero, suc, ◌≡◌, ◌==◌, ◌<◌, ◌≤◌, inl, inr, true, false, List, [], ◌∷◌, ◌++◌, length, map, get_or, set, Option, if◌then◌else◌, refl, sym, ap, ◌∙◌, subst, arith, true≢false, add-one, eqb-true}
use Rattle.interleaving.specs.Traces.{Access, Read, Write, is_written, is_exposed}
use Rattle.hyb_base.specs.declared.ops.RedOp.{RedOp}
use Rattle.f77_ast.specs.declared.program.Layout.{Layout}
use Rattle.f77_ast.specs.declared.program.Region.{Region}
use Rattle.dependence.specs.Conflicts.{HasNoConflict}
use Rattle.dependence.specs.Executions.{Trace, trace_of, is_touched}
use Rattle.dependence.specs.Regions.{Interval, IsIn}
use Rattle.dependence.proofs.Agreeing.{agree}
use Rattle.dependence.proofs.Bounds.{by_test, beyond, last_empty}
use Rattle.dependence.proofs.Pairs.{none_written}
use Rattle.loop_trace.specs.declared.book.Book.{Book}
use Rattle.loop_trace.specs.declared.cell.Cell.{Cell}
use Rattle.loop_trace.specs.declared.marks.Marks.{Marks}
use Rattle.loop_trace.specs.Cells.{IsCell, after_read, after_write, untouched}
use Rattle.loop_trace.specs.Marks.{IsMarked, AreMarked, unused}
use Rattle.loop_trace.specs.Places.{IsPlace}
use Rattle.loop_trace.specs.Told.{Told, HasRead, HasWritten, IsSame, AreInLine, regions_of, cell_at, IsLaid}
use Rattle.loop_trace.proofs.Known.{alike_other, cell_alike, marked_outside, marked_agree}
use Rattle.loop_trace.proofs.Places.{starts, same_length, length-starts, some_region, changed}
use Rattle.loop_trace.proofs.OneRead.{read_cell, read_marked}
use Rattle.loop_trace.proofs.Steps.{IsAt, reading, writing, Next, next_of}
use Rattle.loop_trace.proofs.OneWrite.{write_cell, write_marked}

-- an access more
module _ (layout : Layout) (ended : List Trace) (current : Trace) (x : Access RedOp) where
  abbrev Old : List Trace
  Old = ended ++ current ∷ []

  abbrev New : List Trace
  New = ended ++ (current ++ x ∷ []) ∷ []

  module _ (a : ℕ) (by : Option RedOp) (at : IsAt a by x) (below : a < layout.total) (old new : Book) (told : Told old layout ended current) (place : ℕ) (is_place : IsPlace old.starts.items a place) where
    next : Next Old New old.iteration x
    next = subst (λ (n : ℕ). Next Old New n x) (sym told.iteration) (next_of ended current x)

    cells_so : (c : Cell) → IsCell New old.iteration a c → ((q : ℕ) → cell_at new.cells q ≡ (if a == q then c else cell_at old.cells q)) → (q : ℕ) → IsCell New old.iteration q (cell_at new.cells q)
    cells_so c h e q = subst (λ (d : Cell). IsCell New old.iteration q d) (sym (e q)) ((elim (a == q) as (λ w. (a == q) ≡ w → IsCell New old.iteration q (if w then c else cell_at old.cells q)) [
      | true ↦ λ f. subst (λ (b : ℕ). IsCell New old.iteration b c) (eqb-true a q f) h
      | false ↦ λ f. cell_alike Old New q (alike_other Old New old.iteration a by x at next q f) old.iteration (cell_at old.cells q) (told.cells q)
    ]) refl)

    regions_so : (after : Marks) → ((region : Interval) → IsIn region a → IsMarked Old region (get_or old.regions.items place after) → IsMarked New region after) → AreMarked New (regions_of layout) (set old.regions.items place after)
    regions_so after step =
        let some : 0 < length (regions_of layout) = some_region (regions_of layout) 0 layout.total a told.laid (omega arith) below in
        let many : length old.starts.items ≡ length (regions_of layout) = ap length told.starts ∙ length-starts (regions_of layout) in
        let is : IsPlace (starts (regions_of layout)) a place = subst (λ (s : List ℕ). IsPlace s a place) told.starts is_place in
        let count : length (starts (regions_of layout)) ≡ length (regions_of layout) = length-starts (regions_of layout) in
        changed Old New a (λ region out m h. marked_outside Old New old.iteration a by x at next region out m h) (regions_of layout) old.regions.items 0 layout.total place after told.laid (omega arith) below
        (let w : place < length (starts (regions_of layout)) = is.within (omega (arith, some, count)) in omega (arith, w, count))
        (is.from (omega (arith, some, count)) (first_from (regions_of layout) layout.total told.laid))
        (λ l. rw add-one at (is.next (omega (arith, l, count))))
        step told.regions
      where
        first_from : (regions : List Interval) (to : ℕ) → AreInLine 0 regions to → get_or (starts regions) 0 0 ≤ a
        first_from [] to h = omega arith
        first_from (region ∷ regions) to h = omega (arith, h.0)

    within_marks : place < length old.regions.items
    within_marks =
        let some : 0 < length (regions_of layout) = some_region (regions_of layout) 0 layout.total a told.laid (omega arith) below in
        let many : length old.starts.items ≡ length (regions_of layout) = ap length told.starts ∙ length-starts (regions_of layout) in
        let same : length old.regions.items ≡ length (regions_of layout) = same_length Old (regions_of layout) old.regions.items told.regions in
        let w : place < length old.starts.items = is_place.within (omega (arith, some, many)) in
        omega (arith, w, many, same)

pub told_read : (layout : Layout) (ended : List Trace) (current : Trace) (a : ℕ) (by : Option RedOp) (old new : Book) → a < layout.total → HasRead a by old new → Told old layout ended current → Told new layout ended (current ++ Read a by ∷ [])
told_read layout ended current a by old new below h told =
    let r = h.regions (within_marks layout ended current (Read a by) a by reading below old new told h.place h.is_place) in
    let n : Next (ended ++ current ∷ []) (ended ++ (current ++ Read a by ∷ []) ∷ []) old.iteration (Read a by) = next layout ended current (Read a by) a by reading below old new told h.place h.is_place in
    record {
      laid = told.laid;
      starts = h.starts ∙ told.starts;
      iteration = h.iteration ∙ told.iteration;
      regions = subst (λ (ms : List Marks). AreMarked (ended ++ (current ++ Read a by ∷ []) ∷ []) (regions_of layout) ms) (sym (r.1.0))
          (regions_so layout ended current (Read a by) a by reading below old new told h.place h.is_place r.0
          (λ region i m. read_marked (ended ++ current ∷ []) (ended ++ (current ++ Read a by ∷ []) ∷ []) old.iteration a by n (cell_at old.cells a) (told.cells a) region i (get_or old.regions.items h.place r.0) r.0 m (r.1.1)));
      cells = λ q. subst (λ (k : ℕ). IsCell (ended ++ (current ++ Read a by ∷ []) ∷ []) k q (cell_at new.cells q)) (sym h.iteration)
          (cells_so layout ended current (Read a by) a by reading below old new told h.place h.is_place (after_read old.iteration (cell_at old.cells a))
          (read_cell (ended ++ current ∷ []) (ended ++ (current ++ Read a by ∷ []) ∷ []) old.iteration a by n (cell_at old.cells a) (told.cells a)) h.cells q);
    }

pub told_write : (layout : Layout) (ended : List Trace) (current : Trace) (a : ℕ) (by : Option RedOp) (old new : Book) → a < layout.total → HasWritten a by old new → Told old layout ended current → Told new layout ended (current ++ Write a by ∷ [])
told_write layout ended current a by old new below h told =
    let r = h.regions (within_marks layout ended current (Write a by) a by writing below old new told h.place h.is_place) in
    let n : Next (ended ++ current ∷ []) (ended ++ (current ++ Write a by ∷ []) ∷ []) old.iteration (Write a by) = next layout ended current (Write a by) a by writing below old new told h.place h.is_place in
    record {
      laid = told.laid;
      starts = h.starts ∙ told.starts;
      iteration = h.iteration ∙ told.iteration;
      regions = subst (λ (ms : List Marks). AreMarked (ended ++ (current ++ Write a by ∷ []) ∷ []) (regions_of layout) ms) (sym (r.1.0))
          (regions_so layout ended current (Write a by) a by writing below old new told h.place h.is_place r.0
          (λ region i m. write_marked (ended ++ current ∷ []) (ended ++ (current ++ Write a by ∷ []) ∷ []) old.iteration a by n (cell_at old.cells a) (told.cells a) region i (get_or old.regions.items h.place r.0) r.0 m (r.1.1)));
      cells = λ q. subst (λ (k : ℕ). IsCell (ended ++ (current ++ Write a by ∷ []) ∷ []) k q (cell_at new.cells q)) (sym h.iteration)
          (cells_so layout ended current (Write a by) a by writing below old new told h.place h.is_place (after_write old.iteration (cell_at old.cells a))
          (write_cell (ended ++ current ∷ []) (ended ++ (current ++ Write a by ∷ []) ∷ []) old.iteration a by n (cell_at old.cells a) (told.cells a)) h.cells q);
    }

-- a book that was told nothing more
pub told_same : (layout : Layout) (ended : List Trace) (current : Trace) (old new : Book) → IsSame old new → Told old layout ended current → Told new layout ended current
told_same layout ended current old new h told = record {
  laid = told.laid;
  starts = h.starts ∙ told.starts;
  iteration = h.iteration ∙ told.iteration;
  regions = subst (λ (ms : List Marks). AreMarked (ended ++ current ∷ []) (regions_of layout) ms) (sym h.regions) told.regions;
  cells = λ q. subst (λ (k : ℕ). IsCell (ended ++ current ∷ []) k q (cell_at new.cells q)) (sym h.iteration) (subst (λ (c : Cell). IsCell (ended ++ current ∷ []) old.iteration q c) (sym (h.cells q)) (told.cells q));
}

-- equal traces
all_agree : (old new : List Trace) → ((k : ℕ) → trace_of old k ≡ trace_of new k) → (regions : List Interval) (marks : List Marks) → AreMarked old regions marks → AreMarked new regions marks
all_agree old new e [] [] h = tt
all_agree old new e [] (m ∷ marks) h = h
all_agree old new e (region ∷ regions) [] h = h
all_agree old new e (region ∷ regions) (m ∷ marks) h = (marked_agree old new region (agree old new e region) m h.0, all_agree old new e regions marks h.1)

-- the end of an iteration
pub told_end : (layout : Layout) (ended : List Trace) (current : Trace) (old new : Book) → new.starts.items ≡ old.starts.items → new.regions.items ≡ old.regions.items → ((q : ℕ) → cell_at new.cells q ≡ cell_at old.cells q) → new.iteration ≡ suc old.iteration →
    Told old layout ended current → Told new layout (ended ++ current ∷ []) []
told_end layout ended current old new s r c n told =
    let e : (k : ℕ) → trace_of (ended ++ current ∷ []) k ≡ trace_of ((ended ++ current ∷ []) ++ [] ∷ []) k = λ k. sym (last_empty (ended ++ current ∷ []) k) in
    record {
      laid = told.laid;
      starts = s ∙ told.starts;
      iteration = n ∙ ap suc (told.iteration ∙ sym (one_more ended current));
      regions = subst (λ (ms : List Marks). AreMarked ((ended ++ current ∷ []) ++ [] ∷ []) (regions_of layout) ms) (sym r) (all_agree (ended ++ current ∷ []) ((ended ++ current ∷ []) ++ [] ∷ []) e (regions_of layout) old.regions.items told.regions);
      cells = λ q. subst (λ (k : ℕ). IsCell ((ended ++ current ∷ []) ++ [] ∷ []) k q (cell_at new.cells q)) (sym n) (subst (λ (d : Cell). IsCell ((ended ++ current ∷ []) ++ [] ∷ []) (suc old.iteration) q d) (sym (c q)) (ends e q));
    }
  where
    one_more : (ended : List Trace) (current : Trace) → length (ended ++ current ∷ []) ≡ suc (length ended)
    one_more [] current = refl
    one_more (first ∷ ended) current = ap suc (one_more ended current)

    ends : ((k : ℕ) → trace_of (ended ++ current ∷ []) k ≡ trace_of ((ended ++ current ∷ []) ++ [] ∷ []) k) → (q : ℕ) → IsCell ((ended ++ current ∷ []) ++ [] ∷ []) (suc old.iteration) q (cell_at old.cells q)
    ends e q =
        let h : IsCell ((ended ++ current ∷ []) ++ [] ∷ []) old.iteration q (cell_at old.cells q) = cell_alike (ended ++ current ∷ []) ((ended ++ current ∷ []) ++ [] ∷ []) q
        (record { touched = λ k. ap (λ t. is_touched t q) (sym (e k)); written = λ k. ap (λ t. is_written t q) (sym (e k)); exposed = λ k. ap (λ t. is_exposed t q) (sym (e k)) }) old.iteration (cell_at old.cells q) (told.cells q) in
        let past : length (ended ++ current ∷ []) < suc old.iteration = omega (arith, one_more ended current, told.iteration) in
        let none : trace_of ((ended ++ current ∷ []) ++ [] ∷ []) (suc old.iteration) ≡ [] = sym (e (suc old.iteration)) ∙ beyond (ended ++ current ∷ []) (suc old.iteration) past in
        record {
          writes = h.writes;
          exposes = h.exposes;
          now = ap (λ t. is_touched t q) none ∙ elim (by_test ((cell_at old.cells q).last == suc old.iteration)) [ inl f ↦ sym f | inr f ↦ let same : (cell_at old.cells q).last ≡ suc old.iteration = eqb-true (cell_at old.cells q).last (suc old.iteration) f in absurd (omega (arith, same, h.last)) ];
          last = omega (arith, h.last);
        }

-- a book that was told nothing
nothing : (k : ℕ) → trace_of ([] ∷ []) k ≡ []
nothing zero = refl
nothing (suc zero) = refl
nothing (suc (suc k)) = refl

all_unused : (regions : List Region) → AreMarked ([] ∷ []) (map (λ region. record { start = region.start; len = region.len }) regions) (map (λ region. unused) regions)
all_unused [] = tt
all_unused (region ∷ regions) = (
  record {
    uses = λ k a i. ap (λ t. is_touched t a) (nothing k);
    written = λ k a i. ap (λ t. is_written t a) (nothing k);
    conflict = λ a i. no_conflict a;
    flow = λ a i k j p. true≢false (sym p.pair.0 ∙ ap (λ t. is_written t a) (nothing k));
  },
  all_unused regions,
)
  where
    no_conflict : (a : ℕ) → HasNoConflict ([] ∷ []) a
    no_conflict a = none_written ([] ∷ []) a (λ k. ap (λ t. is_written t a) (nothing k))

same_starts : (regions : List Region) → map (λ region. region.start) regions ≡ starts (map (λ region. record { start = region.start; len = region.len }) regions)
same_starts [] = refl
same_starts (region ∷ regions) = ap (λ r. region.start ∷ r) (same_starts regions)

pub told_nothing : (layout : Layout) (book : Book) → book.starts.items ≡ map (λ region. region.start) layout.regions → book.regions.items ≡ map (λ region. unused) layout.regions → ((q : ℕ) → cell_at book.cells q ≡ untouched) → book.iteration ≡ 1 → IsLaid layout → Told book layout [] []
told_nothing layout book s r c n laid = record {
  laid = laid;
  starts = s ∙ same_starts layout.regions;
  iteration = n;
  regions = subst (λ (ms : List Marks). AreMarked ([] ∷ []) (regions_of layout) ms) (sym r) (all_unused layout.regions);
  cells = λ q. subst (λ (k : ℕ). IsCell ([] ∷ []) k q (cell_at book.cells q)) (sym n) (subst (λ (d : Cell). IsCell ([] ∷ []) 1 q d) (sym (c q)) (record {
    writes = λ k. ap (λ t. is_written t q) (nothing k);
    exposes = λ k. ap (λ t. is_exposed t q) (nothing k);
    now = refl;
    last = omega arith;
  }));
}
