-- The marks of accumulations, over the steps of a process.
use Rattle.std.proofs.Common.{◌≡◌, ◌⊎◌, inl, inr, ℕ, zero, suc, ◌+◌, ◌-◌, ◌*◌, ℤ, pos, Bool, true, false, cond, List, [], ◌∷◌, ◌++◌, drop, Option, None, Some, refl, sym, ap, subst, ◌∙◌}
use Rattle.hyb_base.specs.Reduction.{apply}
use Rattle.hyb_base.specs.declared.ops.RedOp.{RedOp}
use Rattle.f77_ast.specs.Entity.{entity_in}
use Rattle.f77_ast.specs.declared.expr.Expr.{Expr}
use Rattle.f77_ast.specs.declared.expr.Ref.{Ref}
use Rattle.f77_ast.specs.declared.fault.Fault.TheVariants.{DoVariableWritten, DoRange, OutsideRegion, Subscript, ZeroIncrement}
use Rattle.f77_ast.specs.declared.program.Entity.{Entity}
use Rattle.f77_ast.specs.declared.program.Listed.{Listed}
use Rattle.f77_ast.specs.declared.program.Place.{Place}
use Rattle.f77_ast.specs.declared.program.Place.TheVariants.{Stored, Dummy, Constant}
use Rattle.f77_ast.specs.declared.program.Loop.{Loop}
use Rattle.f77_ast.specs.declared.program.Program.{Program}
use Rattle.f77_ast.specs.declared.step.Control.{Control}
use Rattle.f77_ast.specs.declared.step.Control.TheVariants.{Began}
use Rattle.f77_ast.specs.declared.stmt.Item.{Item}
use Rattle.f77_ast.specs.declared.stmt.Item as item
use Rattle.f77_ast.specs.declared.stmt.LoopControl.{LoopControl}
use Rattle.f77_ast.specs.declared.stmt.Stmt.{Stmt, Assign, Do, Print}
use Rattle.f77_structure.specs.Arrays.{array_named}
use Rattle.f77_structure.specs.Storage.{elements_of}
use Rattle.f77_structure.specs.Units.{statement_at}
use Rattle.f77_structure.specs.Values.{Value}
use Rattle.f77_meaning.specs.Assign.{Written, written_of}
use Rattle.f77_meaning.specs.Demand.{Demand, gives, wants, calls, fails, and_then, Setting, address_written, demand_of, is_outside, located, number_demand, place_of, setting_of, width}
use Rattle.f77_meaning.specs.Do.{Begun, Parameters, active_from, begun_at, begun_of, begun_with, increment_of, is_in_range, is_zero, parameters_of}
use Rattle.f77_meaning.specs.Event.{reads, writes, faults}
use Rattle.f77_meaning.specs.Laws.{CombinesWith, AccumulationsCombine, PlainReadsLeadToNone, FreshFramesWriteNone}
use Rattle.f77_meaning.specs.Print.{Printed, Printing, asks, enters, whole, stops, after_array_or_value, after_elements, after_item, after_items, after_value, element_after, next_cell, next_item, printed_of, text_of, with_text, within_limit}
use Rattle.f77_meaning.specs.Process.{ActiveLoop, Binding, Frame, Process, Stage, at_statement, at_inner, at_entry, at_increment, is_blocked, listed_of, process_with, with_answer, with_done}
use Rattle.f77_meaning.specs.Step.{Move, reading, writing, do_move, done_by, event, event_of, increment_move, listed_move, listing_in, loop_of_do, once_done, past_do, past_statement, print_move, resumed, resumed_by, stage_move, statement_move, unless_blocked, write_move}
use Rattle.f77_meaning.proofs.Accumulations.{Combined, written_accumulates}
use Rattle.f77_meaning.proofs.Demands.{address_asks, demand_asks, given, located_asks, number_asks, value_asks}
use Rattle.f77_meaning.proofs.Evaluations.{AsksInTurn, breaks, then_asks, unmarked}

-- a DO statement asks in turn
begun_asks : (s : Setting) (variable : Binding) (m : Parameters) → AsksInTurn Begun (begun_with s variable m)
begun_asks s variable m = by (is_outside s variable) (is_zero m.increment) (is_in_range m)
  where
    by : (o z r : Bool) → AsksInTurn Begun (λ rest. cond o (fails OutsideRegion) (cond z (fails ZeroIncrement) (cond r (and_then (address_written variable rest) (λ address more. gives (begun_at m address) more)) (fails DoRange))))
    by true z r = breaks (λ rest. fails OutsideRegion) OutsideRegion (λ answers. refl)
    by false true r = breaks (λ rest. fails ZeroIncrement) ZeroIncrement (λ answers. refl)
    by false false true = then_asks (address_written variable) (λ address more. gives (begun_at m address) more) (address_asks variable) (λ address. given (begun_at m address))
    by false false false = breaks (λ rest. fails DoRange) DoRange (λ answers. refl)

-- a frame at the same statement and stage, with the same bindings, bounds, active loops and implied DOs
pub record StaysAt (frame next : Frame) : Type 0 where
  pub unit : next.unit ≡ frame.unit
  pub at : next.at ≡ frame.at
  pub stage : next.stage ≡ frame.stage
  pub bindings : next.bindings ≡ frame.bindings
  pub bounds : next.bounds ≡ frame.bounds
  pub active : next.active ≡ frame.active
  pub implied : next.implied ≡ frame.implied

pub stays : (frame : Frame) → StaysAt frame frame
stays frame = record { unit = refl; at = refl; stage = refl; bindings = refl; bounds = refl; active = refl; implied = refl }

pub stays_done : (frame next : Frame) (items cells : ℕ) (answers : List ℤ) → StaysAt frame next → StaysAt frame (with_done items cells answers next)
stays_done frame next items cells answers k = record { unit = k.unit; at = k.at; stage = k.stage; bindings = k.bindings; bounds = k.bounds; active = k.active; implied = k.implied }

-- a PRINT asks for no value of an accumulation, and its frame stays at its statement
abbrev pub Unmarked : Frame → Printed → Type 0
Unmarked frame (asks address by p) = (by ≡ None) × StaysAt frame p.frame
Unmarked frame (enters unit bindings p) = Unit {0}
Unmarked frame (whole line) = Unit {0}
Unmarked frame (stops fault) = Unit {0}

module _ (s : Setting) where
  increment_asks : (o : Option Expr) → AsksInTurn ℤ (increment_of s o)
  increment_asks None = given (pos 1)
  increment_asks (Some e) = number_asks s e

  parameters_ask : (control : LoopControl) → AsksInTurn Parameters (parameters_of s control)
  parameters_ask control =
      then_asks (number_demand s control.first) (λ m1 rest. and_then (number_demand s control.last rest) (λ m2 more. and_then (increment_of s control.increment more) (λ m3 left. gives (record { first = m1; last = m2; increment = m3 }) left))) (number_asks s control.first)
      (λ m1. then_asks (number_demand s control.last) (λ m2 more. and_then (increment_of s control.increment more) (λ m3 left. gives (record { first = m1; last = m2; increment = m3 }) left)) (number_asks s control.last)
      (λ m2. then_asks (increment_of s control.increment) (λ m3 left. gives (record { first = m1; last = m2; increment = m3 }) left) (increment_asks control.increment)
      (λ m3. given (record { first = m1; last = m2; increment = m3 }))))

  do_asks : (control : LoopControl) → AsksInTurn Begun (begun_of s control)
  do_asks control =
      then_asks (parameters_of s control) (λ m rest. and_then (located s (entity_in s.program.layout.entities s.unit control.variable) None rest) (λ variable more. begun_with s variable.bound m more)) (parameters_ask control)
      (λ m. then_asks (located s (entity_in s.program.layout.entities s.unit control.variable) None) (λ variable more. begun_with s variable.bound m more) (located_asks s (entity_in s.program.layout.entities s.unit control.variable) None tt)
      (λ variable. begun_asks s variable.bound m))

  module _ (frame : Frame) where
    -- what goes on from a PRINT whose frame stays
    abbrev Goes : (Printing → Printed) → Type 0
    Goes go = (q : Printing) → StaysAt frame q.frame → Unmarked frame (go q)

    limit_unmarked : (o : Option (List ℕ)) (go : List ℕ → Printed) → ((line : List ℕ) → Unmarked frame (go line)) → Unmarked frame (within_limit o go)
    limit_unmarked None go h = tt
    limit_unmarked (Some line) go h = h line

    item_done : (p : Printing) (line : List ℕ) → StaysAt frame p.frame → StaysAt frame (next_item p line).frame
    item_done p line k = stays_done frame p.frame (suc p.frame.items) 0 [] k

    cell_done : (p : Printing) (line : List ℕ) → StaysAt frame p.frame → StaysAt frame (next_cell p line).frame
    cell_done p line k = stays_done frame p.frame p.frame.items (suc p.frame.cells) [] k

    value_unmarked : (d : List ℤ → Demand Value) (p : Printing) (go : List ℕ → Printed) → AsksInTurn Value d → ((line : List ℕ) → Unmarked frame (go line)) → StaysAt frame p.frame → Unmarked frame (after_value (d p.frame.answers) p go)
    value_unmarked d p go turns h k = by (d p.frame.answers) refl
      where
        by : (r : Demand Value) → d p.frame.answers ≡ r → Unmarked frame (after_value r p go)
        by (gives value rest) e = limit_unmarked (with_text p.line (text_of value)) go h
        by (wants address m) e = (unmarked d p.frame.answers address m turns e, k)
        by (calls unit bindings) e = tt
        by (fails fault) e = tt

    element_asks : (array : Entity) (place : Place) (done : ℕ) → AsksInTurn Value (element_after s array place done)
    element_asks array (Stored first) done = value_asks s (place_of s array (first + done * width array.kind array.len))
    element_asks array (Dummy k) done = breaks (element_after s array (Dummy k) done) Subscript (λ answers. refl)
    element_asks array (Constant value) done = breaks (element_after s array (Constant value) done) Subscript (λ answers. refl)

    elements_unmarked : (array : Entity) (left : ℕ) (p : Printing) (go : Printing → Printed) → Goes go → StaysAt frame p.frame → Unmarked frame (after_elements s array left p go)
    elements_unmarked array zero p go h k = h (next_item p p.line) (item_done p p.line k)
    elements_unmarked array (suc left) p go h k =
        value_unmarked (element_after s array array.place p.frame.cells) p (λ line. after_elements s array left (next_cell p line) go) (element_asks array array.place p.frame.cells)
        (λ line. elements_unmarked array left (next_cell p line) go h (cell_done p line k)) k

    either_unmarked : (o : Option Entity) (d : List ℤ → Demand Value) (p : Printing) (go : Printing → Printed) → AsksInTurn Value d → Goes go → StaysAt frame p.frame → Unmarked frame (after_array_or_value s o d p go)
    either_unmarked (Some array) d p go turns h k = elements_unmarked array (elements_of array - p.frame.cells) p go h k
    either_unmarked None d p go turns h k = value_unmarked d p (λ line. go (next_item p line)) turns (λ line. h (next_item p line) (item_done p line k)) k

    item_unmarked : (i : Item) (p : Printing) (go : Printing → Printed) → Goes go → StaysAt frame p.frame → Unmarked frame (after_item s i p go)
    item_unmarked (item.Plain expr) p go h k = either_unmarked (array_named s.program.layout s.unit expr) (demand_of s expr) p go (demand_asks s expr) h k
    item_unmarked (item.Implied' items rest control) p go h k = h (next_item p p.line) (item_done p p.line k)

    items_unmarked : (items : List Item) (p : Printing) → StaysAt frame p.frame → Unmarked frame (after_items s items p)
    items_unmarked [] p k = tt
    items_unmarked (first ∷ items) p k = item_unmarked first p (after_items s items) (λ q stays. items_unmarked items q stays) k

    -- where a PRINT comes to from a frame
    pub printed_unmarked : (items : List Item) (line : List ℕ) → Unmarked frame (printed_of s items frame line)
    printed_unmarked items line = items_unmarked (drop frame.items items) (record { frame = frame; line = line }) (stays frame)

-- a read, as what a process does next
abbrev Reads : Move → ℕ → Option RedOp → Type 0
Reads move address by = event_of move ≡ reads address by

-- a marked write
abbrev WritesMarked : Move → RedOp → Type 0
WritesMarked move op = (address : ℕ) (value : ℤ) (control : Option Control) → event_of move ≡ writes address value (Some op) control → ⊥

module _ (program : Program) (frame : Frame) (below : List Frame) (line : List ℕ) where
  -- PRINT and DO read nothing of an accumulation
  print_reads_plainly : (p : Printed) (address : ℕ) (op : RedOp) → Unmarked frame p → Reads (print_move program frame below line p) address (Some op) → ⊥
  print_reads_plainly (asks a by p) address op u e = let m : by ≡ Some op = (let c : reads a by ≡ reads address (Some op) = e in cc) in let n : None ≡ Some op = sym u.0 ∙ m in absurd (cc)
  print_reads_plainly (enters unit bindings p) address op u e = absurd (cc)
  print_reads_plainly (whole text) address op u e = absurd (cc)
  print_reads_plainly (stops fault) address op u e = absurd (cc)

  print_writes_none : (p : Printed) (address : ℕ) (value : ℤ) (by : Option RedOp) (control : Option Control) → event_of (print_move program frame below line p) ≡ writes address value by control → ⊥
  print_writes_none (asks a m p) address value by control e = absurd (cc)
  print_writes_none (enters unit bindings p) address value by control e = absurd (cc)
  print_writes_none (whole text) address value by control e = absurd (cc)
  print_writes_none (stops fault) address value by control e = absurd (cc)

  begin_reads_plainly : (loop : Option Loop) (d : Demand Begun) (address : ℕ) (op : RedOp) → ((a : ℕ) (m : Option RedOp) → d ≡ wants a m → m ≡ None) → Reads (do_move program frame below line loop d) address (Some op) → ⊥
  begin_reads_plainly None d address op u e = absurd (cc)
  begin_reads_plainly (Some loop) (gives b rest) address op u e = by (is_blocked b.variable (frame ∷ below)) e
    where
      by : (blocked : Bool) → Reads (unless_blocked blocked (writing b.variable b.first None (Some (Began loop.ordinal)) (process_with line (past_do program (active_from (listing_in program frame) frame.at loop b) frame ∷ below)))) address (Some op) → ⊥
      by true e = absurd (cc)
      by false e = absurd (cc)
  begin_reads_plainly (Some loop) (wants a m) address op u e =
      let c : m ≡ Some op = (let k : reads a m ≡ reads address (Some op) = e in cc) in
      let n : None ≡ Some op = sym (u a m refl) ∙ c in
      absurd (cc)
  begin_reads_plainly (Some loop) (calls unit bindings) address op u e = absurd (cc)
  begin_reads_plainly (Some loop) (fails fault) address op u e = absurd (cc)

  begin_writes_plainly : (loop : Option Loop) (d : Demand Begun) (address : ℕ) (value : ℤ) (op : RedOp) (control : Option Control) → event_of (do_move program frame below line loop d) ≡ writes address value (Some op) control → ⊥
  begin_writes_plainly None d address value op control e = absurd (cc)
  begin_writes_plainly (Some loop) (gives b rest) address value op control e = by (is_blocked b.variable (frame ∷ below)) e
    where
      by : (blocked : Bool) → event_of (unless_blocked blocked (writing b.variable b.first None (Some (Began loop.ordinal)) (process_with line (past_do program (active_from (listing_in program frame) frame.at loop b) frame ∷ below)))) ≡ writes address value (Some op) control → ⊥
      by true e = absurd (cc)
      by false e = absurd (cc)
  begin_writes_plainly (Some loop) (wants a m) address value op control e = absurd (cc)
  begin_writes_plainly (Some loop) (calls unit bindings) address value op control e = absurd (cc)
  begin_writes_plainly (Some loop) (fails fault) address value op control e = absurd (cc)

  increment_writes_plainly : (active : List ActiveLoop) (address : ℕ) (value : ℤ) (op : RedOp) (control : Option Control) → event_of (increment_move program frame below line active) ≡ writes address value (Some op) control → ⊥
  increment_writes_plainly [] address value op control e = absurd (cc)
  increment_writes_plainly (loop ∷ outer) address value op control e = absurd (cc)

  increment_reads_none : (active : List ActiveLoop) (address : ℕ) (by : Option RedOp) → Reads (increment_move program frame below line active) address by → ⊥
  increment_reads_none [] address by e = absurd (cc)
  increment_reads_none (loop ∷ outer) address by e = absurd (cc)

  -- an assignment reads what its evaluation wants, and waits as it is
  assign_reads : (d : Demand Written) (address : ℕ) (by : Option RedOp) → Reads (write_move program frame below line d) address by → (d ≡ wants address by) × (write_move program frame below line d ≡ reading address by frame below line)
  assign_reads (gives w rest) address by e = absurd (none (is_blocked w.address (frame ∷ below)) e)
    where
      none : (blocked : Bool) → Reads (unless_blocked blocked (writing w.address w.value w.by None (process_with line (past_statement program frame ∷ below)))) address by → ⊥
      none true e = absurd (cc)
      none false e = absurd (cc)
  assign_reads (wants a m) address by e = let c : reads a m ≡ reads address by = e in let same : wants a m ≡ wants address by = cc in (same, ap (λ d. write_move program frame below line d) same)
  assign_reads (calls unit bindings) address by e = absurd (cc)
  assign_reads (fails fault) address by e = absurd (cc)

  -- and it writes what that gives
  assign_writes : (d : Demand Written) (address : ℕ) (value : ℤ) (op : RedOp) (control : Option Control) → event_of (write_move program frame below line d) ≡ writes address value (Some op) control → (w : Written) × (rest : List ℤ) × (d ≡ gives w rest) × (w.by ≡ Some op)
  assign_writes (gives w rest) address value op control e = by (is_blocked w.address (frame ∷ below)) e
    where
      by : (blocked : Bool) → event_of (unless_blocked blocked (writing w.address w.value w.by None (process_with line (past_statement program frame ∷ below)))) ≡ writes address value (Some op) control → (v : Written) × (more : List ℤ) × (gives w rest ≡ gives v more) × (v.by ≡ Some op)
      by true e = absurd (cc)
      by false e = let c : writes w.address w.value w.by None ≡ writes address value (Some op) control = e in (w, rest, refl, cc)
  assign_writes (wants a m) address value op control e = absurd (cc)
  assign_writes (calls unit bindings) address value op control e = absurd (cc)
  assign_writes (fails fault) address value op control e = absurd (cc)

-- a frame with these answers
abbrev answering : List ℤ → Frame → Frame
answering answers frame = record frame { answers = answers }

-- a frame at an assignment
record Assigning (program : Program) (frame : Frame) : Type 0 where
  target : Ref
  value : Expr
  listed : Listed
  staged : frame.stage ≡ at_statement
  here : listed_of program frame ≡ Some listed
  is : listed.stmt ≡ Assign target value

module _ (program : Program) (frame : Frame) (below : List Frame) (line : List ℕ) where
  -- at a statement, with any frame that is there
  at_stmt : (listed : Listed) (s : Stmt) (next : Frame) → next.stage ≡ at_statement → listed_of program next ≡ Some listed → listed.stmt ≡ s → (text : List ℕ) →
      stage_move program next below text next.stage ≡ statement_move program next below text s
  at_stmt listed s next staged here is text =
      ap (stage_move program next below text) staged
      ∙ ap (listed_move program next below text) here
      ∙ ap (statement_move program next below text) is

  -- the frame's own move
  own : Move
  own = stage_move program frame below line frame.stage

  -- only an assignment reads for an accumulation
  abbrev MarkedRead : (address : ℕ) (op : RedOp) → Type 0
  MarkedRead address op = (a : Assigning program frame) × (written_of (setting_of program frame) a.target a.value frame.answers ≡ wants address (Some op)) × (stage_move program frame below line frame.stage ≡ reading address (Some op) frame below line)

  marked_read : (address : ℕ) (op : RedOp) → Reads (stage_move program frame below line frame.stage) address (Some op) → MarkedRead address op
  marked_read address op e = staged frame.stage refl e
    where
      stated : (listed : Listed) → frame.stage ≡ at_statement → listed_of program frame ≡ Some listed → (s : Stmt) → listed.stmt ≡ s → Reads (statement_move program frame below line s) address (Some op) → MarkedRead address op
      stated listed st here (Assign target value) is e =
          let r : (written_of (setting_of program frame) target value frame.answers ≡ wants address (Some op)) × (write_move program frame below line (written_of (setting_of program frame) target value frame.answers) ≡ reading address (Some op) frame below line) =
          assign_reads program frame below line (written_of (setting_of program frame) target value frame.answers) address (Some op) e in
          (record { target = target; value = value; listed = listed; staged = st; here = here; is = is }, r.0, at_stmt listed (Assign target value) frame st here is line ∙ r.1)
      stated listed st here (Do terminal control) is e =
          absurd (begin_reads_plainly program frame below line (loop_of_do program frame.unit frame.at) (begun_of (setting_of program frame) control frame.answers) address op
          (λ a m h. unmarked (begun_of (setting_of program frame) control) frame.answers a m (do_asks (setting_of program frame) control) h) e)
      stated listed st here (Print items) is e =
          absurd (print_reads_plainly program frame below line (printed_of (setting_of program frame) items frame line) address op
          (printed_unmarked (setting_of program frame) frame items line) e)
      stated listed st here _ is e = absurd (cc)

      listed_by : frame.stage ≡ at_statement → (found : Option Listed) → listed_of program frame ≡ found → Reads (listed_move program frame below line found) address (Some op) → MarkedRead address op
      listed_by st None here e = absurd (cc)
      listed_by st (Some listed) here e = stated listed st here listed.stmt refl e

      staged : (stage : Stage) → frame.stage ≡ stage → Reads (stage_move program frame below line stage) address (Some op) → MarkedRead address op
      staged at_statement st e = listed_by st (listed_of program frame) refl e
      staged at_inner st e = absurd (cc)
      staged at_entry st e = absurd (cc)
      staged at_increment st e = absurd (increment_reads_none program frame below line frame.active address (Some op) e)

  -- only an assignment writes one
  abbrev MarkedWrite : (op : RedOp) → Type 0
  MarkedWrite op = (a : Assigning program frame) × (w : Written) × (rest : List ℤ) × (written_of (setting_of program frame) a.target a.value frame.answers ≡ gives w rest) × (w.by ≡ Some op)

  marked_write : (address : ℕ) (value : ℤ) (op : RedOp) (control : Option Control) → event_of (stage_move program frame below line frame.stage) ≡ writes address value (Some op) control → MarkedWrite op
  marked_write address value op control e = staged frame.stage refl e
    where
      stated : (listed : Listed) → frame.stage ≡ at_statement → listed_of program frame ≡ Some listed → (s : Stmt) → listed.stmt ≡ s → event_of (statement_move program frame below line s) ≡ writes address value (Some op) control → MarkedWrite op
      stated listed st here (Assign target v) is e =
          let r : (w : Written) × (rest : List ℤ) × (written_of (setting_of program frame) target v frame.answers ≡ gives w rest) × (w.by ≡ Some op) =
          assign_writes program frame below line (written_of (setting_of program frame) target v frame.answers) address value op control e in
          (record { target = target; value = v; listed = listed; staged = st; here = here; is = is }, r.0, r.1, r.2, r.3)
      stated listed st here (Do terminal c) is e = absurd (begin_writes_plainly program frame below line (loop_of_do program frame.unit frame.at) (begun_of (setting_of program frame) c frame.answers) address value op control e)
      stated listed st here (Print items) is e = absurd (print_writes_none program frame below line (printed_of (setting_of program frame) items frame line) address value (Some op) control e)
      stated listed st here _ is e = absurd (cc)

      listed_by : frame.stage ≡ at_statement → (found : Option Listed) → listed_of program frame ≡ found → event_of (listed_move program frame below line found) ≡ writes address value (Some op) control → MarkedWrite op
      listed_by st None here e = absurd (cc)
      listed_by st (Some listed) here e = stated listed st here listed.stmt refl e

      staged : (stage : Stage) → frame.stage ≡ stage → event_of (stage_move program frame below line stage) ≡ writes address value (Some op) control → MarkedWrite op
      staged at_statement st e = listed_by st (listed_of program frame) refl e
      staged at_inner st e = absurd (cc)
      staged at_entry st e = absurd (cc)
      staged at_increment st e = absurd (increment_writes_plainly program frame below line frame.active address value op control e)

  -- a process of this frame
  abbrev here_is : Process
  here_is = process_with line (frame ∷ below)

  -- the law on accumulations, of this process
  combine : (address : ℕ) (op : RedOp) → event program here_is ≡ reads address (Some op) → CombinesWith program here_is address op ⊎ ((x : ℤ) → event program (resumed program here_is x) ≡ faults DoVariableWritten)
  combine address op e = by (is_blocked address (frame ∷ below)) refl
    where
      m : MarkedRead address op
      m = marked_read address op e

      a : Assigning program frame
      a = m.0

      c : Combined (written_of (setting_of program frame) a.target a.value) frame.answers address op
      c = (written_accumulates (setting_of program frame) a.target a.value).combined frame.answers address op m.1

      -- the process that has the answer
      got : (x : ℤ) → resumed program here_is x ≡ process_with line (with_answer x frame ∷ below)
      got x = ap (λ move. resumed_by move here_is x) m.2

      written : ℤ → Written
      written x = record { address = address; value = apply op x c.added; by = Some op }

      next : (x : ℤ) → stage_move program (with_answer x frame) below line frame.stage ≡ unless_blocked (is_blocked address (frame ∷ below)) (writing address (apply op x c.added) (Some op) None (process_with line (past_statement program frame ∷ below)))
      next x = at_stmt a.listed (Assign a.target a.value) (with_answer x frame) a.staged a.here a.is line ∙ ap (λ d. write_move program (with_answer x frame) below line d) (c.writes x)

      by : (blocked : Bool) → is_blocked address (frame ∷ below) ≡ blocked → CombinesWith program here_is address op ⊎ ((x : ℤ) → event program (resumed program here_is x) ≡ faults DoVariableWritten)
      by true h = inr (λ x. ap (event program) (got x) ∙ ap event_of (next x ∙ ap (λ b. unless_blocked b (writing address (apply op x c.added) (Some op) None (process_with line (past_statement program frame ∷ below)))) h))
      by false h = inl (record {
        added = c.added;
        after = process_with line (past_statement program frame ∷ below);
        combines = λ x. ap (event program) (got x) ∙ ap event_of (next x ∙ ap (λ b. unless_blocked b (writing address (apply op x c.added) (Some op) None (process_with line (past_statement program frame ∷ below)))) h);
        goes_on = λ x. ap (once_done program) (got x)
            ∙ ap (λ move. done_by move (process_with line (with_answer x frame ∷ below))) (next x ∙ ap (λ b. unless_blocked b (writing address (apply op x c.added) (Some op) None (process_with line (past_statement program frame ∷ below)))) h);
      })

  -- a frame without answers writes none
  fresh : (written : ℕ) (value : ℤ) (op : RedOp) (control : Option Control) → frame.answers ≡ [] → event program here_is ≡ writes written value (Some op) control → ⊥
  fresh written value op control none e =
      let m : MarkedWrite op = marked_write written value op control e in
      (written_accumulates (setting_of program frame) m.0.target m.0.value).fresh m.2 m.1 op (ap (written_of (setting_of program frame) m.0.target m.0.value) (sym none) ∙ m.3) m.4

  -- after a plain read comes none
  plain : (address written : ℕ) (x value : ℤ) (op : RedOp) (control : Option Control) → event program here_is ≡ reads address None → event program (resumed program here_is x) ≡ writes written value (Some op) control → ⊥
  plain address written x value op control e w = staged frame.stage refl e
    where
      stated : (listed : Listed) → frame.stage ≡ at_statement → listed_of program frame ≡ Some listed → (s : Stmt) → listed.stmt ≡ s → Reads (statement_move program frame below line s) address None → ⊥
      stated listed st here (Assign target v) is e =
          let d : Demand Written = written_of (setting_of program frame) target v frame.answers in
          let r : (d ≡ wants address None) × (write_move program frame below line d ≡ reading address None frame below line) = assign_reads program frame below line d address None e in
          let got : resumed program here_is x ≡ process_with line (with_answer x frame ∷ below) =
          ap (λ move. resumed_by move here_is x) (at_stmt listed (Assign target v) frame st here is line ∙ r.1) in
          let next : event_of (write_move program (with_answer x frame) below line (written_of (setting_of program frame) target v (frame.answers ++ x ∷ []))) ≡ writes written value (Some op) control =
          sym (ap event_of (at_stmt listed (Assign target v) (with_answer x frame) st here is line)) ∙ sym (ap (event program) got) ∙ w in
          let g : (y : Written) × (rest : List ℤ) × (written_of (setting_of program frame) target v (frame.answers ++ x ∷ []) ≡ gives y rest) × (y.by ≡ Some op) =
          assign_writes program (with_answer x frame) below line (written_of (setting_of program frame) target v (frame.answers ++ x ∷ [])) written value op control next in
          (written_accumulates (setting_of program frame) target v).plain frame.answers g.1 address x g.0 op r.0 g.2 g.3
      stated listed st here (Do terminal c) is e = by (loop_of_do program frame.unit frame.at) refl (begun_of (setting_of program frame) c frame.answers) refl e
        where
          same : stage_move program frame below line frame.stage ≡ statement_move program frame below line (Do terminal c)
          same = at_stmt listed (Do terminal c) frame st here is line

          waits : (a : ℕ) (m : Option RedOp) → statement_move program frame below line (Do terminal c) ≡ reading a m frame below line → ⊥
          waits a m h =
              let got : resumed program here_is x ≡ process_with line (with_answer x frame ∷ below) = ap (λ move. resumed_by move here_is x) (same ∙ h) in
              begin_writes_plainly program (with_answer x frame) below line (loop_of_do program frame.unit frame.at) (begun_of (setting_of program frame) c (frame.answers ++ x ∷ [])) written value op control
              (sym (ap event_of (at_stmt listed (Do terminal c) (with_answer x frame) st here is line)) ∙ sym (ap (event program) got) ∙ w)

          by : (o : Option Loop) → loop_of_do program frame.unit frame.at ≡ o → (d : Demand Begun) → begun_of (setting_of program frame) c frame.answers ≡ d → Reads (do_move program frame below line o d) address None → ⊥
          by None f d g e = absurd (cc)
          by (Some loop) f (gives b rest) g e = none (is_blocked b.variable (frame ∷ below)) e
            where
              none : (blocked : Bool) → Reads (unless_blocked blocked (writing b.variable b.first None (Some (Began loop.ordinal)) (process_with line (past_do program (active_from (listing_in program frame) frame.at loop b) frame ∷ below)))) address None → ⊥
              none true e = absurd (cc)
              none false e = absurd (cc)
          by (Some loop) f (wants a m) g e = waits a m (λ i. do_move program frame below line (f i) (g i))
          by (Some loop) f (calls unit bindings) g e = absurd (cc)
          by (Some loop) f (fails fault) g e = absurd (cc)
      stated listed st here (Print items) is e = by (printed_of (setting_of program frame) items frame line) refl e
        where
          same : stage_move program frame below line frame.stage ≡ statement_move program frame below line (Print items)
          same = at_stmt listed (Print items) frame st here is line

          by : (p : Printed) → printed_of (setting_of program frame) items frame line ≡ p → Reads (print_move program frame below line p) address None → ⊥
          by (asks a m p) h e =
              let got : resumed program here_is x ≡ process_with p.line (with_answer x p.frame ∷ below) = ap (λ move. resumed_by move here_is x) (same ∙ ap (λ q. print_move program frame below line q) h) in
              let f : Frame = with_answer x p.frame in
              let stays : StaysAt frame p.frame = (subst (Unmarked frame) h (printed_unmarked (setting_of program frame) frame items line)).1 in
              let there : listed_of program p.frame ≡ Some listed = (λ i. statement_at program (stays.unit i) (stays.at i)) ∙ here in
              print_writes_none program f below p.line (printed_of (setting_of program f) items f p.line) written value (Some op) control
              (sym (ap event_of (at_stmt listed (Print items) f (stays.stage ∙ st) there is p.line)) ∙ sym (ap (event program) got) ∙ w)
          by (enters unit bindings p) h e = absurd (cc)
          by (whole text) h e = absurd (cc)
          by (stops fault) h e = absurd (cc)
      stated listed st here _ is e = absurd (cc)

      listed_by : frame.stage ≡ at_statement → (found : Option Listed) → listed_of program frame ≡ found → Reads (listed_move program frame below line found) address None → ⊥
      listed_by st None here e = absurd (cc)
      listed_by st (Some listed) here e = stated listed st here listed.stmt refl e

      staged : (stage : Stage) → frame.stage ≡ stage → Reads (stage_move program frame below line stage) address None → ⊥
      staged at_statement st e = listed_by st (listed_of program frame) refl e
      staged at_inner st e = absurd (cc)
      staged at_entry st e = absurd (cc)
      staged at_increment st e = increment_reads_none program frame below line frame.active address None e

-- the laws
pub accumulations_combine : AccumulationsCombine
accumulations_combine program p address op e = by p.frames refl e
  where
    by : (frames : List Frame) → p.frames ≡ frames → event program (process_with p.line frames) ≡ reads address (Some op) → CombinesWith program (process_with p.line frames) address op ⊎ ((x : ℤ) → event program (resumed program (process_with p.line frames) x) ≡ faults DoVariableWritten)
    by [] h e = absurd (cc)
    by (frame ∷ below) h e = combine program frame below p.line address op e

pub plain_reads_lead_to_none : PlainReadsLeadToNone
plain_reads_lead_to_none program p address written x value op control e w = by p.frames refl e w
  where
    by : (frames : List Frame) → p.frames ≡ frames → event program (process_with p.line frames) ≡ reads address None → event program (resumed program (process_with p.line frames) x) ≡ writes written value (Some op) control → ⊥
    by [] h e w = absurd (cc)
    by (frame ∷ below) h e w = plain program frame below p.line address written x value op control e w

pub fresh_frames_write_none : FreshFramesWriteNone
fresh_frames_write_none program p frame below written value op control frames none e =
    fresh program frame below p.line written value op control none (subst (λ fs. event program (process_with p.line fs) ≡ writes written value (Some op) control) frames e)
