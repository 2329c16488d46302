-- The processes of a sound program are those of a machine.
use Rattle.std.proofs.Common.{ℕ, ℤ, List, [], ◌∷◌, ◌≡◌, ◌⊎◌, inl, inr, Bool, true, false, Option, None, Some, if◌then◌else◌, refl, sym, ap, subst, ◌∙◌}
use Rattle.hyb_base.specs.declared.ops.RedOp.{RedOp}
use Rattle.hyb_base.proofs.Reductions.{operators_reduce}
use Rattle.f77_ast.specs.declared.fault.Fault.TheVariants.{DoVariableWritten}
use Rattle.f77_ast.specs.declared.program.Program.{Program}
use Rattle.f77_ast.specs.declared.step.Control.{Control}
use Rattle.f77_meaning.specs.Event.{Event, reads, writes, takes, moves, prints, ends, faults}
use Rattle.f77_meaning.specs.Laws.{CombinesWith}
use Rattle.f77_meaning.specs.Process.{Frame, Process, process_with}
use Rattle.f77_meaning.specs.Sound.{IsOf, IsSound}
use Rattle.f77_meaning.specs.Step.{Move, reading, writing, taking, moving, printing, ending, failing, done_by, event, event_of, move_of, once_done, resumed}
use Rattle.f77_meaning.proofs.Marks.{accumulations_combine, plain_reads_lead_to_none, fresh_frames_write_none}
use Rattle.f77_meaning.proofs.Stands.{IsOf-resumed, Leads, leads}
use Rattle.interleaving.proofs.LoopBlocks.{loop_blocks_interleave, loop_blocks_are_whole}
use Rattle.interleaving.proofs.LoopRegions.{loop_interleaves, loop_runs_alone, loop_is_whole, loop_do_prefixes}
use Rattle.interleaving.specs.Machine.{Machine, IsMachine, IsReady, Accumulates}
use Rattle.interleaving.specs.Machine as machine
use Rattle.f77_regions.specs.Iterations.{ends_iteration, event_in, machine_of, LoopsAreMachines, RegionsHold}
use Rattle.f77_regions.proofs.Fresh.{AreFresh, LeavesFresh, leaves_fresh}

-- a read in a region is one of the process
reads_back : (ordinal : ℕ) (ev : Event) (a : ℕ) (by : Option RedOp) → event_in ordinal ev ≡ machine.reads a by → ev ≡ reads a by
reads_back ordinal (reads b m) a by e = cc
reads_back ordinal (writes b v m control) a by e = absurd (none (ends_iteration ordinal control) e)
  where
    none : (t : Bool) → (if t then machine.ends else machine.writes b v m) ≡ machine.reads a by → ⊥
    none true e = absurd (cc)
    none false e = absurd (cc)
reads_back ordinal (takes b blocked) a by e = absurd (cc)
reads_back ordinal moves a by e = absurd (cc)
reads_back ordinal (prints text) a by e = absurd (cc)
reads_back ordinal ends a by e = absurd (cc)
reads_back ordinal (faults fault) a by e = absurd (cc)

-- a write in a region is one of the process
writes_back : (ordinal : ℕ) (ev : Event) (a : ℕ) (v : ℤ) (by : Option RedOp) → event_in ordinal ev ≡ machine.writes a v by → (control : Option Control) × (ev ≡ writes a v by control)
writes_back ordinal (reads b m) a v by e = absurd (cc)
writes_back ordinal (writes b w m control) a v by e = is (ends_iteration ordinal control) e
  where
    is : (t : Bool) → (if t then machine.ends else machine.writes b w m) ≡ machine.writes a v by → (c : Option Control) × (writes b w m control ≡ writes a v by c)
    is true e = absurd (cc)
    is false e = (control, cc)
writes_back ordinal (takes b blocked) a v by e = absurd (cc)
writes_back ordinal moves a v by e = absurd (cc)
writes_back ordinal (prints text) a v by e = absurd (cc)
writes_back ordinal ends a v by e = absurd (cc)
writes_back ordinal (faults fault) a v by e = absurd (cc)

-- a process that is done with its step is one of the program
IsOf-done_by : (program : Program) (move : Move) (p : Process) → IsOf program p → Leads program move → IsOf program (done_by move p)
IsOf-done_by program (reading address by frame below line) p is h = is
IsOf-done_by program (writing address value by control after) p is h = h
IsOf-done_by program (taking address blocked after) p is h = h
IsOf-done_by program (moving after) p is h = h
IsOf-done_by program (printing text after) p is h = h
IsOf-done_by program ending p is h = is
IsOf-done_by program (failing fault) p is h = is

IsOf-once_done : (program : Program) (p : Process) → IsSound program → IsOf program p → IsOf program (once_done program p)
IsOf-once_done program p sound is = IsOf-done_by program (move_of program p) p is (leads program p.frames p.line sound is.frames is.line)

-- frames without answers in the last one
abbrev IsFreshProcess : Process → Type 0
IsFreshProcess p = AreFresh p.frames

-- a process that is done with a write or a move has no answers
fresh_done : (move : Move) (p : Process) → LeavesFresh move → ((a : ℕ) (by : Option RedOp) → event_of move ≡ reads a by → ⊥) → (event_of move ≡ ends → ⊥) → ((f : _) → event_of move ≡ faults f → ⊥) → IsFreshProcess (done_by move p)
fresh_done (reading address by frame below line) p h r n f = absurd (r address by refl)
fresh_done (writing address value by control after) p h r n f = h
fresh_done (taking address blocked after) p h r n f = h
fresh_done (moving after) p h r n f = h
fresh_done (printing text after) p h r n f = h
fresh_done ending p h r n f = absurd (n refl)
fresh_done (failing fault) p h r n f = absurd (f fault refl)

module _ (program : Program) (sound : IsSound program) (ordinal : ℕ) where
  m : Machine Process RedOp ℤ
  m = machine_of program ordinal

  -- a process without answers is ready
  ready : (p : Process) → IsFreshProcess p → IsReady (machine_of program ordinal) p
  ready p fresh a v op e =
      let w : (control : Option Control) × (event program p ≡ writes a v (Some op) control) = writes_back ordinal (event program p) a v (Some op) e in
      by p.frames refl w.0 w.1
    where
      by : (frames : List Frame) → p.frames ≡ frames → (control : Option Control) → event program p ≡ writes a v (Some op) control → ⊥
      by [] h control w =
          let none : event program (process_with p.line []) ≡ writes a v (Some op) control = subst (λ fs. event program (process_with p.line fs) ≡ writes a v (Some op) control) h w in
          absurd (cc)
      by (frame ∷ below) h control w = fresh_frames_write_none program p frame below a v op control h (subst AreFresh h fresh) w

  ready_after : (p : Process) → ((a : ℕ) (by : Option RedOp) → event program p ≡ reads a by → ⊥) → (event program p ≡ ends → ⊥) → ((f : _) → event program p ≡ faults f → ⊥) → IsReady (machine_of program ordinal) (once_done program p)
  ready_after p r n f = ready (once_done program p) (fresh_done (move_of program p) p (leaves_fresh program p.frames p.line) r n f)

  accumulates : (p : Process) (a : ℕ) (op : RedOp) → event program p ≡ reads a (Some op) → Accumulates (machine_of program ordinal) p a op ⊎ ((x : ℤ) → event_in ordinal (event program (resumed program p x)) ≡ machine.faults)
  accumulates p a op e = by (accumulations_combine program p a op e)
    where
      by : CombinesWith program p a op ⊎ ((x : ℤ) → event program (resumed program p x) ≡ faults DoVariableWritten) → Accumulates (machine_of program ordinal) p a op ⊎ ((x : ℤ) → event_in ordinal (event program (resumed program p x)) ≡ machine.faults)
      by (inl c) = inl (record {
        added = c.added;
        after = c.after;
        combines = λ x. ap (event_in ordinal) (c.combines x);
        goes_on = c.goes_on;
        begins = λ x. (operators_reduce op).starts x c.added;
      })
      by (inr f) = inr (λ x. ap (event_in ordinal) (f x))

  written_is_no_read : (p : Process) (a : ℕ) (v : ℤ) (by : Option RedOp) → event_in ordinal (event program p) ≡ machine.writes a v by → (b : ℕ) (m : Option RedOp) → event program p ≡ reads b m → ⊥
  written_is_no_read p a v by e b m r = let c : machine.reads b m ≡ machine.writes a v by = sym (ap (event_in ordinal) r) ∙ e in absurd (cc)

  written_is_no_end : (p : Process) (a : ℕ) (v : ℤ) (by : Option RedOp) → event_in ordinal (event program p) ≡ machine.writes a v by → event program p ≡ ends → ⊥
  written_is_no_end p a v by e r = let c : machine.faults ≡ machine.writes a v by = sym (ap (event_in ordinal) r) ∙ e in absurd (cc)

  written_is_no_fault : (p : Process) (a : ℕ) (v : ℤ) (by : Option RedOp) → event_in ordinal (event program p) ≡ machine.writes a v by → (f : _) → event program p ≡ faults f → ⊥
  written_is_no_fault p a v by e f r = let c : machine.faults ≡ machine.writes a v by = sym (ap (event_in ordinal) r) ∙ e in absurd (cc)

  moved_is_no_read : (p : Process) → event_in ordinal (event program p) ≡ machine.moves → (b : ℕ) (m : Option RedOp) → event program p ≡ reads b m → ⊥
  moved_is_no_read p e b m r = let c : machine.reads b m ≡ machine.moves = sym (ap (event_in ordinal) r) ∙ e in absurd (cc)

  moved_is_no_end : (p : Process) → event_in ordinal (event program p) ≡ machine.moves → event program p ≡ ends → ⊥
  moved_is_no_end p e r = let c : machine.faults ≡ machine.moves = sym (ap (event_in ordinal) r) ∙ e in absurd (cc)

  moved_is_no_fault : (p : Process) → event_in ordinal (event program p) ≡ machine.moves → (f : _) → event program p ≡ faults f → ⊥
  moved_is_no_fault p e f r = let c : machine.faults ≡ machine.moves = sym (ap (event_in ordinal) r) ∙ e in absurd (cc)

  is_machine : IsMachine (machine_of program ordinal) (λ p. IsOf program p)
  is_machine = record {
    sound_resumed = λ p a by x is e. IsOf-resumed program p x sound is;
    sound_written = λ p a v by is e. IsOf-once_done program p sound is;
    sound_moved = λ p is e. IsOf-once_done program p sound is;
    accumulates = λ p a op is e. accumulates p a op (reads_back ordinal (event program p) a (Some op) e);
    ready_resumed = λ p a x is e b v op w.
        let back : (control : Option Control) × (event program (resumed program p x) ≡ writes b v (Some op) control) = writes_back ordinal (event program (resumed program p x)) b v (Some op) w in
        plain_reads_lead_to_none program p a b x v op back.0 (reads_back ordinal (event program p) a None e) back.1;
    ready_written = λ p a v by is e. ready_after p (written_is_no_read p a v by e) (written_is_no_end p a v by e) (written_is_no_fault p a v by e);
    ready_moved = λ p is e. ready_after p (moved_is_no_read p e) (moved_is_no_end p e) (moved_is_no_fault p e);
    associates = λ op x y z. (operators_reduce op).groups x y z;
  }

pub loops_are_machines : LoopsAreMachines
loops_are_machines program sound ordinal = is_machine program sound ordinal

pub regions_hold : RegionsHold
regions_hold program sound ordinal =
    let laws : IsMachine (machine_of program ordinal) (λ p. IsOf program p) = loops_are_machines program sound ordinal in
    record {
      interleaving = loop_interleaves Process RedOp ℤ (λ p. IsOf program p) (machine_of program ordinal) laws;
      alone = loop_runs_alone Process RedOp ℤ (λ p. IsOf program p) (machine_of program ordinal) laws;
      whole = loop_is_whole Process RedOp ℤ (λ p. IsOf program p) (machine_of program ordinal) laws;
      prefixes = loop_do_prefixes Process RedOp ℤ (λ p. IsOf program p) (machine_of program ordinal) laws;
      blocks_interleaving = loop_blocks_interleave Process RedOp ℤ (λ p. IsOf program p) (machine_of program ordinal) laws;
      blocks_whole = loop_blocks_are_whole Process RedOp ℤ (λ p. IsOf program p) (machine_of program ordinal) laws;
    }
