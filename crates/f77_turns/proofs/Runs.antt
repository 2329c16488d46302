-- A run, cut after some of its steps.
use Rattle.std.proofs.Common.{◌≡◌, ◌≢◌, ◌⊎◌, inl, inr, ℕ, zero, suc, ◌+◌, ℤ, pos, length, List, [], ◌∷◌, ◌++◌, refl, sym, ap, subst, ◌∙◌, arith, append_assoc, length-set}
use Rattle.std.specs.Prelude.{slice_index_or, slice_set}
use Rattle.f77_ast.specs.declared.program.Program.{Program}
use Rattle.f77_structure.specs.Units.{source_line}
use Rattle.f77_meaning.specs.Process.{Process, listed_at}
use Rattle.f77_meaning.specs.Run.{Run, Shown, Line, Ended, Faulted, Spent, stopped, prefixed, after, run_from}
use Rattle.f77_meaning.specs.Sound.{Fits, IsOf, IsSound}
use Rattle.f77_meaning.specs.Step.{Move, reading, writing, taking, moving, printing, ending, failing, move_of, resumed_by}
use Rattle.f77_meaning.specs.StepOutcome.{on_input, input_after}
use Rattle.f77_meaning.proofs.Stands.{Leads, leads, leads_on_input, IsOf-resumed_by}
use Rattle.f77_turns.specs.Composed.{Stops, GoesOn, RunsCompose}

-- one step of a run: it is the last one, or shows something and leads to a process and a storage
data OneStep (program : Program) (p : Process) (store : List ℤ) (step : (Process → List ℤ → Run) → Run) : Type 0 where
  last : (run : Run) → run.end ≢ Spent → ((go : Process → List ℤ → Run) → step go ≡ run) → OneStep program p store step
  leads_to : (shown : List Shown) (next : Process) (new : List ℤ) → IsOf program next → length new ≡ length store → ((go : Process → List ℤ → Run) → step go ≡ prefixed shown 1 (go next new)) → OneStep program p store step

ended : Ended ≢ Spent
ended e = absurd (cc)

faulted : (f : _) (line : ℕ) → Faulted f line ≢ Spent
faulted f line e = absurd (cc)

-- what a process does next, as a step of a run
one_step : (program : Program) (p : Process) (store : List ℤ) (line : ℕ) (move : Move) → IsOf program p → Leads program move → OneStep program p store (after move p store line)
one_step program p store line (reading address by frame below text) is h = leads_to [] (resumed_by (reading address by frame below text) p (slice_index_or store address (pos 0))) store (IsOf-resumed_by program (reading address by frame below text) p (slice_index_or store address (pos 0)) is h) refl (λ go. refl)
one_step program p store line (writing address value by control frames) is h = leads_to [] (resumed_by (writing address value by control frames) p (pos 0)) (slice_set store address value) (IsOf-resumed_by program (writing address value by control frames) p (pos 0) is h) (length-set store address value) (λ go. refl)
one_step program p store line (taking address blocked frames) is h = leads_to [] (resumed_by (taking address blocked frames) p (pos 0)) store (IsOf-resumed_by program (taking address blocked frames) p (pos 0) is h) refl (λ go. refl)
one_step program p store line (moving frames) is h = leads_to [] (resumed_by (moving frames) p (pos 0)) store (IsOf-resumed_by program (moving frames) p (pos 0) is h) refl (λ go. refl)
one_step program p store line (printing text frames) is h = leads_to (Line text ∷ []) (resumed_by (printing text frames) p (pos 0)) store (IsOf-resumed_by program (printing text frames) p (pos 0) is h) refl (λ go. refl)
one_step program p store line ending is h = last (stopped store 1 Ended) ended (λ go. refl)
one_step program p store line (failing fault) is h = last (stopped store 1 (Faulted fault line)) (faulted fault line) (λ go. refl)

-- steps before steps before a run
prefixed_twice : (first second : List Shown) (k : ℕ) (run : Run) → prefixed first 1 (prefixed second k run) ≡ prefixed (first ++ second) (suc k) run
prefixed_twice first second k run =
    let steps : 1 + (k + run.steps) ≡ suc k + run.steps = omega arith in
    let shown : first ++ (second ++ run.shown) ≡ (first ++ second) ++ run.shown = sym (append_assoc first second run.shown) in
    λ i. record { shown = shown i; store = run.store; steps = steps i; end = run.end }

-- no steps before a run
none_before : (run : Run) → prefixed [] 0 run ≡ run
none_before run =
    let steps : 0 + run.steps ≡ run.steps = omega arith in
    λ i. record { shown = run.shown; store = run.store; steps = steps i; end = run.end }

more : (k n : ℕ) → suc k + n ≡ suc (k + n)
more k n = omega arith

module _ (program : Program) (sound : IsSound program) where
  -- the step that a run begins with
  begins : (p : Process) (store : List ℤ) (input : List ℕ) → IsOf program p → OneStep program p store (after (on_input (move_of program p) input) p store (source_line (listed_at program p)))
  begins p store input is =
      one_step program p store (source_line (listed_at program p)) (on_input (move_of program p) input) is
      (leads_on_input program (move_of program p) input (leads program p.frames p.line sound is.frames is.line))

  pub compose : (k : ℕ) (p : Process) (store : List ℤ) (input : List ℕ) → IsOf program p → Stops program p store input k ⊎ GoesOn program p store input k
  compose zero p store input is = inr (record { process = p; left = input; spends = refl; is_of = is; fits = λ fits. fits; same = λ n. nothing n })
    where
      nothing : (n : ℕ) → run_from program p store input (0 + n) ≡ prefixed [] 0 (run_from program p store input n)
      nothing n =
          let e : 0 + n ≡ n = omega arith in
          ap (run_from program p store input) e ∙ sym (none_before (run_from program p store input n))
  compose (suc k) p store input is = by (compose k) (begins p store input is)
    where
      left : List ℕ
      left = input_after (move_of program p) input

      step : (Process → List ℤ → Run) → Run
      step = after (on_input (move_of program p) input) p store (source_line (listed_at program p))

      go : ℕ → Process → List ℤ → Run
      go n next new = run_from program next new left n

      unfolds : (n : ℕ) → run_from program p store input (suc k + n) ≡ step (go (k + n))
      unfolds n = ap (run_from program p store input) (more k n)

      by : ((next : Process) (new : List ℤ) (rest : List ℕ) → IsOf program next → Stops program next new rest k ⊎ GoesOn program next new rest k) → OneStep program p store step → Stops program p store input (suc k) ⊎ GoesOn program p store input (suc k)
      by later (last run ends is_last) = inl (record { ends = subst (λ r. r.end ≢ Spent) (sym (is_last (go k))) ends; same = λ n. unfolds n ∙ is_last (go (k + n)) ∙ sym (is_last (go k)) })
      by later (leads_to shown next new is_next long is_step) = then (later next new left is_next)
        where
          rest : Run
          rest = run_from program next new left k

          here : run_from program p store input (suc k) ≡ prefixed shown 1 rest
          here = is_step (go k)

          then : Stops program next new left k ⊎ GoesOn program next new left k → Stops program p store input (suc k) ⊎ GoesOn program p store input (suc k)
          then (inl s) = inl (record {
            ends = subst (λ r. r.end ≢ Spent) (sym here) s.ends;
            same = λ n. unfolds n ∙ is_step (go (k + n)) ∙ ap (prefixed shown 1) (s.same n) ∙ sym here;
          })
          then (inr g) = inr (record {
            process = g.process;
            left = g.left;
            spends = ap (λ r. r.end) here ∙ g.spends;
            is_of = g.is_of;
            fits = λ fits. subst (λ r. Fits program.layout r.store) (sym here) (g.fits (record { cells = long ∙ fits.cells }));
            same = λ n.
                unfolds n ∙ is_step (go (k + n)) ∙ ap (prefixed shown 1) (g.same n) ∙ prefixed_twice shown rest.shown k (run_from program g.process rest.store g.left n)
                ∙ sym (ap (λ r. prefixed r.shown (suc k) (run_from program g.process r.store g.left n)) here);
          })

pub runs_compose : RunsCompose
runs_compose program p store input k sound is = compose program sound k p store input is
