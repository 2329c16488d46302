-- What is asked of bindings in which one index goes through its values.
use Rattle.std.specs.Prelude.{◌≡◌, ℕ, ◌+◌, ℤ, List, not}
use Rattle.hyb_base.specs.declared.env.Env.{Env}
use Rattle.sym_lmad.specs.declared.sym.Sym.{Sym}
use Rattle.sym_lmad.specs.Gain.{at_index}
use Rattle.sym_lmad.specs.Naming.{reads_of}
use Rattle.sym_lmad.specs.Same.{same_of}
use Rattle.sym_lmad.specs.Worth.{worth_of}
use Rattle.pdag_nodes.specs.Windows.{Windows, window_by, where_asked}

-- the windows between two symbols, at each value of an index
abbrev pub windows_of : Env → List ℤ → (index : ℕ) → (low high : Sym) → Windows
windows_of env values index low high = λ i. window_by (worth_of (at_index env index i) values low) (worth_of (at_index env index i) values high)

-- how many cells are read for one window at most
abbrev pub window_reads : (low high : Sym) → ℕ
window_reads low high = reads_of low + where_asked (not (same_of low high)) (reads_of high)

-- bindings that are the same but for an index
pub record SameButIndex (index : ℕ) (old new : Env) : Type 0 where
  pub same : (z : ℤ) → at_index new index z ≡ at_index old index z
