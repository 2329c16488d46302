-- A symbol with another one in the place of an index.
use Rattle.std.specs.Prelude.{◌≡◌, ℕ, ◌+◌, ◌*◌, ◌<◌, ◌==◌, ℤ, List, length, Some, if◌then◌else◌}
use Rattle.hyb_base.specs.declared.env.Env.{Env}
use Rattle.sym_lmad.specs.declared.sym.Sym.{Sym}
use Rattle.sym_lmad.specs.declared.sym.Sym.TheVariants as s
use Rattle.sym_lmad.specs.declared.sym.Sym.TheOpen.{Sym-F}
use Rattle.sym_lmad.specs.declared.sym.Sym.TheOpen as layer
use Rattle.sym_lmad.specs.declared.sym.Sym.TheFolds.{fold-Sym}
use Rattle.sym_lmad.specs.Gain.{at_index}
use Rattle.sym_lmad.specs.Naming.{reads_of}
use Rattle.sym_lmad.specs.Numbers.{run_of, whole_of}
use Rattle.sym_lmad.specs.Worth.{worth_of}

module _ (index : ℕ) (end : Sym) where
  abbrev pub put_step : Sym-F Sym → Sym
  put_step (layer.Lit v) = s.Lit v
  put_step (layer.Addr e) = s.Addr e
  put_step (layer.Cell e) = s.Cell e
  put_step (layer.Elem e x) = s.Elem e x
  put_step (layer.Index i) = if i == index then end else s.Index i
  put_step (layer.Add x y) = s.Add x y
  put_step (layer.Mul c x) = s.Mul c x

  abbrev pub put_of : Sym → Sym
  put_of = fold-Sym Sym put_step

-- how often a symbol names an index
module _ (index : ℕ) where
  abbrev pub namings_step : Sym-F ℕ → ℕ
  namings_step (layer.Lit v) = 0
  namings_step (layer.Addr e) = 0
  namings_step (layer.Cell e) = 0
  namings_step (layer.Elem e x) = x
  namings_step (layer.Index i) = if i == index then 1 else 0
  namings_step (layer.Add x y) = x + y
  namings_step (layer.Mul c x) = x

  abbrev pub namings_of : Sym → ℕ
  namings_of = fold-Sym ℕ namings_step

-- both numbers of a symbol with an end in the place of an index are the symbol's where that index has the end's number
abbrev pub PutKeepsNumbers : Type 0
PutKeepsNumbers = (env : Env) (values : List ℤ) (index : ℕ) (end s : Sym) → index < length env.indices →
    (run_of env values (put_of index end s) ≡ run_of (at_index env index (run_of env values end)) values s) × (whole_of env values (put_of index end s) ≡ whole_of (at_index env index (whole_of env values end)) values s)

-- so is its worth where the end has one
abbrev pub PutKeepsWorth : Type 0
PutKeepsWorth = (env : Env) (values : List ℤ) (index : ℕ) (end s : Sym) (v : ℤ) → index < length env.indices → worth_of env values end ≡ Some v → worth_of env values (put_of index end s) ≡ worth_of (at_index env index v) values s

-- it names its own cells, and the end's once for each naming of the index
abbrev pub PutReadsEnds : Type 0
PutReadsEnds = (index : ℕ) (end s : Sym) → reads_of (put_of index end s) ≡ reads_of s + namings_of index s * reads_of end
