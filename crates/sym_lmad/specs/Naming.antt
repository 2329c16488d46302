-- What symbols name.
use Rattle.std.specs.Prelude.{ℕ, ◌+◌}
use Rattle.sym_lmad.specs.declared.sym.Sym.{Sym}
use Rattle.sym_lmad.specs.declared.sym.Sym.TheOpen.{Sym-F}
use Rattle.sym_lmad.specs.declared.sym.Sym.TheOpen as layer
use Rattle.sym_lmad.specs.declared.sym.Sym.TheFolds.{fold-Sym}

-- how often a symbol names a cell or an element
abbrev pub reads_step : Sym-F ℕ → ℕ
reads_step (layer.Lit v) = 0
reads_step (layer.Addr e) = 0
reads_step (layer.Cell e) = 1
reads_step (layer.Elem e s) = s + 1
reads_step (layer.Index i) = 0
reads_step (layer.Add x y) = x + y
reads_step (layer.Mul c x) = x

abbrev pub reads_of : Sym → ℕ
reads_of = fold-Sym ℕ reads_step
