-- Which symbols are the same: of the same shape, with the same numbers at the same places.
use Rattle.std.specs.Prelude.{Bool, false, ◌&&◌, ◌==◌}
use Rattle.std.specs.Ordering.{int_eq}
use Rattle.sym_lmad.specs.declared.sym.Sym.{Sym, out-Sym}
use Rattle.sym_lmad.specs.declared.sym.Sym.TheOpen.{Sym-F}
use Rattle.sym_lmad.specs.declared.sym.Sym.TheOpen as layer
use Rattle.sym_lmad.specs.declared.sym.Sym.TheFolds.{fold-Sym}

-- one layer: what is told of a symbol's parts, against another symbol
abbrev pub same_layer : Sym-F (Sym → Bool) → Sym-F Sym → Bool
same_layer (layer.Lit v) (layer.Lit w) = int_eq v w
same_layer (layer.Addr e) (layer.Addr f) = e == f
same_layer (layer.Cell e) (layer.Cell f) = e == f
same_layer (layer.Elem e s) (layer.Elem f x) = e == f && s x
same_layer (layer.Index i) (layer.Index k) = i == k
same_layer (layer.Add s t) (layer.Add x y) = s x && t y
same_layer (layer.Mul c s) (layer.Mul d x) = int_eq c d && s x
same_layer _ _ = false

abbrev pub same_step : Sym-F (Sym → Bool) → Sym → Bool
same_step told other = same_layer told (out-Sym other)

abbrev pub same_of : Sym → Sym → Bool
same_of = fold-Sym (Sym → Bool) same_step
