-- The input of READ.
use Rattle.std.specs.Prelude.{ℕ, List, drop}
use Rattle.f77_io.specs.declared.input.Input.{Input}

-- the bytes of an input that have not been read
abbrev pub left_of : Input → List ℕ
left_of input = drop input.at input.bytes
