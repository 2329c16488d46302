-- The letters that are named by now.
use Rattle.std.specs.Prelude.{ℕ, Bool, nat_eq}
use Rattle.std.specs.HashMap.{get}
use Rattle.std.specs.Option.{is_some}
use Rattle.f77_kinds.specs.declared.letters.Named.{Named}

-- whether a letter is named
abbrev pub is_named : Named → (letter : ℕ) → Bool
is_named named letter = is_some (get nat_eq named.map letter)
