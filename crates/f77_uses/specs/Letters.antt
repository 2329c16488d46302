-- What is told first of each letter.
use Rattle.std.specs.Prelude.{ℕ, Option, nat_eq}
use Rattle.std.specs.HashMap.{get}
use Rattle.f77_leaves.specs.declared.declarations.Typing.{Typing}
use Rattle.f77_uses.specs.declared.letters.Letters.{Letters}

-- the type that a letter was given first
abbrev pub given : Letters → (letter : ℕ) → Option Typing
given letters letter = get nat_eq letters.map letter
