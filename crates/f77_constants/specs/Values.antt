-- Values and tables of them, as the definitions have them.
use Rattle.std.specs.Prelude.{ℕ, List, Option}
use Rattle.std.specs.Option.{option_map}
use Rattle.f77_structure.specs.Values as spec
use Rattle.f77_uses.specs.Firsts.{told}
use Rattle.f77_uses.specs.declared.firsts.Firsts.{Firsts}
use Rattle.f77_constants.specs.declared.value.Value.{Value}
use Rattle.f77_constants.specs.declared.value.Value.TheVariants.{Integer, Truth, Chars}

-- what a value means
abbrev pub meant : Value → spec.Value
meant (Integer number) = spec.integer number
meant (Truth holds) = spec.truth holds
meant (Chars text) = spec.chars text

-- the value that a table has for a name
abbrev pub value_in : Firsts Value → (name : List ℕ) → Option spec.Value
value_in values name = option_map meant (told values name)
