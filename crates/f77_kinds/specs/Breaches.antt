-- Which of two rules a part of a statement breaks: that on kinds (31), and that on numbers of subscripts and arguments (33).
use Rattle.std.specs.Prelude.{Bool, false, ◌||◌, List, [], ◌∷◌, Option, None, Some}
use Rattle.f77_kinds.specs.declared.breach.Breach.{Breach}

-- it breaks neither
abbrev pub no_breach : Breach
no_breach = record { clash = false; miscount = false }

-- it breaks the rule on kinds, where this holds
abbrev pub clash_if : Bool → Breach
clash_if breaks = record { clash = breaks; miscount = false }

-- it breaks the rule on numbers of subscripts and arguments, where this holds
abbrev pub miscount_if : Bool → Breach
miscount_if breaks = record { clash = false; miscount = breaks }

-- what one of two parts breaks
abbrev pub either : Breach → Breach → Breach
either one other = record { clash = one.clash || other.clash; miscount = one.miscount || other.miscount }

-- what one of some parts breaks
abbrev pub any_of : {A : Type 0} → (A → Breach) → List A → Breach
any_of breach [] = no_breach
any_of breach (part ∷ parts) = either (breach part) (any_of breach parts)

-- what a part breaks that may be left out
abbrev pub if_there : {A : Type 0} → (A → Breach) → Option A → Breach
if_there breach None = no_breach
if_there breach (Some part) = breach part
