-- What a function that reads ensures.
use Rattle.std.specs.Prelude.{◌≡◌, Result, Ok, Err, Some, None}
use Rattle.f77_exprs.specs.declared.unread.Unread.{Unread}
use Rattle.f77_exprs.specs.declared.unread.Unread.TheVariants.{Unspelled}
use Rattle.f77_exprs.specs.Operators.{Text}
use Rattle.f77_exprs.specs.Reading.{Outcome}

-- the outcome, and the text that is left; nothing is said where memory fails
abbrev pub Reads : {A : Type 0} → Outcome A → Result A Unread → Text → Type 0
Reads outcome (Ok a) new = outcome ≡ Some (a, new)
Reads outcome (Err e) new = e ≡ Unspelled → outcome ≡ None
