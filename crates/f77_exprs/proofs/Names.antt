-- Names, as they are read.
use Rattle.std.proofs.Common.{◌≡◌, Bool, true, false, if◌then◌else◌, take, drop, Some, None, refl}
use Rattle.std.specs.Prelude.{SomeIff}
use Rattle.f77_ast.specs.Name.{IsName, is_name}
use Rattle.f77_exprs.specs.Operators.{Text}
use Rattle.f77_exprs.specs.Reading.{Outcome, alphanumerics, name}

pub name_there : (i s rest n : Text) → s ≡ take (alphanumerics i) i → rest ≡ drop (alphanumerics i) i → SomeIff (Some n) (IsName s) s → name i ≡ Some (n, rest)
unfolding name
name_there i s rest n front back h = rw (← front, ← back, h.0, h.1) refl

pub name_missing : (i s : Text) → s ≡ take (alphanumerics i) i → SomeIff None (IsName s) s → name i ≡ None
unfolding name
name_missing i s front h = rw (← front) (by (is_name s) refl)
  where
    by : (t : Bool) → is_name s ≡ t → if◌then◌else◌ {A = Outcome Text} t (Some (s, drop (alphanumerics i) i)) None ≡ None
    by true e = absurd (h e)
    by false e = refl
