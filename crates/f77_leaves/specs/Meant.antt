-- What a name is that a list in parentheses follows (ANSI X3.9-1978, sections 5.3, 15.2 and 15.10).
use Rattle.std.specs.Prelude.{ℕ, ℤ, pos, Bool, true, false, not, ◌&&◌, ◌||◌, List, Option, None, Some, if◌then◌else◌}
use Rattle.std.specs.Option.{is_some}
use Rattle.std.specs.Ordering.{int_eq}
use Rattle.f77_ast.specs.declared.expr.Kind.{Kind}
use Rattle.f77_ast.specs.declared.expr.Kind.TheVariants as kind
use Rattle.f77_ast.specs.declared.program.Listed.{Listed}
use Rattle.f77_ast.specs.declared.specification.Length.{Length}
use Rattle.f77_ast.specs.declared.specification.Length.TheVariants as length_of
use Rattle.f77_leaves.specs.Declarations.{Declarations, declarations_of}
use Rattle.f77_leaves.specs.Intrinsics.{intrinsic_named, gives}
use Rattle.f77_structure.specs.Storage.{bound_number}
use Rattle.f77_leaves.specs.declared.declarations.Known.{Known}
use Rattle.f77_leaves.specs.declared.declarations.Typing.{Typing}
use Rattle.f77_leaves.specs.declared.intrinsics.Intrinsic.{Intrinsic}
use Rattle.f77_leaves.specs.declared.meant.Meant.{Meant}
use Rattle.f77_leaves.specs.declared.meant.Meant.TheVariants.{Element, Function, Call}

-- whether two kinds are one
abbrev pub same_kind : Kind → Kind → Bool
same_kind kind.Integer kind.Integer = true
same_kind kind.Integer kind.Logical = false
same_kind kind.Integer kind.Character = false
same_kind kind.Logical kind.Integer = false
same_kind kind.Logical kind.Logical = true
same_kind kind.Logical kind.Character = false
same_kind kind.Character kind.Integer = false
same_kind kind.Character kind.Logical = false
same_kind kind.Character kind.Character = true

-- whether a number is 1
abbrev pub is_number_one : Option ℤ → Bool
is_number_one None = false
is_number_one (Some number) = int_eq number (pos 1)

-- whether a length is 1 as it is written: left out, or the number 1
abbrev pub is_one : Option Length → Bool
is_one None = true
is_one (Some (length_of.Digits digits)) = int_eq digits (pos 1)
is_one (Some (length_of.Paren expr)) = is_number_one (bound_number (Some expr))
is_one (Some length_of.Asterisk) = false

-- whether a type is that of what an intrinsic function gives, with length 1 for CHARACTER
abbrev pub is_result_type : Intrinsic → Typing → Bool
is_result_type intrinsic typing = same_kind typing.kind (gives intrinsic) && is_one typing.length

-- whether a type statement gives a name another type
abbrev pub retypes : Intrinsic → Option Typing → Bool
retypes intrinsic None = false
retypes intrinsic (Some typing) = not (is_result_type intrinsic typing)

-- whether a unit declares a name as something else than an intrinsic function: by a place in COMMON or among the dummy
-- arguments, by PARAMETER, as its own name, or by a type statement with another type than that of the function's result.
-- SAVE, EQUIVALENCE, DATA and IMPLICIT declare nothing in this sense
abbrev pub is_declared : Known → Intrinsic → Bool
is_declared known intrinsic =
    known.common || is_some known.dummy || is_some known.value || known.heading || known.result || retypes intrinsic known.typing

abbrev pub unless_declared : Known → Option Intrinsic → Meant
unless_declared known None = Call
unless_declared known (Some intrinsic) = if is_declared known intrinsic then Call else Function intrinsic

-- what a name with a list is: an element of an array, where the unit gives it bounds; else an intrinsic function, where it is
-- the name of one and the unit doesn't declare it as something else; else something called
abbrev pub meant_by : Known → (name : List ℕ) → Meant
meant_by known name = if is_some known.bounds then Element else unless_declared known (intrinsic_named name)

abbrev pub meant_of : Declarations → (name : List ℕ) → Meant
meant_of unit name = meant_by (unit.known name) name

abbrev pub meant_in : (listing : List Listed) → (name : List ℕ) → Meant
meant_in listing name = meant_of (declarations_of listing) name
