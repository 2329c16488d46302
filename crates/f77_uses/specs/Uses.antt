-- What a unit uses a name as (ANSI X3.9-1978, sections 2.2 and 18.2).
use Rattle.std.specs.Prelude.{ℕ, Bool, true, false, not, ◌&&◌, List, [], ◌∷◌, Option, None, Some, if◌then◌else◌}
use Rattle.std.specs.List.{flat_map, list_any}
use Rattle.std.specs.Option.{is_some, option_or}
use Rattle.f77_ast.specs.declared.program.Listed.{Listed}
use Rattle.f77_leaves.specs.Declarations.{Declarations, declarations_of, same_name}
use Rattle.f77_leaves.specs.Leaves.{leaves_of}
use Rattle.f77_leaves.specs.Meant.{meant_of}
use Rattle.f77_leaves.specs.declared.leaves.Leaf.{Leaf}
use Rattle.f77_leaves.specs.declared.leaves.Leaf.TheVariants.{Literal, Text, Named}
use Rattle.f77_leaves.specs.declared.leaves.Mention.{Mention}
use Rattle.f77_leaves.specs.declared.leaves.Role.{Role}
use Rattle.f77_leaves.specs.declared.leaves.Role.TheVariants as role
use Rattle.f77_leaves.specs.declared.meant.Meant.{Meant}
use Rattle.f77_leaves.specs.declared.meant.Meant.TheVariants as meant
use Rattle.f77_uses.specs.declared.uses.Use.{Use}
use Rattle.f77_uses.specs.declared.uses.Use.TheVariants as used

-- ---- the names of a unit

-- a test of a name in a statement; no literal passes
abbrev pub on_name : (Mention → Bool) → Leaf → Bool
on_name test Literal = false
on_name test (Text len) = false
on_name test (Named mention) = test mention

-- what is in a unit, in the order of its text
abbrev pub leaves_in : List Listed → List Leaf
leaves_in listing = flat_map (λ listed. leaves_of listed.stmt) listing

-- ---- what one name is used as

-- a name without a list is a constant, where PARAMETER names it, else a variable
abbrev pub plain_use : Declarations → (name : List ℕ) → Use
plain_use unit name = if is_some (unit.known name).value then used.Constant else used.Variable

-- a name with a list is a variable, where it is an array, or an intrinsic function, or called, which is no use yet
abbrev pub use_by : Meant → Option Use
use_by meant.Element = Some used.Variable
use_by (meant.Function intrinsic) = Some used.Intrinsic
use_by meant.Call = None

abbrev pub reference_use : Declarations → Mention → Option Use
reference_use unit mention = if mention.listed then use_by (meant_of unit mention.name) else Some (plain_use unit mention.name)

-- a member of EQUIVALENCE or DATA is a variable; with a list, where it is an array, and else called
abbrev pub member_use : Declarations → Mention → Option Use
member_use unit mention = if not mention.listed then Some used.Variable else if is_some (unit.known mention.name).bounds then Some used.Variable else None

-- a name in a type statement without bounds is used there where it is the name of the main program or subroutine
abbrev pub typed_use : Declarations → (name : List ℕ) → Option Use
typed_use unit name = if (unit.known name).heading then Some used.Variable else None

-- what a name is used as where it is; arrays, dummy arguments and results are variables too
abbrev pub use_as : Declarations → Mention → Role → Option Use
use_as unit mention role.Heading = Some used.Heading
use_as unit mention role.Function = Some used.Variable
use_as unit mention role.Dummy = Some used.Variable
use_as unit mention role.Typed = typed_use unit mention.name
use_as unit mention role.Shaped = Some used.Variable
use_as unit mention role.Common = Some used.Variable
use_as unit mention role.Block = None
use_as unit mention role.Member = member_use unit mention
use_as unit mention role.Filled = member_use unit mention
use_as unit mention role.Constant = Some used.Constant
use_as unit mention role.Repeat = reference_use unit mention
use_as unit mention role.Datum = reference_use unit mention
use_as unit mention role.Saved = None
use_as unit mention role.Called = None
use_as unit mention role.Target = reference_use unit mention
use_as unit mention role.Input = reference_use unit mention
use_as unit mention role.Control = reference_use unit mention
use_as unit mention role.Operand = reference_use unit mention

abbrev pub use_of : Declarations → Mention → Option Use
use_of unit mention = use_as unit mention mention.role

-- ---- what a unit uses a name as

-- what a mention uses this name as
abbrev pub use_for : Declarations → (name : List ℕ) → Mention → Option Use
use_for unit name mention = if same_name name mention.name then use_of unit mention else None

abbrev pub use_in : Declarations → (name : List ℕ) → Leaf → Option Use
use_in unit name Literal = None
use_in unit name (Text len) = None
use_in unit name (Named mention) = use_for unit name mention

-- a name's first use in a text
abbrev pub first_use : Declarations → List Leaf → (name : List ℕ) → Option Use
first_use unit [] name = None
first_use unit (leaf ∷ rest) name = option_or (use_in unit name leaf) (first_use unit rest name)

-- whether a name is there by more than SAVE and type statements; a common block's name is no name in this sense
abbrev pub is_busy : Role → Bool
is_busy role.Heading = true
is_busy role.Function = true
is_busy role.Dummy = true
is_busy role.Typed = false
is_busy role.Shaped = true
is_busy role.Common = true
is_busy role.Block = false
is_busy role.Member = true
is_busy role.Filled = true
is_busy role.Constant = true
is_busy role.Repeat = true
is_busy role.Datum = true
is_busy role.Saved = false
is_busy role.Called = true
is_busy role.Target = true
is_busy role.Input = true
is_busy role.Control = true
is_busy role.Operand = true

abbrev pub is_busy_with : (name : List ℕ) → Mention → Bool
is_busy_with name mention = same_name name mention.name && is_busy mention.role

-- whether a name is nowhere but in SAVE and type statements
abbrev pub is_alone : List Leaf → (name : List ℕ) → Bool
is_alone leaves name = not (list_any (on_name (is_busy_with name)) leaves)

-- a variable, an array, a dummy argument, a result or a constant: what is used as one, and what is alone in SAVE and type
-- statements
abbrev pub is_entity_by : Option Use → (alone : Bool) → Bool
is_entity_by None alone = alone
is_entity_by (Some used.Variable) alone = true
is_entity_by (Some used.Constant) alone = true
is_entity_by (Some used.Intrinsic) alone = false
is_entity_by (Some used.Heading) alone = false

-- what a unit uses its names as
pub record NameUses : Type 0 where
  -- a name's first use
  pub first : List ℕ → Option Use
  -- whether it is nowhere but in SAVE and type statements
  pub alone : List ℕ → Bool

abbrev pub uses_by : Declarations → List Leaf → NameUses
uses_by unit leaves = record { first = first_use unit leaves; alone = is_alone leaves }

abbrev pub uses_of : List Listed → NameUses
uses_of listing = uses_by (declarations_of listing) (leaves_in listing)

abbrev pub is_entity : NameUses → (name : List ℕ) → Bool
is_entity uses name = is_entity_by (uses.first name) (uses.alone name)

-- whether two uses are one
abbrev pub same_use : Use → Use → Bool
same_use used.Variable used.Variable = true
same_use used.Variable used.Constant = false
same_use used.Variable used.Intrinsic = false
same_use used.Variable used.Heading = false
same_use used.Constant used.Variable = false
same_use used.Constant used.Constant = true
same_use used.Constant used.Intrinsic = false
same_use used.Constant used.Heading = false
same_use used.Intrinsic used.Variable = false
same_use used.Intrinsic used.Constant = false
same_use used.Intrinsic used.Intrinsic = true
same_use used.Intrinsic used.Heading = false
same_use used.Heading used.Variable = false
same_use used.Heading used.Constant = false
same_use used.Heading used.Intrinsic = false
same_use used.Heading used.Heading = true

-- whether there are two uses, and not one
abbrev pub differ : Option Use → Option Use → Bool
differ None other = false
differ (Some one) None = false
differ (Some one) (Some other) = not (same_use one other)
