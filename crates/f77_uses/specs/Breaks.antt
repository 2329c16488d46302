-- What is broken in the declarations and uses of names: names of type REAL, names that are two things, and DO variables that
-- are assigned in their ranges.
use Rattle.std.specs.Prelude.{ℕ, Bool, true, false, ◌&&◌, ◌||◌, List, [], ◌∷◌, ◌++◌, take, Option, None, Some, if◌then◌else◌}
use Rattle.std.specs.List.{flat_map, list_any}
use Rattle.std.specs.Option.{is_some, is_none}
use Rattle.f77_ast.specs.declared.program.Listed.{Listed}
use Rattle.f77_ast.specs.declared.program.Unit.{Unit as ProgramUnit}
use Rattle.f77_ast.specs.declared.refusal.Refusal.{Refusal}
use Rattle.f77_ast.specs.declared.rule.Rule.TheVariants.{RealName, DoubleName, DoVariableAssigned}
use Rattle.f77_leaves.specs.Declarations.{Declarations, declarations_of, facts_in, facts_of, known_of, told, name_kind, same_name}
use Rattle.f77_leaves.specs.Leaves.{leaves_of}
use Rattle.f77_leaves.specs.declared.declarations.Declared.{Declared}
use Rattle.f77_leaves.specs.declared.declarations.Fact.{Fact}
use Rattle.f77_leaves.specs.declared.declarations.Fact.TheVariants as fact
use Rattle.f77_leaves.specs.declared.declarations.Known.{Known}
use Rattle.f77_leaves.specs.declared.leaves.Mention.{Mention}
use Rattle.f77_leaves.specs.declared.leaves.Role.{Role}
use Rattle.f77_leaves.specs.declared.leaves.Role.TheVariants as role
use Rattle.f77_uses.specs.Refused.{broken_by, first_refused}
use Rattle.f77_uses.specs.Running.{assigns_a_running}
use Rattle.f77_uses.specs.Uses.{NameUses, on_name, uses_of, use_of, is_entity, differ}

-- ---- RealName

-- whether a mention is of a name, and not of a common block's
abbrev pub is_name : Role → Bool
is_name role.Heading = true
is_name role.Function = true
is_name role.Dummy = true
is_name role.Typed = true
is_name role.Shaped = true
is_name role.Common = true
is_name role.Block = false
is_name role.Member = true
is_name role.Filled = true
is_name role.Constant = true
is_name role.Repeat = true
is_name role.Datum = true
is_name role.Saved = true
is_name role.Called = true
is_name role.Target = true
is_name role.Input = true
is_name role.Control = true
is_name role.Operand = true

-- whether a mention is of a variable, array, dummy argument, result or constant without a type, which would be REAL
abbrev pub is_real : Declarations → NameUses → Mention → Bool
is_real unit uses mention = is_name mention.role && (is_none (name_kind unit mention.name) && is_entity uses mention.name)

-- RealName: a statement in which there is such a name. The first of them is the one in which the name is first
abbrev pub names_real : Declarations → NameUses → ℕ → Listed → Bool
names_real unit uses place listed = list_any (on_name (is_real unit uses)) (leaves_of listed.stmt)

-- ---- DoubleName, by declarations

-- whether there is a fact of the sort already; a result takes no bounds, and is no dummy argument
abbrev pub is_second : Known → Fact → Bool
is_second known (fact.Typed typing) = is_some known.typing
is_second known (fact.Bounded bounds) = is_some known.bounds || known.result
is_second known fact.Common = known.common
is_second known (fact.Valued value) = is_some known.value
is_second known (fact.Dummy place) = is_some known.dummy || known.result
is_second known fact.Heading = false
is_second known fact.Result = false

-- whether one of some facts is a second one, after what is known of names
abbrev pub has_second : (known : List ℕ → Known) → List Declared → Bool
has_second known [] = false
has_second known (declared ∷ rest) = is_second (known declared.name) declared.fact || has_second (λ name. told name (known name) declared) rest

-- DoubleName: a second type, bound list, place in COMMON, value in PARAMETER or dummy place of a name, a dummy argument named
-- like its function, and bounds of a result
abbrev pub declares_twice : (unit : List Listed) → ℕ → Listed → Bool
declares_twice unit place listed = has_second (known_of (facts_of (take place unit))) (facts_in listed.stmt)

-- ---- DoubleName, by uses

-- whether a mention uses a name as something else than its first use in the unit
abbrev pub is_second_use : Declarations → NameUses → Mention → Bool
is_second_use unit uses mention = differ (use_of unit mention) (uses.first mention.name)

-- DoubleName: a second use of a name, at the later statement
abbrev pub uses_twice : Declarations → NameUses → ℕ → Listed → Bool
uses_twice unit uses place listed = list_any (on_name (is_second_use unit uses)) (leaves_of listed.stmt)

-- ---- units

-- what is broken in the statements of a unit: codes 30, 35 and 37
abbrev pub breaks_in : List Listed → List Refusal
breaks_in unit =
    broken_by RealName (names_real (declarations_of unit) (uses_of unit)) 0 unit
    ++ broken_by DoubleName (declares_twice unit) 0 unit
    ++ broken_by DoubleName (uses_twice (declarations_of unit) (uses_of unit)) 0 unit
    ++ broken_by DoVariableAssigned (assigns_a_running unit) 0 unit

-- whether two units have names, and these are one
abbrev pub same_unit : Option (List ℕ) → Option (List ℕ) → Bool
same_unit None other = false
same_unit (Some name) None = false
same_unit (Some name) (Some other) = same_name name other

-- DoubleName: the first statement of a unit that is called as one of these names
abbrev pub second_unit : (earlier : List (Option (List ℕ))) → ProgramUnit → List Refusal
second_unit earlier unit = if list_any (same_unit unit.name) earlier then first_refused DoubleName unit.listing else []

-- DoubleName: the first statement of each unit that is called as an earlier one
abbrev pub second_units : (earlier : List (Option (List ℕ))) → List ProgramUnit → List Refusal
second_units earlier [] = []
second_units earlier (unit ∷ units) = second_unit earlier unit ++ second_units (earlier ++ unit.name ∷ []) units

-- what is broken in the declarations and uses of a file: codes 30, 35 and 37
abbrev pub breaks_among : List ProgramUnit → List Refusal
breaks_among units = second_units [] units ++ flat_map (λ unit. breaks_in unit.listing) units
