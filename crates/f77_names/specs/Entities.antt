-- The entities of the units of a file: variables, arrays, dummy arguments, results and constants (ANSI X3.9-1978, sections 2.5 to
-- 2.8, 4.1.2, 5.1.1 and 8.4.2).
use Rattle.std.specs.Prelude.{ℕ, zero, suc, ◌-◌, ◌^◌, pos, min, Bool, List, [], ◌∷◌, ◌++◌, map, Option, None, Some, unwrap_or, if◌then◌else◌}
use Rattle.std.specs.List.{flat_map, list_any}
use Rattle.std.specs.Option.{is_some, option_map}
use Rattle.f77_ast.specs.declared.expr.Expr.{Expr}
use Rattle.f77_ast.specs.declared.expr.Expr.TheVariants as e
use Rattle.f77_ast.specs.declared.expr.Kind.{Kind}
use Rattle.f77_ast.specs.declared.expr.Kind.TheVariants as kind
use Rattle.f77_ast.specs.declared.program.Entity.{Entity}
use Rattle.f77_ast.specs.declared.program.Listed.{Listed}
use Rattle.f77_ast.specs.declared.program.Place.{Place}
use Rattle.f77_ast.specs.declared.program.Place.TheVariants.{Stored, Dummy, Constant}
use Rattle.f77_ast.specs.declared.program.Unit.{Unit as ProgramUnit}
use Rattle.f77_ast.specs.declared.specification.Bound.{Bound}
use Rattle.f77_leaves.specs.Declarations.{name_kind, same_name}
use Rattle.f77_leaves.specs.declared.declarations.Known.{Known}
use Rattle.f77_leaves.specs.declared.leaves.Leaf.{Leaf}
use Rattle.f77_leaves.specs.declared.leaves.Leaf.TheVariants.{Literal, Text, Named}
use Rattle.f77_structure.specs.Values.{Value, integer, truth, chars}
use Rattle.f77_uses.specs.Uses.{NameUses, leaves_in, uses_of}
use Rattle.f77_constants.specs.Constants.{name_length, value_of_expr}
use Rattle.f77_constants.specs.Rounds.{has_name}
use Rattle.f77_due.specs.Unit.{UnitFacts, facts_of_unit, names_entity}

-- ---- names, by their first appearance in the text

-- the name of an entity that a leaf of a text is
abbrev pub entity_named : NameUses → Leaf → List (List ℕ)
entity_named uses Literal = []
entity_named uses (Text len) = []
entity_named uses (Named mention) = if names_entity uses mention then mention.name ∷ [] else []

-- names without those that are there already, each once
abbrev pub distinct_from : (seen : List (List ℕ)) → List (List ℕ) → List (List ℕ)
distinct_from seen [] = []
distinct_from seen (name ∷ names) = if has_name seen name then distinct_from seen names else name ∷ distinct_from (seen ++ name ∷ []) names

-- the names of the entities in a unit, each once, in the order of the text
abbrev pub entity_names : List Listed → List (List ℕ)
entity_names listing = distinct_from [] (flat_map (entity_named (uses_of listing)) (leaves_in listing))

-- ---- what is known of one

-- a name without a type, which is refused, is shown as INTEGER
abbrev pub kind_or_integer : Option Kind → Kind
kind_or_integer None = kind.Integer
kind_or_integer (Some kind) = kind

-- its length in storage units: for CHARACTER the number of characters, and 0 where there is none that there may be
abbrev pub length_by_kind : Kind → Option ℕ → ℕ
length_by_kind kind.Integer len = 1
length_by_kind kind.Logical len = 1
length_by_kind kind.Character len = unwrap_or len 0

-- an expression as the number that it is; one that is none, which is refused, as it stands
abbrev pub number_or : Expr → Option Value → Expr
number_or expr None = expr
number_or expr (Some (integer number)) = e.Int number
number_or expr (Some (truth holds)) = expr
number_or expr (Some (chars text)) = expr

abbrev pub settled : UnitFacts → Expr → Expr
settled unit expr = number_or expr (value_of_expr unit.values expr)

-- a lower bound that is left out is 1
abbrev pub settled_lower : UnitFacts → Option Expr → Expr
settled_lower unit None = e.Int (pos 1)
settled_lower unit (Some expr) = settled unit expr

abbrev pub settled_upper : UnitFacts → Option Expr → Option Expr
settled_upper unit None = None
settled_upper unit (Some expr) = Some (settled unit expr)

-- a dimension of what is no dummy argument
abbrev pub settled_bound : UnitFacts → Bound → Bound
settled_bound unit bound = record { low = Some (settled_lower unit bound.low); high = settled_upper unit bound.high }

-- the dimensions of an entity: those of a dummy argument as they are declared
abbrev pub bounds_as : UnitFacts → (dummy : Bool) → List Bound → List Bound
bounds_as unit dummy bounds = if dummy then bounds else map (settled_bound unit) bounds

abbrev pub bounds_by : UnitFacts → (dummy : Bool) → Option (List Bound) → List Bound
bounds_by unit dummy None = []
bounds_by unit dummy (Some bounds) = bounds_as unit dummy bounds

-- a value as a literal
abbrev pub literal_of : Value → Expr
literal_of (integer number) = e.Int number
literal_of (truth holds) = e.Truth holds
literal_of (chars text) = e.Chars text

-- where what is no dummy argument is kept: a constant is its value, and all else is stored
abbrev pub place_by_value : Option Value → Place
place_by_value None = Stored 0
place_by_value (Some value) = Constant (literal_of value)

-- a dummy argument is kept by its place among them; places have 32 bits
abbrev pub place_by : UnitFacts → (name : List ℕ) → Option ℕ → Place
place_by unit name None = place_by_value (unit.values name)
place_by unit name (Some place) = Dummy (min place (2 ^ 32 - 1))

-- the entity of a name, of which this is known, in a unit
abbrev pub entity_by : UnitFacts → (unit : ℕ) → (name : List ℕ) → Known → Entity
entity_by facts unit name known = record {
  unit = unit;
  name = name;
  kind = kind_or_integer (name_kind facts.declarations name);
  len = length_by_kind (kind_or_integer (name_kind facts.declarations name)) (name_length facts.declarations facts.values name);
  bounds = bounds_by facts (is_some known.dummy) known.bounds;
  place = place_by facts name known.dummy;
}

abbrev pub entity_of : UnitFacts → (unit : ℕ) → (name : List ℕ) → Entity
entity_of facts unit name = entity_by facts unit name (facts.declarations.known name)

-- ---- the entities of a file

abbrev pub unit_entities : (unit : ℕ) → List Listed → List Entity
unit_entities unit listing = map (entity_of (facts_of_unit listing) unit) (entity_names listing)

-- those of units, the first of which has this number
abbrev pub entities_from : (unit : ℕ) → List ProgramUnit → List Entity
entities_from unit [] = []
entities_from unit (first ∷ units) = unit_entities unit first.listing ++ entities_from (suc unit) units

-- unit by unit, and in a unit by the name's first appearance
abbrev pub entities_of : List ProgramUnit → List Entity
entities_of units = entities_from 0 units
