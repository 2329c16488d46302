-- Which files are accepted.
use Rattle.std.specs.Option.{option_or}
use Rattle.std.proofs.Common.{◌≡◌, ℕ, List, Option, None, Some, Result, Ok, Err, refl, sym, ap, ◌∙◌}
use Rattle.f77_ast.specs.declared.program.Entity.{Entity}
use Rattle.f77_ast.specs.declared.program.Program.{Program}
use Rattle.f77_ast.specs.declared.program.Unit.{Unit as ProgramUnit}
use Rattle.f77_ast.specs.declared.refusal.Refusal.{Refusal}
use Rattle.f77_built.specs.Built.{unbuilt_of}
use Rattle.f77_cards.specs.Cards.{cards_of}
use Rattle.f77_front.proofs.Listings.{listing_spelled, spelled_listing}
use Rattle.f77_front.specs.Accepted.{IsAccepted}
use Rattle.f77_front.specs.Front.{and_then, later_refusal, listing_of, unless_refused, program_with, program_of, front_of}
use Rattle.f77_names.specs.Resolve.{resolve_of}
use Rattle.f77_structure.specs.Loops.{loops_of}
use Rattle.f77_operands.specs.Limit.{operand_refusal}
use Rattle.f77_shape.specs.Shape.{shape_of}

-- what was made before something was made of it
record Made {A B : Type 0} (r : Result A Refusal) (go : A → Result B Refusal) (b : B) : Type 0 where
  made : A
  is : r ≡ Ok made
  on : go made ≡ Ok b

made : {A B : Type 0} (r : Result A Refusal) (go : A → Result B Refusal) (b : B) → and_then r go ≡ Ok b → Made r go b
made (Ok a) go b e = record { made = a; is = refl; on = e }
made (Err refusal) go b e = absurd cc

-- what is made where nothing refuses
unless_made : {A : Type 0} (o : Option Refusal) (given all : A) → unless_refused o given ≡ Ok all → (o ≡ None) × (given ≡ all)
unless_made None given all e = (refl, cc)
unless_made (Some refusal) given all e = absurd cc

-- where nothing refuses, neither the limit on operands does, nor what is built
pub later_none : (units : List ProgramUnit) (entities : List Entity) → later_refusal units entities ≡ None → (operand_refusal units ≡ None) × (unbuilt_of units entities ≡ None)
later_none units entities e = by (operand_refusal units) refl e
  where
    by : (o : Option Refusal) → operand_refusal units ≡ o → option_or o (unbuilt_of units entities) ≡ None → (operand_refusal units ≡ None) × (unbuilt_of units entities ≡ None)
    by None h k = (h, k)
    by (Some refusal) h k = absurd (cc)

-- a program of some units
pub record IsMade (units : List ProgramUnit) (program : Program) : Type 0 where
  pub entities : List Entity
  pub names : resolve_of units ≡ Ok entities
  pub operands : operand_refusal units ≡ None
  pub built : unbuilt_of units entities ≡ None
  pub is : program_with units entities ≡ program

pub program_made : (units : List ProgramUnit) (program : Program) → program_of units ≡ Ok program → IsMade units program
program_made units program e =
    let m = made (resolve_of units) (λ entities. unless_refused (later_refusal units entities) (program_with units entities)) program e in
    let u = unless_made (later_refusal units m.made) (program_with units m.made) program m.on in
    let n = later_none units m.made u.0 in
    record { entities = m.made; names = m.is; operands = n.0; built = n.1; is = u.1 }

-- the parts of an accepted file
pub accepted_of : (bytes : List ℕ) (program : Program) → front_of bytes ≡ Ok program → IsAccepted bytes program
accepted_of bytes program e =
    let c = made (cards_of bytes) (λ cards. and_then (listing_of cards) (λ statements. and_then (shape_of statements) program_of)) program e in
    let s = made (listing_of c.made) (λ statements. and_then (shape_of statements) program_of) program c.on in
    let u = made (shape_of s.made) program_of program s.on in
    let p = program_made u.made program u.on in
    rw (sym p.is) (record {
      cards = c.made;
      statements = s.made;
      cut = c.is;
      listed = listing_spelled c.made s.made s.is;
      shape = u.is;
      entities = p.entities;
      names = p.names;
      operands = p.operands;
      built = p.built;
      layout = refl;
      loops = refl;
    })

-- and of such parts a file is accepted
of_accepted : (bytes : List ℕ) (program : Program) → IsAccepted bytes program → front_of bytes ≡ Ok program
of_accepted bytes program a =
    let later : later_refusal program.units a.entities ≡ None = ap (λ o. option_or o (unbuilt_of program.units a.entities)) a.operands ∙ a.built in
    let laid : program_with program.units a.entities ≡ record { units = program.units; layout = program.layout; loops = loops_of program.units } = ap (λ layout. record { units = program.units; layout = layout; loops = loops_of program.units }) (sym a.layout) in
    let same : program_with program.units a.entities ≡ program = laid ∙ ap (λ loops. record { units = program.units; layout = program.layout; loops = loops }) (sym a.loops) in
    ap (λ r. and_then r (λ cards. and_then (listing_of cards) (λ statements. and_then (shape_of statements) program_of))) a.cut
    ∙ ap (λ r. and_then r (λ statements. and_then (shape_of statements) program_of)) (spelled_listing a.cards a.statements a.listed)
    ∙ ap (λ r. and_then r program_of) a.shape
    ∙ ap (λ r. and_then r (λ entities. unless_refused (later_refusal program.units entities) (program_with program.units entities))) a.names
    ∙ ap (λ o. unless_refused o (program_with program.units a.entities)) later
    ∙ ap Ok same

pub accepted_files : (bytes : List ℕ) (program : Program) → (front_of bytes ≡ Ok program → IsAccepted bytes program) × (IsAccepted bytes program → front_of bytes ≡ Ok program)
accepted_files bytes program = (accepted_of bytes program, of_accepted bytes program)
