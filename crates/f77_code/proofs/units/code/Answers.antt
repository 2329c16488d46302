use Rattle.std.proofs.Common.{◌≡◌, ◌+◌, arith, subst, sym, ◌∙◌}
use Rattle.f77_ast.specs.declared.program.Program.{Program}
use Rattle.f77_structure.specs.Units.{listing_of}
use Rattle.f77_structure.proofs.Rising.{counted_in}
use Rattle.f77_meaning.specs.IsCodeOf.{IsCodeOf}
use Rattle.f77_code.specs.Units.{unit_code}
use Rattle.f77_code.proofs.Whole.{code_is, ok_through}
use Rattle.f77_code.proofs.units.code.Goals as goal

-- the statements of the unit are statements of the file
pub unit_code-requires-clause-statements : goal.unit_code-requires-clause-statements
unit_code-requires-clause-statements c =
    let of_unit : c.args.listing.now ≡ listing_of c.args.units.now c.args.unit = c.requires.listing in
    rw of_unit (omega (arith, counted_in c.args.units.now c.args.unit, c.statements_before-first.ensures.value, c.requires.statements))

pub returns : goal.returns
returns c =
    let program : Program = record { units = c.args.units.now; layout = c.args.layout.now; loops = c.args.loops.now } in
    ok_through (λ code. code ≡ unit_code c.args.loops.now c.args.layout.now c.args.unit (1 + c.statements_before-first.result) c.args.listing.now) (IsCodeOf program c.args.unit) c.unit_code.result
    (λ code e. subst (IsCodeOf program c.args.unit)
    (sym (e ∙ (λ i. unit_code c.args.loops.now c.args.layout.now c.args.unit (1 + c.statements_before-first.ensures.value i) (c.requires.listing i))))
    (code_is program c.requires.loops c.args.unit))
    c.unit_code.ensures
