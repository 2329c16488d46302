use Rattle.std.proofs.Common.{◌≡◌, None, Some, sym, ◌∙◌}
use Rattle.f77_built.proofs.Files.{built_have_layouts}
use Rattle.f77_layout.specs.Layout.{layout_of}
use Rattle.f77_front.proofs.Files.{later_none}
use Rattle.f77_front.proofs.program.program_with.Goals as goal

-- what is built has a layout
pub unreachable-requires : goal.unreachable-requires
unreachable-requires c =
    let units = c.args.units in
    let entities = c.args.entities in
    let none : None ≡ Some (layout_of entities) = sym c.in-None.is ∙ c.in_ok-layout.ensures ∙ built_have_layouts units entities ((later_none units entities c.requires.built).1) in
    absurd (cc)
