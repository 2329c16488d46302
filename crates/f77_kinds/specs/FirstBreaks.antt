-- The first statements of a unit that break the two rules.
use Rattle.std.specs.Prelude.{◌≡◌, List}
use Rattle.f77_ast.specs.Refusal.{first_of}
use Rattle.f77_ast.specs.declared.program.Listed.{Listed}
use Rattle.f77_ast.specs.declared.rule.Rule.TheVariants.{TypeClash, ArgumentCount}
use Rattle.f77_kinds.specs.Breaks.{has_clash, has_miscount}
use Rattle.f77_kinds.specs.declared.kinds_break.FirstBreaks.{FirstBreaks}
use Rattle.f77_leaves.specs.Declarations.{Declarations}
use Rattle.f77_uses.specs.Refused.{broken_by}

pub record AreFirst (declared : Declarations) (unit : List Listed) (breaks : FirstBreaks) : Type 0 where
  pub clash : breaks.clash ≡ first_of (broken_by TypeClash (has_clash declared) 0 unit)
  pub miscount : breaks.miscount ≡ first_of (broken_by ArgumentCount (has_miscount declared) 0 unit)
