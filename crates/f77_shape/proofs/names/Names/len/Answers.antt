use Rattle.std.proofs.Common.{◌∙◌}
use Rattle.std.proofs.lemmas.Map.Made.{length-from_keys}
use Rattle.std.specs.Cmp.Lexicographic.{nat_list_eq_equiv}
use Rattle.f77_shape.proofs.names.Names.len.Goals as goal

pub returns : goal.returns
returns c = λ names held. c.len.ensures.len ∙ length-from_keys nat_list_eq_equiv c.args.self.now.names.keys names c.len.ensures.unique (λ name. held.at name)
