use Rattle.std.proofs.Common.{◌≡◌, ◌≤◌, ◌∙◌, length, map, rules, ap, arith, sym, subst}
use Rattle.std.proofs.lemmas.Grind.{common_steps}
use Rattle.std.specs.Option.{option_map}
use Rattle.f77_ast.specs.declared.expr.Expr.TheBlock as block
use Rattle.f77_ast.specs.declared.expr.Expr.TheFolds.{the_lemmas}
use Rattle.f77_structure.specs.HasMeaning.{expr_has_meaning}
use Rattle.f77_meaning.specs.Demand.{and_then, gives, location_of, term_of, value_at}
use Rattle.f77_machine.specs.Evaluated.{as_located}
use Rattle.f77_machine.specs.Setting.{setting_in}
use Rattle.f77_machine.proofs.Meanings.{located_stored, only_one, reference_value, subscript_means, many_subscripts}
use Rattle.f77_machine.proofs.demand.+demand.Goals as goal

-- the subscript has a meaning
pub located-demand-requires : goal.located-demand-requires
unfolding block.the_depth
located-demand-requires t c =
    let means = subscript_means (expr_has_meaning c.args.program.now.units c.args.program.now.layout c.args.unit) c.args.entity.now c.subscript-item.result c.in-Some.subscripts c.args.args.now c.in-Some.is
    (sym c.as_slice.ensures ∙ only_one c.as_slice.result.now c.subscript-item.result c.in-len1.len_at_least c.in-len1.len_below c.subscript-item.is) c.requires.meaning in
    (first_of (search rules, grind (arith, common_steps)), (c.requires.storage, means))

pub located-returns-in-len2-up-clause-value : goal.located-returns-in-len2-up-clause-value
located-returns-in-len2-up-clause-value t c =
    sym (located_stored (setting_in c.args.program.now c.args.unit) c.args.entity.now (option_map (map (term_of (setting_in c.args.program.now c.args.unit))) c.args.args.now) c.args.answers.now c.requires.stored
    ∙ many_subscripts (setting_in c.args.program.now c.args.unit) c.args.entity.now c.in-Some.subscripts c.args.args.now c.args.answers.now c.in-Some.is
    (subst (λ xs. 2 ≤ length xs) c.as_slice.ensures c.in-len2-up.len_at_least))

-- a reference's value is that of what it stands for
pub demand-returns-in-Ref-clause-value : goal.demand-returns-in-Ref-clause-value
demand-returns-in-Ref-clause-value t c =
    c.reference_value.ensures.value ∙ reference_value (setting_in c.args.program.now c.args.unit) c.args.expr.now c.in-Ref.reference c.args.answers.now c.in-Ref.is

-- what is in storage is read where its place is
pub reference_value-returns-in-Gives-clause-value : goal.reference_value-returns-in-Gives-clause-value
reference_value-returns-in-Gives-clause-value t c =
    let s = setting_in c.args.program.now c.args.unit in
    let is_located : location_of s c.args.reference.now c.args.answers.now ≡ gives (as_located c.args.program.now.layout c.in-Gives.place) c.in-Gives.rest.now =
    first_of (search (rules, the_lemmas), grind (arith, common_steps, the_lemmas)) in
    c.integer_at.ensures.value s ∙ ap (λ d. and_then d (value_at s)) (sym is_located)
