use Rattle.f77_ast.specs.Limits.{most_names}
use Rattle.std.proofs.Common.{◌≡◌, ◌+◌, ℕ, List, [], take, min, sym, ap, ◌∙◌, subst}
use Rattle.f77_ast.specs.Refusal.{first_of}
use Rattle.f77_shape.specs.Limits.{name_count, names_of, names_pass}
use Rattle.f77_shape.specs.Names.{names_in}
use Rattle.f77_shape.specs.NameSets.{Holds}
use Rattle.f77_shape.proofs.CountLemmas.{names_more, holds_more, passes_capped, pass_turn}
use Rattle.f77_shape.proofs.limits.count_names.Goals as goal

pub loop-listed-preserved : goal.loop-listed-preserved
loop-listed-preserved c =
    let unit = c.args.unit.now in
    let i = c.loop-listed.listed-index in
    let x = c.listed-item.result in
    let held : Holds (names_of (take (i + 1) unit)) c.add_statement.new.self = subst (λ (l : List (List ℕ)). Holds l c.add_statement.new.self) (sym (names_more unit i x c.loop-listed-test.true c.listed-item.is)) (holds_more (names_of (take i unit)) (names_in x.stmt) c.loop-listed.names c.add_statement.new.self c.loop-listed.invariant.names c.in_ok-add_statement.ensures) in
    let count : c.capped-after.result ≡ min (c.args.others + name_count (names_of (take (i + 1) unit))) (most_names + 1) = c.capped-after.ensures ∙ ap (λ n. min (c.args.others + n) (most_names + 1)) (c.len.ensures (names_of (take (i + 1) unit)) held) in
    record {
      names = held;
      count = count;
      first = λ all e.
          pass_turn all unit i x c.loop-listed.over c.refused_if.result c.sooner-over.result (first_of (names_pass all [] unit)) c.passes.result c.loop-listed-test.true c.listed-item.is c.sooner-over.ensures c.refused_if.ensures
          (c.passes.ensures ∙ passes_capped c.args.others all (name_count (names_of (take i unit))) (name_count (names_of (take (i + 1) unit))) c.loop-listed.count c.capped-after.result e c.loop-listed.invariant.count count)
          (c.loop-listed.invariant.first all e);
    }
