use Rattle.std.proofs.Common.{◌≡◌, true, length, rules, refl, subst}
use Rattle.sym_lmad.specs.Bindings.{FitsCells}
use Rattle.analysis_rows.proofs.judge.truth.Goals as goal

pub eval-holds-requires-clause-readable : goal.eval-holds-requires-clause-readable
eval-holds-requires-clause-readable c =
    let fit : c.fit.result ≡ true = search rules in
    let fits : FitsCells c.args.env.now (length c.args.store.now.nums) = subst (FitsCells c.args.env.now) c.len.ensures (c.fit.ensures fit) in
    record { fits = fits; allowed = λ a h. refl }
