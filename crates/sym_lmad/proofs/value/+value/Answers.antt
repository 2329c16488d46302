use Rattle.std.proofs.Common.{◌≡◌, ℤ, Option, ap, sym, ◌∙◌}
use Rattle.sym_lmad.specs.Worth.{worth_of, worth_step, sum_by}
use Rattle.sym_lmad.specs.declared.sym.Sym.TheVariants as s
use Rattle.sym_lmad.proofs.Symbols.{fold_add}
use Rattle.sym_lmad.proofs.value.+value.Goals as goal

-- the right operand is evaluated over the values that the left one left as they were
pub returns-in-Add-clause-value : goal.returns-in-Add-clause-value
returns-in-Add-clause-value g t c =
    let worth = worth_of c.args.env.now (g.C.Cells.values c.args.cells.now) in
    let left : c.value-left.result ≡ worth c.in-Add.left = c.value-left.ensures.value ∙ ap worth c.get-in-Add.ensures in
    let right : c.value-right.result ≡ worth c.in-Add.right = c.value-right.ensures.value ∙ ap (λ values. worth_of c.args.env.now values c.get-in-Add-2.result.now) c.value-left.ensures.same_values ∙ ap worth c.get-in-Add-2.ensures in
    let folded : worth (s.Add c.in-Add.left c.in-Add.right) ≡ sum_by (worth c.in-Add.left) (worth c.in-Add.right) = fold_add (Option ℤ) (worth_step c.args.env.now (g.C.Cells.values c.args.cells.now)) c.in-Add.left c.in-Add.right in
    c.sum.ensures ∙ (λ i. sum_by (left i) (right i)) ∙ sym folded ∙ sym (ap worth c.in-Add.is)
