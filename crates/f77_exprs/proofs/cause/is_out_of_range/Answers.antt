use Rattle.std.proofs.Common.{ℕ, List, ◌≡◌, ◌^◌, nat_le, true, sym, subst}
use Rattle.std.specs.List.{list_all}
use Rattle.std.specs.Char.{is_ascii_digit}
use Rattle.hyb_base.specs.Decimal.{value_of}
use Rattle.f77_exprs.proofs.Blanks.{run_digits, not_empty, none_in_range}
use Rattle.f77_exprs.proofs.cause.is_out_of_range.Goals as goal

pub returns-then-not-is_empty : goal.returns-then-not-is_empty
returns-then-not-is_empty c =
    let all = subst (λ (s : List ℕ). list_all is_ascii_digit s ≡ true) (sym c.number_run-run.ensures.value) (run_digits c.args.before c.args.text.now) in
    subst (λ (s : List ℕ). c.is_none.result ≡ nat_le (2 ^ 63) (value_of s)) c.number_run-run.ensures.value
    (none_in_range c.number_run-run.result.now c.number_of.result _ c.is_none.result all (not_empty c.number_run-run.result.now c.if-not-is_empty.ensures) c.number_of.ensures c.is_none.ensures)
