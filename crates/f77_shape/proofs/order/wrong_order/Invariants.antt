use Rattle.f77_ast.specs.declared.rule.Rule.TheVariants.{StatementOrder}
use Rattle.std.proofs.Common.{◌≡◌, ℕ, nat_lt, take}
use Rattle.std.specs.List.{list_any}
use Rattle.f77_ast.specs.Refusal.{sooner}
use Rattle.f77_shape.specs.Order.{part_of, is_out_of_order}
use Rattle.f77_structure.specs.Units.{is_main}
use Rattle.f77_shape.proofs.Firsts.{first_from}
use Rattle.f77_shape.proofs.order.wrong_order.Given as goal

abbrev pub invariant-loop-listed : goal.invariant-loop-listed
invariant-loop-listed l = record {
  first : sooner l.first (first_from StatementOrder (is_out_of_order l.unit) l.unit l.listed-index) ≡ first_from StatementOrder (is_out_of_order l.unit) l.unit 0;
  latest : (part : ℕ) → list_any (λ other. nat_lt part (part_of other.stmt)) (take l.listed-index l.unit) ≡ nat_lt part l.latest;
  main : l.main ≡ is_main l.unit;
}
