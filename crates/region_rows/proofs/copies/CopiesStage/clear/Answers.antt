use Rattle.std.proofs.Common.{◌+◌, ◌≤◌, ap, sym, subst, ◌∙◌}
use Rattle.std.specs.Prelude.{All}
use Rattle.slot_rows.specs.Spans.{has_address}
use Rattle.region_rows.proofs.copies.CopiesStage.clear.Goals as goal

pub invariant_of-self : goal.invariant_of-self
invariant_of-self c =
    record {
      window = c.clear.ensures.window ∙ c.args.self.now.window;
      size = c.args.self.now.size;
      held = λ a h. ap (λ rs. has_address rs a) c.clear.ensures.regions ∙ c.args.self.now.held a h;
      within = subst (All (λ r. r.start + r.len ≤ 1001000)) (sym c.clear.ensures.regions) c.args.self.now.within;
    }
