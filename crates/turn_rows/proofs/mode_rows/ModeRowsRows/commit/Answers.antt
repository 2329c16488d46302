use Rattle.std.proofs.Common.{◌≤◌, ◌∙◌, length, rules, arith}
use Rattle.std.proofs.lemmas.Grind.{common_steps}
use Rattle.region_run.specs.Machine.{store_of_cells}
use Rattle.turn_rows.specs.CellModes.{mode_at, own_in}
use Rattle.turn_rows.proofs.OwnRows.{commits_next, clears_next, commits_all, clears_all, unlisted, unlisted_own, same_modes}
use Rattle.turn_rows.proofs.mode_rows.ModeRowsRows.commit.Goals as goal

pub loop-address-preserved : goal.loop-address-preserved
loop-address-preserved g c = record {
  store = commits_next (mode_at c.args.self.now) (mode_at c.loop-address.self) (store_of_cells (g.C.Cells.values c.args.cells.now)) (store_of_cells (g.C.Cells.values c.loop-address.cells)) (store_of_cells (g.C.Cells.values c.commit_cell.new.cells))
      (own_in c.args.self.now c.args.row) (own_in c.loop-address.self c.args.row) c.loop-address.address
      (same_modes c.args.self.now c.loop-address.self c.loop-address.invariant.same_modes) c.loop-address.invariant.store c.loop-address.invariant.own c.commit_cell.ensures.store;
  own = clears_next (own_in c.args.self.now c.args.row) (own_in c.loop-address.self c.args.row) (own_in c.commit_cell.new.self c.args.row) c.loop-address.address c.loop-address.invariant.own c.commit_cell.ensures.own;
  others = λ other d. c.commit_cell.ensures.others other d ∙ c.loop-address.invariant.others other d;
  same_modes = c.commit_cell.ensures.same_modes ∙ c.loop-address.invariant.same_modes;
  same_count = c.commit_cell.ensures.same_count ∙ c.loop-address.invariant.same_count;
  same_length = c.commit_cell.ensures.same_length ∙ c.loop-address.invariant.same_length;
  same_test = c.commit_cell.ensures.same_test ∙ c.loop-address.invariant.same_test;
}

pub returns-clause-store : goal.returns-clause-store
returns-clause-store g c =
    let modes = c.args.self.now.modes.items in
    let all : length modes ≤ c.loop-address.address = first_of (search rules, grind (arith, common_steps)) in
    c.loop-address.invariant.store
    ∙ commits_all (mode_at c.args.self.now) (store_of_cells (g.C.Cells.values c.args.cells.now)) (own_in c.args.self.now c.args.row) c.loop-address.address (λ a h. unlisted modes a (omega (arith, all, h)))

pub returns-clause-own : goal.returns-clause-own
returns-clause-own g c =
    let modes = c.args.self.now.modes.items in
    let all : length modes ≤ c.loop-address.address = first_of (search rules, grind (arith, common_steps)) in
    c.loop-address.invariant.own
    ∙ clears_all (own_in c.args.self.now c.args.row) c.loop-address.address (λ a h. unlisted_own c.args.self.now.rows.items (length modes) c.args.row a c.args.self.now.places (omega (arith, all, h)))
