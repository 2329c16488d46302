use Rattle.std.proofs.Common.{◌≡◌, ◌+◌, ◌<◌, ◌≤◌, length, sym, ap, subst, ◌∙◌, arith, rules, FitsSigned, w64}
use Rattle.std.specs.Prelude.{All, slice_set}
use Rattle.std.proofs.Math.ListN.{length-set}
use Rattle.std.proofs.lemmas.Int.{to_z-of_z}
use Rattle.slot_rows.specs.Rows.{number_at, regions_of}
use Rattle.slot_rows.proofs.RegionLemmas.{below}
use Rattle.slot_rows.proofs.CountLemmas.{taken_count}
use Rattle.priv_copies.proofs.Commits.{one_put}
use Rattle.priv_copies.proofs.copies.Copies.commit.Goals as goal

pub put-requires : goal.put-requires
put-requires g c =
    let all : All (λ r. r.start + r.len ≤ length (g.C.Cells.values c.args.cells.now)) (regions_of c.loop-address.self.rows) = subst (All (λ r. r.start + r.len ≤ length (g.C.Cells.values c.args.cells.now))) (sym c.loop-address.invariant.regions) c.requires.within in
    omega (arith, below (regions_of c.loop-address.self.rows) c.in-Some.address (length (g.C.Cells.values c.args.cells.now)) all c.in-Some.ensures.address, c.loop-address.invariant.size)

pub loop-address-preserved : goal.loop-address-preserved
loop-address-preserved g c =
    let start = g.C.Cells.values c.args.cells.now in
    let now = g.C.Cells.values c.loop-address.cells in
    let after = g.C.Cells.values c.put.new.self in
    let address = c.in-Some.address in
    let value = c.in-Some.value in
    let all : All (λ r. r.start + r.len ≤ length start) (regions_of c.loop-address.self.rows) = subst (All (λ r. r.start + r.len ≤ length start)) (sym c.loop-address.invariant.regions) c.requires.within in
    let inside : address < length start = below (regions_of c.loop-address.self.rows) address (length start) all c.in-Some.ensures.address in
    let within : address < length now = omega (arith, inside, c.loop-address.invariant.size) in
    let fits : FitsSigned w64 value = search rules in
    let put : after ≡ slice_set now address value = c.put.ensures.values ∙ ap (slice_set now address) (to_z-of_z w64 value fits) in
    let taken = c.in-Some.ensures.taken in
    record {
      values = λ a d. one_put (number_at c.loop-address.self.rows c.args.slot) (number_at c.take.new.self c.args.slot) now after address value c.in-Some.ensures.was taken.here taken.others put within a d ∙ c.loop-address.invariant.values a d;
      size = ap length put ∙ length-set now address value ∙ c.loop-address.invariant.size;
      slots = λ s a h. taken.slots s a h ∙ c.loop-address.invariant.slots s a h;
      window = taken.window ∙ c.loop-address.invariant.window;
      regions = taken.regions ∙ c.loop-address.invariant.regions;
      reads = c.put.ensures.same_reads ∙ c.loop-address.invariant.reads;
      test = c.put.ensures.same_test ∙ c.loop-address.invariant.test;
    }

pub loop-address-smaller : goal.loop-address-smaller
loop-address-smaller g c =
    let start = g.C.Cells.values c.args.cells.now in
    let now = g.C.Cells.values c.loop-address.cells in
    let after = g.C.Cells.values c.put.new.self in
    let address = c.in-Some.address in
    let value = c.in-Some.value in
    let all : All (λ r. r.start + r.len ≤ length start) (regions_of c.loop-address.self.rows) = subst (All (λ r. r.start + r.len ≤ length start)) (sym c.loop-address.invariant.regions) c.requires.within in
    let inside : address < length start = below (regions_of c.loop-address.self.rows) address (length start) all c.in-Some.ensures.address in
    let within : address < length now = omega (arith, inside, c.loop-address.invariant.size) in
    let taken = c.in-Some.ensures.taken in
    omega (arith, taken_count (number_at c.loop-address.self.rows c.args.slot) (number_at c.take.new.self c.args.slot) (length start) address value c.in-Some.ensures.was taken.here taken.others inside)
