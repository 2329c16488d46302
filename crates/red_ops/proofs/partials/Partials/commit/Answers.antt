use Rattle.std.proofs.Common.{◌≡◌, ℕ, ℤ, ◌+◌, ◌<◌, ◌≤◌, length, get_or, sym, ap, subst, ◌∙◌, arith, rules, FitsSigned, w64}
use Rattle.std.specs.Prelude.{All, slice_set, is_some}
use mir.Val.{to_z, of_z}
use Rattle.std.proofs.Math.ListN.{length-set}
use Rattle.std.proofs.lemmas.Int.{to_z-of_z}
use Rattle.std.proofs.lemmas.Option.{get_or_from_slice_get}
use Rattle.hyb_base.specs.declared.ops.RedOp.TheVariants.{Add}
use Rattle.hyb_base.specs.Reduction.{apply}
use Rattle.slot_rows.specs.Rows.{number_at, written_count, regions_of}
use Rattle.slot_rows.specs.Spans.{place_with}
use Rattle.slot_rows.proofs.CountLemmas.{taken_count, none_count}
use Rattle.slot_rows.proofs.RegionLemmas.{below}
use Rattle.red_ops.specs.Partials.{op_at, reads_after}
use Rattle.red_ops.proofs.Commits.{one_combined, one_read}
use Rattle.red_ops.proofs.partials.Partials.commit.Goals as goal

pub get-value-requires-clause-held : goal.get-value-requires-clause-held
get-value-requires-clause-held g c =
    let start = g.C.Cells.values c.args.cells.now in
    let now = g.C.Cells.values c.loop-address.cells in
    let address = c.in-Some.address in
    let all : All (λ r. r.start + r.len ≤ length start) (regions_of c.loop-address.self.rows) = subst (All (λ r. r.start + r.len ≤ length start)) (sym c.loop-address.invariant.regions) c.requires.within in
    let inside : address < length start = below (regions_of c.loop-address.self.rows) address (length start) all c.in-Some.ensures.address in
    let within : address < length now = omega (arith, inside, c.loop-address.invariant.size) in
    omega (arith, within)

pub put-requires : goal.put-requires
put-requires g c =
    let start = g.C.Cells.values c.args.cells.now in
    let now = g.C.Cells.values c.loop-address.cells in
    let address = c.in-Some.address in
    let all : All (λ r. r.start + r.len ≤ length start) (regions_of c.loop-address.self.rows) = subst (All (λ r. r.start + r.len ≤ length start)) (sym c.loop-address.invariant.regions) c.requires.within in
    let inside : address < length start = below (regions_of c.loop-address.self.rows) address (length start) all c.in-Some.ensures.address in
    let within : address < length now = omega (arith, inside, c.loop-address.invariant.size) in
    omega (arith, within, ap length c.get-value.ensures.same_values)

pub loop-address-smaller : goal.loop-address-smaller
loop-address-smaller g c =
    let start = g.C.Cells.values c.args.cells.now in
    let now = g.C.Cells.values c.loop-address.cells in
    let address = c.in-Some.address in
    let all : All (λ r. r.start + r.len ≤ length start) (regions_of c.loop-address.self.rows) = subst (All (λ r. r.start + r.len ≤ length start)) (sym c.loop-address.invariant.regions) c.requires.within in
    let inside : address < length start = below (regions_of c.loop-address.self.rows) address (length start) all c.in-Some.ensures.address in
    let within : address < length now = omega (arith, inside, c.loop-address.invariant.size) in
    let taken = c.in-Some.ensures.taken in
    omega (arith, taken_count (number_at c.loop-address.self.rows c.args.slot) (number_at c.take.new.self c.args.slot) (length start) address c.in-Some.partial c.in-Some.ensures.was taken.here taken.others inside)

pub loop-address-preserved : goal.loop-address-preserved
loop-address-preserved g c =
    let start = g.C.Cells.values c.args.cells.now in
    let now = g.C.Cells.values c.loop-address.cells in
    let address = c.in-Some.address in
    let all : All (λ r. r.start + r.len ≤ length start) (regions_of c.loop-address.self.rows) = subst (All (λ r. r.start + r.len ≤ length start)) (sym c.loop-address.invariant.regions) c.requires.within in
    let inside : address < length start = below (regions_of c.loop-address.self.rows) address (length start) all c.in-Some.ensures.address in
    let within : address < length now = omega (arith, inside, c.loop-address.invariant.size) in
    let taken = c.in-Some.ensures.taken in
    let after = g.C.Cells.values c.put.new.self in
    let partial = c.in-Some.partial in
    let value = c.get-value.result in
    let first = c.args.self.now in
    let fits : FitsSigned w64 partial = search rules in
    let value_fits : FitsSigned w64 value = search rules in
    let applied_fits : FitsSigned w64 c.apply.result = search rules in
    let op : c.op_of-op.result ≡ op_at first address = c.op_of-op.ensures ∙ ap (λ ops. get_or ops (place_with (regions_of c.take.new.self) address) Add) c.loop-address.invariant.ops ∙ ap (λ rs. get_or first.ops.items (place_with rs address) Add) (taken.regions ∙ c.loop-address.invariant.regions) in
    let applied : c.apply.result ≡ apply (op_at first address) value partial = c.apply.ensures ∙ ap (λ x. apply c.op_of-op.result x (to_z w64 (of_z w64 partial))) (to_z-of_z w64 value value_fits) ∙ ap (λ x. apply c.op_of-op.result value x) (to_z-of_z w64 partial fits) ∙ ap (λ o. apply o value partial) op in
    let put : after ≡ slice_set now address (apply (op_at first address) value partial) = c.put.ensures.values ∙ ap (λ z. slice_set z address (to_z w64 (of_z w64 c.apply.result))) c.get-value.ensures.same_values ∙ ap (slice_set now address) (to_z-of_z w64 c.apply.result applied_fits ∙ applied) in
    let read : (d : ℤ) → get_or now address d ≡ value = λ d. get_or_from_slice_get now address value d c.get-value.ensures.value in
    let count = taken_count (number_at c.loop-address.self.rows c.args.slot) (number_at c.take.new.self c.args.slot) (length start) address partial c.in-Some.ensures.was taken.here taken.others inside in
    record {
      values = λ a d. one_combined (op_at first) (number_at c.loop-address.self.rows c.args.slot) (number_at c.take.new.self c.args.slot) now after address partial value c.in-Some.ensures.was taken.here taken.others read put within a d ∙ c.loop-address.invariant.values a d;
      size = ap length put ∙ length-set now address (apply (op_at first address) value partial) ∙ c.loop-address.invariant.size;
      slots = λ s a h. taken.slots s a h ∙ c.loop-address.invariant.slots s a h;
      window = taken.window ∙ c.loop-address.invariant.window;
      regions = taken.regions ∙ c.loop-address.invariant.regions;
      ops = c.loop-address.invariant.ops;
      reads = one_read (g.C.Cells.reads c.loop-address.cells) (g.C.Cells.reads c.put.new.self) (written_count c.loop-address.self.rows c.args.slot (length start)) (written_count c.take.new.self c.args.slot (length start)) (c.put.ensures.same_reads ∙ c.get-value.ensures.counted) count ∙ c.loop-address.invariant.reads;
      test = c.put.ensures.same_test ∙ c.get-value.ensures.same_test ∙ c.loop-address.invariant.test;
    }

pub returns-clause-reads : goal.returns-clause-reads
returns-clause-reads g c =
    let size : ℕ = length (g.C.Cells.values c.args.cells.now) in
    let zero : written_count c.loop-address.self.rows c.args.slot size ≡ 0 = none_count (λ a. is_some (number_at c.loop-address.self.rows c.args.slot a)) size (λ a. ap (λ o. is_some o) (c.in_default.ensures.none.1 a)) in
    sym (ap (λ n. reads_after n (g.C.Cells.reads c.loop-address.cells)) zero) ∙ c.loop-address.invariant.reads
