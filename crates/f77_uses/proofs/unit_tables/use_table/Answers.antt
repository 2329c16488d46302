use Rattle.std.proofs.Common.{◌||◌, take, sym, ap, ◌∙◌}
use Rattle.std.proofs.lemmas.List.{take_all}
use Rattle.std.specs.List.{list_any}
use Rattle.std.specs.Option.{option_or}
use Rattle.f77_leaves.specs.Declarations.{Declarations}
use Rattle.f77_uses.specs.Firsts.{told}
use Rattle.f77_uses.specs.Tables.{told_by}
use Rattle.f77_uses.specs.UseTables.{is_busy_in}
use Rattle.f77_uses.specs.Uses.{first_use, on_name, is_busy_with, leaves_in, uses_by}
use Rattle.f77_uses.proofs.UnitLemmas.{first_more, busy_more, uses_are}
use Rattle.f77_uses.proofs.unit_tables.use_table.Goals as goal

pub loop-listed-preserved : goal.loop-listed-preserved
loop-listed-preserved c =
    let unit = c.args.unit.now in
    let t = told_by c.args.tables.now in
    let i = c.loop-listed.listed-index in
    let x = c.listed-item.result in
    let kept = c.loop-listed.invariant in
    let leaves = c.as_slice.ensures ∙ c.in_ok-leaves.ensures in
    record {
      firsts = λ name.
          c.in_ok-note_all.ensures.firsts name
          ∙ ap (λ o. option_or o (first_use t c.as_slice.result.now name)) (kept.firsts name)
          ∙ ap (λ l. option_or (first_use t (leaves_in (take i unit)) name) (first_use t l name)) leaves
          ∙ sym (first_more t unit i x name c.loop-listed-test.true c.listed-item.is);
      busy = λ name.
          c.in_ok-note_all.ensures.busy name
          ∙ ap (λ b. b || list_any (on_name (is_busy_with name)) c.as_slice.result.now) (kept.busy name)
          ∙ ap (λ l. list_any (on_name (is_busy_with name)) (leaves_in (take i unit)) || list_any (on_name (is_busy_with name)) l) leaves
          ∙ sym (busy_more unit i x name c.loop-listed-test.true c.listed-item.is);
    }

pub returns : goal.returns
returns c =
    let unit = c.args.unit.now in
    let t = told_by c.args.tables.now in
    let i = c.loop-listed.listed-index in
    let past = c.loop-listed-test.false in
    let kept = c.loop-listed.invariant in
    uses_are (told c.loop-listed.uses.firsts) (first_use t (leaves_in unit)) (is_busy_in c.loop-listed.uses) (λ name. list_any (on_name (is_busy_with name)) (leaves_in unit))
    (λ name. kept.firsts name ∙ ap (λ l. first_use t (leaves_in l) name) (take_all i unit past))
    (λ name. kept.busy name ∙ ap (λ l. list_any (on_name (is_busy_with name)) (leaves_in l)) (take_all i unit past))
    ∙ ap (λ (d : Declarations). uses_by d (leaves_in unit)) c.requires
