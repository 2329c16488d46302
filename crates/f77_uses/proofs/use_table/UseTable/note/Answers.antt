use Rattle.std.proofs.Common.{◌||◌, sym, ap, ◌∙◌}
use Rattle.std.specs.Option.{option_or}
use Rattle.f77_uses.specs.Firsts.{told}
use Rattle.f77_uses.specs.Tables.{told_by}
use Rattle.f77_uses.specs.UseTables.{is_busy_in}
use Rattle.f77_uses.specs.Uses.{use_in, on_name, is_busy_with}
use Rattle.f77_uses.proofs.use_table.UseTable.note.Goals as goal

pub returns-in_ok-note_busy-in-Named-clause-firsts : goal.returns-in_ok-note_busy-in-Named-clause-firsts
returns-in_ok-note_busy-in-Named-clause-firsts c = λ name.
    c.in_ok-note_busy-in-Named.ensures.firsts name
    ∙ c.in_ok-note_use-in-Named.ensures.firsts name
    ∙ ap (λ l. option_or (told c.args.self.now.firsts name) (use_in (told_by c.args.tables.now) name l)) (sym c.in-Named.is)

pub returns-in_ok-note_busy-in-Named-clause-busy : goal.returns-in_ok-note_busy-in-Named-clause-busy
returns-in_ok-note_busy-in-Named-clause-busy c = λ name.
    c.in_ok-note_busy-in-Named.ensures.busy name
    ∙ ap (λ b. b || is_busy_with name c.in-Named.mention) (c.in_ok-note_use-in-Named.ensures.busy name)
    ∙ ap (λ l. is_busy_in c.args.self.now name || on_name (is_busy_with name) l) (sym c.in-Named.is)
