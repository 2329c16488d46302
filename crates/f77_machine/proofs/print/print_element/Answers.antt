use Rattle.std.proofs.Common.{◌≡◌, ◌+◌, ◌-◌, ◌<◌, ◌∙◌, None, Some, ap, sym, rules, arith}
use Rattle.hyb_base.specs.Decimal.{decimal_of}
use Rattle.f77_structure.specs.Storage.{elements_of}
use Rattle.f77_io.specs.Line.{text_of}
use Rattle.f77_meaning.specs.Print.{after_elements, next_cell, stops, with_text, within_limit}
use Rattle.f77_machine.specs.Print.{as_printing}
use Rattle.f77_machine.proofs.Items.{element_goes}
use Rattle.f77_machine.proofs.print.print_element.Goals as goal

-- the element is in the line, and the next one is asked for
pub returns-in-Ok-clause-value : goal.returns-in-Ok-clause-value
returns-in-Ok-clause-value c = λ s frame go.
    let array = c.args.array.now in
    let here = as_printing frame c.args.at (text_of c.args.line.now) in
    let left : c.args.at.cells < elements_of array = omega (arith, c.storage_units.ensures, c.if-at-storage_units.false) in
    let fits : with_text (text_of c.args.line.now) (decimal_of c.in-Some.number.now) ≡ Some (text_of c.push.new.line) = search rules in
    c.ask_element-in-Ok.ensures.value s frame go (text_of c.push.new.line)
    ∙ ap (λ n. after_elements s array (elements_of array - n) (as_printing frame c.next_cell.result (text_of c.push.new.line)) go) c.next_cell.ensures.cells
    ∙ ap (λ q. after_elements s array (elements_of array - (c.args.at.cells + 1)) q go) (c.next_cell.ensures.next frame (text_of c.push.new.line) (text_of c.args.line.now))
    ∙ sym (element_goes s array c.requires.meaning here go c.in-Some.number.now c.in-Some._rest.now left (search rules)
    ∙ ap (λ o. within_limit o (λ line. after_elements s array (elements_of array - (c.args.at.cells + 1)) (next_cell here line) go)) fits)

-- the element would make the line too long
pub returns-in-Err-clause-value : goal.returns-in-Err-clause-value
returns-in-Err-clause-value c = λ s frame go.
    let array = c.args.array.now in
    let here = as_printing frame c.args.at (text_of c.args.line.now) in
    let left : c.args.at.cells < elements_of array = omega (arith, c.storage_units.ensures, c.if-at-storage_units.false) in
    let past : with_text (text_of c.args.line.now) (decimal_of c.in-Some.number.now) ≡ None = search rules in
    ap stops c.in-Err.ensures.fault
    ∙ sym (element_goes s array c.requires.meaning here go c.in-Some.number.now c.in-Some._rest.now left (search rules)
    ∙ ap (λ o. within_limit o (λ line. after_elements s array (elements_of array - (c.args.at.cells + 1)) (next_cell here line) go)) past)
