use Rattle.std.proofs.Common.{ℕ, ◌++◌, ◌∷◌, [], List, take, sym, subst, ap, ◌∙◌}
use Rattle.std.proofs.lemmas.List.{take_more, take_all}
use Rattle.f77_uses.specs.Tables.{told_by}
use Rattle.f77_constants.specs.Constants.{name_length}
use Rattle.f77_constants.specs.Rounds.{Round}
use Rattle.f77_constants.specs.Values.{value_in}
use Rattle.f77_constants.proofs.Passes.{nothing_yet, turn}
use Rattle.f77_constants.proofs.constants.round.Goals as goal

pub loop-name-init : goal.loop-name-init
loop-name-init c =
    let unit = told_by c.args.tables.now in
    let lengths = name_length unit (value_in c.args.lengths.now) in
    let values = value_in c.args.values.now in
    subst (λ (l : List (List ℕ)). Round unit lengths values values [] l) (sym c.new-left.ensures) (nothing_yet unit lengths values)

pub loop-name-preserved : goal.loop-name-preserved
loop-name-preserved c =
    let unit = told_by c.args.tables.now in
    let lengths = name_length unit (value_in c.args.lengths.now) in
    let start = value_in c.args.values.now in
    let after = value_in c.settle.new.values in
    let names = c.args.names.now in
    let i = c.loop-name.name-index in
    let x = c.name-item.result in
    let done = take_more names i x c.loop-name-test.true ∙ ap (λ (y : List ℕ). take i names ++ y ∷ []) (sym c.name-item.is) in
    subst (λ (l : List (List ℕ)). Round unit lengths start after l c.add_unless.new.names) (sym done)
    (subst (λ (l : List (List ℕ)). Round unit lengths start after (take i names ++ x ∷ []) l) (sym c.in_ok-add_unless.ensures)
    (turn unit lengths start (value_in c.loop-name.values) after x c.in_ok-has.ensures.values (take i names) c.loop-name.left c.loop-name.invariant c.in_ok-has.has c.in_ok-has.ensures.has))

pub returns : goal.returns
returns c =
    let unit = told_by c.args.tables.now in
    let lengths = name_length unit (value_in c.args.lengths.now) in
    subst (λ (l : List (List ℕ)). Round unit lengths (value_in c.args.values.now) (value_in c.loop-name.values) l c.loop-name.left) (take_all c.loop-name.name-index c.args.names.now c.loop-name-test.false) c.loop-name.invariant
