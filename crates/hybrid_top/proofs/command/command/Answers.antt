use Rattle.std.proofs.Common.{◌≡◌, ◌∙◌, length, arith}
use Rattle.hybrid_top.proofs.CommandLemmas.{command_five}
use Rattle.hybrid_top.proofs.command.command.Goals as goal

pub returns-clause-request : goal.returns-clause-request
returns-clause-request c =
    let five : length c.args.words.now ≡ 5 = omega arith in
    c.run_command.ensures.request
    ∙ command_five c.args.words.now c.in_ok-get.field-0.now c.in_ok-get-2.field-0.now c.in_ok-get-3.field-0.now c.in_ok-get-4.field-0.now c.in_ok-get-5.field-0.now five c.in_ok-get.ensures c.in_ok-get-2.ensures c.in_ok-get-3.ensures c.in_ok-get-4.ensures c.in_ok-get-5.ensures
