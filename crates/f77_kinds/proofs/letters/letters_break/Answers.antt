use Rattle.std.proofs.Common.{ℕ, Bool, List, ◌||◌, take, sym, ap, ◌∙◌}
use Rattle.std.specs.List.{flat_map, list_any}
use Rattle.f77_ast.specs.declared.rule.Rule.TheVariants.{TypeClash}
use Rattle.f77_ast.specs.declared.specification.ImplicitRule.{ImplicitRule}
use Rattle.f77_kinds.specs.Letters.{rule_letters, letters_of, is_among, has_again, has_backward, breaks_letters}
use Rattle.f77_leaves.specs.Declarations.{rules_in}
use Rattle.f77_kinds.specs.Named.{is_named}
use Rattle.f77_uses.proofs.KnownLemmas.{same_functions}
use Rattle.f77_uses.proofs.Turns.{turned, first_from}
use Rattle.f77_kinds.proofs.LetterLemmas.{among_more}
use Rattle.f77_kinds.proofs.letters.letters_break.Goals as goal

pub loop-listed-preserved : goal.loop-listed-preserved
loop-listed-preserved c =
    let unit = c.args.unit.now in
    let i = c.loop-listed.listed-index in
    let x = c.listed-item.result in
    let kept = c.loop-listed.invariant in
    let before = is_among (letters_of (take i unit)) in
    let letters = c.as_slice.ensures ∙ c.in_ok-letters.ensures ∙ ap (λ (l : List ImplicitRule). flat_map rule_letters l) c.rules_in-rules.ensures in
    record {
      named = λ letter.
          c.in_ok-again.ensures.noted letter
          ∙ ap (λ b. b || is_among c.as_slice.result.now letter) (kept.named letter)
          ∙ ap (λ l. before letter || is_among l letter) letters
          ∙ sym (among_more unit i x letter c.loop-listed-test.true c.listed-item.is);
      first = turned TypeClash (breaks_letters unit) unit i x c.loop-listed.first (first_from TypeClash (breaks_letters unit) unit 0) c.refused_if.result c.sooner-first.result c.or-breaks.result c.loop-listed-test.true c.listed-item.is c.sooner-first.ensures c.refused_if.ensures
          (c.or-breaks.ensures
          ∙ ap (λ b. b || c.in_ok-again.again) (c.is_any_backward.ensures ∙ ap (λ (l : List ImplicitRule). list_any has_backward l) c.rules_in-rules.ensures)
          ∙ ap (λ b. list_any has_backward (rules_in x.stmt) || b)
          (c.in_ok-again.ensures.again
          ∙ ap (λ (test : ℕ → Bool). has_again test c.as_slice.result.now) (same_functions (is_named c.loop-listed.named) before kept.named)
          ∙ ap (has_again before) letters))
          kept.first;
    }
