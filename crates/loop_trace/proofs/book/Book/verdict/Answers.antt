-- What is known of the regions is true, so the verdict by it is right.
use Rattle.std.proofs.Common.{◌≡◌, List, [], ◌∷◌, ◌++◌, sym, ap, ◌∙◌, subst}
use Rattle.std.proofs.lemmas.Result.{IfOk-weaker}
use Rattle.dependence.specs.declared.modes.Verdict.{Verdict}
use Rattle.dependence.specs.Verdicts.{IsRight}
use Rattle.loop_trace.specs.declared.marks.Marks.{Marks}
use Rattle.loop_trace.specs.Marks.{verdict_from}
use Rattle.loop_trace.specs.Told.{IsRightOf, regions_of}
use Rattle.loop_trace.proofs.Verdicts.{right}
use Rattle.loop_trace.proofs.book.Book.verdict.Goals as goal

pub returns : goal.returns
returns c =
    IfOk-weaker c.verdict_of.result (λ v. v ≡ verdict_from c.deref.result.now []) (IsRightOf c.args.self.now)
    (λ v e layout ended current told.
    subst (λ (w : Verdict). IsRight (ended ++ current ∷ []) (regions_of layout) w) (sym (e ∙ ap (λ (ms : List Marks). verdict_from ms []) c.deref.ensures.value))
    (right (ended ++ current ∷ []) (regions_of layout) c.args.self.now.regions.items told.regions))
    c.verdict_of.ensures
