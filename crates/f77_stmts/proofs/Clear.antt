-- Each row is clear: no text of it has two trees.
use Rattle.std.proofs.Common.{◌≡◌, Bool, true, false, refl}
use Rattle.f77_stmts.specs.declared.keyword.Keyword.{Keyword}
use Rattle.f77_stmts.specs.declared.keyword.Keyword.TheVariants as word
use Rattle.f77_stmts.specs.Rows.{assignment, three_labels, rule}
use Rattle.f77_forms.proofs.Forms.{is_clear}

pub assignment_is_clear : is_clear assignment ≡ true
assignment_is_clear = refl

pub labels_are_clear : is_clear three_labels ≡ true
labels_are_clear = refl

-- a row without items
abbrev pub is_plain : Keyword → Bool
is_plain word.Print = false
is_plain word.Write = false
is_plain word.ReadList = false
is_plain word.ReadUnit = false
is_plain _ = true

pub rule_is_clear : (k : Keyword) → is_plain k ≡ true → is_clear (rule k) ≡ true
rule_is_clear word.Do e = refl
rule_is_clear word.Continue e = refl
rule_is_clear word.Return e = refl
rule_is_clear word.ElseIf e = refl
rule_is_clear word.Else e = refl
rule_is_clear word.EndIf e = refl
rule_is_clear word.End e = refl
rule_is_clear word.Stop e = refl
rule_is_clear word.ComputedGoto e = refl
rule_is_clear word.Goto e = refl
rule_is_clear word.Call e = refl
rule_is_clear word.Program e = refl
rule_is_clear word.Subroutine e = refl
rule_is_clear word.Function e = refl
rule_is_clear word.Integer e = refl
rule_is_clear word.Logical e = refl
rule_is_clear word.Character e = refl
rule_is_clear word.Dimension e = refl
rule_is_clear word.Common e = refl
rule_is_clear word.Equivalence e = refl
rule_is_clear word.Parameter e = refl
rule_is_clear word.Implicit e = refl
rule_is_clear word.Save e = refl
rule_is_clear word.Data e = refl
rule_is_clear word.Print e = cc
rule_is_clear word.Write e = cc
rule_is_clear word.ReadList e = cc
rule_is_clear word.ReadUnit e = cc
