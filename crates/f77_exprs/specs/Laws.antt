-- What joins the texts that are spelled with what is read.
use Rattle.std.specs.Prelude.{◌≡◌, Some}
use Rattle.f77_ast.specs.declared.expr.Expr.{Expr}
use Rattle.f77_exprs.specs.Operators.{Text}
use Rattle.f77_exprs.specs.Spelling.{SpellsExpr}
use Rattle.f77_exprs.specs.Reading.{expr_of}

-- what is read of a text is spelled so
abbrev pub WhatIsReadIsSpelled : Type 0
WhatIsReadIsSpelled = (text : Text) (tree : Expr) → expr_of text ≡ Some tree → SpellsExpr text tree

-- what is spelled so is read
abbrev pub WhatIsSpelledIsRead : Type 0
WhatIsSpelledIsRead = (text : Text) (tree : Expr) → SpellsExpr text tree → expr_of text ≡ Some tree

-- no text spells two expressions
abbrev pub NoTextSpellsTwoExpressions : Type 0
NoTextSpellsTwoExpressions = (text : Text) (one other : Expr) → SpellsExpr text one → SpellsExpr text other → one ≡ other
