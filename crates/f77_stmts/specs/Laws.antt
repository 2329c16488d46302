-- What joins the texts that are spelled with what is read.
use Rattle.std.specs.Prelude.{◌≡◌, Some}
use Rattle.f77_ast.specs.declared.stmt.Stmt.{Stmt}
use Rattle.f77_exprs.specs.Operators.{Text}
use Rattle.f77_stmts.specs.Spelling.{SpellsStmt}
use Rattle.f77_stmts.specs.Statement.{statement_of}

-- what is read of a text is spelled so
abbrev pub WhatIsReadIsSpelled : Type 0
WhatIsReadIsSpelled = (text : Text) (v : Stmt) → statement_of text ≡ Some v → SpellsStmt v text

-- what is spelled so is read
abbrev pub WhatIsSpelledIsRead : Type 0
WhatIsSpelledIsRead = (text : Text) (v : Stmt) → SpellsStmt v text → statement_of text ≡ Some v

-- no text spells two statements
abbrev pub NoTextSpellsTwoStatements : Type 0
NoTextSpellsTwoStatements = (text : Text) (one other : Stmt) → SpellsStmt one text → SpellsStmt other text → one ≡ other
