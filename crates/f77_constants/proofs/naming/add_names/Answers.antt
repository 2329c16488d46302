use Rattle.f77_ast.specs.declared.stmt.Stmt as stmt
use Rattle.f77_constants.proofs.NamesOfLemmas.{adds_none, none_in_dummies, none_in_function, none_in_entities, none_in_arrays, none_in_groups}
use Rattle.f77_constants.proofs.naming.add_names.Goals as goal

pub returns-in-Subroutine : goal.returns-in-Subroutine
returns-in-Subroutine c = adds_none c.args.names.now c.args.stmt.now (stmt.Subroutine c.in-Subroutine.name c.in-Subroutine.dummies) c.in-Subroutine.is (none_in_dummies 0 c.in-Subroutine.dummies)

pub returns-in-Function : goal.returns-in-Function
returns-in-Function c = adds_none c.args.names.now c.args.stmt.now (stmt.Function c.in-Function.typ c.in-Function.name c.in-Function.dummies) c.in-Function.is (none_in_function c.in-Function.name c.in-Function.typ c.in-Function.dummies)

pub returns-in-Declare : goal.returns-in-Declare
returns-in-Declare c = adds_none c.args.names.now c.args.stmt.now (stmt.Declare c.in-Declare.typ c.in-Declare.entities) c.in-Declare.is (none_in_entities c.in-Declare.typ c.in-Declare.entities)

pub returns-in-Dimension : goal.returns-in-Dimension
returns-in-Dimension c = adds_none c.args.names.now c.args.stmt.now (stmt.Dimension c.in-Dimension.field-0) c.in-Dimension.is (none_in_arrays c.in-Dimension.field-0)

pub returns-in-Common : goal.returns-in-Common
returns-in-Common c = adds_none c.args.names.now c.args.stmt.now (stmt.Common c.in-Common.field-0) c.in-Common.is (none_in_groups c.in-Common.field-0)
