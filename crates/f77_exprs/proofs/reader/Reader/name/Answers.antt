use Rattle.std.proofs.Common.{rules}
use Rattle.f77_exprs.proofs.Names.{name_there, name_missing}
use Rattle.f77_exprs.proofs.reader.Reader.name.Goals as goal

pub returns-in-Some-clause-value : goal.returns-in-Some-clause-value
returns-in-Some-clause-value c = name_there c.args.self.now c.split_at.result.0.now c.split_at.result.1.now c.in-Some.name (search rules) (search rules) (rw c.in-Some.is at c.new.ensures)

pub returns-in-None-clause-value : goal.returns-in-None-clause-value
returns-in-None-clause-value c _ = name_missing c.args.self.now c.split_at.result.0.now (search rules) (rw c.in-None.is at c.new.ensures)
