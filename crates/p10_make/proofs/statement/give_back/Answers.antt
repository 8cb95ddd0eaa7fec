use Rattle.std.proofs.Common.{ap}
use Rattle.p10_syn.specs.Trees.{Return}
use Rattle.p10_syn.specs.BuiltStatements.{bare_statement_of}
use Rattle.p10_make.proofs.StatementRows.{optional_is}
use Rattle.p10_make.proofs.statement.give_back.Goals as goal

pub returns : goal.returns
unfolding bare_statement_of
returns c = ap (Return tt tt) (optional_is c.args.value)
