use Rattle.std.proofs.Common.{rules}
use Rattle.p10_syn.specs.declared.statement.Init.TheViews.{the_lemmas}
use Rattle.p10_syn.specs.BuiltStatements.{bare_initializer_of}
use Rattle.p10_make.proofs.StatementRows.{initializers_items}
use Rattle.p10_make.proofs.statement.braced.Goals as goal

pub returns : goal.returns
unfolding bare_initializer_of
returns c = search (rules, the_lemmas, initializers_items)
