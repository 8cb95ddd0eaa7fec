use Rattle.std.proofs.Common.{rules}
use Rattle.p10_syn.specs.declared.statement.Init.TheViews.{the_lemmas}
use Rattle.p10_elabd.proofs.ItemRows.{initializers_listed}
use Rattle.p10_elabd.proofs.initializers.initialized.Goals as goal

pub returns-in_ok-made-in-Braced : goal.returns-in_ok-made-in-Braced
returns-in_ok-made-in-Braced c = search (rules, the_lemmas, initializers_listed)
