use Rattle.std.proofs.Common.{rules}
use Rattle.p10_syn.specs.declared.statement.Init.TheViews.{the_lemmas}
use Rattle.p10_elabd.proofs.ItemRows.{initializers_listed}
use Rattle.p10_elabd.proofs.strings.string_by.Goals as goal

pub returns-in_ok-text-in-Braced : goal.returns-in_ok-text-in-Braced
returns-in_ok-text-in-Braced c = search (rules, the_lemmas, initializers_listed)
