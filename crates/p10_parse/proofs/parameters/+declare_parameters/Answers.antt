use Rattle.std.proofs.Common.{rules, ◌≡◌}
use Rattle.p10_syn.specs.declared.tree.Declarator.TheViews.{the_lemmas}
use Rattle.p10_syn.specs.Built.{bare_declarator_of}
use Rattle.p10_make.proofs.Rows.{parameters_items}
use Rattle.p10_parse.proofs.parameters.+declare_parameters.Goals as goal

pub returns-then-is_only_name : goal.returns-then-is_only_name
unfolding bare_declarator_of
returns-then-is_only_name t c = search (rules, the_lemmas, parameters_items)
