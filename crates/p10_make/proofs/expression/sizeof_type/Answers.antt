use Rattle.std.proofs.Common.{rules}
use Rattle.p10_syn.specs.declared.tree.Declarator.TheViews.{the_lemmas}
use Rattle.p10_syn.specs.Built.{bare_of, bare_kind_of, bare_specifier_of, bare_member_of, bare_field_of, bare_enumerator_of, bare_declarator_of, bare_parameter_of}
use Rattle.p10_syn.proofs.Rows.{specifiers_listed}
use Rattle.p10_make.proofs.expression.sizeof_type.Goals as goal

pub returns-clause-tree : goal.returns-clause-tree
unfolding bare_of bare_kind_of bare_specifier_of bare_member_of bare_field_of bare_enumerator_of bare_declarator_of bare_parameter_of
returns-clause-tree c = search (rules, the_lemmas, specifiers_listed)
