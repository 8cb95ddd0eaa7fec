use Rattle.std.proofs.Common.{rules}
use Rattle.p10_syn.specs.declared.tree.Declarator.TheViews.{the_lemmas}
use Rattle.p10_syn.specs.Built.{bare_of, bare_kind_of, bare_specifier_of, bare_member_of, bare_field_of, bare_enumerator_of, bare_declarator_of, bare_parameter_of}
use Rattle.p10_make.proofs.Rows.{enumerators_items}
use Rattle.p10_make.proofs.declarator.enumeration.Goals as goal

pub returns-in-None : goal.returns-in-None
unfolding bare_of bare_kind_of bare_specifier_of bare_member_of bare_field_of bare_enumerator_of bare_declarator_of bare_parameter_of
returns-in-None c = search (rules, the_lemmas, enumerators_items)

pub returns-in-Some : goal.returns-in-Some
unfolding bare_of bare_kind_of bare_specifier_of bare_member_of bare_field_of bare_enumerator_of bare_declarator_of bare_parameter_of
returns-in-Some c = search (rules, the_lemmas, enumerators_items)
