use Rattle.std.proofs.Common.{rules}
use Rattle.p10_syn.specs.declared.tree.Declarator.TheViews.{the_lemmas}
use Rattle.p10_syn.specs.Built.{bare_of, bare_kind_of, bare_specifier_of, bare_member_of, bare_field_of, bare_enumerator_of, bare_declarator_of, bare_parameter_of}
use Rattle.p10_make.proofs.Rows.{specifiers_row}
use Rattle.p10_make.proofs.declarator.type_name.Goals as goal

pub returns : goal.returns
unfolding bare_of bare_kind_of bare_specifier_of bare_member_of bare_field_of bare_enumerator_of bare_declarator_of bare_parameter_of
returns c = search (rules, the_lemmas, specifiers_row)
