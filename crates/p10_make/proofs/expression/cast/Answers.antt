use Rattle.p10_syn.specs.Built.{bare_of, bare_kind_of, bare_specifier_of, bare_member_of, bare_field_of, bare_enumerator_of, bare_declarator_of, bare_parameter_of}
use Rattle.p10_make.proofs.Rows.{cast_tree}
use Rattle.p10_make.proofs.expression.cast.Goals as goal

pub returns-clause-tree : goal.returns-clause-tree
unfolding bare_of bare_kind_of bare_specifier_of bare_member_of bare_field_of bare_enumerator_of bare_declarator_of bare_parameter_of
returns-clause-tree c = cast_tree _ _ _ _ c.in_ok-kind.ensures.first c.in_ok-kind.ensures.second
