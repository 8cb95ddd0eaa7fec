use Rattle.std.proofs.Common.{◌≡◌, ◌+◌, ◌*◌, map, drop}
use Rattle.p10_syn.specs.Trees.{expression_row, parameter_row}
use Rattle.p10_syn.specs.Built.{expression_of, parameter_of}
use Rattle.p10_elabx.specs.PlainScopes.{plain_scope}
use Rattle.p10_elabd.specs.Tags.{tags_in_all, tags_in_parameters, with_tags}
use Rattle.p10_elabd.proofs.tags.+tags.Given as goal

abbrev pub invariant-add_all-loop-e : goal.invariant-add_all-loop-e
invariant-add_all-loop-e l =
    with_tags (plain_scope l.scope) (tags_in_all (expression_row (map expression_of (drop l.e-index l.all))))
    ≡ with_tags (plain_scope l.initial.scope) (tags_in_all (expression_row (map expression_of l.all)))

abbrev pub invariant-add_parameters-loop-one : goal.invariant-add_parameters-loop-one
invariant-add_parameters-loop-one l =
    with_tags (plain_scope l.scope) (tags_in_parameters (parameter_row (map parameter_of (drop l.one-index l.all))))
    ≡ with_tags (plain_scope l.initial.scope) (tags_in_parameters (parameter_row (map parameter_of l.all)))

abbrev pub decreases-add_tags : goal.decreases-add_tags
decreases-add_tags l = 4 * goal.size-add_tags l

abbrev pub decreases-add_all : goal.decreases-add_all
decreases-add_all l = 4 * goal.size-add_all l + 1

abbrev pub decreases-add_type : goal.decreases-add_type
decreases-add_type l = 4 * goal.size-add_type l + 1

abbrev pub decreases-add_declarator : goal.decreases-add_declarator
decreases-add_declarator l = 4 * goal.size-add_declarator l

abbrev pub decreases-add_parameters : goal.decreases-add_parameters
decreases-add_parameters l = 4 * goal.size-add_parameters l + 2

abbrev pub decreases-add_parameter : goal.decreases-add_parameter
decreases-add_parameter l = 4 * goal.size-add_parameter l + 1
