use Rattle.std.proofs.Common.{◌≡◌, ◌+◌, ◌*◌, None, [], false, map, option_map, drop}
use Rattle.p10_syn.specs.Trees.{specifier_row, member_row, field_row, parameter_row}
use Rattle.p10_syn.specs.Built.{specifier_of, member_of, field_of, parameter_of}
use Rattle.p10_core.specs.Types.{plain_type}
use Rattle.p10_elabx.specs.First.{only_first}
use Rattle.p10_elabd.specs.Standing.{passed}
use Rattle.p10_elabd.specs.Declaring.{specifiers_passed, members_passed, fields_passed, none_listed, parameters_passed}
use Rattle.p10_elabd.specs.Views.{plain_standing, plain_named, lists, told}
use Rattle.p10_elabd.specs.private.NamedMembers.{named_members}
use Rattle.p10_elabd.proofs.walk.+declare.Given as goal

abbrev pub invariant-specifiers_passed-loop-spec : goal.invariant-specifiers_passed-loop-spec
invariant-specifiers_passed-loop-spec l =
    specifiers_passed only_first l.manner.site l.manner.allowed l.manner.alone l.stored (told (plain_named l.named) l.standing) (specifier_row (map specifier_of (drop l.spec-index l.specs)))
    ≡ specifiers_passed only_first l.manner.site l.manner.allowed l.manner.alone false (passed None (plain_standing l.initial.standing)) (specifier_row (map specifier_of l.specs))

abbrev pub invariant-members_passed-loop-one : goal.invariant-members_passed-loop-one
invariant-members_passed-loop-one l =
    members_passed only_first (told (option_map named_members l.members) l.standing) (member_row (map member_of (drop l.one-index l.all)))
    ≡ members_passed only_first (passed [] (plain_standing l.initial.standing)) (member_row (map member_of l.all))

abbrev pub invariant-fields_passed-loop-field : goal.invariant-fields_passed-loop-field
invariant-fields_passed-loop-field l =
    fields_passed only_first (option_map plain_type l.ty) (told (option_map named_members l.members) l.standing) (field_row (map field_of (drop l.field-index l.fields)))
    ≡ fields_passed only_first (option_map plain_type l.ty) (told (option_map named_members l.initial.members) l.initial.standing) (field_row (map field_of l.fields))

abbrev pub invariant-parameters_passed-loop-one : goal.invariant-parameters_passed-loop-one
invariant-parameters_passed-loop-one l =
    parameters_passed only_first l.number (lists l.parameters l.standing) (parameter_row (map parameter_of (drop l.one-index l.all)))
    ≡ parameters_passed only_first 0 (none_listed (plain_standing l.initial.standing)) (parameter_row (map parameter_of l.all))

-- what is passed on unchanged goes to a function that is lower

abbrev pub decreases-specified : goal.decreases-specified
decreases-specified l = 16 * goal.size-specified l + 3

abbrev pub decreases-specifiers_passed : goal.decreases-specifiers_passed
decreases-specifiers_passed l = 16 * goal.size-specifiers_passed l + 2

abbrev pub decreases-specifier_passed : goal.decreases-specifier_passed
decreases-specifier_passed l = 16 * goal.size-specifier_passed l + 1

abbrev pub decreases-structure_passed : goal.decreases-structure_passed
decreases-structure_passed l = 16 * goal.size-structure_passed l

abbrev pub decreases-members_passed : goal.decreases-members_passed
decreases-members_passed l = 16 * goal.size-members_passed l + 7

abbrev pub decreases-member_passed : goal.decreases-member_passed
decreases-member_passed l = 16 * goal.size-member_passed l + 6

abbrev pub decreases-fields_passed : goal.decreases-fields_passed
decreases-fields_passed l = 16 * goal.size-fields_passed l + 5

abbrev pub decreases-field_passed : goal.decreases-field_passed
decreases-field_passed l = 16 * goal.size-field_passed l + 4

abbrev pub decreases-declarator_passed : goal.decreases-declarator_passed
decreases-declarator_passed l = 16 * goal.size-declarator_passed l

abbrev pub decreases-function_passed : goal.decreases-function_passed
decreases-function_passed l = 16 * goal.size-function_passed l + 8

abbrev pub decreases-all_parameters_passed : goal.decreases-all_parameters_passed
decreases-all_parameters_passed l = 16 * goal.size-all_parameters_passed l + 7

abbrev pub decreases-only_parameter_passed : goal.decreases-only_parameter_passed
decreases-only_parameter_passed l = 16 * goal.size-only_parameter_passed l + 5

abbrev pub decreases-parameters_passed : goal.decreases-parameters_passed
decreases-parameters_passed l = 16 * goal.size-parameters_passed l + 6

abbrev pub decreases-one_parameter_passed : goal.decreases-one_parameter_passed
decreases-one_parameter_passed l = 16 * goal.size-one_parameter_passed l + 5

abbrev pub decreases-typed_parameter_passed : goal.decreases-typed_parameter_passed
decreases-typed_parameter_passed l = 16 * goal.size-typed_parameter_passed l + 4
