use Rattle.std.proofs.Common.{◌≡◌, ◌++◌, ◌+◌, ◌*◌, map, drop}
use Rattle.p10_syn.specs.Trees.{expression_row, specifier_row, member_row, field_row, enumerator_row, parameter_row}
use Rattle.p10_syn.specs.Built.{expression_of, specifier_of, member_of, field_of, enumerator_of, parameter_of}
use Rattle.p10_synrules.specs.Parts.{list_parts, specifiers_parts, members_parts, fields_parts, enumerators_parts, parameters_parts}
use Rattle.p10_synrules.specs.private.Views.{plain_parts}
use Rattle.p10_synrules.proofs.+walking.Given as goal

-- what is put down, and what is left

abbrev pub invariant-expression::put_list-loop-e : goal.invariant-expression::put_list-loop-e
invariant-expression::put_list-loop-e l =
    plain_parts l.into ++ list_parts l.within (expression_row (map expression_of (drop l.e-index l.all))) ≡ plain_parts l.fn.into ++ list_parts l.within (expression_row (map expression_of l.all))

abbrev pub invariant-specifier::put_specifiers-loop-spec : goal.invariant-specifier::put_specifiers-loop-spec
invariant-specifier::put_specifiers-loop-spec l =
    plain_parts l.into ++ specifiers_parts l.within (specifier_row (map specifier_of (drop l.spec-index l.specs))) ≡ plain_parts l.fn.into ++ specifiers_parts l.within (specifier_row (map specifier_of l.specs))

abbrev pub invariant-specifier::put_members-loop-member : goal.invariant-specifier::put_members-loop-member
invariant-specifier::put_members-loop-member l =
    plain_parts l.into ++ members_parts l.within (member_row (map member_of (drop l.member-index l.members))) ≡ plain_parts l.fn.into ++ members_parts l.within (member_row (map member_of l.members))

abbrev pub invariant-specifier::put_fields-loop-field : goal.invariant-specifier::put_fields-loop-field
invariant-specifier::put_fields-loop-field l =
    plain_parts l.into ++ fields_parts l.within (field_row (map field_of (drop l.field-index l.fields))) ≡ plain_parts l.fn.into ++ fields_parts l.within (field_row (map field_of l.fields))

abbrev pub invariant-specifier::put_enumerators-loop-enumerator : goal.invariant-specifier::put_enumerators-loop-enumerator
invariant-specifier::put_enumerators-loop-enumerator l =
    plain_parts l.into ++ enumerators_parts l.within (enumerator_row (map enumerator_of (drop l.enumerator-index l.enumerators))) ≡ plain_parts l.fn.into ++ enumerators_parts l.within (enumerator_row (map enumerator_of l.enumerators))

abbrev pub invariant-declarator::put_parameters-loop-parameter : goal.invariant-declarator::put_parameters-loop-parameter
invariant-declarator::put_parameters-loop-parameter l =
    plain_parts l.into ++ parameters_parts l.within (parameter_row (map parameter_of (drop l.parameter-index l.parameters))) ≡ plain_parts l.fn.into ++ parameters_parts l.within (parameter_row (map parameter_of l.parameters))

-- what is passed on unchanged goes to a function that is lower

abbrev pub decreases-expression::put_expression : goal.decreases-expression::put_expression
decreases-expression::put_expression l = 3 * goal.size-expression::put_expression l

abbrev pub decreases-expression::put_form : goal.decreases-expression::put_form
decreases-expression::put_form l = 3 * goal.size-expression::put_form l

abbrev pub decreases-expression::put_list : goal.decreases-expression::put_list
decreases-expression::put_list l = 3 * goal.size-expression::put_list l + 2

abbrev pub decreases-expression::put_boxed : goal.decreases-expression::put_boxed
decreases-expression::put_boxed l = 3 * goal.size-expression::put_boxed l + 1

abbrev pub decreases-expression::put_type : goal.decreases-expression::put_type
decreases-expression::put_type l = 3 * goal.size-expression::put_type l

abbrev pub decreases-specifier::put_specifiers : goal.decreases-specifier::put_specifiers
decreases-specifier::put_specifiers l = 3 * goal.size-specifier::put_specifiers l + 2

abbrev pub decreases-specifier::put_specifier : goal.decreases-specifier::put_specifier
decreases-specifier::put_specifier l = 3 * goal.size-specifier::put_specifier l

abbrev pub decreases-specifier::put_structure : goal.decreases-specifier::put_structure
decreases-specifier::put_structure l = 3 * goal.size-specifier::put_structure l

abbrev pub decreases-specifier::put_members : goal.decreases-specifier::put_members
decreases-specifier::put_members l = 3 * goal.size-specifier::put_members l + 2

abbrev pub decreases-specifier::put_member : goal.decreases-specifier::put_member
decreases-specifier::put_member l = 3 * goal.size-specifier::put_member l

abbrev pub decreases-specifier::put_fields : goal.decreases-specifier::put_fields
decreases-specifier::put_fields l = 3 * goal.size-specifier::put_fields l + 2

abbrev pub decreases-specifier::put_field : goal.decreases-specifier::put_field
decreases-specifier::put_field l = 3 * goal.size-specifier::put_field l

abbrev pub decreases-specifier::put_enumeration : goal.decreases-specifier::put_enumeration
decreases-specifier::put_enumeration l = 3 * goal.size-specifier::put_enumeration l

abbrev pub decreases-specifier::put_enumerators : goal.decreases-specifier::put_enumerators
decreases-specifier::put_enumerators l = 3 * goal.size-specifier::put_enumerators l + 2

abbrev pub decreases-specifier::put_enumerator : goal.decreases-specifier::put_enumerator
decreases-specifier::put_enumerator l = 3 * goal.size-specifier::put_enumerator l

abbrev pub decreases-declarator::put_declared : goal.decreases-declarator::put_declared
decreases-declarator::put_declared l = 3 * goal.size-declarator::put_declared l + 1

abbrev pub decreases-declarator::put_declarator : goal.decreases-declarator::put_declarator
decreases-declarator::put_declarator l = 3 * goal.size-declarator::put_declarator l

abbrev pub decreases-declarator::put_parameters : goal.decreases-declarator::put_parameters
decreases-declarator::put_parameters l = 3 * goal.size-declarator::put_parameters l + 2

abbrev pub decreases-declarator::put_parameter : goal.decreases-declarator::put_parameter
decreases-declarator::put_parameter l = 3 * goal.size-declarator::put_parameter l
