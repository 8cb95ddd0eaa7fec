use Rattle.std.proofs.Common.{◌+◌, ◌*◌}
use Rattle.p10_place.specs.Roots.{source_of}
use Rattle.p10_place.proofs.Placings.{Placing_expressions, Placing_specifiers, Placing_members, Placing_fields, Placing_enumerators, Placing_parameters}
use Rattle.p10_place.proofs.+setting.Given as goal

abbrev pub invariant-expression::set_list-loop-i : goal.invariant-expression::set_list-loop-i
invariant-expression::set_list-loop-i l = record {
  placing : Placing_expressions (source_of l.root) l.i l.first l.fn.list.items l.list.items l.past;
  unvisited : goal.unvisited-expression::set_list-loop-i l;
}

abbrev pub invariant-specifier::set_specifiers-loop-i : goal.invariant-specifier::set_specifiers-loop-i
invariant-specifier::set_specifiers-loop-i l = record {
  placing : Placing_specifiers (source_of l.root) l.i l.first l.fn.specs.items l.specs.items l.past;
  unvisited : goal.unvisited-specifier::set_specifiers-loop-i l;
}

abbrev pub invariant-specifier::set_members-loop-i : goal.invariant-specifier::set_members-loop-i
invariant-specifier::set_members-loop-i l = record {
  placing : Placing_members (source_of l.root) l.i (l.first + 1) l.fn.members.items l.members.items l.past;
  unvisited : goal.unvisited-specifier::set_members-loop-i l;
}

abbrev pub invariant-specifier::set_fields-loop-i : goal.invariant-specifier::set_fields-loop-i
invariant-specifier::set_fields-loop-i l = record {
  placing : Placing_fields (source_of l.root) l.i l.first l.fn.fields.items l.fields.items l.past;
  unvisited : goal.unvisited-specifier::set_fields-loop-i l;
}

abbrev pub invariant-specifier::set_enumerators-loop-i : goal.invariant-specifier::set_enumerators-loop-i
invariant-specifier::set_enumerators-loop-i l = record {
  placing : Placing_enumerators (source_of l.root) l.i (l.first + 1) l.fn.enumerators.items l.enumerators.items l.past;
  unvisited : goal.unvisited-specifier::set_enumerators-loop-i l;
}

abbrev pub invariant-declarator::set_parameters-loop-i : goal.invariant-declarator::set_parameters-loop-i
invariant-declarator::set_parameters-loop-i l = record {
  placing : Placing_parameters (source_of l.root) l.i l.first l.fn.parameters.items l.parameters.items l.past;
  unvisited : goal.unvisited-declarator::set_parameters-loop-i l;
}

-- what is passed on unchanged goes to a function that is lower

abbrev pub decreases-expression::set_expression : goal.decreases-expression::set_expression
decreases-expression::set_expression l = 3 * goal.size-expression::set_expression l

abbrev pub decreases-expression::set_list : goal.decreases-expression::set_list
decreases-expression::set_list l = 3 * goal.size-expression::set_list l + 2

abbrev pub decreases-expression::set_optional : goal.decreases-expression::set_optional
decreases-expression::set_optional l = 3 * goal.size-expression::set_optional l + 1

abbrev pub decreases-expression::set_type : goal.decreases-expression::set_type
decreases-expression::set_type l = 3 * goal.size-expression::set_type l

abbrev pub decreases-form::set_form : goal.decreases-form::set_form
decreases-form::set_form l = 3 * goal.size-form::set_form l

abbrev pub decreases-form::set_step : goal.decreases-form::set_step
decreases-form::set_step l = 3 * goal.size-form::set_step l + 1

abbrev pub decreases-form::set_selected : goal.decreases-form::set_selected
decreases-form::set_selected l = 3 * goal.size-form::set_selected l + 1

abbrev pub decreases-form::set_arrow : goal.decreases-form::set_arrow
decreases-form::set_arrow l = 3 * goal.size-form::set_arrow l + 1

abbrev pub decreases-form::set_sizeof_type : goal.decreases-form::set_sizeof_type
decreases-form::set_sizeof_type l = 3 * goal.size-form::set_sizeof_type l + 1

abbrev pub decreases-specifier::set_specifiers : goal.decreases-specifier::set_specifiers
decreases-specifier::set_specifiers l = 3 * goal.size-specifier::set_specifiers l + 2

abbrev pub decreases-specifier::set_specifier : goal.decreases-specifier::set_specifier
decreases-specifier::set_specifier l = 3 * goal.size-specifier::set_specifier l

abbrev pub decreases-specifier::set_structure : goal.decreases-specifier::set_structure
decreases-specifier::set_structure l = 3 * goal.size-specifier::set_structure l

abbrev pub decreases-specifier::set_members : goal.decreases-specifier::set_members
decreases-specifier::set_members l = 3 * goal.size-specifier::set_members l + 2

abbrev pub decreases-specifier::set_member : goal.decreases-specifier::set_member
decreases-specifier::set_member l = 3 * goal.size-specifier::set_member l

abbrev pub decreases-specifier::set_fields : goal.decreases-specifier::set_fields
decreases-specifier::set_fields l = 3 * goal.size-specifier::set_fields l + 2

abbrev pub decreases-specifier::set_field : goal.decreases-specifier::set_field
decreases-specifier::set_field l = 3 * goal.size-specifier::set_field l

abbrev pub decreases-specifier::set_valued : goal.decreases-specifier::set_valued
decreases-specifier::set_valued l = 3 * goal.size-specifier::set_valued l + 1

abbrev pub decreases-specifier::set_enumeration : goal.decreases-specifier::set_enumeration
decreases-specifier::set_enumeration l = 3 * goal.size-specifier::set_enumeration l

abbrev pub decreases-specifier::set_enumerators : goal.decreases-specifier::set_enumerators
decreases-specifier::set_enumerators l = 3 * goal.size-specifier::set_enumerators l + 2

abbrev pub decreases-specifier::set_enumerator : goal.decreases-specifier::set_enumerator
decreases-specifier::set_enumerator l = 3 * goal.size-specifier::set_enumerator l

abbrev pub decreases-declarator::set_declarator : goal.decreases-declarator::set_declarator
decreases-declarator::set_declarator l = 3 * goal.size-declarator::set_declarator l + 1

abbrev pub decreases-declarator::set_parts : goal.decreases-declarator::set_parts
decreases-declarator::set_parts l = 3 * goal.size-declarator::set_parts l

abbrev pub decreases-declarator::set_parameters : goal.decreases-declarator::set_parameters
decreases-declarator::set_parameters l = 3 * goal.size-declarator::set_parameters l + 2

abbrev pub decreases-declarator::set_parameter : goal.decreases-declarator::set_parameter
decreases-declarator::set_parameter l = 3 * goal.size-declarator::set_parameter l
