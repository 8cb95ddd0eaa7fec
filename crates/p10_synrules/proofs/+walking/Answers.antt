use Rattle.std.proofs.Common.{map, ap}
use Rattle.p10_syn.specs.Trees.{expression_row, specifier_row, member_row, field_row, enumerator_row, parameter_row}
use Rattle.p10_syn.specs.Built.{expression_of, specifier_of, member_of, field_of, enumerator_of, parameter_of}
use Rattle.p10_synrules.specs.Parts.{list_parts, specifiers_parts, members_parts, fields_parts, enumerators_parts, parameters_parts}
use Rattle.p10_synrules.proofs.Lists.{cut_list, more_put}
use Rattle.p10_synrules.proofs.Putting.{call_put, comma_put, cast_put, sizeof_put, function_put, structure_put, enumeration_put, member_put}
use Rattle.p10_synrules.proofs.+walking.Goals as goal

-- ## Loops

pub expression::put_list-loop-e-preserved : goal.expression::put_list-loop-e-preserved
expression::put_list-loop-e-preserved t c =
    more_put _ _ _ _ _ _ c.in_ok-put_expression.ensures
    (ap (λ xs. list_parts c.args.within (expression_row (map expression_of xs))) (cut_list c.args.all.now c.loop-e.e-index c.e-item.result c.loop-e-test.true c.e-item.is))
    c.loop-e.invariant

pub specifier::put_specifiers-loop-spec-preserved : goal.specifier::put_specifiers-loop-spec-preserved
specifier::put_specifiers-loop-spec-preserved t c =
    more_put _ _ _ _ _ _ c.in_ok-put_specifier.ensures
    (ap (λ xs. specifiers_parts c.args.within (specifier_row (map specifier_of xs))) (cut_list c.args.specs.now c.loop-spec.spec-index c.spec-item.result c.loop-spec-test.true c.spec-item.is))
    c.loop-spec.invariant

pub specifier::put_members-loop-member-preserved : goal.specifier::put_members-loop-member-preserved
specifier::put_members-loop-member-preserved t c =
    more_put _ _ _ _ _ _ c.in_ok-put_member.ensures
    (ap (λ xs. members_parts c.args.within (member_row (map member_of xs))) (cut_list c.args.members.now c.loop-member.member-index c.member-item.result c.loop-member-test.true c.member-item.is))
    c.loop-member.invariant

pub specifier::put_fields-loop-field-preserved : goal.specifier::put_fields-loop-field-preserved
specifier::put_fields-loop-field-preserved t c =
    more_put _ _ _ _ _ _ c.in_ok-put_field.ensures
    (ap (λ xs. fields_parts c.args.within (field_row (map field_of xs))) (cut_list c.args.fields.now c.loop-field.field-index c.field-item.result c.loop-field-test.true c.field-item.is))
    c.loop-field.invariant

pub specifier::put_enumerators-loop-enumerator-preserved : goal.specifier::put_enumerators-loop-enumerator-preserved
specifier::put_enumerators-loop-enumerator-preserved t c =
    more_put _ _ _ _ _ _ c.in_ok-put_enumerator.ensures
    (ap (λ xs. enumerators_parts c.args.within (enumerator_row (map enumerator_of xs))) (cut_list c.args.enumerators.now c.loop-enumerator.enumerator-index c.enumerator-item.result c.loop-enumerator-test.true c.enumerator-item.is))
    c.loop-enumerator.invariant

pub declarator::put_parameters-loop-parameter-preserved : goal.declarator::put_parameters-loop-parameter-preserved
declarator::put_parameters-loop-parameter-preserved t c =
    more_put _ _ _ _ _ _ c.in_ok-put_parameter.ensures
    (ap (λ xs. parameters_parts c.args.within (parameter_row (map parameter_of xs))) (cut_list c.args.parameters.now c.loop-parameter.parameter-index c.parameter-item.result c.loop-parameter-test.true c.parameter-item.is))
    c.loop-parameter.invariant

-- ## Nodes with lists

pub declarator::put_declarator-returns-in_ok-put_parameters-in-Function : goal.declarator::put_declarator-returns-in_ok-put_parameters-in-Function
declarator::put_declarator-returns-in_ok-put_parameters-in-Function t c =
    function_put c.args.within c.args.declarator.now c.in-Function.field-0 c.in-Function.inner c.in-Function.field-2 c.in-Function.parameters c.in-Function.field-4 c.deref-in-Function.result.now c.deref-in-Function-2.result.now _ _ _
    c.in-Function.is c.deref-in-Function.ensures c.deref-in-Function-2.ensures.value c.in_ok-put_declarator-in-Function.ensures c.in_ok-put_parameters-in-Function.ensures

pub expression::put_form-returns-in_ok-put_list-in-Call : goal.expression::put_form-returns-in_ok-put_list-in-Call
expression::put_form-returns-in_ok-put_list-in-Call t c =
    call_put c.args.within c.args.form.now c.in-Call.f c.in-Call.all c.deref-in-Call.result.now c.deref-in-Call-2.result.now _ _ _
    c.in-Call.is c.deref-in-Call.ensures c.deref-in-Call-2.ensures.value c.in_ok-put_expression-in-Call.ensures c.in_ok-put_list-in-Call.ensures

pub expression::put_form-returns-in_ok-put_expression-in-Cast : goal.expression::put_form-returns-in_ok-put_expression-in-Cast
expression::put_form-returns-in_ok-put_expression-in-Cast t c =
    cast_put c.args.within c.args.form.now c.in-Cast.kind c.in-Cast.a c.deref-in-Cast.result.now c.deref-in-Cast-2.result.now _ _ _
    c.in-Cast.is c.deref-in-Cast.ensures c.deref-in-Cast-2.ensures c.in_ok-put_type-in-Cast.ensures c.in_ok-put_expression-in-Cast.ensures

pub expression::put_form-returns-in_ok-put_type-in-SizeofType : goal.expression::put_form-returns-in_ok-put_type-in-SizeofType
expression::put_form-returns-in_ok-put_type-in-SizeofType t c =
    sizeof_put c.args.within c.args.form.now c.in-SizeofType.kind c.deref-in-SizeofType.result.now _ _ c.in-SizeofType.is c.deref-in-SizeofType.ensures c.in_ok-put_type-in-SizeofType.ensures

pub expression::put_form-returns-in_ok-put_list-in-Comma : goal.expression::put_form-returns-in_ok-put_list-in-Comma
expression::put_form-returns-in_ok-put_list-in-Comma t c =
    comma_put c.args.within c.args.form.now c.in-Comma.all c.deref-in-Comma.result.now _ _ c.in-Comma.is c.deref-in-Comma.ensures.value c.in_ok-put_list-in-Comma.ensures

pub specifier::put_enumeration-returns : goal.specifier::put_enumeration-returns
specifier::put_enumeration-returns t c =
    enumeration_put c.args.within c.args.enumeration.now c.deref.result.now _ _ _ c.deref.ensures.value c.in_ok-put_tag.ensures c.in_ok-put_enumerators.ensures

pub specifier::put_member-returns : goal.specifier::put_member-returns
specifier::put_member-returns t c =
    member_put c.args.within c.args.member.now c.deref.result.now c.deref-2.result.now _ _ _ c.deref.ensures.value c.deref-2.ensures.value c.in_ok-put_specifiers.ensures c.in_ok-put_fields.ensures

pub specifier::put_structure-returns : goal.specifier::put_structure-returns
specifier::put_structure-returns t c =
    structure_put c.args.within c.args.structure.now c.deref.result.now _ _ _ c.deref.ensures.value c.in_ok-put_tag.ensures c.in_ok-put_members.ensures
