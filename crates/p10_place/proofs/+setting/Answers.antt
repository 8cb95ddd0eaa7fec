use Rattle.std.proofs.Common.{rules, ◌+◌, refl, ap, ◌∙◌, arith}
use Rattle.std.proofs.lemmas.Grind.{common_steps}
use Rattle.p10_syn.specs.declared.tree.Declarator.TheViews.{the_lemmas}
use Rattle.p10_syn.specs.Built.{form_of, declarator_of}
use Rattle.p10_syn.specs.Counts.{count_bool}
use Rattle.p10_syn.proofs.Rows.{specifiers_listed}
use Rattle.p10_place.specs.Roots.{source_of}
use Rattle.p10_place.proofs.Parts.{begins, goes_on, unvisited_next}
use Rattle.p10_place.proofs.Placings.{fits_expressions, starts_expressions, all_expressions, past_expressions, fits_specifiers, all_specifiers, past_specifiers, fits_members, starts_members, all_members, past_members, fits_fields, starts_fields, all_fields, past_fields, fits_enumerators, starts_enumerators, all_enumerators, past_enumerators, fits_parameters, starts_parameters, all_parameters, past_parameters}
use Rattle.p10_place.proofs.Rows.{expressions_listed, members_listed, fields_listed, enumerators_listed, parameters_listed, call_is, comma_is, cast_is, sizeof_is, function_is, structure_is, enumeration_is, member_is}
use Rattle.p10_place.proofs.+setting.Goals as goal

-- ## Nodes with lists

pub declarator::set_declarator-set_parts-placed-requires : goal.declarator::set_declarator-set_parts-placed-requires
declarator::set_declarator-set_parts-placed-requires t c = rw (c.replace-taken.ensures.value) (search rules)

pub declarator::set_parts-set_parameters-requires : goal.declarator::set_parts-set_parameters-requires
declarator::set_parts-set_parameters-requires t c = ((first_of (search rules, search (rules, the_lemmas), grind (arith, common_steps))), let h = rw (ap declarator_of c.in-Function.is ∙ function_is c.in-Function.field-0 c.in-Function.inner c.in-Function.field-2 c.in-Function.parameters c.in-Function.has_ellipsis) at c.requires in (first_of (omega (arith, h), search (rules, the_lemmas, h), grind (arith, common_steps, h))))

pub declarator::set_parts-overflow_add-past-in-Function-2 : goal.declarator::set_parts-overflow_add-past-in-Function-2
declarator::set_parts-overflow_add-past-in-Function-2 t c = let h = rw (ap declarator_of c.in-Function.is ∙ function_is c.in-Function.field-0 c.in-Function.inner c.in-Function.field-2 c.in-Function.parameters c.in-Function.has_ellipsis) at c.requires in (first_of (omega (arith, h), search (rules, the_lemmas, h), grind (arith, common_steps, h)))

pub declarator::set_parts-overflow_add-past-in-Function : goal.declarator::set_parts-overflow_add-past-in-Function
declarator::set_parts-overflow_add-past-in-Function t c = let h = rw (ap declarator_of c.in-Function.is ∙ function_is c.in-Function.field-0 c.in-Function.inner c.in-Function.field-2 c.in-Function.parameters c.in-Function.has_ellipsis) at c.requires in (first_of (omega (arith, h), search (rules, the_lemmas, h), grind (arith, common_steps, h)))

pub declarator::set_parts-returns-in-Function-clause-placed : goal.declarator::set_parts-returns-in-Function-clause-placed
declarator::set_parts-returns-in-Function-clause-placed t c = rw (ap declarator_of c.in-Function.is ∙ function_is c.in-Function.field-0 c.in-Function.inner c.in-Function.field-2 c.in-Function.parameters c.in-Function.has_ellipsis) (search (rules, the_lemmas, parameters_listed))

pub declarator::set_parts-returns-in-Function-clause-past : goal.declarator::set_parts-returns-in-Function-clause-past
declarator::set_parts-returns-in-Function-clause-past t c = rw (ap declarator_of c.in-Function.is ∙ function_is c.in-Function.field-0 c.in-Function.inner c.in-Function.field-2 c.in-Function.parameters c.in-Function.has_ellipsis) (first_of (omega arith, search (rules, the_lemmas), grind (arith, common_steps)))

pub form::set_form-set_list-past-requires : goal.form::set_form-set_list-past-requires
form::set_form-set_list-past-requires t c = ((first_of (search rules, search (rules, the_lemmas), grind (arith, common_steps))), let h = rw (ap form_of c.in-Call.is ∙ call_is c.in-Call.callee c.in-Call.arguments) at c.requires in (first_of (omega (arith, h), search (rules, the_lemmas, h), grind (arith, common_steps, h))))

pub form::set_form-overflow_add-result-in-Call : goal.form::set_form-overflow_add-result-in-Call
form::set_form-overflow_add-result-in-Call t c = let h = rw (ap form_of c.in-Call.is ∙ call_is c.in-Call.callee c.in-Call.arguments) at c.requires in (first_of (omega (arith, h), search (rules, the_lemmas, h), grind (arith, common_steps, h)))

pub form::set_form-set_type-past-requires : goal.form::set_form-set_type-past-requires
form::set_form-set_type-past-requires t c = ((first_of (search rules, search (rules, the_lemmas), grind (arith, common_steps))), let h = rw (ap form_of c.in-Cast.is ∙ cast_is c.in-Cast.kind c.in-Cast.operand) at c.requires in (first_of (omega (arith, h), search (rules, the_lemmas, h), grind (arith, common_steps, h))))

pub form::set_form-overflow_add-past-in-Cast : goal.form::set_form-overflow_add-past-in-Cast
form::set_form-overflow_add-past-in-Cast t c = let h = rw (ap form_of c.in-Cast.is ∙ cast_is c.in-Cast.kind c.in-Cast.operand) at c.requires in (first_of (omega (arith, h), search (rules, the_lemmas, h), grind (arith, common_steps, h)))

pub form::set_form-set_expression-past-requires-in-Cast : goal.form::set_form-set_expression-past-requires-in-Cast
form::set_form-set_expression-past-requires-in-Cast t c = ((first_of (search rules, search (rules, the_lemmas), grind (arith, common_steps))), let h = rw (ap form_of c.in-Cast.is ∙ cast_is c.in-Cast.kind c.in-Cast.operand) at c.requires in (first_of (omega (arith, h), search (rules, the_lemmas, h), grind (arith, common_steps, h))))

pub form::set_form-set_list-past-requires-in-Comma : goal.form::set_form-set_list-past-requires-in-Comma
form::set_form-set_list-past-requires-in-Comma t c = ((first_of (search rules, search (rules, the_lemmas), grind (arith, common_steps))), let h = rw (ap form_of c.in-Comma.is ∙ comma_is c.in-Comma.operands) at c.requires in (first_of (omega (arith, h), search (rules, the_lemmas, h), grind (arith, common_steps, h))))

pub form::set_form-returns-in-Call-clause-placed : goal.form::set_form-returns-in-Call-clause-placed
form::set_form-returns-in-Call-clause-placed t c = rw (ap form_of c.in-Call.is ∙ call_is c.in-Call.callee c.in-Call.arguments) (search (rules, the_lemmas, expressions_listed))

pub form::set_form-returns-in-Call-clause-past : goal.form::set_form-returns-in-Call-clause-past
form::set_form-returns-in-Call-clause-past t c = rw (ap form_of c.in-Call.is ∙ call_is c.in-Call.callee c.in-Call.arguments) (first_of (omega arith, search (rules, the_lemmas), grind (arith, common_steps)))

pub form::set_form-returns-in-Cast-clause-placed : goal.form::set_form-returns-in-Cast-clause-placed
form::set_form-returns-in-Cast-clause-placed t c = rw (ap form_of c.in-Cast.is ∙ cast_is c.in-Cast.kind c.in-Cast.operand) (search (rules, the_lemmas, specifiers_listed))

pub form::set_form-returns-in-Cast-clause-past : goal.form::set_form-returns-in-Cast-clause-past
form::set_form-returns-in-Cast-clause-past t c = rw (ap form_of c.in-Cast.is ∙ cast_is c.in-Cast.kind c.in-Cast.operand) (first_of (omega arith, search (rules, the_lemmas), grind (arith, common_steps)))

pub form::set_form-returns-in-Comma-clause-placed : goal.form::set_form-returns-in-Comma-clause-placed
form::set_form-returns-in-Comma-clause-placed t c = rw (ap form_of c.in-Comma.is ∙ comma_is c.in-Comma.operands) (search (rules, the_lemmas, expressions_listed))

pub form::set_form-returns-in-Comma-clause-past : goal.form::set_form-returns-in-Comma-clause-past
form::set_form-returns-in-Comma-clause-past t c = rw (ap form_of c.in-Comma.is ∙ comma_is c.in-Comma.operands) (first_of (omega arith, search (rules, the_lemmas), grind (arith, common_steps)))

pub form::set_form-set_sizeof_type-requires : goal.form::set_form-set_sizeof_type-requires
form::set_form-set_sizeof_type-requires t c = ((first_of (search rules, search (rules, the_lemmas), grind (arith, common_steps))), rw (ap form_of c.in-SizeofType.is ∙ sizeof_is c.in-SizeofType.kind) at c.requires)

pub form::set_form-returns-in-SizeofType-clause-placed : goal.form::set_form-returns-in-SizeofType-clause-placed
form::set_form-returns-in-SizeofType-clause-placed t c = rw (ap form_of c.in-SizeofType.is ∙ sizeof_is c.in-SizeofType.kind) c.set_sizeof_type.ensures.placed

pub form::set_form-returns-in-SizeofType-clause-past : goal.form::set_form-returns-in-SizeofType-clause-past
form::set_form-returns-in-SizeofType-clause-past t c = rw (ap form_of c.in-SizeofType.is ∙ sizeof_is c.in-SizeofType.kind) c.set_sizeof_type.ensures.past

pub form::set_sizeof_type-returns-clause-placed : goal.form::set_sizeof_type-returns-clause-placed
form::set_sizeof_type-returns-clause-placed t c = search (rules, the_lemmas, specifiers_listed)

pub specifier::set_enumeration-overflow_add-first : goal.specifier::set_enumeration-overflow_add-first
specifier::set_enumeration-overflow_add-first t c = let h = rw (enumeration_is c.args.enumeration.now) at c.requires in (first_of (omega (arith, h), search (rules, the_lemmas, h), grind (arith, common_steps, h)))

pub specifier::set_enumeration-set_tag-past-requires : goal.specifier::set_enumeration-set_tag-past-requires
specifier::set_enumeration-set_tag-past-requires t c = let h = rw (enumeration_is c.args.enumeration.now) at c.requires in (first_of (omega (arith, h), search (rules, the_lemmas, h), grind (arith, common_steps, h)))

pub specifier::set_enumeration-set_enumerators-past-requires : goal.specifier::set_enumeration-set_enumerators-past-requires
specifier::set_enumeration-set_enumerators-past-requires t c = ((first_of (search rules, search (rules, the_lemmas), grind (arith, common_steps))), let h = rw (enumeration_is c.args.enumeration.now) at c.requires in (first_of (omega (arith, h), search (rules, the_lemmas, h), grind (arith, common_steps, h))))

pub specifier::set_enumeration-returns-clause-placed : goal.specifier::set_enumeration-returns-clause-placed
specifier::set_enumeration-returns-clause-placed t c = rw (enumeration_is c.args.enumeration.now) (search (rules, the_lemmas, enumerators_listed))

pub specifier::set_enumeration-returns-clause-past : goal.specifier::set_enumeration-returns-clause-past
specifier::set_enumeration-returns-clause-past t c = rw (enumeration_is c.args.enumeration.now) (first_of (omega arith, search (rules, the_lemmas), grind (arith, common_steps)))

pub specifier::set_structure-overflow_add-first : goal.specifier::set_structure-overflow_add-first
specifier::set_structure-overflow_add-first t c = let h = rw (structure_is c.args.structure.now) at c.requires in (first_of (omega (arith, h), search (rules, the_lemmas, h), grind (arith, common_steps, h)))

pub specifier::set_structure-set_tag-past-requires : goal.specifier::set_structure-set_tag-past-requires
specifier::set_structure-set_tag-past-requires t c = let h = rw (structure_is c.args.structure.now) at c.requires in (first_of (omega (arith, h), search (rules, the_lemmas, h), grind (arith, common_steps, h)))

pub specifier::set_structure-set_members-past-requires : goal.specifier::set_structure-set_members-past-requires
specifier::set_structure-set_members-past-requires t c = ((first_of (search rules, search (rules, the_lemmas), grind (arith, common_steps))), let h = rw (structure_is c.args.structure.now) at c.requires in (first_of (omega (arith, h), search (rules, the_lemmas, h), grind (arith, common_steps, h))))

pub specifier::set_structure-returns-clause-placed : goal.specifier::set_structure-returns-clause-placed
specifier::set_structure-returns-clause-placed t c = rw (structure_is c.args.structure.now) (search (rules, the_lemmas, members_listed))

pub specifier::set_structure-returns-clause-past : goal.specifier::set_structure-returns-clause-past
specifier::set_structure-returns-clause-past t c = rw (structure_is c.args.structure.now) (first_of (omega arith, search (rules, the_lemmas), grind (arith, common_steps)))

pub specifier::set_member-set_specifiers-past-requires : goal.specifier::set_member-set_specifiers-past-requires
specifier::set_member-set_specifiers-past-requires t c = ((first_of (search rules, search (rules, the_lemmas), grind (arith, common_steps))), let h = rw (member_is c.args.member.now) at c.requires in (first_of (omega (arith, h), search (rules, the_lemmas, h), grind (arith, common_steps, h))))

pub specifier::set_member-set_fields-past-requires : goal.specifier::set_member-set_fields-past-requires
specifier::set_member-set_fields-past-requires t c = ((first_of (search rules, search (rules, the_lemmas), grind (arith, common_steps))), let h = rw (member_is c.args.member.now) at c.requires in (first_of (omega (arith, h), search (rules, the_lemmas, h), grind (arith, common_steps, h))))

pub specifier::set_member-returns-clause-placed : goal.specifier::set_member-returns-clause-placed
specifier::set_member-returns-clause-placed t c = rw (member_is c.args.member.now) (search (rules, the_lemmas, specifiers_listed, fields_listed))

pub specifier::set_member-returns-clause-past : goal.specifier::set_member-returns-clause-past
specifier::set_member-returns-clause-past t c = rw (member_is c.args.member.now) (first_of (omega arith, search (rules, the_lemmas), grind (arith, common_steps)))

-- ## Loops

pub expression::set_list-loop-i-preserved : goal.expression::set_list-loop-i-preserved
expression::set_list-loop-i-preserved t c = record {
  placing = goes_on _ _ _ _ _ _ _ _ _ _ _ _ _ _ (c.loop-i.past + c.comma_before.result) _ c.index_mut.result.now _ _ (omega arith) (omega (arith, c.loop-i-test.true, c.len-i-end.ensures, c.args.list.now.ok.0)) c.loop-i.invariant.placing c.index_mut.ensures.value refl (ap (λ x. c.loop-i.past + x) c.comma_before.ensures) c.set_expression-past.ensures.placed c.set_expression-past.ensures.past;
  unvisited = unvisited_next _ _ _ _ _ c.loop-i.invariant.unvisited;
}

pub expression::set_list-set_expression-past-requires : goal.expression::set_list-set_expression-past-requires
expression::set_list-set_expression-past-requires t c = ((first_of (search rules, search (rules, the_lemmas), grind (arith, common_steps))), let f = fits_expressions (source_of c.args.root.now) c.loop-i.i c.args.first c.args.list.now.items c.loop-i.list.items c.loop-i.past c.index_mut.result.now c.index_mut.result.now (omega (arith, c.loop-i-test.true, c.len-i-end.ensures, c.args.list.now.ok.0)) c.loop-i.invariant.placing c.index_mut.ensures.value in omega (arith, f, c.requires, c.comma_before.ensures))

pub expression::set_list-overflow_add-past : goal.expression::set_list-overflow_add-past
expression::set_list-overflow_add-past t c = let f = starts_expressions (source_of c.args.root.now) c.loop-i.i c.args.first c.args.list.now.items c.loop-i.list.items c.loop-i.past (omega (arith, c.loop-i-test.true, c.len-i-end.ensures, c.args.list.now.ok.0)) c.loop-i.invariant.placing in omega (arith, f, c.requires, c.comma_before.ensures)

pub expression::set_list-returns-clause-placed : goal.expression::set_list-returns-clause-placed
expression::set_list-returns-clause-placed t c = all_expressions (source_of c.args.root.now) c.loop-i.i c.args.first c.args.list.now.items c.loop-i.list.items c.loop-i.past (omega (arith, c.loop-i-test.false, c.loop-i.auto.i-end, c.len-i-end.ensures, c.args.list.now.ok.0)) c.loop-i.invariant.placing

pub expression::set_list-returns-clause-past : goal.expression::set_list-returns-clause-past
expression::set_list-returns-clause-past t c = past_expressions (source_of c.args.root.now) c.loop-i.i c.args.first c.args.list.now.items c.loop-i.list.items c.loop-i.past (omega (arith, c.loop-i-test.false, c.loop-i.auto.i-end, c.len-i-end.ensures, c.args.list.now.ok.0)) c.loop-i.invariant.placing

pub specifier::set_specifiers-loop-i-preserved : goal.specifier::set_specifiers-loop-i-preserved
specifier::set_specifiers-loop-i-preserved t c = record {
  placing = goes_on _ _ _ _ _ _ _ _ _ _ _ _ _ _ c.loop-i.past _ c.index_mut.result.now _ _ (omega arith) (omega (arith, c.loop-i-test.true, c.len-i-end.ensures, c.args.specs.now.ok.0)) c.loop-i.invariant.placing c.index_mut.ensures.value refl (omega arith) c.set_specifier-past.ensures.placed c.set_specifier-past.ensures.past;
  unvisited = unvisited_next _ _ _ _ _ c.loop-i.invariant.unvisited;
}

pub specifier::set_specifiers-set_specifier-past-requires : goal.specifier::set_specifiers-set_specifier-past-requires
specifier::set_specifiers-set_specifier-past-requires t c = ((first_of (search rules, search (rules, the_lemmas), grind (arith, common_steps))), let f = fits_specifiers (source_of c.args.root.now) c.loop-i.i c.args.first c.args.specs.now.items c.loop-i.specs.items c.loop-i.past c.index_mut.result.now c.index_mut.result.now (omega (arith, c.loop-i-test.true, c.len-i-end.ensures, c.args.specs.now.ok.0)) c.loop-i.invariant.placing c.index_mut.ensures.value in omega (arith, f, c.requires))

pub specifier::set_specifiers-returns-clause-placed : goal.specifier::set_specifiers-returns-clause-placed
specifier::set_specifiers-returns-clause-placed t c = all_specifiers (source_of c.args.root.now) c.loop-i.i c.args.first c.args.specs.now.items c.loop-i.specs.items c.loop-i.past (omega (arith, c.loop-i-test.false, c.loop-i.auto.i-end, c.len-i-end.ensures, c.args.specs.now.ok.0)) c.loop-i.invariant.placing

pub specifier::set_specifiers-returns-clause-past : goal.specifier::set_specifiers-returns-clause-past
specifier::set_specifiers-returns-clause-past t c = past_specifiers (source_of c.args.root.now) c.loop-i.i c.args.first c.args.specs.now.items c.loop-i.specs.items c.loop-i.past (omega (arith, c.loop-i-test.false, c.loop-i.auto.i-end, c.len-i-end.ensures, c.args.specs.now.ok.0)) c.loop-i.invariant.placing

pub specifier::set_members-loop-i-preserved : goal.specifier::set_members-loop-i-preserved
specifier::set_members-loop-i-preserved t c = record {
  placing = goes_on _ _ _ _ _ _ _ _ _ _ _ _ _ _ c.loop-i.past _ c.index_mut.result.now _ _ (omega arith) (omega (arith, c.loop-i-test.true, c.len-count.ensures, c.args.members.now.ok.0)) c.loop-i.invariant.placing c.index_mut.ensures.value refl (omega arith) c.set_member-past.ensures.placed c.set_member-past.ensures.past;
  unvisited = unvisited_next _ _ _ _ _ c.loop-i.invariant.unvisited;
}

pub specifier::set_members-set_member-past-requires : goal.specifier::set_members-set_member-past-requires
specifier::set_members-set_member-past-requires t c = ((first_of (search rules, search (rules, the_lemmas), grind (arith, common_steps))), let f = fits_members (source_of c.args.root.now) c.loop-i.i (c.args.first + 1) c.args.members.now.items c.loop-i.members.items c.loop-i.past c.index_mut.result.now c.index_mut.result.now (omega (arith, c.loop-i-test.true, c.len-count.ensures, c.args.members.now.ok.0)) c.loop-i.invariant.placing c.index_mut.ensures.value in omega (arith, f, c.requires))

pub specifier::set_members-overflow_add-past : goal.specifier::set_members-overflow_add-past
specifier::set_members-overflow_add-past t c = let f = starts_members (source_of c.args.root.now) 0 (c.args.first + 1) c.args.members.now.items c.args.members.now.items (c.args.first + 1) (omega (arith, c.if-count-eq0.false, c.len-count.ensures, c.args.members.now.ok.0)) (begins _ _ _ _ _ _ _ _ (c.args.first + 1) c.args.members.now.items) in omega (arith, f, c.requires)

pub specifier::set_members-overflow_add-result : goal.specifier::set_members-overflow_add-result
specifier::set_members-overflow_add-result t c = let p = past_members (source_of c.args.root.now) c.loop-i.i (c.args.first + 1) c.args.members.now.items c.loop-i.members.items c.loop-i.past (omega (arith, c.loop-i-test.false, c.loop-i.auto.i-end, c.len-count.ensures, c.args.members.now.ok.0)) (omega (arith, c.if-count-eq0.false, c.len-count.ensures, c.args.members.now.ok.0)) c.loop-i.invariant.placing in omega (arith, p, c.requires)

pub specifier::set_members-returns-clause-placed : goal.specifier::set_members-returns-clause-placed
specifier::set_members-returns-clause-placed t c = all_members (source_of c.args.root.now) c.loop-i.i (c.args.first + 1) c.args.members.now.items c.loop-i.members.items c.loop-i.past (omega (arith, c.loop-i-test.false, c.loop-i.auto.i-end, c.len-count.ensures, c.args.members.now.ok.0)) c.loop-i.invariant.placing

pub specifier::set_members-returns-clause-past : goal.specifier::set_members-returns-clause-past
specifier::set_members-returns-clause-past t c = let p = past_members (source_of c.args.root.now) c.loop-i.i (c.args.first + 1) c.args.members.now.items c.loop-i.members.items c.loop-i.past (omega (arith, c.loop-i-test.false, c.loop-i.auto.i-end, c.len-count.ensures, c.args.members.now.ok.0)) (omega (arith, c.if-count-eq0.false, c.len-count.ensures, c.args.members.now.ok.0)) c.loop-i.invariant.placing in omega (arith, p)

pub specifier::set_fields-loop-i-preserved : goal.specifier::set_fields-loop-i-preserved
specifier::set_fields-loop-i-preserved t c = record {
  placing = goes_on _ _ _ _ _ _ _ _ _ _ _ _ _ _ (c.loop-i.past + c.comma_before.result) _ c.index_mut.result.now _ _ (omega arith) (omega (arith, c.loop-i-test.true, c.len-i-end.ensures, c.args.fields.now.ok.0)) c.loop-i.invariant.placing c.index_mut.ensures.value refl (ap (λ x. c.loop-i.past + x) c.comma_before.ensures) c.set_field-past.ensures.placed c.set_field-past.ensures.past;
  unvisited = unvisited_next _ _ _ _ _ c.loop-i.invariant.unvisited;
}

pub specifier::set_fields-set_field-past-requires : goal.specifier::set_fields-set_field-past-requires
specifier::set_fields-set_field-past-requires t c = ((first_of (search rules, search (rules, the_lemmas), grind (arith, common_steps))), let f = fits_fields (source_of c.args.root.now) c.loop-i.i c.args.first c.args.fields.now.items c.loop-i.fields.items c.loop-i.past c.index_mut.result.now c.index_mut.result.now (omega (arith, c.loop-i-test.true, c.len-i-end.ensures, c.args.fields.now.ok.0)) c.loop-i.invariant.placing c.index_mut.ensures.value in omega (arith, f, c.requires, c.comma_before.ensures))

pub specifier::set_fields-overflow_add-past : goal.specifier::set_fields-overflow_add-past
specifier::set_fields-overflow_add-past t c = let f = starts_fields (source_of c.args.root.now) c.loop-i.i c.args.first c.args.fields.now.items c.loop-i.fields.items c.loop-i.past (omega (arith, c.loop-i-test.true, c.len-i-end.ensures, c.args.fields.now.ok.0)) c.loop-i.invariant.placing in omega (arith, f, c.requires, c.comma_before.ensures)

pub specifier::set_fields-overflow_add-result : goal.specifier::set_fields-overflow_add-result
specifier::set_fields-overflow_add-result t c = let p = past_fields (source_of c.args.root.now) c.loop-i.i c.args.first c.args.fields.now.items c.loop-i.fields.items c.loop-i.past (omega (arith, c.loop-i-test.false, c.loop-i.auto.i-end, c.len-i-end.ensures, c.args.fields.now.ok.0)) c.loop-i.invariant.placing in omega (arith, p, c.requires)

pub specifier::set_fields-returns-clause-placed : goal.specifier::set_fields-returns-clause-placed
specifier::set_fields-returns-clause-placed t c = all_fields (source_of c.args.root.now) c.loop-i.i c.args.first c.args.fields.now.items c.loop-i.fields.items c.loop-i.past (omega (arith, c.loop-i-test.false, c.loop-i.auto.i-end, c.len-i-end.ensures, c.args.fields.now.ok.0)) c.loop-i.invariant.placing

pub specifier::set_fields-returns-clause-past : goal.specifier::set_fields-returns-clause-past
specifier::set_fields-returns-clause-past t c = past_fields (source_of c.args.root.now) c.loop-i.i c.args.first c.args.fields.now.items c.loop-i.fields.items c.loop-i.past (omega (arith, c.loop-i-test.false, c.loop-i.auto.i-end, c.len-i-end.ensures, c.args.fields.now.ok.0)) c.loop-i.invariant.placing

pub specifier::set_enumerators-loop-i-preserved : goal.specifier::set_enumerators-loop-i-preserved
specifier::set_enumerators-loop-i-preserved t c = record {
  placing = goes_on _ _ _ _ _ _ _ _ _ _ _ _ _ _ (c.loop-i.past + c.comma_before.result) _ c.index_mut.result.now _ _ (omega arith) (omega (arith, c.loop-i-test.true, c.len-count.ensures, c.args.enumerators.now.ok.0)) c.loop-i.invariant.placing c.index_mut.ensures.value refl (ap (λ x. c.loop-i.past + x) c.comma_before.ensures) c.set_enumerator-past.ensures.placed c.set_enumerator-past.ensures.past;
  unvisited = unvisited_next _ _ _ _ _ c.loop-i.invariant.unvisited;
}

pub specifier::set_enumerators-set_enumerator-past-requires : goal.specifier::set_enumerators-set_enumerator-past-requires
specifier::set_enumerators-set_enumerator-past-requires t c = ((first_of (search rules, search (rules, the_lemmas), grind (arith, common_steps))), let f = fits_enumerators (source_of c.args.root.now) c.loop-i.i (c.args.first + 1) c.args.enumerators.now.items c.loop-i.enumerators.items c.loop-i.past c.index_mut.result.now c.index_mut.result.now c.args.ends_with_comma (omega (arith, c.loop-i-test.true, c.len-count.ensures, c.args.enumerators.now.ok.0)) c.loop-i.invariant.placing c.index_mut.ensures.value in omega (arith, f, c.requires, c.comma_before.ensures))

pub specifier::set_enumerators-overflow_add-past : goal.specifier::set_enumerators-overflow_add-past
specifier::set_enumerators-overflow_add-past t c = let f = starts_enumerators (source_of c.args.root.now) 0 (c.args.first + 1) c.args.enumerators.now.items c.args.enumerators.now.items (c.args.first + 1) c.args.ends_with_comma (omega (arith, c.if-count-eq0.false, c.len-count.ensures, c.args.enumerators.now.ok.0)) (begins _ _ _ _ _ _ _ _ (c.args.first + 1) c.args.enumerators.now.items) in omega (arith, f, c.requires)

pub specifier::set_enumerators-overflow_add-past-in-loop-i : goal.specifier::set_enumerators-overflow_add-past-in-loop-i
specifier::set_enumerators-overflow_add-past-in-loop-i t c = let f = starts_enumerators (source_of c.args.root.now) c.loop-i.i (c.args.first + 1) c.args.enumerators.now.items c.loop-i.enumerators.items c.loop-i.past c.args.ends_with_comma (omega (arith, c.loop-i-test.true, c.len-count.ensures, c.args.enumerators.now.ok.0)) c.loop-i.invariant.placing in omega (arith, f, c.requires, c.comma_before.ensures)

pub specifier::set_enumerators-overflow_add-result : goal.specifier::set_enumerators-overflow_add-result
specifier::set_enumerators-overflow_add-result t c = let p = past_enumerators (source_of c.args.root.now) c.loop-i.i (c.args.first + 1) c.args.enumerators.now.items c.loop-i.enumerators.items c.loop-i.past c.args.ends_with_comma (omega (arith, c.loop-i-test.false, c.loop-i.auto.i-end, c.len-count.ensures, c.args.enumerators.now.ok.0)) (omega (arith, c.if-count-eq0.false, c.len-count.ensures, c.args.enumerators.now.ok.0)) c.loop-i.invariant.placing in let b = ap count_bool c.if-ends_with_comma.true in omega (arith, p, b, c.requires)

pub specifier::set_enumerators-overflow_add-result-else-ends_with_comma : goal.specifier::set_enumerators-overflow_add-result-else-ends_with_comma
specifier::set_enumerators-overflow_add-result-else-ends_with_comma t c = let p = past_enumerators (source_of c.args.root.now) c.loop-i.i (c.args.first + 1) c.args.enumerators.now.items c.loop-i.enumerators.items c.loop-i.past c.args.ends_with_comma (omega (arith, c.loop-i-test.false, c.loop-i.auto.i-end, c.len-count.ensures, c.args.enumerators.now.ok.0)) (omega (arith, c.if-count-eq0.false, c.len-count.ensures, c.args.enumerators.now.ok.0)) c.loop-i.invariant.placing in let b = ap count_bool c.if-ends_with_comma.false in omega (arith, p, b, c.requires)

pub specifier::set_enumerators-returns-then-ends_with_comma-clause-placed : goal.specifier::set_enumerators-returns-then-ends_with_comma-clause-placed
specifier::set_enumerators-returns-then-ends_with_comma-clause-placed t c = all_enumerators (source_of c.args.root.now) c.loop-i.i (c.args.first + 1) c.args.enumerators.now.items c.loop-i.enumerators.items c.loop-i.past (omega (arith, c.loop-i-test.false, c.loop-i.auto.i-end, c.len-count.ensures, c.args.enumerators.now.ok.0)) c.loop-i.invariant.placing

pub specifier::set_enumerators-returns-then-ends_with_comma-clause-past : goal.specifier::set_enumerators-returns-then-ends_with_comma-clause-past
specifier::set_enumerators-returns-then-ends_with_comma-clause-past t c = let p = past_enumerators (source_of c.args.root.now) c.loop-i.i (c.args.first + 1) c.args.enumerators.now.items c.loop-i.enumerators.items c.loop-i.past c.args.ends_with_comma (omega (arith, c.loop-i-test.false, c.loop-i.auto.i-end, c.len-count.ensures, c.args.enumerators.now.ok.0)) (omega (arith, c.if-count-eq0.false, c.len-count.ensures, c.args.enumerators.now.ok.0)) c.loop-i.invariant.placing in let b = ap count_bool c.if-ends_with_comma.true in omega (arith, p, b)

pub specifier::set_enumerators-returns-else-ends_with_comma-clause-placed : goal.specifier::set_enumerators-returns-else-ends_with_comma-clause-placed
specifier::set_enumerators-returns-else-ends_with_comma-clause-placed t c = all_enumerators (source_of c.args.root.now) c.loop-i.i (c.args.first + 1) c.args.enumerators.now.items c.loop-i.enumerators.items c.loop-i.past (omega (arith, c.loop-i-test.false, c.loop-i.auto.i-end, c.len-count.ensures, c.args.enumerators.now.ok.0)) c.loop-i.invariant.placing

pub specifier::set_enumerators-returns-else-ends_with_comma-clause-past : goal.specifier::set_enumerators-returns-else-ends_with_comma-clause-past
specifier::set_enumerators-returns-else-ends_with_comma-clause-past t c = let p = past_enumerators (source_of c.args.root.now) c.loop-i.i (c.args.first + 1) c.args.enumerators.now.items c.loop-i.enumerators.items c.loop-i.past c.args.ends_with_comma (omega (arith, c.loop-i-test.false, c.loop-i.auto.i-end, c.len-count.ensures, c.args.enumerators.now.ok.0)) (omega (arith, c.if-count-eq0.false, c.len-count.ensures, c.args.enumerators.now.ok.0)) c.loop-i.invariant.placing in let b = ap count_bool c.if-ends_with_comma.false in omega (arith, p, b)

pub declarator::set_parameters-loop-i-preserved : goal.declarator::set_parameters-loop-i-preserved
declarator::set_parameters-loop-i-preserved t c = record {
  placing = goes_on _ _ _ _ _ _ _ _ _ _ _ _ _ _ (c.loop-i.past + c.comma_before.result) _ c.index_mut.result.now _ _ (omega arith) (omega (arith, c.loop-i-test.true, c.len-i-end.ensures, c.args.parameters.now.ok.0)) c.loop-i.invariant.placing c.index_mut.ensures.value refl (ap (λ x. c.loop-i.past + x) c.comma_before.ensures) c.set_parameter-past.ensures.placed c.set_parameter-past.ensures.past;
  unvisited = unvisited_next _ _ _ _ _ c.loop-i.invariant.unvisited;
}

pub declarator::set_parameters-set_parameter-past-requires : goal.declarator::set_parameters-set_parameter-past-requires
declarator::set_parameters-set_parameter-past-requires t c = ((first_of (search rules, search (rules, the_lemmas), grind (arith, common_steps))), let f = fits_parameters (source_of c.args.root.now) c.loop-i.i c.args.first c.args.parameters.now.items c.loop-i.parameters.items c.loop-i.past c.index_mut.result.now c.index_mut.result.now (omega (arith, c.loop-i-test.true, c.len-i-end.ensures, c.args.parameters.now.ok.0)) c.loop-i.invariant.placing c.index_mut.ensures.value in omega (arith, f, c.requires, c.comma_before.ensures))

pub declarator::set_parameters-overflow_add-past : goal.declarator::set_parameters-overflow_add-past
declarator::set_parameters-overflow_add-past t c = let f = starts_parameters (source_of c.args.root.now) c.loop-i.i c.args.first c.args.parameters.now.items c.loop-i.parameters.items c.loop-i.past (omega (arith, c.loop-i-test.true, c.len-i-end.ensures, c.args.parameters.now.ok.0)) c.loop-i.invariant.placing in omega (arith, f, c.requires, c.comma_before.ensures)

pub declarator::set_parameters-returns-clause-placed : goal.declarator::set_parameters-returns-clause-placed
declarator::set_parameters-returns-clause-placed t c = all_parameters (source_of c.args.root.now) c.loop-i.i c.args.first c.args.parameters.now.items c.loop-i.parameters.items c.loop-i.past (omega (arith, c.loop-i-test.false, c.loop-i.auto.i-end, c.len-i-end.ensures, c.args.parameters.now.ok.0)) c.loop-i.invariant.placing

pub declarator::set_parameters-returns-clause-past : goal.declarator::set_parameters-returns-clause-past
declarator::set_parameters-returns-clause-past t c = past_parameters (source_of c.args.root.now) c.loop-i.i c.args.first c.args.parameters.now.items c.loop-i.parameters.items c.loop-i.past (omega (arith, c.loop-i-test.false, c.loop-i.auto.i-end, c.len-i-end.ensures, c.args.parameters.now.ok.0)) c.loop-i.invariant.placing
