use Rattle.std.proofs.Common.{◌∙◌, sym}
use Rattle.p10_elabx.specs.PlainScopes.{plain_scope}
use Rattle.p10_elabx.proofs.TreeRows.{cut_expressions, cut_parameters}
use Rattle.p10_elabd.proofs.TagArms.{call_tags, comma_tags, cast_tags, sizeof_tags, binary_tags, assign_tags, index_tags, conditional_tags, type_tags, array_tags, function_tags, parameter_tags}
use Rattle.p10_elabd.proofs.TagLists.{step_expressions, step_parameters}
use Rattle.p10_elabd.proofs.tags.+tags.Goals as goal

pub add_all-loop-e-preserved : goal.add_all-loop-e-preserved
add_all-loop-e-preserved t c =
    let cut = cut_expressions c.args.all.now c.loop-e.e-index c.e-item.result c.loop-e-test.true c.e-item.is in
    sym (step_expressions (plain_scope c.loop-e.scope) _ _ _ _ cut c.in_ok-add_tags.ensures) ∙ c.loop-e.invariant

pub add_tags-returns-in_ok-add_tags-in-Binary-2 : goal.add_tags-returns-in_ok-add_tags-in-Binary-2
add_tags-returns-in_ok-add_tags-in-Binary-2 t c =
    binary_tags _ _ _ c.args.e.now c.deref-in-Binary.result.now c.deref-in-Binary-2.result.now _ c.in-Binary.a c.in-Binary.b c.in-Binary.is c.deref-in-Binary.ensures c.deref-in-Binary-2.ensures
    c.in_ok-add_tags-in-Binary.ensures c.in_ok-add_tags-in-Binary-2.ensures

pub add_tags-returns-in_ok-add_tags-in-Assign-2 : goal.add_tags-returns-in_ok-add_tags-in-Assign-2
add_tags-returns-in_ok-add_tags-in-Assign-2 t c =
    assign_tags _ _ _ c.args.e.now c.deref-in-Assign.result.now c.deref-in-Assign-2.result.now _ c.in-Assign.a c.in-Assign.b c.in-Assign.is c.deref-in-Assign.ensures c.deref-in-Assign-2.ensures
    c.in_ok-add_tags-in-Assign.ensures c.in_ok-add_tags-in-Assign-2.ensures

pub add_tags-returns-in_ok-add_tags-in-Index-2 : goal.add_tags-returns-in_ok-add_tags-in-Index-2
add_tags-returns-in_ok-add_tags-in-Index-2 t c =
    index_tags _ _ _ c.args.e.now c.deref-in-Index.result.now c.deref-in-Index-2.result.now c.in-Index.a c.in-Index.b c.in-Index.is c.deref-in-Index.ensures c.deref-in-Index-2.ensures
    c.in_ok-add_tags-in-Index.ensures c.in_ok-add_tags-in-Index-2.ensures

pub add_tags-returns-in_ok-add_tags-in-Cond-3 : goal.add_tags-returns-in_ok-add_tags-in-Cond-3
add_tags-returns-in_ok-add_tags-in-Cond-3 t c =
    conditional_tags _ _ _ _ c.args.e.now c.deref-in-Cond.result.now c.deref-in-Cond-2.result.now c.deref-in-Cond-3.result.now c.in-Cond.c c.in-Cond.a c.in-Cond.b c.in-Cond.is
    c.deref-in-Cond.ensures c.deref-in-Cond-2.ensures c.deref-in-Cond-3.ensures c.in_ok-add_tags-in-Cond.ensures c.in_ok-add_tags-in-Cond-2.ensures c.in_ok-add_tags-in-Cond-3.ensures

pub add_tags-returns-in_ok-add_all-in-Call : goal.add_tags-returns-in_ok-add_all-in-Call
add_tags-returns-in_ok-add_all-in-Call t c =
    call_tags _ _ _ c.args.e.now c.deref-in-Call.result.now c.in-Call.f c.in-Call.all c.deref-in-Call-2.result.now c.in-Call.is c.deref-in-Call.ensures c.deref-in-Call-2.ensures.value
    c.in_ok-add_tags-in-Call.ensures c.in_ok-add_all-in-Call.ensures

pub add_tags-returns-in_ok-add_tags-in-Cast : goal.add_tags-returns-in_ok-add_tags-in-Cast
add_tags-returns-in_ok-add_tags-in-Cast t c =
    cast_tags _ _ _ c.args.e.now c.deref-in-Cast-2.result.now c.deref-in-Cast.result.now c.in-Cast.t c.in-Cast.a c.in-Cast.is c.deref-in-Cast.ensures c.deref-in-Cast-2.ensures
    c.in_ok-add_type-in-Cast.ensures c.in_ok-add_tags-in-Cast.ensures

pub add_tags-returns-in_ok-add_type-in-SizeofType : goal.add_tags-returns-in_ok-add_type-in-SizeofType
add_tags-returns-in_ok-add_type-in-SizeofType t c =
    sizeof_tags _ _ c.args.e.now c.deref-in-SizeofType.result.now c.in-SizeofType.t c.in-SizeofType.is c.deref-in-SizeofType.ensures c.in_ok-add_type-in-SizeofType.ensures

pub add_tags-returns-in_ok-add_all-in-Comma : goal.add_tags-returns-in_ok-add_all-in-Comma
add_tags-returns-in_ok-add_all-in-Comma t c =
    comma_tags _ _ c.args.e.now c.in-Comma.all c.deref-in-Comma.result.now c.in-Comma.is c.deref-in-Comma.ensures.value c.in_ok-add_all-in-Comma.ensures

pub add_type-returns : goal.add_type-returns
add_type-returns t c = type_tags _ _ _ c.args.t.now c.deref.result.now c.deref.ensures.value c.in_ok-add_specifiers.ensures c.in_ok-add_declarator.ensures

pub add_declarator-returns-in_ok-add_tags-in-Some : goal.add_declarator-returns-in_ok-add_tags-in-Some
add_declarator-returns-in_ok-add_tags-in-Some t c =
    array_tags _ _ _ c.args.d.now c.deref-in-Some.result.now c.deref-in-Some-2.result.now _ c.in-Array.inner _ c.in-Array.length c.in-Some.e
    c.in-Array.is c.in-Some.is c.deref-in-Some.ensures c.deref-in-Some-2.ensures c.in_ok-add_declarator-in-Some.ensures c.in_ok-add_tags-in-Some.ensures

pub add_parameters-loop-one-preserved : goal.add_parameters-loop-one-preserved
add_parameters-loop-one-preserved t c =
    let cut = cut_parameters c.args.all.now c.loop-one.one-index c.one-item.result c.loop-one-test.true c.one-item.is in
    sym (step_parameters (plain_scope c.loop-one.scope) _ _ _ _ cut c.in_ok-add_parameter.ensures) ∙ c.loop-one.invariant

pub add_declarator-returns-in_ok-add_parameters-in-Function : goal.add_declarator-returns-in_ok-add_parameters-in-Function
add_declarator-returns-in_ok-add_parameters-in-Function t c =
    let parts = c.in-Function in
    function_tags _ _ _ c.args.d.now c.deref-in-Function.result.now _ parts.inner _ parts.all _ c.deref-in-Function-2.result.now
    parts.is c.deref-in-Function.ensures c.deref-in-Function-2.ensures.value c.in_ok-add_declarator-in-Function.ensures c.in_ok-add_parameters-in-Function.ensures

pub add_parameter-returns : goal.add_parameter-returns
add_parameter-returns t c = parameter_tags _ _ _ c.args.one.now c.deref.result.now c.deref.ensures.value c.in_ok-add_specifiers.ensures c.in_ok-add_declarator.ensures
