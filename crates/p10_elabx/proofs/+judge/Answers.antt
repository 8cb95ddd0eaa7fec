use Rattle.p10_elabx.specs.PlainScopes.{plain_scope, scope_in}
use Rattle.p10_elabx.specs.Built.{judged_shape, plain_wants}
use Rattle.p10_elabx.proofs.Allocating.{malloc_other, calloc_other, bytes_row, cleared_size, cleared_other, size_bytes, product_bytes, sign_bytes}
use Rattle.std.proofs.Common.{◌∙◌, ap, sym, rules, arith}
use Rattle.p10_elabx.specs.private.Numbers.{plain_bytes, of_elements}
use Rattle.std.proofs.lemmas.Grind.{common_steps}
use Rattle.p10_syn.specs.declared.tree.Declarator.TheViews.{the_lemmas}
use Rattle.p10_syn.specs.Built.{expression_of, kind_of, identifier_of}
use Rattle.p10_elabx.specs.First.{only_first}
use Rattle.p10_elabx.specs.Judging.{called_name, memory_called, judge, judge_type, other_allocation, judge_cast}
use Rattle.p10_elabx.proofs.Arms.{cast_memory, cast_plain, size_type, call_named, call_other, comma_row, cast_to, size_of_type}
use Rattle.std.specs.Prelude.{option_map, ◌≡◌, refl}
use Rattle.p10_elabx.proofs.CallParts.{memory_is, named_is}
use Rattle.p10_elabx.proofs.TreeRows.{cut_expressions, cut_parameters}
use Rattle.p10_elabx.proofs.Walks.{step_arguments, step_parameters}
use Rattle.p10_elabx.proofs.DeclaratorArms.{function_arm}
use Rattle.p10_elabx.proofs.+judge.Goals as goal

pub memory::judge_allocation-returns-in_ok-seen-in-Malloc-2 : goal.memory::judge_allocation-returns-in_ok-seen-in-Malloc-2
memory::judge_allocation-returns-in_ok-seen-in-Malloc-2 t c =
    malloc_other (scope_in c.args.situation) c.args.site (judged_shape c.args.shape) c.args.function c.args.all.now _ c.in-Malloc.is c.if-all-eq1.false c.in_ok-seen-in-Malloc-2.ensures

pub memory::judge_allocation-returns-in_ok-seen-in-Calloc-2 : goal.memory::judge_allocation-returns-in_ok-seen-in-Calloc-2
memory::judge_allocation-returns-in_ok-seen-in-Calloc-2 t c =
    calloc_other (scope_in c.args.situation) c.args.site (judged_shape c.args.shape) c.args.function c.args.all.now _ c.in-Calloc.is c.if-all-eq2.false c.in_ok-seen-in-Calloc-2.ensures

pub memory::judge_bytes-returns-in_ok-seen-in-Size : goal.memory::judge_bytes-returns-in_ok-seen-in-Size
memory::judge_bytes-returns-in_ok-seen-in-Size t c =
    c.in_ok-seen-in-Size.ensures ∙ bytes_row (scope_in c.args.situation) c.args.site (judged_shape c.args.shape) c.args.all.now c.index-all-0.result (plain_bytes c.in_ok-bytes.bytes) _
    c.requires.one c.index-all-0.is c.in_ok-bytes.ensures (ap plain_bytes c.in-Size.is)

pub memory::judge_bytes-returns-in_ok-seen-in-Sizes : goal.memory::judge_bytes-returns-in_ok-seen-in-Sizes
memory::judge_bytes-returns-in_ok-seen-in-Sizes t c =
    c.in_ok-seen-in-Sizes.ensures ∙ bytes_row (scope_in c.args.situation) c.args.site (judged_shape c.args.shape) c.args.all.now c.index-all-0.result (plain_bytes c.in_ok-bytes.bytes) _
    c.requires.one c.index-all-0.is c.in_ok-bytes.ensures (ap plain_bytes c.in-Sizes.is)

pub memory::judge_bytes-returns-in_ok-seen-in-Elements : goal.memory::judge_bytes-returns-in_ok-seen-in-Elements
memory::judge_bytes-returns-in_ok-seen-in-Elements t c =
    c.in_ok-seen-in-Elements.ensures ∙ bytes_row (scope_in c.args.situation) c.args.site (judged_shape c.args.shape) c.args.all.now c.index-all-0.result (plain_bytes c.in_ok-bytes.bytes) _
    c.requires.one c.index-all-0.is c.in_ok-bytes.ensures (ap plain_bytes c.in-Elements.is)

pub memory::judge_bytes-returns-in_ok-seen-in-Other : goal.memory::judge_bytes-returns-in_ok-seen-in-Other
memory::judge_bytes-returns-in_ok-seen-in-Other t c =
    c.in_ok-seen-in-Other.ensures ∙ bytes_row (scope_in c.args.situation) c.args.site (judged_shape c.args.shape) c.args.all.now c.index-all-0.result (plain_bytes c.in_ok-bytes.bytes) _
    c.requires.one c.index-all-0.is c.in_ok-bytes.ensures (ap plain_bytes c.in-Other.is)

pub memory::judge_cast-returns-in_ok-seen-in-Some : goal.memory::judge_cast-returns-in_ok-seen-in-Some
memory::judge_cast-returns-in_ok-seen-in-Some t c =
    cast_memory (scope_in c.args.situation) c.args.at (judged_shape c.args.shape) (judge only_first (scope_in c.args.situation) (expression_of c.args.e.now)) c.args.e.now c.in-Call.f c.in-Call.all c.deref-in-Some.result.now _ _ _
    c.in-Call.is c.deref-in-Some.ensures.value
    (sym c.in-Some.is ∙ c.memory_called.ensures ∙ ap (memory_called (scope_in c.args.situation)) (c.called_name.ensures ∙ ap (λ x. called_name (expression_of x)) c.deref.ensures))
    c.in_ok-seen-in-Some.ensures

pub memory::judge_cast-returns-in_ok-seen-in-None : goal.memory::judge_cast-returns-in_ok-seen-in-None
memory::judge_cast-returns-in_ok-seen-in-None t c =
    cast_plain (scope_in c.args.situation) c.args.at (judged_shape c.args.shape) (judge only_first (scope_in c.args.situation) (expression_of c.args.e.now)) c.args.e.now c.in-Call.f c.in-Call.all _
    c.in-Call.is
    (sym c.in-None.is ∙ c.memory_called.ensures ∙ ap (memory_called (scope_in c.args.situation)) (c.called_name.ensures ∙ ap (λ x. called_name (expression_of x)) c.deref.ensures))
    c.in_ok-seen-in-None.ensures

pub memory::judge_cleared-returns-in_ok-seen-in-Some : goal.memory::judge_cleared-returns-in_ok-seen-in-Some
memory::judge_cleared-returns-in_ok-seen-in-Some t c =
    cleared_size (scope_in c.args.situation) c.args.site (judged_shape c.args.shape) c.args.all.now c.index-all-0.result c.index-all-1.result _ (judged_shape c.in-Some.element) _ _
    c.requires.two c.index-all-0.is c.index-all-1.is c.in_ok-size.ensures (ap (option_map judged_shape) c.in-Some.is) c.in-Ok.ensures c.in_ok-seen-in-Some.ensures

pub memory::judge_cleared-returns-in_ok-seen-in-None : goal.memory::judge_cleared-returns-in_ok-seen-in-None
memory::judge_cleared-returns-in_ok-seen-in-None t c =
    cleared_other (scope_in c.args.situation) c.args.site (judged_shape c.args.shape) c.args.all.now c.index-all-0.result c.index-all-1.result _ _
    c.requires.two c.index-all-0.is c.index-all-1.is c.in_ok-size.ensures (ap (option_map judged_shape) c.in-None.is) c.in_ok-seen-in-None.ensures

pub memory::judge_number-returns-in_ok-element-in-SizeofType : goal.memory::judge_number-returns-in_ok-element-in-SizeofType
memory::judge_number-returns-in_ok-element-in-SizeofType t c =
    size_bytes (scope_in c.args.situation) c.args.e.now c.in-SizeofType.t c.deref.result.now _ c.in-SizeofType.is c.deref.ensures c.in_ok-element-in-SizeofType.ensures

pub memory::judge_number-returns-in-Some-Some : goal.memory::judge_number-returns-in-Some-Some
memory::judge_number-returns-in-Some-Some t c =
    product_bytes (scope_in c.args.situation) c.args.e.now c.in-Binary.sign c.in-Binary.a c.in-Binary.b c.deref-a.result.now c.deref-b.result.now _ _ _ _ _ c.in-Binary.is c.deref-a.ensures c.deref-b.ensures
    c.is_star.ensures c.if-is_star.true c.in_ok-left-in-Binary.ensures (ap (option_map judged_shape) c.in-Some-Some.is-0) c.in-Ok.ensures (ap (option_map judged_shape) c.in-Some-Some.is-1)

pub memory::judge_number-returns-in-Ok-judge_value-2 : goal.memory::judge_number-returns-in-Ok-judge_value-2
memory::judge_number-returns-in-Ok-judge_value-2 t c =
    ap (of_elements c.deref-b.result.now.at (judged_shape c.in-None-Some.element)) c.in-Ok-judge_value-2.ensures
    ∙ product_bytes (scope_in c.args.situation) c.args.e.now c.in-Binary.sign c.in-Binary.a c.in-Binary.b c.deref-a.result.now c.deref-b.result.now _ _ _ _ _ c.in-Binary.is c.deref-a.ensures c.deref-b.ensures
    c.is_star.ensures c.if-is_star.true c.in_ok-left-in-Binary.ensures (ap (option_map judged_shape) c.in-None-Some.is-0) c.in-Ok.ensures (ap (option_map judged_shape) c.in-None-Some.is-1)

pub memory::judge_number-returns-in-Ok-judge_value : goal.memory::judge_number-returns-in-Ok-judge_value
memory::judge_number-returns-in-Ok-judge_value t c =
    ap (of_elements c.deref-a.result.now.at (judged_shape c.in-Some-None.element)) c.in-Ok-judge_value.ensures
    ∙ product_bytes (scope_in c.args.situation) c.args.e.now c.in-Binary.sign c.in-Binary.a c.in-Binary.b c.deref-a.result.now c.deref-b.result.now _ _ _ _ _ c.in-Binary.is c.deref-a.ensures c.deref-b.ensures
    c.is_star.ensures c.if-is_star.true c.in_ok-left-in-Binary.ensures (ap (option_map judged_shape) c.in-Some-None.is-0) c.in-Ok.ensures (ap (option_map judged_shape) c.in-Some-None.is-1)

pub memory::judge_number-returns-in-None-None : goal.memory::judge_number-returns-in-None-None
memory::judge_number-returns-in-None-None t c =
    product_bytes (scope_in c.args.situation) c.args.e.now c.in-Binary.sign c.in-Binary.a c.in-Binary.b c.deref-a.result.now c.deref-b.result.now _ _ _ _ _ c.in-Binary.is c.deref-a.ensures c.deref-b.ensures
    c.is_star.ensures c.if-is_star.true c.in_ok-left-in-Binary.ensures (ap (option_map judged_shape) c.in-None-None.is-0) c.in-Ok.ensures (ap (option_map judged_shape) c.in-None-None.is-1)

pub memory::judge_number-returns-else-is_star : goal.memory::judge_number-returns-else-is_star
memory::judge_number-returns-else-is_star t c =
    sign_bytes (scope_in c.args.situation) c.args.e.now c.in-Binary.sign c.in-Binary.a c.in-Binary.b _ c.in-Binary.is c.is_star.ensures c.if-is_star.false

pub memory::judge_size-returns-in_ok-shape-in-SizeofType : goal.memory::judge_size-returns-in_ok-shape-in-SizeofType
memory::judge_size-returns-in_ok-shape-in-SizeofType t c =
    let known : judged_shape c.in_ok-shape-in-SizeofType.shape ≡ judge_type only_first (plain_scope c.args.scope.now) (kind_of c.in-SizeofType.t.value) = search rules in
    size_type (plain_scope c.args.scope.now) c.args.e.now c.in-SizeofType.t _ c.in-SizeofType.is known

pub memory::other_memory-returns : goal.memory::other_memory-returns
memory::other_memory-returns t c =
    c.other_allocation.ensures
    ∙ ap (other_allocation only_first c.args.site (judged_shape c.args.shape))
    (memory_is (scope_in c.args.situation) c.args.site c.args.function c.args.all.now _ _ _ _ refl c.wanted_of.ensures c.in_ok-list.ensures c.in_ok-seen.ensures)

pub walk::judge_arguments-loop-i-preserved : goal.walk::judge_arguments-loop-i-preserved
walk::judge_arguments-loop-i-preserved t c =
    let cut = cut_expressions c.args.all.now c.loop-i.i c.index-all-i.result c.loop-i-test.true c.index-all-i.is in
    sym (step_arguments (scope_in c.args.situation) (plain_wants c.args.wants) c.loop-i.i c.args.all.now c.index-all-i.result _ _ _ _ _ cut c.in_ok-value.ensures c.wanted_at.ensures c.in_ok-argument.ensures c.in_ok-list.ensures)
    ∙ c.loop-i.invariant

pub walk::judge-returns-in_ok-seen-in-Some : goal.walk::judge-returns-in_ok-seen-in-Some
walk::judge-returns-in_ok-seen-in-Some t c =
    call_named (scope_in c.args.situation) c.args.e.now c.in-Call.f c.in-Call.all c.deref-in-Some.result.now (identifier_of c.in-Some.name) _ c.in-Call.is c.deref-in-Some.ensures.value
    (sym (ap (option_map identifier_of) c.in-Some.is) ∙ c.called_name.ensures ∙ ap (λ x. called_name (expression_of x)) c.deref-in-Call.ensures) c.in_ok-seen-in-Some.ensures

pub walk::judge-returns-in-Ok-judge_arguments : goal.walk::judge-returns-in-Ok-judge_arguments
walk::judge-returns-in-Ok-judge_arguments t c =
    call_other (scope_in c.args.situation) c.args.e.now c.in-Call.f c.in-Call.all c.deref-in-None-2.result.now _ _ _ c.in-Call.is c.deref-in-None-2.ensures.value
    (sym (ap (option_map identifier_of) c.in-None.is) ∙ c.called_name.ensures ∙ ap (λ x. called_name (expression_of x)) c.deref-in-Call.ensures)
    (c.in_ok-called-in-None.ensures ∙ ap (λ x. judge only_first (scope_in c.args.situation) (expression_of x)) c.deref-in-None.ensures) c.in-Ok-judge_arguments.ensures c.other_call.ensures

pub walk::judge-returns-in_ok-list-in-Comma : goal.walk::judge-returns-in_ok-list-in-Comma
walk::judge-returns-in_ok-list-in-Comma t c =
    comma_row (scope_in c.args.situation) c.args.e.now c.in-Comma.all c.deref-in-Comma.result.now _ _ c.in-Comma.is c.deref-in-Comma.ensures.value c.in_ok-list-in-Comma.ensures c.comma_judged.ensures

pub walk::judge-returns-in_ok-seen-in-Cast : goal.walk::judge-returns-in_ok-seen-in-Cast
walk::judge-returns-in_ok-seen-in-Cast t c =
    cast_to (scope_in c.args.situation) c.args.e.now c.in-Cast.t c.in-Cast.a (judged_shape c.in_ok-shape-in-Cast.shape) _ c.in-Cast.is
    (c.in_ok-shape-in-Cast.ensures ∙ ap (λ x. judge_type only_first (plain_scope c.args.situation.scope.now) (kind_of x)) c.deref-in-Cast.ensures)
    (c.in_ok-seen-in-Cast.ensures
    ∙ ap (λ x. judge_cast only_first (scope_in c.args.situation) c.args.e.now.at (judged_shape c.in_ok-shape-in-Cast.shape) (judge only_first (scope_in c.args.situation) (expression_of x)) (expression_of x)) c.deref-in-Cast-2.ensures)

pub walk::judge-returns-in_ok-shape-in-SizeofType : goal.walk::judge-returns-in_ok-shape-in-SizeofType
walk::judge-returns-in_ok-shape-in-SizeofType t c =
    size_of_type (scope_in c.args.situation) c.args.e.now c.in-SizeofType.t _ _ c.in-SizeofType.is
    (c.in_ok-shape-in-SizeofType.ensures ∙ ap (λ x. judge_type only_first (plain_scope c.args.situation.scope.now) (kind_of x)) c.deref-in-SizeofType.ensures) c.type_size_judged.ensures

pub walk::judge_call-returns : goal.walk::judge_call-returns
walk::judge_call-returns t c =
    named_is (scope_in c.args.situation) c.args.at (identifier_of c.args.name) c.args.all.now _ _ _ _ _ _ _ c.named.ensures c.callee_of-callee.ensures refl c.wanted_of.ensures c.in_ok-list.ensures c.in_ok-seen.ensures c.operand_call.ensures

pub walk::judge_declarator-returns-in_ok-inside-in-Function : goal.walk::judge_declarator-returns-in_ok-inside-in-Function
walk::judge_declarator-returns-in_ok-inside-in-Function t c =
    let parts = c.in-Function in
    function_arm (plain_scope c.args.scope.now) c.args.name_at c.args.made c.args.d.now parts.at parts.inner parts.parentheses parts.parameters parts.dots _ _ _ _ _ _ _ _ _ _
    parts.is c.deref-in-Function.ensures.value c.deref-in-Function-2.ensures.value c.deref-in-Function-3.ensures.value c.deref-in-Function-4.ensures
    c.lacks_prototype.ensures c.is_alone.ensures c.in-Ok-judge_parameters.ensures c.function_judged-shape.ensures c.in_ok-inside-in-Function.ensures

pub walk::judge_parameters-loop-parameter-preserved : goal.walk::judge_parameters-loop-parameter-preserved
walk::judge_parameters-loop-parameter-preserved t c =
    let cut = cut_parameters c.args.parameters.now c.loop-parameter.parameter-index c.parameter-item.result c.loop-parameter-test.true c.parameter-item.is in
    sym (step_parameters (plain_scope c.args.scope.now) c.args.alone c.loop-parameter.parameter-index c.args.parameters.now c.parameter-item.result _ _ _ cut c.in_ok-one.ensures c.in_ok-types.ensures)
    ∙ c.loop-parameter.invariant

-- parameters are below the declarator that has them
pub walk::judge_declarator-judge_parameters-requires : goal.walk::judge_declarator-judge_parameters-requires
walk::judge_declarator-judge_parameters-requires t c = (
  (first_of (search (rules, the_lemmas), search (rules, the_lemmas, c.deref-in-Function-2.ensures.value), search rules, grind (arith, common_steps))),
  c.requires,
)
