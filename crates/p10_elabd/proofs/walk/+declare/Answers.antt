use Rattle.std.specs.Prelude.{map, [], option_map}
use Rattle.std.proofs.Common.{◌≡◌, ◌∙◌, ap, sym, subst, rules, arith, option_copied}
use Rattle.std.proofs.lemmas.Grind.{common_steps}
use Rattle.p10_syn.specs.declared.tree.Declarator.TheViews.{the_lemmas}
use Rattle.p10_syn.specs.declared.tree.Structure.{out-Structure}
use Rattle.p10_syn.specs.Trees.{member_row}
use Rattle.p10_syn.specs.Built.{tag_of, member_of}
use Rattle.p10_core.specs.Types.{plain_type}
use Rattle.p10_elabx.specs.First.{only_first}
use Rattle.p10_elabx.proofs.TreeRows.{cut_specifiers, cut_parameters}
use Rattle.p10_elabd.specs.Standing.{passed}
use Rattle.p10_elabd.specs.Declaring.{members_passed}
use Rattle.p10_elabd.specs.Views.{plain_standing, plain_named, plain_declared, plain_placed, lists, told}
use Rattle.p10_elabd.specs.private.NamedMembers.{named_members}
use Rattle.p10_elabd.proofs.TreeRows.{cut_members, cut_fields}
use Rattle.p10_elabd.proofs.Walks.{step_specifiers, step_members, step_fields, step_parameters}
use Rattle.p10_elabd.proofs.Bodies.{without_members, with_members}
use Rattle.p10_elabd.proofs.DeclaratorArms.{function_arm}
use Rattle.p10_elabd.proofs.ParameterArms.{no_parameter, several}
use Rattle.p10_elabd.proofs.walk.+declare.Goals as goal

pub specifiers_passed-loop-spec-preserved : goal.specifiers_passed-loop-spec-preserved
specifiers_passed-loop-spec-preserved t c =
    let cut = cut_specifiers c.args.specs.now c.loop-spec.spec-index c.spec-item.result c.loop-spec-test.true c.spec-item.is in
    sym (step_specifiers c.args.manner.site c.args.manner.allowed c.args.manner.alone c.loop-spec.stored _ (told (plain_named c.loop-spec.named) c.loop-spec.standing) _ _ _ _ _ _ cut c.in_ok-one.ensures c.stored_by-stored.ensures c.both_named-named.ensures)
    ∙ c.loop-spec.invariant

pub members_passed-loop-one-preserved : goal.members_passed-loop-one-preserved
members_passed-loop-one-preserved t c =
    let cut = cut_members c.args.all.now c.loop-one.one-index c.one-item.result c.loop-one-test.true c.one-item.is in
    sym (step_members (told (option_map named_members c.loop-one.members) c.loop-one.standing) _ _ _ _ cut c.in_ok-members.ensures) ∙ c.loop-one.invariant

pub fields_passed-loop-field-preserved : goal.fields_passed-loop-field-preserved
fields_passed-loop-field-preserved t c =
    let cut = cut_fields c.args.fields.now c.loop-field.field-index c.field-item.result c.loop-field-test.true c.field-item.is in
    sym (step_fields (option_map plain_type c.args.ty.now) (told (option_map named_members c.loop-field.members) c.loop-field.standing) _ _ _ _ cut c.in_ok-members.ensures) ∙ c.loop-field.invariant

pub parameters_passed-loop-one-preserved : goal.parameters_passed-loop-one-preserved
parameters_passed-loop-one-preserved t c =
    let cut = cut_parameters c.args.all.now c.loop-one.one-index c.one-item.result c.loop-one-test.true c.one-item.is in
    sym (step_parameters c.loop-one.number _ (lists c.loop-one.parameters c.loop-one.standing) _ _ _ _ cut c.in_ok-parameters.ensures c.in_ok-number.ensures) ∙ c.loop-one.invariant

pub declarator_passed-returns-in_ok-made-in-Function : goal.declarator_passed-returns-in_ok-made-in-Function
declarator_passed-returns-in_ok-made-in-Function t c =
    let parts = c.in-Function in
    function_arm c.args.name_at (told (option_map plain_declared c.args.given) c.args.standing.now) _ _ c.args.d.now c.deref-in-Function-3.result.now c.deref-in-Function.result.now parts.at parts.inner parts.parentheses parts.all parts.more c.deref-in-Function-2.result.now _ _ _
    parts.is c.deref-in-Function-2.ensures.value c.deref-in-Function-3.ensures c.deref-in-Function.ensures c.result_declared-gives.ensures c.refuse_where.ensures c.function_inside.ensures c.in_ok-given-in-Function.ensures c.in_ok-made-in-Function.ensures

pub structure_passed-returns-then-count-eq0 : goal.structure_passed-returns-then-count-eq0
structure_passed-returns-then-count-eq0 t c =
    let one = out-Structure c.args.one.now in
    c.in_ok-named.ensures ∙ without_members c.args.alone one.at one.sign (tag_of one.tag) (plain_standing c.args.standing.now) one.members.items (sym (c.len-count.ensures ∙ one.members.ok.0) ∙ c.if-count-eq0.true)

pub structure_passed-returns : goal.structure_passed-returns
structure_passed-returns t c =
    let one = out-Structure c.args.one.now in
    with_members c.args.alone one.at one.sign (tag_of one.tag) (plain_standing c.args.standing.now) _ one.members.items _ _ _ (subst (λ n. n ≡ 0 → ⊥) (c.len-count.ensures ∙ one.members.ok.0) c.if-count-eq0.false)
    c.in_ok-number.ensures (c.in_ok-members.ensures ∙ ap (λ xs. members_passed only_first (passed [] (plain_standing c.begin.new.standing)) (member_row (map member_of xs))) c.deref.ensures.value) c.in_ok-ty.ensures

pub all_parameters_passed-returns-in-None : goal.all_parameters_passed-returns-in-None
all_parameters_passed-returns-in-None t c =
    ap (λ xs. record { parameters = map plain_placed xs; after = plain_standing c.refuse.new.self }) c.new.ensures.items
    ∙ ap (λ s. record { parameters = []; after = s }) c.refuse.ensures ∙ no_parameter (plain_standing c.args.standing.now) c.args.at c.args.all.now (sym (ap option_copied c.in-None.is) ∙ c.first.ensures.value)

pub all_parameters_passed-returns-in_ok-parameters-in-Some : goal.all_parameters_passed-returns-in_ok-parameters-in-Some
all_parameters_passed-returns-in_ok-parameters-in-Some t c =
    several (plain_standing c.args.standing.now) c.args.at c.args.all.now c.in-Some.one.now _ (sym (ap option_copied c.in-Some.is) ∙ c.first.ensures.value) c.if-all-eq1.false c.in_ok-parameters-in-Some.ensures

-- parameters are below the declarator that has them
pub declarator_passed-function_passed-requires : goal.declarator_passed-function_passed-requires
declarator_passed-function_passed-requires t c = (
  (first_of (search (rules, the_lemmas), search (rules, the_lemmas, c.deref-in-Function-2.ensures.value), search rules, grind (arith, common_steps))),
  tt,
)
