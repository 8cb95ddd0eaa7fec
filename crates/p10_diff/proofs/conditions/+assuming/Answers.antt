use Rattle.std.proofs.Common.{◌≡◌, ◌∙◌, ap, sym, true, false, rules}
use Rattle.std.specs.Option.{option_map}
use Rattle.p10_core.specs.declared.typed.Value.{Value}
use Rattle.p10_core.specs.Typed.{logic, built_in}
use Rattle.p10_core.specs.Views.{plain_form, plain_value, plain_values}
use Rattle.p10_core.proofs.Lists.{plain_built_in}
use Rattle.p10_diff.specs.declared.conditions.Outcomes.{Outcomes}
use Rattle.p10_diff.specs.Knowing.{pair_by, differences_of}
use Rattle.p10_diff.specs.private.Conditions.{ranged_where}
use Rattle.p10_diff.proofs.Outcomes.{logic_holds, logic_fails, call_assumed, only_one, is_unconditional, ranged_assumed}
use Rattle.p10_diff.proofs.conditions.+assuming.Goals as goal

pub both_outcomes-returns-in_ok-left-in-Logic-clause-truth : goal.both_outcomes-returns-in_ok-left-in-Logic-clause-truth
both_outcomes-returns-in_ok-left-in-Logic-clause-truth t c =
    let form : plain_form c.args.v.now.form ≡ logic c.in-Logic.op (plain_value c.deref.result.now) (plain_value c.deref-in-Logic.result.now) =
    ap plain_form c.in-Logic.is ∙ (ap (λ (x : Value). logic c.in-Logic.op (plain_value x) (plain_value c.in-Logic.b.value)) (sym c.deref.ensures) ∙
    ap (λ (y : Value). logic c.in-Logic.op (plain_value c.deref.result.now) (plain_value y)) (sym c.deref-in-Logic.ensures)) in
    logic_holds (pair_by c.args.p.now) c.args.v.now c.in-Logic.op (plain_value c.deref.result.now) (plain_value c.deref-in-Logic.result.now) (differences_of c.args.e)
    (option_map differences_of c.in_ok-left-in-Logic.left.truth) (option_map differences_of c.in_ok-left-in-Logic.left.contrary) c.logic.result form c.in_ok-left-in-Logic.ensures.truth c.in_ok-left-in-Logic.ensures.contrary c.logic.ensures.truth

pub both_outcomes-returns-in_ok-left-in-Logic-clause-contrary : goal.both_outcomes-returns-in_ok-left-in-Logic-clause-contrary
both_outcomes-returns-in_ok-left-in-Logic-clause-contrary t c =
    let form : plain_form c.args.v.now.form ≡ logic c.in-Logic.op (plain_value c.deref.result.now) (plain_value c.deref-in-Logic.result.now) =
    ap plain_form c.in-Logic.is ∙ (ap (λ (x : Value). logic c.in-Logic.op (plain_value x) (plain_value c.in-Logic.b.value)) (sym c.deref.ensures) ∙
    ap (λ (y : Value). logic c.in-Logic.op (plain_value c.deref.result.now) (plain_value y)) (sym c.deref-in-Logic.ensures)) in
    logic_fails (pair_by c.args.p.now) c.args.v.now c.in-Logic.op (plain_value c.deref.result.now) (plain_value c.deref-in-Logic.result.now) (differences_of c.args.e)
    (option_map differences_of c.in_ok-left-in-Logic.left.truth) (option_map differences_of c.in_ok-left-in-Logic.left.contrary) c.logic.result form c.in_ok-left-in-Logic.ensures.truth c.in_ok-left-in-Logic.ensures.contrary c.logic.ensures.contrary

pub both_outcomes-returns-in-Builtin-clause-truth : goal.both_outcomes-returns-in-Builtin-clause-truth
both_outcomes-returns-in-Builtin-clause-truth t c =
    let form : plain_form c.args.v.now.form ≡ built_in c.in-Builtin.field-0 c.in-Builtin.library (plain_values c.as_slice.result.now) =
    ap plain_form c.in-Builtin.is ∙ (plain_built_in c.in-Builtin.field-0 c.in-Builtin.library c.in-Builtin.arguments ∙ ap (λ all. built_in c.in-Builtin.field-0 c.in-Builtin.library (plain_values all)) (sym c.as_slice.ensures)) in
    call_assumed (λ (o : Outcomes). o.truth) (pair_by c.args.p.now) c.args.v.now c.in-Builtin.field-0 c.in-Builtin.library (plain_values c.as_slice.result.now) true (differences_of c.args.e) c.called.result form c.called.ensures.truth

pub both_outcomes-returns-in-Builtin-clause-contrary : goal.both_outcomes-returns-in-Builtin-clause-contrary
both_outcomes-returns-in-Builtin-clause-contrary t c =
    let form : plain_form c.args.v.now.form ≡ built_in c.in-Builtin.field-0 c.in-Builtin.library (plain_values c.as_slice.result.now) =
    ap plain_form c.in-Builtin.is ∙ (plain_built_in c.in-Builtin.field-0 c.in-Builtin.library c.in-Builtin.arguments ∙ ap (λ all. built_in c.in-Builtin.field-0 c.in-Builtin.library (plain_values all)) (sym c.as_slice.ensures)) in
    call_assumed (λ (o : Outcomes). o.contrary) (pair_by c.args.p.now) c.args.v.now c.in-Builtin.field-0 c.in-Builtin.library (plain_values c.as_slice.result.now) false (differences_of c.args.e) c.called.result form c.called.ensures.contrary

pub asserted-returns-in-len1-clause-truth : goal.asserted-returns-in-len1-clause-truth
asserted-returns-in-len1-clause-truth t c =
    only_one (λ (o : Outcomes). o.truth) (pair_by c.args.p.now) c.args.arguments.now c.a-item.result true (differences_of c.args.e) (ranged_where (pair_by c.args.p.now) (plain_value c.args.v.now) true (differences_of c.args.e)) c.both_outcomes.result
    c.in-len1.len_at_least c.in-len1.len_below c.a-item.is c.both_outcomes.ensures.truth

pub asserted-returns-in-len1-clause-contrary : goal.asserted-returns-in-len1-clause-contrary
asserted-returns-in-len1-clause-contrary t c =
    only_one (λ (o : Outcomes). o.contrary) (pair_by c.args.p.now) c.args.arguments.now c.a-item.result false (differences_of c.args.e) (ranged_where (pair_by c.args.p.now) (plain_value c.args.v.now) false (differences_of c.args.e)) c.both_outcomes.result
    c.in-len1.len_at_least c.in-len1.len_below c.a-item.is c.both_outcomes.ensures.contrary

pub both_outcomes-returns-in-Plus-clause-truth : goal.both_outcomes-returns-in-Plus-clause-truth
both_outcomes-returns-in-Plus-clause-truth t c =
    let plain : is_unconditional (plain_form c.args.v.now.form) ≡ true = search rules in
    ranged_assumed (λ (o : Outcomes). o.truth) (pair_by c.args.p.now) c.args.v.now true (differences_of c.args.e) c.ranged.result plain c.ranged.ensures.truth

pub both_outcomes-returns-in-Plus-clause-contrary : goal.both_outcomes-returns-in-Plus-clause-contrary
both_outcomes-returns-in-Plus-clause-contrary t c =
    let plain : is_unconditional (plain_form c.args.v.now.form) ≡ true = search rules in
    ranged_assumed (λ (o : Outcomes). o.contrary) (pair_by c.args.p.now) c.args.v.now false (differences_of c.args.e) c.ranged.result plain c.ranged.ensures.contrary

pub both_outcomes-returns-in-Binary-clause-truth : goal.both_outcomes-returns-in-Binary-clause-truth
both_outcomes-returns-in-Binary-clause-truth t c =
    let plain : is_unconditional (plain_form c.args.v.now.form) ≡ true = search rules in
    ranged_assumed (λ (o : Outcomes). o.truth) (pair_by c.args.p.now) c.args.v.now true (differences_of c.args.e) c.ranged-in-Binary.result plain c.ranged-in-Binary.ensures.truth

pub both_outcomes-returns-in-Binary-clause-contrary : goal.both_outcomes-returns-in-Binary-clause-contrary
both_outcomes-returns-in-Binary-clause-contrary t c =
    let plain : is_unconditional (plain_form c.args.v.now.form) ≡ true = search rules in
    ranged_assumed (λ (o : Outcomes). o.contrary) (pair_by c.args.p.now) c.args.v.now false (differences_of c.args.e) c.ranged-in-Binary.result plain c.ranged-in-Binary.ensures.contrary
