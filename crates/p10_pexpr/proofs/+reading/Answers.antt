use Rattle.std.proofs.Common.{◌∙◌, map, sym, rules, arith}
use Rattle.p10_syn.specs.Trees.{specifier_row}
use Rattle.p10_syn.specs.Built.{bare_specifier_of, bare_parameter_of}
use Rattle.p10_pexpr.proofs.Extending.{forgotten, kept_names}
use Rattle.p10_pexpr.proofs.ReadingSteps.{chain_over, list_done, list_goes}
use Rattle.p10_pexpr.proofs.ListSteps.{specifiers_over, specifiers_goes_by, specifiers_scoped, members_over, members_done, members_goes, members_scoped, fields_over, fields_done, fields_goes, fields_unclosed, enumerators_over, enumerators_done, enumerators_goes, enumerators_scoped, enumerators_unclosed, parameters_over, parameters_done, parameters_goes, parameters_unclosed}
use Rattle.p10_pexpr.proofs.+reading.Goals as goal

pub declarator::parameters-returns-in_err-has_ellipsis-clause-refused : goal.declarator::parameters-returns-in_err-has_ellipsis-clause-refused
declarator::parameters-returns-in_err-has_ellipsis-clause-refused t c = search (rules, parameters_unclosed)

pub declarator::parameters-returns-then-ends_parameters-clause-ok : goal.declarator::parameters-returns-then-ends_parameters-clause-ok
declarator::parameters-returns-then-ends_parameters-clause-ok t c = parameters_done _ _ _ _ _ _ _ _ _ _ _ c.loop-fuel-test.true c.in_ok-next.ensures.ok c.in_ok-push_one.ensures (sym c.if-ends_parameters.ensures) c.in_ok-has_ellipsis.ensures.ok c.loop-fuel.invariant.same

pub declarator::parameters-returns-then-ends_parameters-clause-scope : goal.declarator::parameters-returns-then-ends_parameters-clause-scope
declarator::parameters-returns-then-ends_parameters-clause-scope t c = c.forget.ensures ∙ (kept_names _ _ _ _ (bare_parameter_of c.in_ok-next.next) c.in_ok-next.ensures.scope c.loop-fuel.invariant.room c.loop-fuel.invariant.start).1

pub declarator::parameters-loop-fuel-preserved : goal.declarator::parameters-loop-fuel-preserved
declarator::parameters-loop-fuel-preserved t c =
    let kept = kept_names _ _ _ _ (bare_parameter_of c.in_ok-next.next) c.in_ok-next.ensures.scope c.loop-fuel.invariant.room c.loop-fuel.invariant.start in
    record {
      left = omega (arith, c.loop-fuel.invariant.left);
      room = kept.0;
      start = kept.1;
      same = parameters_goes _ _ _ _ _ _ _ _ _ _ _ c.loop-fuel-test.true c.in_ok-next.ensures.ok c.in_ok-push_one.ensures (sym c.if-ends_parameters.ensures) c.advance.ensures c.in_ok-next.ensures.scope c.loop-fuel.invariant.same;
    }

pub declarator::parameters-returns-clause-refused : goal.declarator::parameters-returns-clause-refused
declarator::parameters-returns-clause-refused t c = λ refused. parameters_over _ _ _ _ _ _ (omega (arith, c.loop-fuel-test.false)) c.loop-fuel.invariant.same

pub declarator::type_name-returns-clause-scope : goal.declarator::type_name-returns-clause-scope
declarator::type_name-returns-clause-scope t c = c.forget.ensures ∙ forgotten _ _ (specifier_row (map bare_specifier_of c.in_ok-specs.specs.items)) _ c.count-count.ensures (c.in_ok-declarator.ensures.scope ∙ c.in_ok-specs.ensures.scope)

pub expression::chain-returns-clause-refused : goal.expression::chain-returns-clause-refused
expression::chain-returns-clause-refused t c = λ refused. chain_over _ _ _ _ _ _ (omega (arith, c.loop-fuel-test.false)) c.loop-fuel.invariant.same

pub expression::list-returns-then-not-heads-clause-ok : goal.expression::list-returns-then-not-heads-clause-ok
expression::list-returns-then-not-heads-clause-ok t c = list_done _ _ _ _ _ _ _ _ c.loop-fuel-test.true c.in_ok-next.ensures.ok (sym c.if-not-heads.ensures) c.in_ok-push_one.ensures c.loop-fuel.invariant.same

pub expression::list-loop-fuel-preserved : goal.expression::list-loop-fuel-preserved
expression::list-loop-fuel-preserved t c = record {
  left = omega (arith, c.loop-fuel.invariant.left);
  scope = c.in_ok-next.ensures.scope ∙ c.loop-fuel.invariant.scope;
  same = list_goes _ _ _ _ _ _ _ _ _ _ c.loop-fuel-test.true c.in_ok-next.ensures.ok (sym c.if-not-heads.ensures) c.in_ok-push_one.ensures c.advance.ensures c.in_ok-next.ensures.scope c.loop-fuel.invariant.same;
}

pub specifier::all_specifiers-loop-fuel-preserved : goal.specifier::all_specifiers-loop-fuel-preserved
specifier::all_specifiers-loop-fuel-preserved t c = record {
  left = omega (arith, c.loop-fuel.invariant.left);
  scope = specifiers_scoped _ _ _ _ _ _ c.loop-fuel.invariant.scope c.in_ok-spec.ensures.scope c.in_ok-push_one.ensures;
  same = specifiers_goes_by _ _ _ _ _ _ _ _ _ _ _ _ _ c.loop-fuel-test.true c.at-next.ensures c.if-is_other.ensures c.in_ok-spec.ensures.ok c.said_after-said.ensures c.in_ok-push_one.ensures c.in_ok-spec.ensures.scope c.loop-fuel.invariant.same;
}

pub specifier::all_specifiers-returns-clause-refused : goal.specifier::all_specifiers-returns-clause-refused
specifier::all_specifiers-returns-clause-refused t c = λ refused. specifiers_over _ _ _ _ _ _ _ (omega (arith, c.loop-fuel-test.false)) c.loop-fuel.invariant.same

pub specifier::enumerators-loop-fuel-preserved : goal.specifier::enumerators-loop-fuel-preserved
specifier::enumerators-loop-fuel-preserved t c = record {
  left = omega (arith, c.loop-fuel.invariant.left);
  scope = enumerators_scoped _ _ _ _ _ _ c.loop-fuel.invariant.scope c.in_ok-next.ensures.scope c.in_ok-push_one.ensures;
  same = enumerators_goes _ _ _ _ _ _ _ _ _ _ c.loop-fuel-test.true c.in_ok-next.ensures.ok c.in_ok-push_one.ensures (sym c.if-ends_enumerators.ensures) c.advance.ensures c.in_ok-next.ensures.scope c.loop-fuel.invariant.same;
}

pub specifier::enumerators-returns-clause-refused : goal.specifier::enumerators-returns-clause-refused
specifier::enumerators-returns-clause-refused t c = λ refused. enumerators_over _ _ _ _ _ (omega (arith, c.loop-fuel-test.false)) c.loop-fuel.invariant.same

pub specifier::enumerators-returns-in_err-ends_with_comma-clause-refused : goal.specifier::enumerators-returns-in_err-ends_with_comma-clause-refused
specifier::enumerators-returns-in_err-ends_with_comma-clause-refused t c = search (rules, enumerators_unclosed)

pub specifier::enumerators-returns-then-ends_enumerators-clause-ok : goal.specifier::enumerators-returns-then-ends_enumerators-clause-ok
specifier::enumerators-returns-then-ends_enumerators-clause-ok t c = enumerators_done _ _ _ _ _ _ _ _ _ _ c.loop-fuel-test.true c.in_ok-next.ensures.ok c.in_ok-push_one.ensures (sym c.if-ends_enumerators.ensures) c.in_ok-ends_with_comma.ensures.ok c.loop-fuel.invariant.same

pub specifier::enumerators-returns-then-ends_enumerators-clause-scope : goal.specifier::enumerators-returns-then-ends_enumerators-clause-scope
specifier::enumerators-returns-then-ends_enumerators-clause-scope t c = enumerators_scoped _ _ _ _ _ _ c.loop-fuel.invariant.scope c.in_ok-next.ensures.scope c.in_ok-push_one.ensures

pub specifier::fields-loop-fuel-preserved : goal.specifier::fields-loop-fuel-preserved
specifier::fields-loop-fuel-preserved t c = record {
  left = omega (arith, c.loop-fuel.invariant.left);
  scope = c.in_ok-next.ensures.scope ∙ c.loop-fuel.invariant.scope;
  same = fields_goes _ _ _ _ _ _ _ _ _ _ c.loop-fuel-test.true c.in_ok-next.ensures.ok c.in_ok-push_one.ensures (sym c.if-not-heads.ensures) c.advance.ensures c.in_ok-next.ensures.scope c.loop-fuel.invariant.same;
}

pub specifier::fields-returns-clause-refused : goal.specifier::fields-returns-clause-refused
specifier::fields-returns-clause-refused t c = λ refused. fields_over _ _ _ _ _ (omega (arith, c.loop-fuel-test.false)) c.loop-fuel.invariant.same

pub specifier::fields-returns-in_err-expect-clause-refused : goal.specifier::fields-returns-in_err-expect-clause-refused
specifier::fields-returns-in_err-expect-clause-refused t c = search (rules, fields_unclosed)

pub specifier::fields-returns-then-not-heads-clause-ok : goal.specifier::fields-returns-then-not-heads-clause-ok
specifier::fields-returns-then-not-heads-clause-ok t c = fields_done _ _ _ _ _ _ _ _ _ c.loop-fuel-test.true c.in_ok-next.ensures.ok c.in_ok-push_one.ensures (sym c.if-not-heads.ensures) c.in_ok-expect.ensures.ok c.loop-fuel.invariant.same

pub specifier::members-loop-fuel-preserved : goal.specifier::members-loop-fuel-preserved
specifier::members-loop-fuel-preserved t c = record {
  left = omega (arith, c.loop-fuel.invariant.left);
  scope = members_scoped _ _ _ _ _ _ c.loop-fuel.invariant.scope c.in_ok-next.ensures.scope c.in_ok-push_one.ensures;
  same = members_goes _ _ _ _ _ _ _ _ _ c.loop-fuel-test.true c.in_ok-next.ensures.ok c.in_ok-push_one.ensures (sym c.if-heads.ensures) c.in_ok-next.ensures.scope c.loop-fuel.invariant.same;
}

pub specifier::members-returns-clause-refused : goal.specifier::members-returns-clause-refused
specifier::members-returns-clause-refused t c = λ refused. members_over _ _ _ _ _ (omega (arith, c.loop-fuel-test.false)) c.loop-fuel.invariant.same

pub specifier::members-returns-then-heads-clause-ok : goal.specifier::members-returns-then-heads-clause-ok
specifier::members-returns-then-heads-clause-ok t c = members_done _ _ _ _ _ _ _ _ _ c.loop-fuel-test.true c.in_ok-next.ensures.ok c.in_ok-push_one.ensures (sym c.if-heads.ensures) c.advance.ensures c.loop-fuel.invariant.same

pub specifier::members-returns-then-heads-clause-scope : goal.specifier::members-returns-then-heads-clause-scope
specifier::members-returns-then-heads-clause-scope t c = members_scoped _ _ _ _ _ _ c.loop-fuel.invariant.scope c.in_ok-next.ensures.scope c.in_ok-push_one.ensures
