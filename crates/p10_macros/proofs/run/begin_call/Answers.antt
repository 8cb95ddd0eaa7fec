use Rattle.std.proofs.Common.{List, Vec, Global, sym, ◌∙◌, subst, arith}
use Rattle.p10_macros.specs.private.KnownMacros.{plain_known}
use Rattle.p10_macros.specs.declared.pending.Traced.{Traced}
use Rattle.p10_macros.specs.declared.replaced.ReplaceFault.{ReplaceFault}
use Rattle.p10_macros.specs.private.Standing.{FaultComes, IsReplacedIn, IsTooLong}
use Rattle.p10_macros.proofs.Beginnings.{call_none, call_none_too_long, call_open, call_wrong, call_right}
use Rattle.p10_macros.proofs.Results.{on_ok_so, if_err_so}
use Rattle.p10_macros.specs.private.Traces.{lists_of}
use Rattle.p10_macros.proofs.run.begin_call.Goals as goal
use Rattle.p10_macros.proofs.run.begin_call.Goals.{else-params-eq0-via-then-params-eq0+else-exits-count, else-params-eq0-via-else-params-eq0}

pub returns-then-exits-run-clause-err : goal.returns-then-exits-run-clause-err
returns-then-exits-run-clause-err c = λ table state at.
    subst (λ (f : ReplaceFault). FaultComes table state f) (sym c.refused.ensures)
    (call_open table c.args.run.now (plain_known c.args.known.now) c.args.params c.args.name state at c.args.exits c.requires c.if-exits-run.true)

pub returns-then-exits-count-clause-ok : goal.returns-then-exits-count-clause-ok
returns-then-exits-count-clause-ok c =
    on_ok_so c.replace_use.result c.replace_use.ensures.ok (λ replaced. λ table state at.
    call_none table c.args.run.now (plain_known c.args.known.now) c.args.params c.args.name state at c.args.exits c.requires (omega (arith, c.if-exits-run.false)) c.if-params-eq0.true
    (c.if-exits-count.true ∙ c.count.ensures) c.skip.new.self c.skip.ensures.taken c.replace_use.new.run
    (subst (λ (l : List (Vec Traced Global)). IsReplacedIn (record c.args.run.now { pending = c.skip.new.self }) c.replace_use.new.run (plain_known c.args.known.now) c.args.name (lists_of l)) c.new.ensures.items replaced))

pub returns-then-exits-count-clause-err : goal.returns-then-exits-count-clause-err
returns-then-exits-count-clause-err c =
    if_err_so c.replace_use.result c.replace_use.ensures.err (λ f short. λ table state at.
    call_none_too_long table c.args.run.now (plain_known c.args.known.now) c.args.params c.args.name state at c.args.exits c.requires (omega (arith, c.if-exits-run.false)) c.if-params-eq0.true
    (c.if-exits-count.true ∙ c.count.ensures) c.skip.new.self c.skip.ensures.taken f
    (subst (λ (l : List (Vec Traced Global)). IsTooLong (record c.args.run.now { pending = c.skip.new.self }) (plain_known c.args.known.now) c.args.name (lists_of l) f) c.new.ensures.items short))

pub returns-then-params-arguments-clause-ok : goal.returns-then-params-arguments-clause-ok
returns-then-params-arguments-clause-ok c =
    on_ok_so c.open_use.result c.open_use.ensures.ok (λ opened. λ table state at.
    call_right table c.args.run.now c.open_use.new.run c.args.known c.args.params c.args.name state at c.args.exits c.requires (omega (arith, c.if-exits-run.false))
    (c.if-params-arguments.true ∙ c.arguments.ensures) opened)

pub returns-else-params-arguments-clause-err : goal.returns-else-params-arguments-clause-err
returns-else-params-arguments-clause-err c = λ table state at.
    subst (λ (f : ReplaceFault). FaultComes table state f) (sym c.refused-else-params-arguments.ensures)
    (call_wrong table c.args.run.now (plain_known c.args.known.now) c.args.params c.args.name state at c.args.exits c.requires (omega (arith, c.if-exits-run.false))
    (λ same. c.if-params-arguments.false (same ∙ sym c.arguments.ensures))
    (λ none same. elim c.else-params-eq0.branch [
      | else-params-eq0-via-then-params-eq0+else-exits-count w ↦ w.if-exits-count.false (same ∙ sym w.count.ensures)
      | else-params-eq0-via-else-params-eq0 w ↦ w.if-params-eq0.false none
    ]))
