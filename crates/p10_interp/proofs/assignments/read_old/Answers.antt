-- A step, and a read that stops or gives the old value.
use Rattle.std.proofs.Common.{◌∙◌, sym, ap, Err}
use Rattle.std.proofs.lemmas.Result.{err_from_is_err_and}
use Rattle.p10_core.specs.Types.{plain_type}
use Rattle.p10_interp.specs.private.OpenCalls.{calls_in}
use Rattle.p10_interp.specs.private.Views.{target_of}
use Rattle.p10_interp.specs.private.Machines.{state_of}
use Rattle.p10_interp.proofs.Assigned.{old_stops, old_read, old_put}
use Rattle.p10_interp.proofs.assignments.read_old.Goals as goal

pub returns-in_err-x-clause-done : goal.returns-in_err-x-clause-done
returns-in_err-x-clause-done c = λ p io f calls e.
    let s = err_from_is_err_and c.from_residual.result c.from_residual.ensures.1 in
    old_stops p c.args.span (plain_type c.args.t.now) (plain_type c.args.converted.now) c.args.stacks.now.operands f calls (state_of c.args.outside.now io) (state_of c.read_target.new.outside io) (target_of c.in-Some.target) c.from_residual.result _ _ c.if-outside-eq0.false (sym c.in-Some.ensures.found) (s.1 ∙ ap (λ y. Err y) s.2) (c.in_err-x.ensures io f calls e)

pub returns-clause-done : goal.returns-clause-done
returns-clause-done c = λ p io f calls e.
    old_read _ p c.args.span (plain_type c.args.t.now) (plain_type c.args.converted.now) c.args.stacks.now.operands c.pop_target.new.self c.push-2.new.self f calls (calls_in c.args.stacks.now.calls) (state_of c.args.outside.now io) (state_of c.read_target.new.outside io)
    (target_of c.in-Some.target) c.in_ok-x.x c.in_ok-old.old c.push-2.result c.if-outside-eq0.false (sym c.in-Some.ensures.found) (c.in_ok-x.ensures io f calls e) c.in_ok-old.ensures.value c.in-Some.ensures.rest e (old_put _ _ _ _ _ _ c.in_ok-push.ensures.ok c.push-2.ensures.ok) c.push-2.ensures.err
