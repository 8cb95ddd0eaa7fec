-- A step, the operator, and a write.
use Rattle.std.proofs.Common.{◌∙◌, sym, ap}
use Rattle.p10_core.specs.Types.{plain_type}
use Rattle.p10_interp.specs.private.Operations.{first_value, first_target, below}
use Rattle.p10_interp.specs.private.OpenCalls.{calls_in}
use Rattle.p10_interp.specs.private.Views.{target_of}
use Rattle.p10_interp.specs.private.Machines.{state_of}
use Rattle.p10_interp.proofs.Assigned.{new_written}
use Rattle.p10_interp.proofs.assignments.write_new.Goals as goal

pub returns-clause-done : goal.returns-clause-done
returns-clause-done c = λ p io f calls e.
    new_written p c.args.applied.op c.args.applied.span (plain_type c.args.applied.t.now) c.args.span (plain_type c.args.t.now) c.args.stacks.now.operands c.pop_target.new.self f calls (calls_in c.write_target.new.calls) (state_of c.args.outside.now io) (state_of c.write_target.new.outside io)
    c.in-Some-pop_value.x c.in-Some.y c.in_ok-value.value c.in_ok-value-2.value (target_of c.in-Some-pop_target.target) c.write_target.result c.if-outside-eq0.false
    (sym c.in-Some.ensures.found) (ap first_value (sym c.in-Some.ensures.rest) ∙ sym c.in-Some-pop_value.ensures.found)
    (ap first_target (sym (c.in-Some-pop_value.ensures.rest ∙ ap below c.in-Some.ensures.rest)) ∙ sym c.in-Some-pop_target.ensures.found)
    (c.in-Some-pop_target.ensures.rest ∙ ap below (c.in-Some-pop_value.ensures.rest ∙ ap below c.in-Some.ensures.rest))
    c.in_ok-value.ensures c.in_ok-value-2.ensures.value (c.write_target.ensures io _ f calls e)
