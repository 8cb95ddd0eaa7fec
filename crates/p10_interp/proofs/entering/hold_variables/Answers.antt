-- Each turn holds the next variable.
use Rattle.std.proofs.Common.{map}
use Rattle.p10_core.specs.Views.{plain_variable}
use Rattle.p10_meaning.specs.Calling.{entered}
use Rattle.p10_interp.specs.private.Standing.{held_of}
use Rattle.p10_interp.specs.private.OpenCalls.{calls_in}
use Rattle.p10_interp.specs.private.Machines.{state_of}
use Rattle.p10_interp.proofs.EnteredCalls.{holding_starts, variable_next, holding_ends}
use Rattle.p10_interp.proofs.entering.hold_variables.Goals as goal

pub loop-variable-init : goal.loop-variable-init
loop-variable-init c = λ io f around e. holding_starts _ f around (calls_in c.args.calls.now) e

pub loop-variable-preserved : goal.loop-variable-preserved
loop-variable-preserved c = λ io f around e.
    variable_next (entered (map plain_variable c.args.variables.now) c.args.arguments.now (state_of c.args.outside.now io)) c.args.variables.now c.loop-variable.variable-index c.variable-item.result c.loop-variable.arguments c.next_held.new.arguments (held_of c.in_ok-held.held) (state_of c.loop-variable.outside io) (state_of c.next_held.new.outside io) f around (calls_in c.loop-variable.calls) (calls_in c.hold.new.self)
    c.loop-variable-test.true c.variable-item.is (c.loop-variable.invariant io f around e) (c.in_ok-held.ensures.ok io) c.in_ok-hold.ensures.ok

pub returns-clause-ok : goal.returns-clause-ok
returns-clause-ok c = λ io f around e.
    holding_ends (entered (map plain_variable c.args.variables.now) c.args.arguments.now (state_of c.args.outside.now io)) c.args.variables.now c.loop-variable.variable-index c.loop-variable.arguments (state_of c.loop-variable.outside io) f around (calls_in c.loop-variable.calls)
    c.loop-variable-test.false (c.loop-variable.invariant io f around e)
