-- The frame is that of the meaning.
use Rattle.p10_interp.specs.private.OpenCalls.{calls_in, calls_deep}
use Rattle.p10_interp.specs.private.Machines.{state_of}
use Rattle.p10_interp.proofs.EnteredCalls.{frame_opened}
use Rattle.p10_interp.proofs.entering.open_frame.Goals as goal

pub returns-clause-ok : goal.returns-clause-ok
returns-clause-ok c =
    frame_opened c.own_between.result c.args.function.now c.args.arguments.now (calls_in c.args.calls.now) (calls_in c.open.new.self) (calls_in c.hold_variables.new.calls) (calls_in c.own_between.new.calls)
    (state_of c.args.outside.now) (state_of c.raise.new.outside) (state_of c.hold_variables.new.outside) (calls_deep c.depth.result) (calls_deep c.in-Some.depth) c.hold_variables.new.arguments c.opened-first.result c.opened.result c.as_slice.result.now
    c.as_slice.ensures c.depth.ensures c.in-Some.ensures c.raise.ensures c.in_ok-open.ensures.ok c.in_ok-hold_variables.ensures.ok (λ io. c.opened-first.ensures) (λ io. c.opened.ensures) c.own_between.ensures.ok
