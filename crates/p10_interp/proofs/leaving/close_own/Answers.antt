-- The object that was opened last is closed first.
use Rattle.p10_interp.specs.private.OpenCalls.{calls_in}
use Rattle.p10_meaning.specs.Objects.{find}
use Rattle.p10_interp.proofs.ClosedBlocks.{closing_starts, closing_more, closing_ends, ends_opened}
use Rattle.p10_interp.proofs.leaving.close_own.Goals as goal

pub loop-object-init : goal.loop-object-init
loop-object-init c = λ f around e. closing_starts f around (calls_in c.args.calls.now) c.args.store.now e

pub loop-object-preserved : goal.loop-object-preserved
loop-object-preserved c = λ f around e.
    closing_more f around (calls_in c.loop-object.calls) (calls_in c.take_own.new.self) c.args.store.now c.loop-object.store c.end.new.self c.in-Some.object (c.loop-object.invariant f around e) c.in-Some.ensures.taken c.end.ensures.objects
    (ends_opened c.in-Some.object (find c.in-Some.object c.loop-object.store.objects) c.loop-object.store c.end.new.self c.end.ensures.effect)

pub returns : goal.returns
returns c = λ f around e. closing_ends f around (calls_in c.loop-object.calls) (calls_in c.take_own.new.self) c.args.store.now c.loop-object.store (c.loop-object.invariant f around e) c.in_default.ensures.taken
