-- A turn after the other, up to where one stops.
use Rattle.std.proofs.Common.{◌∷◌, sym, subst, arith}
use Rattle.p10_core.specs.Views.{plain_program, plain_value, plain_statements}
use Rattle.p10_interp.specs.private.Tasks.{test_loop}
use Rattle.p10_interp.specs.private.OpenCalls.{calls_in}
use Rattle.p10_interp.specs.private.Machines.{state_of}
use Rattle.p10_interp.specs.private.Executing.{with_held}
use Rattle.p10_interp.specs.private.Turning.{AreTaken}
use Rattle.p10_interp.proofs.TakenTurns.{turn_starts, body_taken, body_left, third_taken, third_left, turned_again, turns_ended}
use Rattle.p10_interp.proofs.turns_at_once.take_turns.Goals as goal

pub loop-tested-init : goal.loop-tested-init
loop-tested-init c = λ at io f around l is third body e. turn_starts (plain_program c.args.p.now) l f around (calls_in c.args.calls.now) (state_of c.args.outside.now io) e

pub returns-then-not-is_nothing : goal.returns-then-not-is_nothing
returns-then-not-is_nothing c = λ at io f around l is third body e.
    let h = c.loop-tested.invariant at io f around l is third body e in
    let row = c.execute_row-rest.ensures io (with_held f h.held) around h.now in
    let taken = body_taken (plain_program c.args.p.now) l f around at (plain_statements c.args.parts.2.now) (plain_statements c.execute_row-rest.result.now) (calls_in c.loop-tested.calls) (calls_in c.execute_row-rest.new.calls) (state_of c.args.outside.now io) (state_of c.loop-tested.outside io) (state_of c.execute_row-rest.new.outside io) body h row in
    taken

pub returns-then-not-is_nothing-2 : goal.returns-then-not-is_nothing-2
returns-then-not-is_nothing-2 c = λ at io f around l is third body e.
    let h = c.loop-tested.invariant at io f around l is third body e in
    let row = c.execute_row-rest.ensures io (with_held f h.held) around h.now in
    let taken = body_taken (plain_program c.args.p.now) l f around at (plain_statements c.args.parts.2.now) (plain_statements c.execute_row-rest.result.now) (calls_in c.loop-tested.calls) (calls_in c.execute_row-rest.new.calls) (state_of c.args.outside.now io) (state_of c.loop-tested.outside io) (state_of c.execute_row-rest.new.outside io) body h row in
    let ended = body_left (plain_program c.args.p.now) l f around (plain_statements c.execute_row-rest.result.now) (calls_in c.execute_row-rest.new.calls) (state_of c.args.outside.now io) (state_of c.execute_row-rest.new.outside io) (c.is_nothing.ensures c.if-not-is_nothing.false) taken in
    let next = c.execute_row-rest-in-loop-tested.ensures io (with_held f ended.held) around ended.now in
    let after = third_taken (plain_program c.args.p.now) l f around (plain_statements c.args.parts.1.now) (plain_statements c.execute_row-rest-in-loop-tested.result.now) (calls_in c.execute_row-rest.new.calls) (calls_in c.execute_row-rest-in-loop-tested.new.calls) (state_of c.args.outside.now io) (state_of c.execute_row-rest.new.outside io) (state_of c.execute_row-rest-in-loop-tested.new.outside io) third ended next in
    after

pub returns-then-before-outside : goal.returns-then-before-outside
returns-then-before-outside c = λ at io f around l is third body e.
    let h = c.loop-tested.invariant at io f around l is third body e in
    let row = c.execute_row-rest.ensures io (with_held f h.held) around h.now in
    let taken = body_taken (plain_program c.args.p.now) l f around at (plain_statements c.args.parts.2.now) (plain_statements c.execute_row-rest.result.now) (calls_in c.loop-tested.calls) (calls_in c.execute_row-rest.new.calls) (state_of c.args.outside.now io) (state_of c.loop-tested.outside io) (state_of c.execute_row-rest.new.outside io) body h row in
    let ended = body_left (plain_program c.args.p.now) l f around (plain_statements c.execute_row-rest.result.now) (calls_in c.execute_row-rest.new.calls) (state_of c.args.outside.now io) (state_of c.execute_row-rest.new.outside io) (c.is_nothing.ensures c.if-not-is_nothing.false) taken in
    let next = c.execute_row-rest-in-loop-tested.ensures io (with_held f ended.held) around ended.now in
    let after = third_taken (plain_program c.args.p.now) l f around (plain_statements c.args.parts.1.now) (plain_statements c.execute_row-rest-in-loop-tested.result.now) (calls_in c.execute_row-rest.new.calls) (calls_in c.execute_row-rest-in-loop-tested.new.calls) (state_of c.args.outside.now io) (state_of c.execute_row-rest.new.outside io) (state_of c.execute_row-rest-in-loop-tested.new.outside io) third ended next in
    let now = third_left (plain_program c.args.p.now) l f around (plain_statements c.execute_row-rest-in-loop-tested.result.now) (calls_in c.execute_row-rest-in-loop-tested.new.calls) (state_of c.args.outside.now io) (state_of c.execute_row-rest-in-loop-tested.new.outside io) (c.is_nothing-in-loop-tested.ensures c.if-not-is_nothing-2.false) after in
    now

pub loop-tested-smaller : goal.loop-tested-smaller
loop-tested-smaller c = omega (arith, c.if-before-outside.false, c.in-Some-true.ensures.fewer)

pub loop-tested-preserved : goal.loop-tested-preserved
loop-tested-preserved c = λ at io f around l is third body e.
    let h = c.loop-tested.invariant at io f around l is third body e in
    let row = c.execute_row-rest.ensures io (with_held f h.held) around h.now in
    let taken = body_taken (plain_program c.args.p.now) l f around at (plain_statements c.args.parts.2.now) (plain_statements c.execute_row-rest.result.now) (calls_in c.loop-tested.calls) (calls_in c.execute_row-rest.new.calls) (state_of c.args.outside.now io) (state_of c.loop-tested.outside io) (state_of c.execute_row-rest.new.outside io) body h row in
    let ended = body_left (plain_program c.args.p.now) l f around (plain_statements c.execute_row-rest.result.now) (calls_in c.execute_row-rest.new.calls) (state_of c.args.outside.now io) (state_of c.execute_row-rest.new.outside io) (c.is_nothing.ensures c.if-not-is_nothing.false) taken in
    let next = c.execute_row-rest-in-loop-tested.ensures io (with_held f ended.held) around ended.now in
    let after = third_taken (plain_program c.args.p.now) l f around (plain_statements c.args.parts.1.now) (plain_statements c.execute_row-rest-in-loop-tested.result.now) (calls_in c.execute_row-rest.new.calls) (calls_in c.execute_row-rest-in-loop-tested.new.calls) (state_of c.args.outside.now io) (state_of c.execute_row-rest.new.outside io) (state_of c.execute_row-rest-in-loop-tested.new.outside io) third ended next in
    let now = third_left (plain_program c.args.p.now) l f around (plain_statements c.execute_row-rest-in-loop-tested.result.now) (calls_in c.execute_row-rest-in-loop-tested.new.calls) (state_of c.args.outside.now io) (state_of c.execute_row-rest-in-loop-tested.new.outside io) (c.is_nothing-in-loop-tested.ensures c.if-not-is_nothing-2.false) after in
    turned_again (plain_program c.args.p.now) l f around (plain_value c.args.parts.0.now) c.in-Some-true.field-0 (calls_in c.execute_row-rest-in-loop-tested.new.calls) (state_of c.args.outside.now io) (state_of c.execute_row-rest-in-loop-tested.new.outside io) (state_of c.is_tested.new.outside io) is c.in-Some-true.field-0-test now (c.in-Some-true.ensures.found io (with_held f now.held) around now.now)

pub returns-in-Some-false : goal.returns-in-Some-false
returns-in-Some-false c = λ at io f around l is third body e.
    let h = c.loop-tested.invariant at io f around l is third body e in
    let row = c.execute_row-rest.ensures io (with_held f h.held) around h.now in
    let taken = body_taken (plain_program c.args.p.now) l f around at (plain_statements c.args.parts.2.now) (plain_statements c.execute_row-rest.result.now) (calls_in c.loop-tested.calls) (calls_in c.execute_row-rest.new.calls) (state_of c.args.outside.now io) (state_of c.loop-tested.outside io) (state_of c.execute_row-rest.new.outside io) body h row in
    let ended = body_left (plain_program c.args.p.now) l f around (plain_statements c.execute_row-rest.result.now) (calls_in c.execute_row-rest.new.calls) (state_of c.args.outside.now io) (state_of c.execute_row-rest.new.outside io) (c.is_nothing.ensures c.if-not-is_nothing.false) taken in
    let next = c.execute_row-rest-in-loop-tested.ensures io (with_held f ended.held) around ended.now in
    let after = third_taken (plain_program c.args.p.now) l f around (plain_statements c.args.parts.1.now) (plain_statements c.execute_row-rest-in-loop-tested.result.now) (calls_in c.execute_row-rest.new.calls) (calls_in c.execute_row-rest-in-loop-tested.new.calls) (state_of c.args.outside.now io) (state_of c.execute_row-rest.new.outside io) (state_of c.execute_row-rest-in-loop-tested.new.outside io) third ended next in
    let now = third_left (plain_program c.args.p.now) l f around (plain_statements c.execute_row-rest-in-loop-tested.result.now) (calls_in c.execute_row-rest-in-loop-tested.new.calls) (state_of c.args.outside.now io) (state_of c.execute_row-rest-in-loop-tested.new.outside io) (c.is_nothing-in-loop-tested.ensures c.if-not-is_nothing-2.false) after in
    turns_ended (plain_program c.args.p.now) l f around (plain_value c.args.parts.0.now) c.in-Some-false.field-0 (calls_in c.execute_row-rest-in-loop-tested.new.calls) (state_of c.args.outside.now io) (state_of c.execute_row-rest-in-loop-tested.new.outside io) (state_of c.is_tested.new.outside io) is c.in-Some-false.field-0-test now (c.in-Some-false.ensures.found io (with_held f now.held) around now.now)

pub returns-in-None : goal.returns-in-None
returns-in-None c = λ at io f around l is third body e.
    let h = c.loop-tested.invariant at io f around l is third body e in
    let row = c.execute_row-rest.ensures io (with_held f h.held) around h.now in
    let taken = body_taken (plain_program c.args.p.now) l f around at (plain_statements c.args.parts.2.now) (plain_statements c.execute_row-rest.result.now) (calls_in c.loop-tested.calls) (calls_in c.execute_row-rest.new.calls) (state_of c.args.outside.now io) (state_of c.loop-tested.outside io) (state_of c.execute_row-rest.new.outside io) body h row in
    let ended = body_left (plain_program c.args.p.now) l f around (plain_statements c.execute_row-rest.result.now) (calls_in c.execute_row-rest.new.calls) (state_of c.args.outside.now io) (state_of c.execute_row-rest.new.outside io) (c.is_nothing.ensures c.if-not-is_nothing.false) taken in
    let next = c.execute_row-rest-in-loop-tested.ensures io (with_held f ended.held) around ended.now in
    let after = third_taken (plain_program c.args.p.now) l f around (plain_statements c.args.parts.1.now) (plain_statements c.execute_row-rest-in-loop-tested.result.now) (calls_in c.execute_row-rest.new.calls) (calls_in c.execute_row-rest-in-loop-tested.new.calls) (state_of c.args.outside.now io) (state_of c.execute_row-rest.new.outside io) (state_of c.execute_row-rest-in-loop-tested.new.outside io) third ended next in
    let now = third_left (plain_program c.args.p.now) l f around (plain_statements c.execute_row-rest-in-loop-tested.result.now) (calls_in c.execute_row-rest-in-loop-tested.new.calls) (state_of c.args.outside.now io) (state_of c.execute_row-rest-in-loop-tested.new.outside io) (c.is_nothing-in-loop-tested.ensures c.if-not-is_nothing-2.false) after in
    subst (λ o. AreTaken (plain_program c.args.p.now) l (λ k. test_loop l ∷ k) (λ f. f) f around (state_of c.args.outside.now io) (calls_in c.execute_row-rest-in-loop-tested.new.calls) (state_of o io)) (sym (c.is_tested.ensures.unfound c.in-None.is)) now
