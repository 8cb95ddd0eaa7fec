-- One statement after the other.
use Rattle.p10_core.specs.Views.{plain_program, plain_statements, plain_statement_form}
use Rattle.p10_interp.specs.private.OpenCalls.{calls_in}
use Rattle.p10_interp.specs.private.Machines.{state_of}
use Rattle.p10_interp.specs.private.Executing.{with_held}
use Rattle.p10_interp.proofs.TakenTurns.{row_starts, row_stops, row_more}
use Rattle.p10_interp.proofs.turns_at_once.execute_row.Goals as goal

pub loop-left-init : goal.loop-left-init
loop-left-init c = λ io f around e. row_starts (plain_program c.args.p.now) (plain_statements c.args.statements.now) f around (calls_in c.args.calls.now) (state_of c.args.outside.now io) e

pub loop-left-preserved : goal.loop-left-preserved
loop-left-preserved c = λ io f around e.
    let row = c.loop-left.invariant io f around e in
    row_more (plain_program c.args.p.now) (plain_statements c.args.statements.now) c.loop-left.left.now c.first-item.result c.execute_at_once.result f around (calls_in c.loop-left.calls) (calls_in c.execute_at_once.new.calls) (state_of c.args.outside.now io) (state_of c.loop-left.outside io) (state_of c.execute_at_once.new.outside io) c.in-len1-up.len_at_least c.first-item.is c.if-not-execute_at_once.false
    (c.execute_at_once.ensures.fewer c.if-not-execute_at_once.false) row (c.execute_at_once.ensures.done io (with_held f row.held) around row.now)

pub returns-then-not-execute_at_once : goal.returns-then-not-execute_at_once
returns-then-not-execute_at_once c = λ io f around e.
    let row = c.loop-left.invariant io f around e in
    row_stops (plain_program c.args.p.now) (plain_statements c.args.statements.now) (plain_statements c.loop-left.left.now) (plain_statement_form c.first-item.result.form) c.execute_at_once.result f around (calls_in c.loop-left.calls) (calls_in c.execute_at_once.new.calls) (state_of c.args.outside.now io) (state_of c.loop-left.outside io) (state_of c.execute_at_once.new.outside io)
    c.if-not-execute_at_once.true row (c.execute_at_once.ensures.done io (with_held f row.held) around row.now)
