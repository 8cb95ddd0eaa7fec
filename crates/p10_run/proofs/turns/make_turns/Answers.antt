-- A turn more was made, or was given up.
use Rattle.std.proofs.Common.{◌<◌, arith, sym, ◌∙◌}
use Rattle.p10_interp.specs.Machines.{resting_of}
use Rattle.p10_run.proofs.Calls.{turn_stands, turn_gives_up}
use Rattle.p10_run.proofs.turns.make_turns.Goals as goal

pub turns-preserved : goal.turns-preserved
turns-preserved g c = (
  omega (arith, c.turns.invariant.0, c.in-Ok.ensures.source),
  omega (arith, c.turns.invariant.1, c.in-Ok.ensures.sink),
  λ p sensors left taken stood.
      turn_stands p c.args.budget.now sensors left (g.I.Source.left c.turns.input) (g.I.Source.left c.turn.new.input) taken (g.O.Sink.taken c.turns.out) (g.O.Sink.taken c.turn.new.out) c.turns.answer (resting_of c.turns.machine)
      (c.turns.invariant.2 p sensors left taken stood) (sym c.at_loop.ensures ∙ c.turns-test.true) (let few : (resting_of c.turns.machine).turns < c.args.budget.now.turns = omega (arith, c.turns-in-turns.ensures, c.if-turns-budget.true) in few)
      c.in-Ok.next (resting_of c.turn.new.self) c.in-Ok.ensures.made c.in-Ok.ensures.program c.in-Ok.ensures.ended,
)

pub returns-in-Err-clause-given_up : goal.returns-in-Err-clause-given_up
returns-in-Err-clause-given_up g c = λ p sensors left taken stood.
    turn_gives_up p c.args.budget.now sensors left (g.I.Source.left c.turns.input) (g.I.Source.left c.turn.new.input) taken (g.O.Sink.taken c.turns.out) (g.O.Sink.taken c.turn.new.out) c.turns.answer (resting_of c.turns.machine)
    (c.turns.invariant.2 p sensors left taken stood) (sym c.at_loop.ensures ∙ c.turns-test.true) (let few : (resting_of c.turns.machine).turns < c.args.budget.now.turns = omega (arith, c.turns-in-turns.ensures, c.if-turns-budget.true) in few)
    c.in-Err.ensures.given_up
