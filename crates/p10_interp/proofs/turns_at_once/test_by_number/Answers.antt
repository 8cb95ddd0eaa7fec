-- The test came to a number.
use Rattle.std.proofs.Common.{ap, ◌∙◌, option_map}
use Rattle.p10_core.specs.Views.{plain_program, plain_value}
use Rattle.p10_interp.specs.private.Machines.{state_of}
use Rattle.p10_interp.proofs.TakenTurns.{loop_done, turn_done}
use Rattle.p10_interp.proofs.turns_at_once.test_by_number.Goals as goal

pub returns-in_ok-take_turn-in-Some-true-clause-ok : goal.returns-in_ok-take_turn-in-Some-true-clause-ok
returns-in_ok-take_turn-in-Some-true-clause-ok c = λ io f calls l tested third body tests ends e.
    let is = tested ∙ ap (option_map plain_value) c.in-Some.is in
    turn_done (plain_program c.args.p.now) l (plain_value c.in-Some.value) c.in-Some-true.field-0 c.args.stacks.now c.take_turn.new.stacks f calls (state_of c.args.outside.now io) (state_of c.is_tested.new.outside io) (state_of c.take_turn.new.outside io) e is (c.in-Some-true.ensures.found io f calls e) c.in-Some-true.field-0-test
    (c.in_ok-take_turn-in-Some-true.ensures.ok io f calls l is third body tests ends e)

pub returns-in-Some-false-clause-ok : goal.returns-in-Some-false-clause-ok
returns-in-Some-false-clause-ok c = λ io f calls l tested third body tests ends e.
    loop_done (plain_program c.args.p.now) l (plain_value c.in-Some.value) c.in-Some-false.field-0 c.args.stacks.now c.args.stacks.now f calls (state_of c.args.outside.now io) (state_of c.is_tested.new.outside io) (state_of c.is_tested.new.outside io) e (tested ∙ ap (option_map plain_value) c.in-Some.is) (c.in-Some-false.ensures.found io f calls e) c.in-Some-false.field-0-test
