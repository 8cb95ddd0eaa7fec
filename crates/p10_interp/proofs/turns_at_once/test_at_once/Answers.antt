-- The statement is a loop, whose parts are these.
use Rattle.std.proofs.Common.{refl, sym, ap, option_map}
use Rattle.p10_core.specs.Views.{plain_program, plain_value, plain_statement, plain_statements}
use Rattle.p10_interp.specs.private.Tasks.{test_loop, end_turn}
use Rattle.p10_interp.specs.private.Views.{in_loop}
use Rattle.p10_interp.proofs.Turned.{looped}
use Rattle.p10_interp.proofs.TurnedAtOnce.{test_does}
use Rattle.p10_interp.proofs.turns_at_once.test_at_once.Goals as goal

pub returns-in-Loop-clause-ok : goal.returns-in-Loop-clause-ok
returns-in-Loop-clause-ok c =
    test_does (plain_program c.args.p.now) (in_loop (λ keyword l. test_loop l) (plain_statement c.args.statement.now)) (in_loop (λ keyword l. test_loop l) (plain_statement c.args.statement.now)) (in_loop (λ keyword l. end_turn l) (plain_statement c.args.statement.now)) (option_map plain_value c.in-Loop.tested) (plain_statements c.as_slice.result.now) (plain_statement c.deref.result.now) _ c.args.stacks.now c.test_by_number.new.stacks c.args.outside.now c.test_by_number.new.outside c.test_by_number.result
    refl (sym (ap plain_statements c.as_slice.ensures)) (sym (ap plain_statement c.deref.ensures)) (looped (λ keyword l. test_loop l) c.args.statement.now.at c.args.statement.now.form _ _ _ _ _ c.in-Loop.is) (looped (λ keyword l. end_turn l) c.args.statement.now.at c.args.statement.now.form _ _ _ _ _ c.in-Loop.is) (looped (λ keyword l. test_loop l) c.args.statement.now.at c.args.statement.now.form _ _ _ _ _ c.in-Loop.is) c.test_by_number.ensures.ok
