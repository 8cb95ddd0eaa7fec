-- Each operation is done by its own function.
use Rattle.std.proofs.Common.{◌∷◌}
use Rattle.p10_core.specs.Views.{plain_program}
use Rattle.p10_interp.specs.private.Machines.{state_of}
use Rattle.p10_interp.proofs.Operated.{done_kept}
use Rattle.p10_interp.proofs.operate.operate_on.Goals as goal

pub returns-in-UseValue-clause-done : goal.returns-in-UseValue-clause-done
returns-in-UseValue-clause-done c = λ io f calls e. done_kept (plain_program c.args.p.now) _ _ _ _ _ _ _ _ _ c.in-UseValue.is e (c.use_value.ensures (plain_program c.args.p.now) (f ∷ calls) (state_of c.args.outside.now io))

pub returns-in-DropValue-clause-done : goal.returns-in-DropValue-clause-done
returns-in-DropValue-clause-done c = λ io f calls e. done_kept (plain_program c.args.p.now) _ _ _ _ _ _ _ _ _ c.in-DropValue.is e (c.drop_value.ensures (plain_program c.args.p.now) (f ∷ calls) (state_of c.args.outside.now io))

pub returns-in-GiveNone-clause-done : goal.returns-in-GiveNone-clause-done
returns-in-GiveNone-clause-done c = λ io f calls e. done_kept (plain_program c.args.p.now) _ _ _ _ _ _ _ _ _ c.in-GiveNone.is e (c.give_none.ensures (plain_program c.args.p.now) (f ∷ calls) (state_of c.args.outside.now io))

pub returns-in-ConvertTo-clause-done : goal.returns-in-ConvertTo-clause-done
returns-in-ConvertTo-clause-done c = λ io f calls e. done_kept (plain_program c.args.p.now) _ _ _ _ _ _ _ _ _ c.in-ConvertTo.is e (c.convert.ensures (plain_program c.args.p.now) (f ∷ calls) (state_of c.args.outside.now io))

pub returns-in-ApplyUnary-clause-done : goal.returns-in-ApplyUnary-clause-done
returns-in-ApplyUnary-clause-done c = λ io f calls e. done_kept (plain_program c.args.p.now) _ _ _ _ _ _ _ _ _ c.in-ApplyUnary.is e (c.apply_unary_to.ensures (plain_program c.args.p.now) (f ∷ calls) (state_of c.args.outside.now io))

pub returns-in-ApplyBinary-clause-done : goal.returns-in-ApplyBinary-clause-done
returns-in-ApplyBinary-clause-done c = λ io f calls e. done_kept (plain_program c.args.p.now) _ _ _ _ _ _ _ _ _ c.in-ApplyBinary.is e (c.apply_binary_to.ensures (plain_program c.args.p.now) io (f ∷ calls))

pub returns-in-TakeTruth-clause-done : goal.returns-in-TakeTruth-clause-done
returns-in-TakeTruth-clause-done c = λ io f calls e. done_kept (plain_program c.args.p.now) _ _ _ _ _ _ _ _ _ c.in-TakeTruth.is e (c.take_truth.ensures (plain_program c.args.p.now) (f ∷ calls) (state_of c.args.outside.now io))

pub returns-in-ReadNone-clause-done : goal.returns-in-ReadNone-clause-done
returns-in-ReadNone-clause-done c = λ io f calls e. done_kept (plain_program c.args.p.now) _ _ _ _ _ _ _ _ _ c.in-ReadNone.is e (c.read_none.ensures (plain_program c.args.p.now) (f ∷ calls) (state_of c.args.outside.now io))

pub returns-in-TakeAddress-clause-done : goal.returns-in-TakeAddress-clause-done
returns-in-TakeAddress-clause-done c = λ io f calls e. done_kept (plain_program c.args.p.now) _ _ _ _ _ _ _ _ _ c.in-TakeAddress.is e (c.take_address.ensures (plain_program c.args.p.now) (f ∷ calls) (state_of c.args.outside.now io))

pub returns-in-AssertAt-clause-done : goal.returns-in-AssertAt-clause-done
returns-in-AssertAt-clause-done c = λ io f calls e. done_kept (plain_program c.args.p.now) _ _ _ _ _ _ _ _ _ c.in-AssertAt.is e (c.assert_value.ensures (plain_program c.args.p.now) (f ∷ calls) (state_of c.args.outside.now io))
