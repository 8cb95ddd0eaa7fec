-- A frame variable holds nothing, and any other is a new object.
use Rattle.p10_core.specs.Views.{plain_program, plain_variable}
use Rattle.p10_interp.specs.private.Machines.{state_of}
use Rattle.p10_interp.proofs.Declared.{declared_held, declared_object}
use Rattle.p10_interp.proofs.declaring.open_variable.Goals as goal

pub returns-then-variable : goal.returns-then-variable
returns-then-variable c = λ io f around e. record { call = _; here = c.set_held.ensures f around e; same = λ span i k operands. declared_held (plain_program c.args.p.now) span c.args.number (plain_variable c.args.variable.now) i k operands f around (state_of c.args.outside.now io) c.if-variable.true }

pub returns : goal.returns
returns c = λ io f around e. record {
  call = _;
  here = c.in_ok-stand.ensures.ok f around e;
  same = λ span i k operands. declared_object (plain_program c.args.p.now) span c.args.number (plain_variable c.args.variable.now) i k operands f around (state_of c.args.outside.now io) _ _ _ _ c.if-variable.false c.opened-object.ensures (c.in_ok-scalars.ensures io).1 c.single.ensures (c.in_ok-scalars.ensures io).0;
}
