-- The arguments that are left to be taken are those before the ones that were.
use Rattle.std.proofs.Common.{◌≡◌, ◌-◌, []}
use Rattle.p10_interp.specs.private.Operations.{taken_before}
use Rattle.p10_interp.proofs.arguments.take_arguments.Given as goal

abbrev pub invariant-loop : goal.invariant-loop
invariant-loop l = taken_before l.count [] l.fn.operands ≡ taken_before (l.count - l.counter) l.arguments l.operands
