-- The object is new, and so it is the one that is written.
use Rattle.std.proofs.Common.{refl}
use Rattle.p10_interp.specs.private.Machines.{state_of}
use Rattle.p10_interp.proofs.EnteredCalls.{argument_opened}
use Rattle.p10_interp.proofs.entering.open_argument.Goals as goal

pub returns-in_ok-write_argument-in-Ok-clause-ok : goal.returns-in_ok-write_argument-in-Ok-clause-ok
returns-in_ok-write_argument-in-Ok-clause-ok c = λ io.
    argument_opened c.args.x c.opened-object.result c.args.outside.now.store c.open.new.self c.write_argument.new.store (state_of c.args.outside.now io) _ c.in-Ok.ensures.ok c.next_is_new.ensures c.opened-object.ensures
    c.in_ok-write_argument-in-Ok.ensures.ok.0 c.in_ok-write_argument-in-Ok.ensures.ok.1 refl refl refl
