-- What the request gives is put in the slot.
use Rattle.std.proofs.Common.{◌∙◌}
use Rattle.p10_core.specs.Types.{plain_type}
use Rattle.p10_core.specs.Views.{plain_program}
use Rattle.p10_meaning.specs.Pointers.{holding}
use Rattle.p10_meaning.specs.States.{counted}
use Rattle.p10_meaning.specs.Values.{holds, pointee, requested}
use Rattle.p10_code.specs.Machine.{on, put, with_state, turned}
use Rattle.p10_machine.specs.Releasing.{cells_by}
use Rattle.p10_machine.specs.Turns.{given_to}
use Rattle.p10_machine.specs.Views.{config_of, state_of}
use Rattle.p10_machine.proofs.Doing.{done_as}
use Rattle.p10_machine.proofs.Served.{memory_given}
use Rattle.p10_machine.proofs.library.give_memory.Goals as goal

pub returns : goal.returns
returns c =
    done_as c.put.result c.put.new.self (λ io. on (put c.args.k (holds (holding c.in_ok-x.x)) (with_state (state_of c.args.s.left c.allocate.new.outside io) (config_of c.args.s c.args.m.now io))))
    (λ io. turned (requested (plain_program c.args.p.now) (pointee (plain_type c.args.wanted.0.now)) c.args.wanted.1 (cells_by c.args.wanted.2) (counted (config_of c.args.s c.args.m.now io).state)) (given_to c.args.k (config_of c.args.s c.args.m.now io)))
    (λ io. memory_given c.args.k _ c.in_ok-x.x (state_of c.args.s.left c.allocate.new.outside io) (config_of c.args.s c.args.m.now io) (c.in_ok-x.ensures c.args.s.left io)) c.put.ensures
