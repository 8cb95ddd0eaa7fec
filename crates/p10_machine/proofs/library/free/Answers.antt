-- The object is dead, or the run stops.
use Rattle.std.proofs.Common.{◌∙◌, sym, ap, None}
use Rattle.p10_meaning.specs.Scalars.{pointer_of}
use Rattle.p10_meaning.specs.States.{Undefined, ends, counted}
use Rattle.p10_store.specs.Stores.{Held}
use Rattle.p10_code.specs.Machine.{on, off, put, cell_of, with_state, turned}
use Rattle.p10_machine.specs.Releasing.{released}
use Rattle.p10_machine.specs.Turns.{given_to}
use Rattle.p10_machine.specs.Views.{config_of, state_of}
use Rattle.p10_machine.proofs.Doing.{done_as, stopped_done}
use Rattle.p10_machine.proofs.Served.{release_counted, memory_freed, memory_not_freed}
use Rattle.p10_machine.proofs.library.free.Goals as goal

pub returns-in-Ok : goal.returns-in-Ok
returns-in-Ok c =
    done_as c.put_none.result c.put_none.new.self (λ io. on (put c.args.k (cell_of None) (with_state (record (state_of c.args.s.left c.count_call.new.outside io) { objects = c.release.new.self.objects; opened = c.release.new.self.opened }) (config_of c.args.s c.args.m.now io)))) (λ io. turned (released c.args.span (pointer_of c.args.x) (counted (config_of c.args.s c.args.m.now io).state)) (given_to c.args.k (config_of c.args.s c.args.m.now io)))
    (λ io. memory_freed c.args.k c.args.span c.pointer_of.result (pointer_of c.args.x) (state_of c.args.s.left c.count_call.new.outside io) (counted (config_of c.args.s c.args.m.now io).state) c.release.new.self (config_of c.args.s c.args.m.now io) (sym c.in-Ok.ensures.value) (release_counted c.pointer_of.result c.count_call.new.outside.store c.release.new.self c.in-Ok.ensures.effect) (c.in_ok-count_call.ensures c.args.s.left io) c.pointer_of.ensures) c.put_none.ensures

pub returns-in-Err : goal.returns-in-Err
returns-in-Err c = λ io.
    stopped_done c.stopped.result c.args.s.left c.in-Err.stop c.args.span (record c.args.m.now { outside = record c.count_call.new.outside { store = c.release.new.self } }) io (turned (released c.args.span (pointer_of c.args.x) (counted (config_of c.args.s c.args.m.now io).state)) (given_to c.args.k (config_of c.args.s c.args.m.now io))) c.stopped.ensures
    (ap (λ (v : Held). off (ends (Undefined c.in-Err.stop c.args.span) (state_of c.args.s.left (record c.count_call.new.outside { store = v }) io))) c.in-Err.ensures.effect ∙
    memory_not_freed c.args.k c.args.span c.pointer_of.result (pointer_of c.args.x) (state_of c.args.s.left c.count_call.new.outside io) (counted (config_of c.args.s c.args.m.now io).state) c.in-Err.stop (config_of c.args.s c.args.m.now io) (sym c.in-Err.ensures.value) (c.in_ok-count_call.ensures c.args.s.left io) c.pointer_of.ensures)
