-- A byte is taken, or the input has ended.
use Rattle.std.proofs.Common.{◌++◌, ◌∙◌, ap, refl, negsuc}
use Rattle.p10_meaning.specs.declared.pointers.Scalar.TheVariants.{Int}
use Rattle.p10_meaning.specs.Pointers.{holding}
use Rattle.p10_meaning.specs.Values.{holds, next_byte}
use Rattle.p10_code.specs.Machine.{on, put, turned}
use Rattle.p10_machine.specs.Turns.{given_to}
use Rattle.p10_machine.specs.Views.{config_of}
use Rattle.p10_machine.proofs.Doing.{done_as, done_as_if, done_if}
use Rattle.p10_machine.proofs.Served.{byte_got, input_ended}
use Rattle.p10_machine.proofs.library.get_byte.Goals as goal

pub returns-in-Some : goal.returns-in-Some
returns-in-Some c =
    done_if c.args.ended c.put.result c.put.new.self _
    (done_as c.put.result c.put.new.self (λ io. on (put c.args.k (holds (holding c.byte_value.result)) (record (config_of c.args.s c.args.m.now io) { state = record (config_of c.args.s c.args.m.now io).state { input = c.next.new.self ++ io.rest } }))) (λ io. turned (next_byte (config_of c.args.s c.args.m.now io).state.input (config_of c.args.s c.args.m.now io).state) (given_to c.args.k (config_of c.args.s c.args.m.now io)))
    (λ io. ap (λ x. on (put c.args.k (holds (holding x)) (record (config_of c.args.s c.args.m.now io) { state = record (config_of c.args.s c.args.m.now io).state { input = c.next.new.self ++ io.rest } }))) c.byte_value.ensures ∙ byte_got c.args.k c.in-Some.byte c.args.m.now.outside.pending c.next.new.self io.rest (config_of c.args.s c.args.m.now io) c.in-Some.ensures refl) c.put.ensures)

pub returns-in-None : goal.returns-in-None
returns-in-None c =
    done_as_if c.args.ended c.put-in-None.result c.put-in-None.new.self (λ io. on (put c.args.k (holds (holding (Int (negsuc 0)))) (record (config_of c.args.s c.args.m.now io) { state = record (config_of c.args.s c.args.m.now io).state { input = c.next.new.self ++ io.rest } }))) (λ io. turned (next_byte (config_of c.args.s c.args.m.now io).state.input (config_of c.args.s c.args.m.now io).state) (given_to c.args.k (config_of c.args.s c.args.m.now io)))
    (λ io left. input_ended c.args.k c.args.m.now.outside.pending c.next.new.self io c.args.ended (config_of c.args.s c.args.m.now io) c.in-None.ensures.0 c.in-None.ensures.1 c.requires.served left refl) (done_if c.args.ended c.put-in-None.result c.put-in-None.new.self _ c.put-in-None.ensures)
