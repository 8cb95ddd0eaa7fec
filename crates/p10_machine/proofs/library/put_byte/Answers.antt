-- The byte waits after the others.
use Rattle.std.proofs.Common.{◌++◌, ◌∙◌, ap, refl}
use Rattle.p10_int.specs.Conversion.{residue}
use Rattle.p10_meaning.specs.Pointers.{holding}
use Rattle.p10_meaning.specs.Scalars.{number_of}
use Rattle.p10_meaning.specs.Values.{holds, put_byte}
use Rattle.p10_code.specs.Machine.{on, put, turned}
use Rattle.p10_machine.specs.Turns.{given_to}
use Rattle.p10_machine.specs.Views.{config_of}
use Rattle.p10_machine.proofs.Doing.{done_as}
use Rattle.p10_machine.proofs.Served.{byte_put}
use Rattle.p10_machine.proofs.library.put_byte.Goals as goal

pub returns-in-Ok : goal.returns-in-Ok
returns-in-Ok c =
    done_as c.put.result c.put.new.self (λ io. on (put c.args.k (holds (holding c.byte_value.result)) (record (config_of c.args.s c.args.m.now io) { state = record (config_of c.args.s c.args.m.now io).state { output = io.out ++ c.push.new.self.items } }))) (λ io. turned (put_byte (residue (number_of c.args.x) 256) (config_of c.args.s c.args.m.now io).state) (given_to c.args.k (config_of c.args.s c.args.m.now io)))
    (λ io. ap (λ x. on (put c.args.k (holds (holding x)) (record (config_of c.args.s c.args.m.now io) { state = record (config_of c.args.s c.args.m.now io).state { output = io.out ++ c.push.new.self.items } }))) c.byte_value.ensures ∙ (byte_put c.args.k c.byte_of-byte.result io.out c.args.m.now.outside.waiting.items c.push.new.self.items (config_of c.args.s c.args.m.now io) c.in-Ok.ensures.items refl ∙ ap (λ b. turned (put_byte b (config_of c.args.s c.args.m.now io).state) (given_to c.args.k (config_of c.args.s c.args.m.now io))) c.byte_of-byte.ensures)) c.put.ensures
