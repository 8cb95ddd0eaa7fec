-- Each function gives what it means.
use Rattle.std.proofs.Common.{◌∙◌, sym, ap}
use Rattle.p10_int.specs.Conversion.{residue}
use Rattle.p10_core.specs.Types.{plain_type}
use Rattle.p10_core.specs.Views.{plain_program}
use Rattle.p10_meaning.specs.Pointers.{holding}
use Rattle.p10_meaning.specs.Scalars.{number_of, pointer_of, is_true, truth_value, unset_cells, zero_cells}
use Rattle.p10_meaning.specs.States.{counted}
use Rattle.p10_meaning.specs.Values.{holds, asserted, next_byte, put_byte, pointee, requested, library}
use Rattle.p10_code.specs.Machine.{on, put, gathered, turned}
use Rattle.p10_machine.specs.Releasing.{released}
use Rattle.p10_machine.specs.Turns.{given_to}
use Rattle.p10_machine.specs.Views.{slot_of, config_of}
use Rattle.p10_machine.proofs.Doing.{done_as, done_as_if, done_if}
use Rattle.p10_machine.proofs.library.call_library.Goals as goal

pub returns-in-Assert : goal.returns-in-Assert
returns-in-Assert c =
    done_if c.args.code.ended c.assert_first.result c.assert_first.new.m _
    (done_as c.assert_first.result c.assert_first.new.m (λ io. turned (asserted c.args.called.1 c.first_argument-first.result (config_of c.args.s c.args.m.now io).state) (given_to c.args.k (config_of c.args.s c.args.m.now io))) (λ io. turned (library (plain_program c.args.code.program.now) c.args.called.0 c.args.called.1 (plain_type c.args.called.2.now) (gathered c.args.arguments.0 c.args.arguments.1 (slot_of c.args.m.now)) (config_of c.args.s c.args.m.now io).state) (given_to c.args.k (config_of c.args.s c.args.m.now io)))
    (λ io. ap (λ x. turned (asserted c.args.called.1 x (config_of c.args.s c.args.m.now io).state) (given_to c.args.k (config_of c.args.s c.args.m.now io))) c.first_argument-first.ensures ∙ ap (λ f. turned (library (plain_program c.args.code.program.now) f c.args.called.1 (plain_type c.args.called.2.now) (gathered c.args.arguments.0 c.args.arguments.1 (slot_of c.args.m.now)) (config_of c.args.s c.args.m.now io).state) (given_to c.args.k (config_of c.args.s c.args.m.now io))) (sym c.in-Assert.is)) c.assert_first.ensures)

pub returns-in-CAssert : goal.returns-in-CAssert
returns-in-CAssert c =
    done_if c.args.code.ended c.put.result c.put.new.self _
    (done_as c.put.result c.put.new.self (λ io. on (put c.args.k (holds (holding c.truth_value.result)) (config_of c.args.s c.args.m.now io))) (λ io. turned (library (plain_program c.args.code.program.now) c.args.called.0 c.args.called.1 (plain_type c.args.called.2.now) (gathered c.args.arguments.0 c.args.arguments.1 (slot_of c.args.m.now)) (config_of c.args.s c.args.m.now io).state) (given_to c.args.k (config_of c.args.s c.args.m.now io)))
    (λ io. ap (λ x. on (put c.args.k (holds (holding x)) (config_of c.args.s c.args.m.now io))) (c.truth_value.ensures ∙ ap truth_value (c.is_true.ensures ∙ ap is_true c.first_argument-first.ensures)) ∙ ap (λ f. turned (library (plain_program c.args.code.program.now) f c.args.called.1 (plain_type c.args.called.2.now) (gathered c.args.arguments.0 c.args.arguments.1 (slot_of c.args.m.now)) (config_of c.args.s c.args.m.now io).state) (given_to c.args.k (config_of c.args.s c.args.m.now io))) (sym c.in-CAssert.is)) c.put.ensures)

pub returns-in-Getchar : goal.returns-in-Getchar
returns-in-Getchar c =
    done_as_if c.args.code.ended c.get_byte.result c.get_byte.new.m (λ io. turned (next_byte (config_of c.args.s c.args.m.now io).state.input (config_of c.args.s c.args.m.now io).state) (given_to c.args.k (config_of c.args.s c.args.m.now io))) (λ io. turned (library (plain_program c.args.code.program.now) c.args.called.0 c.args.called.1 (plain_type c.args.called.2.now) (gathered c.args.arguments.0 c.args.arguments.1 (slot_of c.args.m.now)) (config_of c.args.s c.args.m.now io).state) (given_to c.args.k (config_of c.args.s c.args.m.now io)))
    (λ io left. ap (λ f. turned (library (plain_program c.args.code.program.now) f c.args.called.1 (plain_type c.args.called.2.now) (gathered c.args.arguments.0 c.args.arguments.1 (slot_of c.args.m.now)) (config_of c.args.s c.args.m.now io).state) (given_to c.args.k (config_of c.args.s c.args.m.now io))) (sym c.in-Getchar.is)) c.get_byte.ensures

pub returns-in-Putchar : goal.returns-in-Putchar
returns-in-Putchar c =
    done_if c.args.code.ended c.put_byte.result c.put_byte.new.m _
    (done_as c.put_byte.result c.put_byte.new.m (λ io. turned (put_byte (residue (number_of c.first_argument-first.result) 256) (config_of c.args.s c.args.m.now io).state) (given_to c.args.k (config_of c.args.s c.args.m.now io))) (λ io. turned (library (plain_program c.args.code.program.now) c.args.called.0 c.args.called.1 (plain_type c.args.called.2.now) (gathered c.args.arguments.0 c.args.arguments.1 (slot_of c.args.m.now)) (config_of c.args.s c.args.m.now io).state) (given_to c.args.k (config_of c.args.s c.args.m.now io)))
    (λ io. ap (λ x. turned (put_byte (residue (number_of x) 256) (config_of c.args.s c.args.m.now io).state) (given_to c.args.k (config_of c.args.s c.args.m.now io))) c.first_argument-first.ensures ∙ ap (λ f. turned (library (plain_program c.args.code.program.now) f c.args.called.1 (plain_type c.args.called.2.now) (gathered c.args.arguments.0 c.args.arguments.1 (slot_of c.args.m.now)) (config_of c.args.s c.args.m.now io).state) (given_to c.args.k (config_of c.args.s c.args.m.now io))) (sym c.in-Putchar.is)) c.put_byte.ensures)

pub returns-in-Malloc : goal.returns-in-Malloc
returns-in-Malloc c =
    done_if c.args.code.ended c.give_memory.result c.give_memory.new.m _
    (done_as c.give_memory.result c.give_memory.new.m (λ io. turned (requested (plain_program c.args.code.program.now) (pointee (plain_type c.args.called.2.now)) c.count_asked-asked.result unset_cells (counted (config_of c.args.s c.args.m.now io).state)) (given_to c.args.k (config_of c.args.s c.args.m.now io))) (λ io. turned (library (plain_program c.args.code.program.now) c.args.called.0 c.args.called.1 (plain_type c.args.called.2.now) (gathered c.args.arguments.0 c.args.arguments.1 (slot_of c.args.m.now)) (config_of c.args.s c.args.m.now io).state) (given_to c.args.k (config_of c.args.s c.args.m.now io)))
    (λ io. ap (λ n. turned (requested (plain_program c.args.code.program.now) (pointee (plain_type c.args.called.2.now)) n unset_cells (counted (config_of c.args.s c.args.m.now io).state)) (given_to c.args.k (config_of c.args.s c.args.m.now io))) c.count_asked-asked.ensures ∙ ap (λ f. turned (library (plain_program c.args.code.program.now) f c.args.called.1 (plain_type c.args.called.2.now) (gathered c.args.arguments.0 c.args.arguments.1 (slot_of c.args.m.now)) (config_of c.args.s c.args.m.now io).state) (given_to c.args.k (config_of c.args.s c.args.m.now io))) (sym c.in-Malloc.is)) c.give_memory.ensures)

pub returns-in-Calloc : goal.returns-in-Calloc
returns-in-Calloc c =
    done_if c.args.code.ended c.give_memory-in-Calloc.result c.give_memory-in-Calloc.new.m _
    (done_as c.give_memory-in-Calloc.result c.give_memory-in-Calloc.new.m (λ io. turned (requested (plain_program c.args.code.program.now) (pointee (plain_type c.args.called.2.now)) c.count_asked-asked-in-Calloc.result zero_cells (counted (config_of c.args.s c.args.m.now io).state)) (given_to c.args.k (config_of c.args.s c.args.m.now io))) (λ io. turned (library (plain_program c.args.code.program.now) c.args.called.0 c.args.called.1 (plain_type c.args.called.2.now) (gathered c.args.arguments.0 c.args.arguments.1 (slot_of c.args.m.now)) (config_of c.args.s c.args.m.now io).state) (given_to c.args.k (config_of c.args.s c.args.m.now io)))
    (λ io. ap (λ n. turned (requested (plain_program c.args.code.program.now) (pointee (plain_type c.args.called.2.now)) n zero_cells (counted (config_of c.args.s c.args.m.now io).state)) (given_to c.args.k (config_of c.args.s c.args.m.now io))) c.count_asked-asked-in-Calloc.ensures ∙ ap (λ f. turned (library (plain_program c.args.code.program.now) f c.args.called.1 (plain_type c.args.called.2.now) (gathered c.args.arguments.0 c.args.arguments.1 (slot_of c.args.m.now)) (config_of c.args.s c.args.m.now io).state) (given_to c.args.k (config_of c.args.s c.args.m.now io))) (sym c.in-Calloc.is)) c.give_memory-in-Calloc.ensures)

pub returns-in-Free : goal.returns-in-Free
returns-in-Free c =
    done_if c.args.code.ended c.free.result c.free.new.m _
    (done_as c.free.result c.free.new.m (λ io. turned (released c.args.called.1 (pointer_of c.first_argument-first.result) (counted (config_of c.args.s c.args.m.now io).state)) (given_to c.args.k (config_of c.args.s c.args.m.now io))) (λ io. turned (library (plain_program c.args.code.program.now) c.args.called.0 c.args.called.1 (plain_type c.args.called.2.now) (gathered c.args.arguments.0 c.args.arguments.1 (slot_of c.args.m.now)) (config_of c.args.s c.args.m.now io).state) (given_to c.args.k (config_of c.args.s c.args.m.now io)))
    (λ io. ap (λ x. turned (released c.args.called.1 (pointer_of x) (counted (config_of c.args.s c.args.m.now io).state)) (given_to c.args.k (config_of c.args.s c.args.m.now io))) c.first_argument-first.ensures ∙ ap (λ f. turned (library (plain_program c.args.code.program.now) f c.args.called.1 (plain_type c.args.called.2.now) (gathered c.args.arguments.0 c.args.arguments.1 (slot_of c.args.m.now)) (config_of c.args.s c.args.m.now io).state) (given_to c.args.k (config_of c.args.s c.args.m.now io))) (sym c.in-Free.is)) c.free.ensures)
