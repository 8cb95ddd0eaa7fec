-- The function and its entry are there, or not.
use Rattle.std.proofs.Common.{◌∙◌, ap, map, Some, None, slice_get}
use Rattle.p10_core.specs.Views.{plain_program, plain_function}
use Rattle.p10_code.specs.Machine.{on, put, cell_of, look, gathered, enter}
use Rattle.p10_compile.specs.Views.{plain_entry}
use Rattle.p10_machine.specs.Views.{config_of}
use Rattle.p10_machine.proofs.Doing.{done_as}
use Rattle.p10_machine.proofs.calling.call.Goals as goal

pub returns-in_default : goal.returns-in_default
returns-in_default c =
    done_as c.put_none.result c.put_none.new.self (λ io. on (put c.args.k (cell_of None) (config_of c.args.s c.args.m.now io))) (λ io. enter (slice_get (plain_program c.args.code.program.now).functions c.args.called.0) (slice_get (map plain_entry c.args.code.entries.now) c.args.called.1) c.args.k (gathered c.args.arguments.0 c.args.arguments.1 (look (config_of c.args.s c.args.m.now io))) (config_of c.args.s c.args.m.now io))
    (λ io. ap (λ o. enter o (slice_get (map plain_entry c.args.code.entries.now) c.args.called.1) c.args.k (gathered c.args.arguments.0 c.args.arguments.1 (look (config_of c.args.s c.args.m.now io))) (config_of c.args.s c.args.m.now io)) (c.in_default.ensures ∙ ap (λ fs. slice_get (map plain_function fs) c.args.called.0) c.as_slice.ensures)) c.put_none.ensures

pub returns-in-Some-entry_at : goal.returns-in-Some-entry_at
returns-in-Some-entry_at c =
    done_as c.enter.result c.enter.new.m (λ io. enter (Some (plain_function c.in-Some.function.now)) (Some (plain_entry c.in-Some-entry_at.entry.now)) c.args.k (gathered c.args.arguments.0 c.args.arguments.1 (look (config_of c.args.s c.args.m.now io))) (config_of c.args.s c.args.m.now io)) (λ io. enter (slice_get (plain_program c.args.code.program.now).functions c.args.called.0) (slice_get (map plain_entry c.args.code.entries.now) c.args.called.1) c.args.k (gathered c.args.arguments.0 c.args.arguments.1 (look (config_of c.args.s c.args.m.now io))) (config_of c.args.s c.args.m.now io))
    (λ io. ap (λ o. enter o (Some (plain_entry c.in-Some-entry_at.entry.now)) c.args.k (gathered c.args.arguments.0 c.args.arguments.1 (look (config_of c.args.s c.args.m.now io))) (config_of c.args.s c.args.m.now io)) (c.in-Some.ensures ∙ ap (λ fs. slice_get (map plain_function fs) c.args.called.0) c.as_slice.ensures) ∙ ap (λ o. enter (slice_get (plain_program c.args.code.program.now).functions c.args.called.0) o c.args.k (gathered c.args.arguments.0 c.args.arguments.1 (look (config_of c.args.s c.args.m.now io))) (config_of c.args.s c.args.m.now io)) c.in-Some-entry_at.ensures) c.enter.ensures

pub returns-in-None : goal.returns-in-None
returns-in-None c = λ io.
    ap (λ o. enter o None c.args.k (gathered c.args.arguments.0 c.args.arguments.1 (look (config_of c.args.s c.args.m.now io))) (config_of c.args.s c.args.m.now io)) (c.in-Some.ensures ∙ ap (λ fs. slice_get (map plain_function fs) c.args.called.0) c.as_slice.ensures) ∙ ap (λ o. enter (slice_get (plain_program c.args.code.program.now).functions c.args.called.0) o c.args.k (gathered c.args.arguments.0 c.args.arguments.1 (look (config_of c.args.s c.args.m.now io))) (config_of c.args.s c.args.m.now io)) c.in-None.ensures
