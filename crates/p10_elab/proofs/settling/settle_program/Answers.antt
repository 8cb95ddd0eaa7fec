use Rattle.std.proofs.Common.{◌++◌, map, length, sym, ◌∙◌, ap}
use Rattle.std.proofs.lemmas.List.{length-map}
use Rattle.p10_syn.specs.BuiltStatements.{external_of}
use Rattle.p10_core.specs.Views.{plain_types, plain_function, plain_object, plain_program}
use Rattle.p10_program.specs.Numbered.{objects_from}
use Rattle.p10_elab.specs.KnownViews.{plain_known}
use Rattle.p10_elab.specs.Programs.{main_among, numbered_objects}
use Rattle.p10_elab.proofs.Stages.{out_of_memory, program_settled}
use Rattle.p10_elab.proofs.settling.settle_program.Goals as goal

pub returns : goal.returns
returns c =
    program_settled (map external_of c.args.ground.units.now) c.args.count (length c.as_slice-number.result.now) (plain_types c.args.known.standing.scope.types)
    (objects_from 0 c.args.count ((plain_known c.args.known).block_objects ++ numbered_objects (plain_types c.args.known.standing.scope.types) c.args.known.visible.items (plain_known c.args.known).objects))
    (map plain_object c.in_ok-objects.objects.items) (map plain_function c.args.known.functions.items) (plain_known c.args.known).outside c.main_among-main.result c.args.known.mains.items c.as_slice-3.result.now
    (plain_program c.in_ok-program.program) c.settle_names.result
    (ap length c.as_slice-number.ensures.value ∙ sym (length-map c.args.known.functions.items plain_function))
    (c.main_among-main.ensures ∙ ap (λ fs. main_among (map plain_function fs)) c.as_slice.ensures.value)
    (c.in_ok-objects.ensures
    ∙ ap (λ visible. objects_from 0 c.args.count ((plain_known c.args.known).block_objects ++ numbered_objects (plain_types c.args.known.standing.scope.types) visible (plain_known c.args.known).objects)) c.as_slice-2.ensures.value)
    c.as_slice-3.ensures.value
    c.in_ok-program.ensures
    c.settle_names.ensures

pub returns-in_err-objects : goal.returns-in_err-objects
returns-in_err-objects c = out_of_memory _ c.from_residual.result c.from_residual.ensures.1

pub returns-in_err-program : goal.returns-in_err-program
returns-in_err-program c = out_of_memory _ c.from_residual-in_err-program.result c.from_residual-in_err-program.ensures.1
