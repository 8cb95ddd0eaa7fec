use Rattle.std.proofs.Common.{map}
use Rattle.p10_syn.specs.BuiltStatements.{external_of}
use Rattle.p10_core.specs.Views.{plain_program}
use Rattle.p10_program.specs.ProgramNodes.{nodes_of_program}
use Rattle.p10_program.specs.Undefined.{undefined_among}
use Rattle.p10_elab.proofs.Stages.{out_of_memory, main_stage, undefined_answered, undefined_passed}
use Rattle.p10_elab.proofs.settling.settle_names.Goals as goal

pub returns-in-Some : goal.returns-in-Some
returns-in-Some c =
    undefined_answered (map external_of c.args.ground.units.now) (undefined_among c.args.functions c.args.objects (nodes_of_program (plain_program c.args.program))) (main_stage c.args.main c.args.mains.now (plain_program c.args.program))
    c.in_ok-found.found c.in-Some.problem c.use_at_word-told.result c.refused.result c.in-Some.is c.in_ok-found.ensures c.use_at_word-told.ensures c.refused.ensures

pub returns : goal.returns
returns c =
    undefined_passed (map external_of c.args.ground.units.now) (undefined_among c.args.functions c.args.objects (nodes_of_program (plain_program c.args.program))) (main_stage c.args.main c.args.mains.now (plain_program c.args.program))
    c.in_ok-found.found c.settle_main.result c.in-None.is c.in_ok-found.ensures c.settle_main.ensures

pub returns-in_err-found : goal.returns-in_err-found
returns-in_err-found c = out_of_memory _ c.from_residual.result c.from_residual.ensures.1
