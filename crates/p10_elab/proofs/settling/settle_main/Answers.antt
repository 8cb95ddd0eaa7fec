use Rattle.std.proofs.Common.{◌++◌}
use Rattle.p10_core.specs.Views.{plain_program}
use Rattle.p10_program.specs.Mains.{calls_of_main, missing_main}
use Rattle.p10_program.specs.ProgramNodes.{nodes_of_program}
use Rattle.p10_elab.specs.Programs.{within_sizes}
use Rattle.p10_elab.proofs.Stages.{out_of_memory, stage_answered, stage_passed}
use Rattle.p10_elab.proofs.settling.settle_main.Goals as goal

pub returns-in-Some : goal.returns-in-Some
returns-in-Some c =
    stage_answered (missing_main c.args.main (c.args.mains.now ++ calls_of_main c.args.main (nodes_of_program (plain_program c.args.program)))) (within_sizes (plain_program c.args.program))
    c.in_ok-found.found c.in-Some.problem c.refused.result c.in-Some.is c.in_ok-found.ensures c.refused.ensures

pub returns : goal.returns
returns c =
    stage_passed (missing_main c.args.main (c.args.mains.now ++ calls_of_main c.args.main (nodes_of_program (plain_program c.args.program)))) (within_sizes (plain_program c.args.program))
    c.in_ok-found.found c.within_sizes.result c.in-None.is c.in_ok-found.ensures c.within_sizes.ensures

pub returns-in_err-found : goal.returns-in_err-found
returns-in_err-found c = out_of_memory _ c.from_residual.result c.from_residual.ensures.1
