use Rattle.std.proofs.Common.{map}
use Rattle.p10_syn.specs.BuiltStatements.{external_of}
use Rattle.p10_elabx.specs.First.{problems}
use Rattle.p10_elab.specs.KnownViews.{plain_known}
use Rattle.p10_elab.proofs.Stages.{program_stage, stage_answered, stage_passed, first_of_kept}
use Rattle.p10_elab.proofs.settling.settle.Goals as goal

pub returns-in-Some : goal.returns-in-Some
returns-in-Some c =
    stage_answered (problems c.args.known.standing.problem) (program_stage (map external_of c.args.ground.units.now) c.args.count (plain_known c.args.known)) c.args.known.standing.problem c.in-Some.problem c.refused.result
    c.in-Some.is (first_of_kept c.args.known.standing.problem) c.refused.ensures

pub returns : goal.returns
returns c =
    stage_passed (problems c.args.known.standing.problem) (program_stage (map external_of c.args.ground.units.now) c.args.count (plain_known c.args.known)) c.args.known.standing.problem c.settle_program.result
    c.in-None.is (first_of_kept c.args.known.standing.problem) c.settle_program.ensures
