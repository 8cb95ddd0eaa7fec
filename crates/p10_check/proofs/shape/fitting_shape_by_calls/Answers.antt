-- The steps of a turn are those that the claims give.
use Rattle.std.proofs.Common.{◌∙◌, map, ap}
use Rattle.std.specs.Prelude.{slice_get}
use Rattle.std.proofs.lemmas.Result.{IfOk-weaker}
use Rattle.p10_core.specs.Views.{plain_program}
use Rattle.p10_cert.specs.Claims.{func_of, claims_of}
use Rattle.p10_check.specs.Shapes.{main_turn}
use Rattle.p10_check.specs.Fails.{failures_of}
use Rattle.p10_check.specs.private.Firsts.{AreAfterFitting}
use Rattle.p10_check.specs.private.ShapesByTurn.{AreShapeFailuresBy}
use Rattle.p10_check.proofs.ByTurn.{shape_by_turn}
use Rattle.p10_check.proofs.shape.fitting_shape_by_calls.Goals as goal

pub returns : goal.returns
returns c =
    let p = plain_program c.args.program.now in
    let claims = claims_of c.args.certificate.now in
    IfOk-weaker c.shape_by.result (λ fails. AreShapeFailuresBy p claims c.main_turn-turn.result (failures_of fails.items)) (λ fails. AreAfterFitting p claims (failures_of fails.items))
    (λ fails found. shape_by_turn p claims c.main_turn-turn.result (failures_of fails.items) (c.main_turn-turn.ensures ∙ ap (λ fs. main_turn p (map func_of fs) (slice_get p.functions p.main)) c.as_slice.ensures) found)
    c.shape_by.ensures
