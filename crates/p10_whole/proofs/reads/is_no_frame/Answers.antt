use Rattle.std.proofs.Common.{sym, ◌∙◌}
use Rattle.p10_core.specs.Views.{plain_place_form}
use Rattle.p10_whole.specs.private.Surroundings.{surroundings_in}
use Rattle.p10_whole.proofs.Reading.{frame_by, frame_none}
use Rattle.p10_whole.proofs.reads.is_no_frame.Goals as goal

pub returns-in-Some : goal.returns-in-Some
returns-in-Some c =
    frame_by (surroundings_in c.args.around.now) (plain_place_form c.args.form.now) c.in-Some.number c.is_no_frame_variable.result (sym c.in-Some.is ∙ c.variable_in.ensures) c.is_no_frame_variable.ensures

pub returns-in-None : goal.returns-in-None
returns-in-None c = frame_none (surroundings_in c.args.around.now) (plain_place_form c.args.form.now) (sym c.in-None.is ∙ c.variable_in.ensures)
