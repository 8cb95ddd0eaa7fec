-- A variable that is an object, or an object of static lifetime.
use Rattle.std.proofs.Common.{ap}
use Rattle.p10_core.specs.Types.{plain_type}
use Rattle.p10_core.specs.Typed.{variable, global}
use Rattle.p10_core.specs.Views.{plain_place_form}
use Rattle.p10_interp.proofs.Starts.{object_by, variable_object, static_object_found}
use Rattle.p10_interp.proofs.places_at_once.whole_object.Goals as goal

pub returns-in-Var : goal.returns-in-Var
returns-in-Var c =
    object_by c.args.around.now c.args.place.now (variable c.in-Var.number) c.held_object.result (ap plain_place_form c.in-Var.is)
    (variable_object c.args.around.now c.args.place.now.at (plain_type c.args.place.now.ty) c.in-Var.number c.held_object.result c.held_object.ensures)

pub returns-in-Global : goal.returns-in-Global
returns-in-Global c =
    object_by c.args.around.now c.args.place.now (global c.in-Global.number) c.static_object.result (ap plain_place_form c.in-Global.is)
    (static_object_found c.args.around.now c.args.place.now.at (plain_type c.args.place.now.ty) c.in-Global.number c.as_slice.result.now c.static_object.result c.as_slice.ensures c.static_object.ensures)
