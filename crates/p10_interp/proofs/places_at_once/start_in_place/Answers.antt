-- The object is the array as a whole.
use Rattle.std.proofs.Common.{◌∙◌, ap, sym, map}
use Rattle.p10_core.specs.Types.{PlainType}
use Rattle.p10_core.specs.Typed.{PlainProgram, place_type}
use Rattle.p10_core.specs.Views.{plain_place, plain_program}
use Rattle.p10_meaning.specs.Values.{width, element_type}
use Rattle.p10_interp.specs.private.Standing.{held_of}
use Rattle.p10_interp.proofs.Starts.{array_starts}
use Rattle.p10_interp.proofs.places_at_once.start_in_place.Goals as goal

pub returns-in-Some-width_at_once : goal.returns-in-Some-width_at_once
returns-in-Some-width_at_once c = λ at t s program w object live.
    array_starts s (map held_of c.args.around.now.held.now) at t (plain_place c.args.place.now) c.in-Some.object c.in-Some-width_at_once.scalars c.count_of.result c.start_of.result w object (c.in-Some.ensures s program) c.start_of.ensures
    (c.in-Some-width_at_once.ensures ∙ ap (λ (t : PlainType). width (plain_program c.args.around.now.p.now) t) c.element_of.ensures ∙ ap (λ (p : PlainProgram). width p (element_type (place_type (plain_place c.args.place.now)))) (sym program)) c.count_of.ensures live
