-- The array is what the value decays from.
use Rattle.std.proofs.Common.{◌∙◌, ap, sym}
use Rattle.p10_core.specs.declared.typed.Place.{Place}
use Rattle.p10_core.specs.Typed.{decay}
use Rattle.p10_core.specs.Views.{plain_form, plain_place}
use Rattle.p10_interp.proofs.Starts.{decayed}
use Rattle.p10_interp.proofs.places_at_once.start_of_array.Goals as goal

pub returns-in-Decay : goal.returns-in-Decay
returns-in-Decay c =
    decayed c.args.around.now c.args.array.now (plain_place c.deref.result.now) c.start_in_place.result (ap plain_form c.in-Decay.is ∙ ap (λ (q : Place). decay (plain_place q)) (sym c.deref.ensures)) c.start_in_place.ensures
