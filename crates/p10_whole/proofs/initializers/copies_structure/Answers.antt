use Rattle.std.proofs.Common.{sym, ◌∙◌}
use Rattle.p10_core.specs.Types.{plain_type}
use Rattle.p10_core.specs.Views.{plain_place}
use Rattle.p10_whole.specs.private.Surroundings.{surroundings_in}
use Rattle.p10_whole.proofs.Initializing.{copies_shown}
use Rattle.p10_whole.proofs.initializers.copies_structure.Goals as goal

pub returns-in-Some-Some : goal.returns-in-Some-Some
returns-in-Some-Some c =
    copies_shown (surroundings_in c.args.around.now) (plain_type c.args.t.now) (plain_place c.args.p.now) c.in-Some-Some.number c.in-Some-Some.source c.is_whole_place.result c.is_complete.result
    (sym c.in-Some-Some.is-0 ∙ c.structure_number.ensures) (sym c.in-Some-Some.is-1 ∙ c.structure_number-2.ensures) c.is_whole_place.ensures c.is_complete.ensures
