use Rattle.p10_core.specs.Types.{plain_type}
use Rattle.p10_core.specs.Views.{plain_value}
use Rattle.p10_whole.specs.private.Surroundings.{surroundings_in}
use Rattle.p10_whole.proofs.ItemTests.{value_shown}
use Rattle.p10_whole.proofs.items.is_scalar_value.Goals as goal

pub returns-in-Some : goal.returns-in-Some
returns-in-Some c =
    value_shown (surroundings_in c.args.around.now) (plain_type c.args.t.now) (plain_type c.in-Some.scalar.now) c.args.place (plain_value c.args.v.now) c.is_whole_value.result c.are_compatible.result c.is_unmarked.result
    c.in-Some.ensures c.is_whole_value.ensures c.are_compatible.ensures c.is_unmarked.ensures
