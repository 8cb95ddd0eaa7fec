use Rattle.p10_core.specs.Types.{plain_type}
use Rattle.p10_core.specs.Views.{plain_types}
use Rattle.p10_whole.proofs.ItemTests.{character_shown}
use Rattle.p10_whole.proofs.items.has_character.Goals as goal

pub returns-in-Some : goal.returns-in-Some
returns-in-Some c =
    character_shown (plain_types c.args.types.now) (plain_type c.args.t.now) (plain_type c.in-Some.scalar.now) c.args.place c.is_character.result c.in-Some.ensures c.is_character.ensures
