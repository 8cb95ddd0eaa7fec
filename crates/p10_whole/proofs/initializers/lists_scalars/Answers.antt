use Rattle.std.proofs.Common.{sym, ◌∙◌}
use Rattle.std.specs.Prelude.{map}
use Rattle.p10_core.specs.Types.{plain_type}
use Rattle.p10_core.specs.Views.{plain_types, plain_item}
use Rattle.p10_core.proofs.MemberLayouts.{object_by_test}
use Rattle.p10_whole.specs.private.Surroundings.{surroundings_in}
use Rattle.p10_whole.proofs.Initializing.{lists_shown}
use Rattle.p10_whole.proofs.initializers.lists_scalars.Goals as goal

pub are_whole_items-requires : goal.are_whole_items-requires
are_whole_items-requires c = record {
  object = object_by_test (plain_types c.args.around.now.program.now.types) (plain_type c.args.t.now) (sym c.is_object.ensures ∙ c.if-is_object.true);
}

pub returns-then-is_object : goal.returns-then-is_object
returns-then-is_object c =
    lists_shown (surroundings_in c.args.around.now) (plain_type c.args.t.now) (map plain_item c.args.items.now) c.is_scalar.result c.are_whole_items.result c.is_scalar.ensures c.are_whole_items.ensures
