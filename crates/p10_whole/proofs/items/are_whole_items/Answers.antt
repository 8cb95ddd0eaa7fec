use Rattle.std.proofs.Common.{◌≡◌, ◌+◌, ◌≤◌, true, rules, ◌∙◌, ap}
use Rattle.p10_core.specs.Types.{plain_type}
use Rattle.p10_core.specs.Sizes.{scalars_of}
use Rattle.p10_core.specs.Views.{plain_types}
use Rattle.p10_whole.specs.private.Surroundings.{surroundings_in}
use Rattle.p10_whole.proofs.ItemTests.{one_item, no_items_left}
use Rattle.p10_whole.proofs.items.are_whole_items.Goals as goal

pub loop-item-preserved : goal.loop-item-preserved
loop-item-preserved c = λ rest.
    let yes : c.is_whole_written.result ≡ true = search rules in
    let low : c.loop-item.from ≤ c.item-item.result.scalar = search rules in
    c.loop-item.invariant
    (one_item (surroundings_in c.args.around.now) (scalars_of (plain_types c.args.around.now.program.now.types) (plain_type c.args.t.now)) c.loop-item.from c.in-Some.next c.args.items.now c.loop-item.item-index c.item-item.result
    c.loop-item-test.true c.item-item.is low (c.is_whole_written.ensures.shows yes) (c.in-Some.ensures ∙ ap (λ n. c.item-item.result.scalar + n) c.width_of_written.ensures) rest)

pub returns : goal.returns
returns c = record {
  shows = λ e. c.loop-item.invariant
      (no_items_left (surroundings_in c.args.around.now) (scalars_of (plain_types c.args.around.now.program.now.types) (plain_type c.args.t.now)) c.loop-item.from c.args.items.now c.loop-item.item-index c.loop-item-test.false);
}
