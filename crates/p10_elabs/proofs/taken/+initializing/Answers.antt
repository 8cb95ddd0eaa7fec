use Rattle.std.proofs.Common.{map, ap}
use Rattle.p10_bindings.specs.Bound.{bound_in}
use Rattle.p10_syn.specs.Trees.{initializer_row}
use Rattle.p10_syn.specs.BuiltStatements.{initializer_of}
use Rattle.p10_elabs.specs.Addresses.{taken_in_items}
use Rattle.p10_heads.proofs.ListRows.{cut_list, more_put}
use Rattle.p10_elabs.proofs.Takings.{braced_taken}
use Rattle.p10_elabs.proofs.taken.+initializing.Goals as goal

pub take_in_initializer-returns-in_ok-take_in_items-in-Braced : goal.take_in_initializer-returns-in_ok-take_in_items-in-Braced
take_in_initializer-returns-in_ok-take_in_items-in-Braced t c =
    braced_taken (bound_in c.args.names.now) c.args.i.now c.in-Braced.field-0 c.in-Braced.items c.in-Braced.field-2 c.deref.result.now _ _ c.in-Braced.is c.deref.ensures.value c.in_ok-take_in_items-in-Braced.ensures

pub take_in_items-loop-item-preserved : goal.take_in_items-loop-item-preserved
take_in_items-loop-item-preserved t c =
    more_put _ _ _ _ _ _ c.in_ok-take_in_initializer.ensures
    (ap (λ xs. taken_in_items (bound_in c.args.names.now) (initializer_row (map initializer_of xs))) (cut_list c.args.items.now c.loop-item.item-index c.item-item.result c.loop-item-test.true c.item-item.is))
    c.loop-item.invariant
