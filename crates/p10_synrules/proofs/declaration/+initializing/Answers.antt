use Rattle.std.proofs.Common.{map, ap}
use Rattle.p10_syn.specs.Trees.{initializer_row}
use Rattle.p10_syn.specs.BuiltStatements.{initializer_of}
use Rattle.p10_synrules.specs.Parts.{initializers_parts}
use Rattle.p10_synrules.proofs.Lists.{cut_list, more_put}
use Rattle.p10_synrules.proofs.Putting.{braced_put}
use Rattle.p10_synrules.proofs.declaration.+initializing.Goals as goal

pub put_initializer-returns-in_ok-put_initializers-in-Braced : goal.put_initializer-returns-in_ok-put_initializers-in-Braced
put_initializer-returns-in_ok-put_initializers-in-Braced t c =
    braced_put c.args.init.now c.in-Braced.field-0 c.in-Braced.items c.in-Braced.field-2 c.deref.result.now _ _ c.in-Braced.is c.deref.ensures.value c.in_ok-put_initializers-in-Braced.ensures

pub put_initializers-loop-item-preserved : goal.put_initializers-loop-item-preserved
put_initializers-loop-item-preserved t c =
    more_put _ _ _ _ _ _ c.in_ok-put_initializer.ensures
    (ap (λ xs. initializers_parts (initializer_row (map initializer_of xs))) (cut_list c.args.items.now c.loop-item.item-index c.item-item.result c.loop-item-test.true c.item-item.is))
    c.loop-item.invariant
