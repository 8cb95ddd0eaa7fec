use Rattle.std.proofs.Common.{◌≡◌, ◌+◌, ◌*◌, map, option_map, drop}
use Rattle.p10_core.specs.Views.{plain_value}
use Rattle.p10_syn.specs.Trees.{statement_row}
use Rattle.p10_syn.specs.BuiltStatements.{statement_of}
use Rattle.p10_elabx.specs.First.{only_first}
use Rattle.p10_elabs.specs.FrameViews.{plain_frame}
use Rattle.p10_elabs.specs.ItemViews.{plain_block}
use Rattle.p10_elabs.specs.LocalViews.{plain_local}
use Rattle.p10_elabs.specs.Statements.{items_done, switched_done}
use Rattle.p10_elabs.specs.private.Steps.{settled}
use Rattle.p10_elabs.specs.private.StepViews.{plain_switched}
use Rattle.p10_elabs.proofs.statement.+statements.Given as goal

abbrev pub invariant-items_done-loop-s : goal.invariant-items_done-loop-s
invariant-items_done-loop-s l =
    items_done only_first (plain_frame l.frame) l.in_main l.round (plain_block l.items (plain_local l.local)) (statement_row (map statement_of (drop l.s-index l.all)))
    ≡ items_done only_first (plain_frame l.frame) l.in_main l.round (plain_block l.initial.items (plain_local l.initial.local)) (statement_row (map statement_of l.all))

abbrev pub invariant-switched_done-loop-s : goal.invariant-switched_done-loop-s
invariant-switched_done-loop-s l =
    settled (switched_done only_first (plain_frame l.frame) l.round (option_map plain_value l.value) (plain_switched l.body (plain_local l.local)) (statement_row (map statement_of (drop l.s-index l.all))))
    ≡ settled (switched_done only_first (plain_frame l.frame) l.round (option_map plain_value l.value) (plain_switched l.initial.body (plain_local l.initial.local)) (statement_row (map statement_of l.all)))

-- a tree that is handed on unchanged goes to a function that is lower

abbrev pub decreases-statement : goal.decreases-statement
decreases-statement l = 8 * goal.size-statement l

abbrev pub decreases-part : goal.decreases-part
decreases-part l = 8 * goal.size-part l + 1

abbrev pub decreases-plain_body : goal.decreases-plain_body
decreases-plain_body l = 8 * goal.size-plain_body l + 2

abbrev pub decreases-if_done : goal.decreases-if_done
decreases-if_done l = 8 * goal.size-if_done l + 2

abbrev pub decreases-while_done : goal.decreases-while_done
decreases-while_done l = 8 * goal.size-while_done l + 2

abbrev pub decreases-do_done : goal.decreases-do_done
decreases-do_done l = 8 * goal.size-do_done l + 2

abbrev pub decreases-switch_body : goal.decreases-switch_body
decreases-switch_body l = 8 * goal.size-switch_body l + 3

abbrev pub decreases-whole_switch : goal.decreases-whole_switch
decreases-whole_switch l = 8 * goal.size-whole_switch l + 4

abbrev pub decreases-kept_item : goal.decreases-kept_item
decreases-kept_item l = 8 * goal.size-kept_item l + 1

abbrev pub decreases-item_done : goal.decreases-item_done
decreases-item_done l = 8 * goal.size-item_done l + 2

abbrev pub decreases-items_done : goal.decreases-items_done
decreases-items_done l = 8 * goal.size-items_done l + 3

abbrev pub decreases-block : goal.decreases-block
decreases-block l = 8 * goal.size-block l + 4

abbrev pub decreases-switched_item : goal.decreases-switched_item
decreases-switched_item l = 8 * goal.size-switched_item l + 1

abbrev pub decreases-switched_done : goal.decreases-switched_done
decreases-switched_done l = 8 * goal.size-switched_done l + 2

abbrev pub decreases-switch_block : goal.decreases-switch_block
decreases-switch_block l = 8 * goal.size-switch_block l + 3
