use Rattle.std.proofs.Common.{ap, map}
use Rattle.std.specs.Prelude.{option_map}
use Rattle.p10_syn.specs.BuiltStatements.{init_declarator_of}
use Rattle.p10_core.specs.Types.{plain_type}
use Rattle.p10_elabx.specs.First.{only_first}
use Rattle.p10_heads.proofs.ListRows.{cut_list}
use Rattle.p10_elabs.proofs.DeclaratorRows.{step_declarators}
use Rattle.p10_elabs.specs.FrameViews.{plain_frame}
use Rattle.p10_elabs.specs.ItemViews.{plain_block}
use Rattle.p10_elabs.specs.LocalViews.{plain_local}
use Rattle.p10_elabs.specs.private.Declarators.{items_as}
use Rattle.p10_elabs.proofs.declarations.declarators_added.Goals as goal

pub loop-d-preserved : goal.loop-d-preserved
loop-d-preserved c =
    let cut = ap (map init_declarator_of) (cut_list c.args.all.now c.loop-d.d-index c.d-item.result c.loop-d-test.true c.d-item.is) in
    step_declarators only_first (plain_frame c.args.frame.now) c.args.manner.at c.args.manner.storage c.args.manner.sensor (option_map plain_type c.args.ty.now) (plain_block c.loop-d.items (plain_local c.loop-d.local))
    (plain_block c.in_ok-items.items (plain_local c.local_declarator.new.local)) _ (items_as c.in_ok-given.given c.local_declarator.new.local) _ _ _
    cut c.in_ok-given.ensures (c.in_ok-items.ensures (plain_local c.loop-d.local) c.local_declarator.new.local) c.loop-d.invariant
