use Rattle.std.specs.Prelude.{option_map}
use Rattle.std.proofs.Common.{◌≡◌, map, drop}
use Rattle.p10_syn.specs.BuiltStatements.{init_declarator_of}
use Rattle.p10_core.specs.Types.{plain_type}
use Rattle.p10_elabx.specs.First.{only_first}
use Rattle.p10_elabs.specs.FrameViews.{plain_frame}
use Rattle.p10_elabs.specs.LocalViews.{plain_local}
use Rattle.p10_elabs.specs.private.Declarators.{declarators_added}
use Rattle.p10_elabs.specs.ItemViews.{plain_block}
use Rattle.p10_elabs.proofs.declarations.declarators_added.Given as goal

abbrev pub invariant-loop-d : goal.invariant-loop-d
invariant-loop-d l =
    declarators_added only_first (plain_frame l.frame) l.manner.at l.manner.storage l.manner.sensor (option_map plain_type l.ty) (plain_block l.items (plain_local l.local)) (map init_declarator_of (drop l.d-index l.all))
    ≡ declarators_added only_first (plain_frame l.frame) l.manner.at l.manner.storage l.manner.sensor (option_map plain_type l.ty) (plain_block l.fn.items (plain_local l.fn.local)) (map init_declarator_of l.all)
