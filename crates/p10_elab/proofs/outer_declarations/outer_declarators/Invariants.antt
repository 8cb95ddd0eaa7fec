use Rattle.std.proofs.Common.{◌≡◌, map, option_map, drop}
use Rattle.p10_syn.specs.BuiltStatements.{init_declarator_of}
use Rattle.p10_core.specs.Types.{plain_type}
use Rattle.p10_elabx.specs.First.{only_first}
use Rattle.p10_heads.specs.PlainHeads.{plain_heads}
use Rattle.p10_elab.specs.Outer.{outer_declarators}
use Rattle.p10_elab.specs.KnownViews.{plain_known}
use Rattle.p10_elab.proofs.outer_declarations.outer_declarators.Given as goal

abbrev pub invariant-loop-d : goal.invariant-loop-d
invariant-loop-d l =
    outer_declarators only_first (plain_heads l.setting.heads.now) l.shared.storage l.shared.sensor (option_map plain_type l.ty) (plain_known l.known) (map init_declarator_of (drop l.d-index l.all))
    ≡ outer_declarators only_first (plain_heads l.setting.heads.now) l.shared.storage l.shared.sensor (option_map plain_type l.ty) (plain_known l.fn.known) (map init_declarator_of l.all)
