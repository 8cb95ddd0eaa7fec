use Rattle.std.specs.Prelude.{option_map}
use Rattle.p10_syn.specs.Built.{identifier_of}
use Rattle.p10_syn.specs.BuiltStatements.{init_declarator_of}
use Rattle.p10_core.specs.Types.{plain_type}
use Rattle.p10_elabx.specs.First.{only_first}
use Rattle.p10_elabd.specs.Views.{plain_declared, told}
use Rattle.p10_elabs.proofs.DeclaredObjects.{automatic_done, static_done}
use Rattle.p10_elabs.specs.FrameViews.{plain_frame}
use Rattle.p10_elabs.specs.LocalViews.{plain_local}
use Rattle.p10_elabs.proofs.declarations.by_storage.Goals as goal

pub returns-in_ok-item-in-Static : goal.returns-in_ok-item-in-Static
returns-in_ok-item-in-Static c =
    static_done only_first (plain_frame c.args.frame.now) c.args.manner.at c.args.manner.storage c.args.manner.sensor (identifier_of c.args.name) (init_declarator_of c.args.d.now) (plain_local c.args.local.now) (option_map plain_declared c.args.declared) (told (option_map plain_type c.in_ok-ty-in-Static.ty) c.object_in_block.new.standing) _
    c.in-Static.is c.in_ok-ty-in-Static.ensures c.in_ok-item-in-Static.ensures

pub returns-in_ok-item-in-Unnamed : goal.returns-in_ok-item-in-Unnamed
returns-in_ok-item-in-Unnamed c =
    automatic_done only_first (plain_frame c.args.frame.now) c.args.manner.at c.args.manner.storage c.args.manner.sensor (identifier_of c.args.name) (init_declarator_of c.args.d.now) (plain_local c.args.local.now) (option_map plain_declared c.args.declared) (told (option_map plain_type c.in_ok-ty-in-Unnamed.ty) c.object_in_block-in-Unnamed.new.standing) _
    c.in-Unnamed.is c.in_ok-ty-in-Unnamed.ensures c.in_ok-item-in-Unnamed.ensures
