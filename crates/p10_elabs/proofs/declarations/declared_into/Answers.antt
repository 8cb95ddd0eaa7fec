use Rattle.std.proofs.Common.{ap, map}
use Rattle.std.specs.Prelude.{option_map}
use Rattle.p10_syn.specs.BuiltStatements.{declaration_of, init_declarator_of}
use Rattle.p10_core.specs.Types.{plain_type}
use Rattle.p10_elabx.specs.First.{only_first}
use Rattle.p10_elabd.specs.Views.{told}
use Rattle.p10_elabs.proofs.DeclaratorRows.{declaration_added}
use Rattle.p10_elabs.specs.FrameViews.{plain_frame}
use Rattle.p10_elabs.specs.ItemViews.{plain_block}
use Rattle.p10_elabs.specs.LocalViews.{plain_local}
use Rattle.p10_elabs.proofs.declarations.declared_into.Goals as goal

pub returns : goal.returns
returns c =
    declaration_added only_first (plain_frame c.args.frame.now) c.args.site (declaration_of c.args.d.now) (plain_block c.args.items (plain_local c.args.local.now))
    (plain_block c.in_ok-items.items (plain_local c.declarators_added.new.local)) _ _ _ _
    (told (option_map plain_type c.in_ok-ty.ty) c.specified_in.new.standing) _ c.manner_of-manner.ensures.at c.manner_of-manner.ensures.storage c.manner_of-manner.ensures.sensor
    (ap (map init_declarator_of) c.deref.ensures.value) c.in_ok-ty.ensures c.in_ok-items.ensures (c.in_ok-all.ensures (plain_local c.declarators_added.new.local))
