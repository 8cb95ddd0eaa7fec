use Rattle.std.proofs.Common.{◌∙◌, ap, sym}
use Rattle.std.specs.Prelude.{None, Some, option_map, refl}
use Rattle.p10_syn.specs.Built.{identifier_of}
use Rattle.p10_syn.specs.BuiltStatements.{init_declarator_of}
use Rattle.p10_core.specs.Types.{plain_type}
use Rattle.p10_elabx.specs.First.{only_first}
use Rattle.p10_elabs.proofs.DeclaredObjects.{by_name}
use Rattle.p10_elabs.specs.FrameViews.{plain_frame}
use Rattle.p10_elabs.specs.LocalDeclarations.{no_items}
use Rattle.p10_elabs.specs.LocalViews.{plain_local}
use Rattle.p10_elabs.proofs.declarations.local_declarator.Goals as goal

pub returns-in-None : goal.returns-in-None
returns-in-None c =
    by_name only_first (plain_frame c.args.frame.now) c.args.manner.at c.args.manner.storage c.args.manner.sensor (option_map plain_type c.args.ty.now) (plain_local c.args.local.now) (init_declarator_of c.args.d.now) None _ (no_items (plain_local c.args.local.now)) (sym (ap (option_map identifier_of) c.in-None.is) ∙ c.name_in.ensures) refl

pub returns-in_ok-items-in-Some : goal.returns-in_ok-items-in-Some
returns-in_ok-items-in-Some c =
    by_name only_first (plain_frame c.args.frame.now) c.args.manner.at c.args.manner.storage c.args.manner.sensor (option_map plain_type c.args.ty.now) (plain_local c.args.local.now) (init_declarator_of c.args.d.now) (Some (identifier_of c.in-Some.name)) _ _ (sym (ap (option_map identifier_of) c.in-Some.is) ∙ c.name_in.ensures) c.in_ok-items-in-Some.ensures
