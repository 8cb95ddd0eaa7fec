use Rattle.std.specs.Prelude.{option_map}
use Rattle.p10_syn.specs.Built.{identifier_of}
use Rattle.p10_syn.specs.BuiltStatements.{initial_of}
use Rattle.p10_core.specs.Types.{plain_type}
use Rattle.p10_core.specs.Views.{plain_initializer}
use Rattle.p10_elabx.specs.First.{only_first}
use Rattle.p10_elabd.specs.Views.{told}
use Rattle.p10_elabs.proofs.DeclaredObjects.{variable_initialized}
use Rattle.p10_elabs.specs.FrameViews.{plain_frame}
use Rattle.p10_elabs.specs.LocalViews.{plain_local}
use Rattle.p10_elabs.proofs.variables.variable_of_type.Goals as goal

pub returns : goal.returns
returns c =
    variable_initialized only_first (plain_frame c.args.frame.now) c.args.at (identifier_of c.args.name) (plain_type c.args.ty.now) (initial_of c.args.initial.now) (plain_local c.args.local.now) (plain_local c.with_variable.new.local) _
    (told (option_map plain_initializer c.in_ok-made.made) c.initialized_by.new.standing) _ c.in_ok-number.ensures.number c.in_ok-number.ensures.after c.in_ok-made.ensures c.variable_item.ensures
