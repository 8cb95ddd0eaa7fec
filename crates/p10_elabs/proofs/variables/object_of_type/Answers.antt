use Rattle.std.proofs.Common.{◌∙◌, ap}
use Rattle.std.specs.Prelude.{None, Some, option_map}
use Rattle.p10_syn.specs.Built.{identifier_of}
use Rattle.p10_syn.specs.BuiltStatements.{initial_of}
use Rattle.p10_core.specs.Types.{plain_type}
use Rattle.p10_core.specs.Views.{plain_initializer}
use Rattle.p10_elabx.specs.First.{only_first}
use Rattle.p10_elabd.specs.Views.{plain_standing, told}
use Rattle.p10_elabs.proofs.DeclaredObjects.{object_lacks, object_made}
use Rattle.p10_elabs.specs.FrameViews.{plain_frame}
use Rattle.p10_elabs.specs.LocalViews.{plain_local}
use Rattle.p10_elabs.proofs.variables.object_of_type.Goals as goal

pub returns-in-None : goal.returns-in-None
returns-in-None c =
    object_lacks only_first (plain_frame c.args.frame.now) c.args.manner.at (identifier_of c.args.name) (plain_type c.args.ty) _ c.args.manner.sensor (initial_of c.args.initial.now) (plain_local c.args.local.now) _ (plain_standing c.declare.new.self) (told (option_map plain_initializer c.in_ok-made.made) c.initialized_by.new.standing)
    c.block_number-number.ensures c.in_ok-meant.ensures c.in_ok-declare.ensures c.in_ok-made.ensures (ap (option_map plain_initializer) c.in-None.is)

pub returns-in_ok-add_object-in-Some : goal.returns-in_ok-add_object-in-Some
returns-in_ok-add_object-in-Some c =
    object_made only_first (plain_frame c.args.frame.now) c.args.manner.at (identifier_of c.args.name) (plain_type c.args.ty) _ c.args.manner.sensor (initial_of c.args.initial.now) (plain_local c.args.local.now) (plain_local c.add_object.new.self) _ _ (plain_standing c.declare.new.self) (told (option_map plain_initializer c.in_ok-made.made) c.initialized_by.new.standing)
    (plain_initializer c.in-Some.init) _ _ c.block_number-number.ensures c.in_ok-meant.ensures c.in_ok-declare.ensures c.in_ok-made.ensures (ap (option_map plain_initializer) c.in-Some.is) c.in_ok-bytes-in-Some.ensures
    (c.of-visible.ensures ∙ c.new.ensures.items) c.in_ok-add_object-in-Some.ensures c.declare_static.ensures
