use Rattle.p10_syn.specs.Built.{identifier_of}
use Rattle.p10_core.specs.Types.{plain_type}
use Rattle.p10_elabx.specs.First.{only_first}
use Rattle.p10_elabd.specs.Views.{plain_standing}
use Rattle.p10_elabs.proofs.DeclaredObjects.{variable_declared}
use Rattle.p10_elabs.specs.FrameViews.{plain_frame}
use Rattle.p10_elabs.specs.LocalViews.{plain_local}
use Rattle.p10_elabs.proofs.variables.with_variable.Goals as goal

pub returns-clause-after : goal.returns-clause-after
returns-clause-after c =
    variable_declared only_first (plain_frame c.args.frame.now) (identifier_of c.args.name) (plain_type c.args.ty.now) _ _ (plain_local c.args.local.now) (plain_local c.next_variable.new.self) (plain_local c.add_variable.new.self)
    (plain_standing c.declare.new.self) _ _ _ c.in_ok-bytes.ensures c.in_ok-number.ensures.number c.in_ok-number.ensures.after c.is_frame_variable-is_frame.ensures c.in_ok-kept.ensures c.in_ok-meant.ensures
    c.in_ok-add_variable.ensures c.in_ok-declare.ensures
