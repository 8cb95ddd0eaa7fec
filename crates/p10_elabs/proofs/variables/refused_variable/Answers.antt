use Rattle.p10_syn.specs.Built.{identifier_of}
use Rattle.p10_elabx.specs.First.{only_first}
use Rattle.p10_elabd.specs.Views.{plain_standing}
use Rattle.p10_elabs.proofs.DeclaredObjects.{variable_refused}
use Rattle.p10_elabs.specs.LocalViews.{plain_local}
use Rattle.p10_elabs.proofs.variables.refused_variable.Goals as goal

pub returns : goal.returns
returns c =
    variable_refused only_first (identifier_of c.args.name) (plain_local c.args.local.now) (plain_local c.next_variable.new.self) (plain_standing c.unknown_in.new.standing) c.in_ok-next_variable.ensures.after c.in_ok-unknown_in.ensures
