use Rattle.std.proofs.Common.{ap}
use Rattle.p10_core.specs.Types.{plain_form_of_type}
use Rattle.p10_whole.proofs.Labelling.{switch_shown}
use Rattle.p10_whole.proofs.switches.switches.Goals as goal

pub returns-in_ok-labelled-in-Int : goal.returns-in_ok-labelled-in-Int
returns-in_ok-labelled-in-Int c = switch_shown _ _ _ _ c.in-Int.kind c.promote.result c.args.value.now.ty.is_const _ _ _ (ap (plain_form_of_type c.args.value.now.ty.is_const) c.in-Int.is) c.promote.ensures c.is_whole_value.ensures c.is_kind.ensures c.in_ok-labelled-in-Int.ensures
