use Rattle.std.specs.Prelude.{option_map}
use Rattle.p10_syn.specs.Built.{expression_of}
use Rattle.p10_core.specs.Views.{plain_value}
use Rattle.p10_elabs.specs.LocalViews.{plain_local, plain_labelled}
use Rattle.p10_elabs.proofs.CaseSteps.{case_made}
use Rattle.p10_elabs.proofs.cases.case_done.Goals as goal

pub returns : goal.returns
returns c =
    case_made c.args.site.0 c.args.site.1 (option_map plain_value c.args.switched.now) (plain_labelled c.args.labels (plain_local c.args.local.now)) _ _ _ (expression_of c.args.e.now) c.in_ok-number.ensures c.in_ok-labels.ensures
