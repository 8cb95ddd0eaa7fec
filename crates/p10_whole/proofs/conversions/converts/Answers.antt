use Rattle.p10_core.specs.Types.{plain_type}
use Rattle.p10_core.specs.Views.{plain_value}
use Rattle.p10_whole.proofs.Converting.{converts_shown}
use Rattle.p10_whole.proofs.conversions.converts.Goals as goal

pub returns : goal.returns
returns c =
    converts_shown (plain_type c.args.t.now) (plain_value c.args.v.now) c.is_integer.result c.is_integer-from.result c.adds_at_target.result c.is_null_at.result
    c.is_integer.ensures c.is_integer-from.ensures c.adds_at_target.ensures c.is_null_at.ensures
