use Rattle.p10_core.specs.Types.{plain_type}
use Rattle.p10_core.proofs.TypeViews.{mark_of_plain}
use Rattle.p10_whole.proofs.SameTypes.{unmarked_shown}
use Rattle.p10_whole.proofs.types.is_unmarked.Goals as goal

pub returns : goal.returns
returns c = unmarked_shown (plain_type c.args.t.now) c.args.t.now.is_const c.is_array.result (mark_of_plain c.args.t.now.is_const c.args.t.now.form) c.is_array.ensures
