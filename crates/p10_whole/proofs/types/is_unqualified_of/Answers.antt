use Rattle.p10_core.specs.Types.{plain_type}
use Rattle.p10_core.proofs.TypeViews.{mark_of_plain}
use Rattle.p10_whole.proofs.SameTypes.{unqualified_shown}
use Rattle.p10_whole.proofs.types.is_unqualified_of.Goals as goal

pub returns : goal.returns
returns c =
    unqualified_shown (plain_type c.args.t.now) (plain_type c.args.other.now) c.has_same_form.result c.is_array.result c.args.t.now.is_const c.args.other.now.is_const
    (mark_of_plain c.args.t.now.is_const c.args.t.now.form) (mark_of_plain c.args.other.now.is_const c.args.other.now.form) c.has_same_form.ensures c.is_array.ensures
