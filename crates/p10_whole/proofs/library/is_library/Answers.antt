use Rattle.std.proofs.Common.{◌∙◌, ap}
use Rattle.p10_core.specs.Types.{plain_type}
use Rattle.p10_core.specs.Views.{plain_types, plain_values}
use Rattle.p10_core.proofs.TypeViews.{mark_of_plain}
use Rattle.p10_whole.specs.private.Places.{is_pointer_at}
use Rattle.p10_whole.proofs.Serving.{free_is}
use Rattle.p10_whole.proofs.library.is_library.Goals as goal

pub returns-in-Free : goal.returns-in-Free
returns-in-Free c =
    free_is (plain_types c.args.types.now) (plain_type c.args.t.now) c.args.library (plain_values c.args.arguments.now) c.is_void.result c.args.t.now.is_const c.is_pointer_at.result
    c.in-Free.is c.is_void.ensures (mark_of_plain c.args.t.now.is_const c.args.t.now.form) (c.is_pointer_at.ensures ∙ ap is_pointer_at c.only_type-in-Free.ensures)
