use Rattle.p10_core.specs.Types.{plain_type}
use Rattle.p10_core.proofs.TypeViews.{mark_of_plain}
use Rattle.p10_whole.proofs.TypeShapes.{void_shown}
use Rattle.p10_whole.proofs.shapes.is_bare_void.Goals as goal

pub returns : goal.returns
returns c = void_shown (plain_type c.args.t.now) c.is_void.result c.args.t.now.is_const c.is_void.ensures (mark_of_plain c.args.t.now.is_const c.args.t.now.form)
