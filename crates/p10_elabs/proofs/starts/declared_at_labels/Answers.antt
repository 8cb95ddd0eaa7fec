use Rattle.p10_syn.specs.BuiltStatements.{declaration_of}
use Rattle.p10_elabs.specs.FrameViews.{plain_frame}
use Rattle.p10_elabs.specs.ItemViews.{plain_block}
use Rattle.p10_elabs.specs.LocalViews.{plain_local}
use Rattle.p10_elabs.proofs.StartParts.{refused_declared}
use Rattle.p10_elabs.proofs.starts.declared_at_labels.Goals as goal

pub returns : goal.returns
returns c = refused_declared (plain_frame c.args.frame.now) (plain_local c.args.local.now) _ (declaration_of c.args.d.now) (plain_block c.no_items.result (plain_local c.args.local.now)) _ c.in_ok-declared_into.ensures c.refuse_where.ensures
