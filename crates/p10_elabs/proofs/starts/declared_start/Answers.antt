use Rattle.p10_syn.specs.BuiltStatements.{declaration_of}
use Rattle.p10_elabs.specs.FrameViews.{plain_frame}
use Rattle.p10_elabs.specs.LocalViews.{plain_local}
use Rattle.p10_elabs.proofs.StartParts.{start_declared}
use Rattle.p10_elabs.proofs.starts.declared_start.Goals as goal

pub returns : goal.returns
returns c = start_declared (plain_frame c.args.frame.now) (plain_local c.args.local.now) (declaration_of c.args.d.now) _ _ (c.no_items.ensures _) c.in_ok-all.ensures
