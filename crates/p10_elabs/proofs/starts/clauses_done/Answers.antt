use Rattle.p10_syn.specs.BuiltStatements.{optional_expression, statement_of}
use Rattle.p10_elabs.specs.FrameViews.{plain_frame}
use Rattle.p10_elabs.specs.LocalViews.{plain_local}
use Rattle.p10_elabs.proofs.StartParts.{clauses_made}
use Rattle.p10_elabs.proofs.starts.clauses_done.Goals as goal

pub returns : goal.returns
returns c =
    clauses_made (plain_frame c.args.frame.now) (plain_local c.args.local.now) _ _ _ (statement_of c.args.start.now) (optional_expression c.args.test.now) (optional_expression c.args.step.now) _ _ _
    c.in_ok-first.ensures c.in_ok-test.ensures c.in_ok-third.ensures
