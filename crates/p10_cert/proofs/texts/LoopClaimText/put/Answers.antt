use Rattle.std.proofs.Common.{[], ◌∷◌}
use Rattle.p10_cert.specs.Claims.{loop_of}
use Rattle.p10_cert.specs.Certificate.{loop_head}
use Rattle.p10_cert.specs.Lines.{LoopLine, text_of}
use Rattle.p10_cert.proofs.PieceTexts.{loop_text}
use Rattle.p10_cert.proofs.Written.{on_err, front_before, then_ok, then_front}
use Rattle.p10_cert.proofs.texts.LoopClaimText.put.Goals as goal

pub returns-in_err-put_start-clause-front : goal.returns-in_err-put_start-clause-front
returns-in_err-put_start-clause-front g c =
    on_err c.from_residual.result _ (front_before (g.O.Sink.taken c.args.out.now) (g.O.Sink.taken c.put_start.new.out) _ _ _ c.in_err-put_start.ensures.front (loop_text c.args.self.now))

pub returns-clause-ok : goal.returns-clause-ok
returns-clause-ok g c =
    then_ok c.put_vars.result (g.O.Sink.taken c.args.out.now) (g.O.Sink.taken c.put_start.new.out) (g.O.Sink.taken c.put_vars.new.out) (text_of (LoopLine (loop_head (loop_of c.args.self.now)) ∷ [])) _ _
    c.in_ok-put_start.ensures.ok (loop_text c.args.self.now) c.put_vars.ensures.ok

pub returns-clause-front : goal.returns-clause-front
returns-clause-front g c =
    then_front c.put_vars.result (g.O.Sink.taken c.args.out.now) (g.O.Sink.taken c.put_start.new.out) (g.O.Sink.taken c.put_vars.new.out) (text_of (LoopLine (loop_head (loop_of c.args.self.now)) ∷ [])) _ _
    c.in_ok-put_start.ensures.ok (loop_text c.args.self.now) c.put_vars.ensures.front
