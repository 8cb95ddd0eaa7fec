use Rattle.std.proofs.Common.{◌++◌, codes, ap, ◌∙◌, sym}
use Rattle.p10_cert.proofs.SealedTexts.{body_is}
use Rattle.p10_cert.proofs.Written.{on_err, front_before, then_ok, then_front}
use Rattle.p10_cert.proofs.writing_sealed.ListBufU8Text.put.Goals as goal

pub returns-in_err-put-clause-front : goal.returns-in_err-put-clause-front
returns-in_err-put-clause-front g c =
    on_err c.from_residual.result _ (front_before (g.O.Sink.taken c.args.out.now) (g.O.Sink.taken c.put.new.self) c.as_slice.result.now (codes "\n") _ c.in_err-put.ensures.front (body_is c.args.self.now ∙ ap (λ t. t ++ codes "\n") (sym c.as_slice.ensures)))

pub returns-clause-ok : goal.returns-clause-ok
returns-clause-ok g c =
    then_ok c.put-2.result (g.O.Sink.taken c.args.out.now) (g.O.Sink.taken c.put.new.self) (g.O.Sink.taken c.put-2.new.self) c.as_slice.result.now (codes "\n") _ c.in_ok-put.ensures.ok
    (body_is c.args.self.now ∙ ap (λ t. t ++ codes "\n") (sym c.as_slice.ensures)) c.put-2.ensures.ok

pub returns-clause-front : goal.returns-clause-front
returns-clause-front g c =
    then_front c.put-2.result (g.O.Sink.taken c.args.out.now) (g.O.Sink.taken c.put.new.self) (g.O.Sink.taken c.put-2.new.self) c.as_slice.result.now (codes "\n") _ c.in_ok-put.ensures.ok
    (body_is c.args.self.now ∙ ap (λ t. t ++ codes "\n") (sym c.as_slice.ensures)) c.put-2.ensures.front
