use Rattle.std.proofs.Common.{◌++◌, ap, codes, sym}
use Rattle.p10_check_command.proofs.Written.{both_taken, front_before, on_err, stopped_after}
use Rattle.p10_check_command.proofs.tell.put_line.Goals as goal

pub returns-in_err-put-clause-front : goal.returns-in_err-put-clause-front
returns-in_err-put-clause-front g c =
    on_err c.from_residual.result _
    (front_before (g.O.Sink.taken c.args.out.now) (g.O.Sink.taken c.put.new.self) c.as_bytes.result.now (codes "\n") _
    c.in_err-put.ensures.front (ap (λ t. t ++ codes "\n") (sym c.as_bytes.ensures.value)))

pub returns-clause-ok : goal.returns-clause-ok
returns-clause-ok g c =
    both_taken c.put-2.result (g.O.Sink.taken c.args.out.now) (g.O.Sink.taken c.put.new.self) (g.O.Sink.taken c.put-2.new.self) c.as_bytes.result.now (codes "\n") _
    c.in_ok-put.ensures.ok (ap (λ t. t ++ codes "\n") (sym c.as_bytes.ensures.value)) c.put-2.ensures.ok

pub returns-clause-front : goal.returns-clause-front
returns-clause-front g c =
    stopped_after c.put-2.result (g.O.Sink.taken c.args.out.now) (g.O.Sink.taken c.put.new.self) (g.O.Sink.taken c.put-2.new.self) c.as_bytes.result.now (codes "\n") _
    c.in_ok-put.ensures.ok (ap (λ t. t ++ codes "\n") (sym c.as_bytes.ensures.value)) c.put-2.ensures.front
