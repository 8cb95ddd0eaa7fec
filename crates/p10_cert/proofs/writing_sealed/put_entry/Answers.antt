use Rattle.std.proofs.Common.{codes}
use Rattle.p10_cert.specs.Claims.{func_of}
use Rattle.p10_cert.specs.Lines.{text_of}
use Rattle.p10_cert.specs.Sealed.{bytes_of, entry_of}
use Rattle.p10_cert.specs.Statements.{inner_lines, entry_text}
use Rattle.p10_cert.specs.private.Pieces.{digest_text}
use Rattle.p10_cert.proofs.PieceTexts.{head_text}
use Rattle.p10_cert.proofs.SealedTexts.{entry_parts}
use Rattle.p10_cert.proofs.Written.{on_err}
use Rattle.p10_cert.proofs.Thirds.{first_of_three, second_of_three, three_ok, three_front}
use Rattle.p10_cert.proofs.writing_sealed.put_entry.Goals as goal

pub returns-in_err-put_head-clause-front : goal.returns-in_err-put_head-clause-front
returns-in_err-put_head-clause-front g c =
    let f = c.args.func.now in
    let d = c.args.digest.now in
    on_err c.from_residual.result _ (first_of_three (g.O.Sink.taken c.args.out.now) (g.O.Sink.taken c.put_head.new.out) (entry_text (entry_of f d)) (head_text f) (digest_text (codes "digest ") (bytes_of d)) (text_of (inner_lines (func_of f)))
    (entry_parts f d) c.in_err-put_head.ensures.front)

pub returns-in_err-put_digest-clause-front : goal.returns-in_err-put_digest-clause-front
returns-in_err-put_digest-clause-front g c =
    let f = c.args.func.now in
    let d = c.args.digest.now in
    on_err c.from_residual-in_err-put_digest.result _ (second_of_three (g.O.Sink.taken c.args.out.now) (g.O.Sink.taken c.put_head.new.out) (g.O.Sink.taken c.put_digest.new.out) (entry_text (entry_of f d)) (head_text f) (digest_text (codes "digest ") (bytes_of d)) (text_of (inner_lines (func_of f)))
    (entry_parts f d) c.in_ok-put_head.ensures.ok c.in_err-put_digest.ensures.front)

pub returns-clause-ok : goal.returns-clause-ok
returns-clause-ok g c =
    let f = c.args.func.now in
    let d = c.args.digest.now in
    three_ok c.put_inner.result (g.O.Sink.taken c.args.out.now) (g.O.Sink.taken c.put_head.new.out) (g.O.Sink.taken c.put_digest.new.out) (g.O.Sink.taken c.put_inner.new.out) (entry_text (entry_of f d)) (head_text f) (digest_text (codes "digest ") (bytes_of d)) (text_of (inner_lines (func_of f)))
    (entry_parts f d) c.in_ok-put_head.ensures.ok c.in_ok-put_digest.ensures.ok c.put_inner.ensures.ok

pub returns-clause-front : goal.returns-clause-front
returns-clause-front g c =
    let f = c.args.func.now in
    let d = c.args.digest.now in
    three_front c.put_inner.result (g.O.Sink.taken c.args.out.now) (g.O.Sink.taken c.put_head.new.out) (g.O.Sink.taken c.put_digest.new.out) (g.O.Sink.taken c.put_inner.new.out) (entry_text (entry_of f d)) (head_text f) (digest_text (codes "digest ") (bytes_of d)) (text_of (inner_lines (func_of f)))
    (entry_parts f d) c.in_ok-put_head.ensures.ok c.in_ok-put_digest.ensures.ok c.put_inner.ensures.front
