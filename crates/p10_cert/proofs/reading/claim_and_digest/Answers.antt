use Rattle.std.proofs.Common.{◌∙◌, ap}
use Rattle.p10_cert.specs.Statements.{entry_lines}
use Rattle.p10_cert.specs.private.Building.{Part, build_all, finish, no_part}
use Rattle.p10_cert.specs.private.Partials.{part_of}
use Rattle.p10_cert.specs.private.Plain.{plain_line}
use Rattle.p10_cert.proofs.ReadLines.{line_shorter}
use Rattle.p10_cert.proofs.Built.{left_first, left_more, left_none, built, digest_built, mapped_none}
use Rattle.p10_cert.proofs.reading.claim_and_digest.Goals as goal

pub loop-line-init : goal.loop-line-init
loop-line-init c = λ x sealed good e. left_first x sealed c.args.r.now.text.now (part_of c.new-partial.result) good e c.new-partial.ensures

pub loop-line-smaller : goal.loop-line-smaller
loop-line-smaller c = line_shorter c.loop-line.rest.now (plain_line c.in-Some.line) c.in-Some.after.now c.in-Some.ensures

pub loop-line-preserved : goal.loop-line-preserved
loop-line-preserved c = λ x sealed good e.
    left_more (part_of c.loop-line.partial) (part_of c.take.new.self) (build_all no_part (entry_lines x)) c.loop-line.rest.now c.in-Some.after.now (plain_line c.in-Some.line) c.in-Some.ensures c.in_ok-take.ensures (c.loop-line.invariant x sealed good e)

pub returns : goal.returns
returns c =
    let none = mapped_none c.read.result _ _ c.in_default.not-Some c.read.ensures in
    λ x sealed good e.
    let whole = left_none (part_of c.loop-line.partial) (build_all no_part (entry_lines x)) c.loop-line.rest.now none (c.loop-line.invariant x sealed good e) in
    (c.in_ok-func.ensures ∙ ap finish whole ∙ built x, c.digest-told.ensures ∙ ap (λ (p : Part). p.digest) whole ∙ digest_built x)
