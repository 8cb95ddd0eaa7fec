use Rattle.std.proofs.Common.{codes, refl}
use Rattle.std.proofs.lemmas.Slice.{pushed}
use Rattle.p10_report.specs.Lines.{place_text}
use Rattle.p10_report.proofs.Values.{refusal_is}
use Rattle.p10_report.proofs.json_report.refusal_string.Goals as goal

pub returns : goal.returns
returns c =
    let first = pushed (codes ": refused ") c.in_ok-text.ensures c.in_ok-push_str.was c.push_str.ensures.bytes in
    let letter = pushed c.letter.result.now first c.in_ok-push_str-2.was c.push_str-2.ensures.bytes in
    let number = pushed c.format.result.now letter c.in_ok-push_str-3.was c.push_str-3.ensures.bytes in
    let second = pushed (codes ": ") number c.in_ok-push_str-4.was c.push_str-4.ensures.bytes in
    refusal_is c.args.s.now c.args.r.now _ (place_text c.args.s.now c.args.r.now.span) c.letter.result.now c.format.result.now c.text.result.now
    (pushed c.text.result.now second c.in_ok-push_str-5.was c.push_str-5.ensures.bytes)
    refl c.letter.ensures c.format.ensures.text c.text.ensures
