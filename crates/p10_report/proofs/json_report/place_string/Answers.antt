use Rattle.std.proofs.Common.{◌∙◌, ap, codes, decimal}
use Rattle.std.proofs.lemmas.Slice.{pushed}
use Rattle.p10_report.proofs.Values.{place_is}
use Rattle.p10_report.proofs.json_report.place_string.Goals as goal

pub returns : goal.returns
returns c =
    let name = c.in_ok-text.ensures.ok in
    let first = pushed (codes ":") name c.in_ok-push_str.was c.push_str.ensures.bytes in
    let line = pushed c.format.result.now first c.in_ok-push_str-2.was c.push_str-2.ensures.bytes in
    let second = pushed (codes ":") line c.in_ok-push_str-3.was c.push_str-3.ensures.bytes in
    place_is c.args.s.now c.args.at _ c.file_name.result.now c.format.result.now c.format-2.result.now
    (pushed c.format-2.result.now second c.in_ok-push_str-4.was c.push_str-4.ensures.bytes)
    c.file_name.ensures (c.format.ensures.text ∙ ap decimal c.line_col-line.ensures.line) (c.format-2.ensures.text ∙ ap decimal c.line_col-line.ensures.column)
