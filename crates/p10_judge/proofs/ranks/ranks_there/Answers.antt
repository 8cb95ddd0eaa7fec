use Rattle.std.proofs.Common.{map, arith, ap, sym, subst, ◌∙◌}
use Rattle.p10_cert.specs.declared.sealed.Section.{Section as CodeSection}
use Rattle.p10_cert.specs.Sealed.{section_of}
use Rattle.p10_judge.proofs.Ranked.{code_section_at, few_lines, lines_within, other_read, ranks_listed, ranks_bad}
use Rattle.p10_diff_evidence.specs.Sections.{IsSection}
use Rattle.p10_diff_evidence.specs.Reading.{ranks_in}
use Rattle.p10_judge.proofs.ranks.ranks_there.Goals as goal

pub lines_from-requires-clause-few : goal.lines_from-requires-clause-few
lines_from-requires-clause-few c = omega (arith, few_lines c.args.bytes.now (map section_of c.args.sections.now) c.args.place c.requires.section, c.line_count.ensures.exact, c.line_count.ensures.small)

pub overflow_sub-before : goal.overflow_sub-before
overflow_sub-before c = omega (arith, few_lines c.args.bytes.now (map section_of c.args.sections.now) c.args.place c.requires.section, c.line_count.ensures.exact, c.lines_from.ensures)

pub overflow_add-result : goal.overflow_add-result
overflow_add-result c =
    let at = code_section_at c.args.sections.now c.args.place c.index-sections-place.result c.requires.place c.index-sections-place.is in
    let lines = c.as_slice.ensures ∙ ap (λ (s : CodeSection). (section_of s).lines) (sym c.index-sections-place.is) in
    let other = other_read c.as_slice.result.now (section_of c.index-sections-place.result).lines c.in-Err-Line.field-0 c.in-Err-Line.number lines c.in-Err-Line.field-0-is c.in-Err-Line.ensures in
    let within = lines_within c.args.bytes.now (map section_of c.args.sections.now) c.args.place c.in-Err-Line.number (section_of c.index-sections-place.result) c.requires.section at other in
    omega (arith, within.inside, within.below, c.line_count.ensures.exact, c.line_count.ensures.small, c.lines_from.ensures)

pub returns-in-Ok : goal.returns-in-Ok
returns-in-Ok c =
    let lines = c.as_slice.ensures ∙ ap (λ (s : CodeSection). (section_of s).lines) (sym c.index-sections-place.is) in
    ranks_listed c.args.bytes.now (map section_of c.args.sections.now) c.args.place (section_of c.index-sections-place.result) c.in-Ok.evidence c.requires.section
    (code_section_at c.args.sections.now c.args.place c.index-sections-place.result c.requires.place c.index-sections-place.is) (subst (λ ls. IsSection ls (ranks_in c.in-Ok.evidence)) lines c.in-Ok.ensures)

pub returns-in-Err-Line : goal.returns-in-Err-Line
returns-in-Err-Line c =
    let at = code_section_at c.args.sections.now c.args.place c.index-sections-place.result c.requires.place c.index-sections-place.is in
    let lines = c.as_slice.ensures ∙ ap (λ (s : CodeSection). (section_of s).lines) (sym c.index-sections-place.is) in
    let other = other_read c.as_slice.result.now (section_of c.index-sections-place.result).lines c.in-Err-Line.field-0 c.in-Err-Line.number lines c.in-Err-Line.field-0-is c.in-Err-Line.ensures in
    let few = few_lines c.args.bytes.now (map section_of c.args.sections.now) c.args.place c.requires.section in
    ranks_bad c.args.bytes.now (map section_of c.args.sections.now) c.args.place c.in-Err-Line.number _ (section_of c.index-sections-place.result) c.requires.section at other
    (omega (arith, few, c.line_count.ensures.exact, c.lines_from.ensures))
