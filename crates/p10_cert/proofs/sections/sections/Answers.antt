use Rattle.std.proofs.Common.{map, refl, ap}
use Rattle.p10_cert.specs.Sealed.{section_of}
use Rattle.p10_cert.specs.private.Plain.{plain_section}
use Rattle.p10_cert.proofs.Built.{mapped_none}
use Rattle.p10_cert.proofs.SectionCollecting.{none_collected, one_collected, all_collected}
use Rattle.p10_cert.proofs.sections.sections.Goals as goal

pub loop-start-init : goal.loop-start-init
loop-start-init c = none_collected (map section_of c.no_sections-found.result) c.args.text.now c.args.text.now (ap (map section_of) c.no_sections-found.ensures) refl

pub loop-start-smaller : goal.loop-start-smaller
loop-start-smaller c =
    (one_collected (map section_of c.loop-start.found) (map section_of c.push_section.new.found) c.loop-start.rest.now c.in-Some.lines.now c.in_ok-left.left.now c.args.text.now (plain_section c.in-Some.start)
    c.loop-start.invariant c.in-Some.ensures c.in_ok-left.ensures.pushed c.in_ok-left.ensures.rest).1

pub loop-start-preserved : goal.loop-start-preserved
loop-start-preserved c =
    (one_collected (map section_of c.loop-start.found) (map section_of c.push_section.new.found) c.loop-start.rest.now c.in-Some.lines.now c.in_ok-left.left.now c.args.text.now (plain_section c.in-Some.start)
    c.loop-start.invariant c.in-Some.ensures c.in_ok-left.ensures.pushed c.in_ok-left.ensures.rest).0

pub returns : goal.returns
returns c =
    let none = mapped_none c.named.result _ _ c.in_default.not-Some c.named.ensures in
    all_collected (map section_of c.loop-start.found) c.loop-start.rest.now c.args.text.now c.loop-start.invariant none
