use Rattle.std.proofs.Common.{[], ◌∷◌, ◌++◌, ap, ◌∙◌, sym}
use Rattle.std.specs.List.{flat_map}
use Rattle.p10_cert.specs.Lines.{SectionLine, BodyLine, text_of}
use Rattle.p10_cert.specs.Sealed.{section_of}
use Rattle.p10_cert.specs.Statements.{section_head}
use Rattle.p10_cert.proofs.SealedTexts.{section_parts}
use Rattle.p10_cert.proofs.Written.{on_err, front_before, then_ok, then_front}
use Rattle.p10_cert.proofs.writing_sealed.SectionText.put.Goals as goal

pub returns-in_err-put_section-clause-front : goal.returns-in_err-put_section-clause-front
returns-in_err-put_section-clause-front g c =
    on_err c.from_residual.result _ (front_before (g.O.Sink.taken c.args.out.now) (g.O.Sink.taken c.put_section.new.out) _ _ _ c.in_err-put_section.ensures.front (section_parts c.args.self.now))

pub returns-clause-ok : goal.returns-clause-ok
returns-clause-ok g c =
    let head = text_of (SectionLine (section_head (section_of c.args.self.now)) ∷ []) in
    let lines = ap (flat_map (λ b. text_of (BodyLine b ∷ []))) c.as_slice.ensures in
    then_ok c.put_all.result (g.O.Sink.taken c.args.out.now) (g.O.Sink.taken c.put_section.new.out) (g.O.Sink.taken c.put_all.new.out) head _ _
    c.in_ok-put_section.ensures.ok (section_parts c.args.self.now ∙ ap (λ t. head ++ t) (sym lines)) c.put_all.ensures.ok

pub returns-clause-front : goal.returns-clause-front
returns-clause-front g c =
    let head = text_of (SectionLine (section_head (section_of c.args.self.now)) ∷ []) in
    let lines = ap (flat_map (λ b. text_of (BodyLine b ∷ []))) c.as_slice.ensures in
    then_front c.put_all.result (g.O.Sink.taken c.args.out.now) (g.O.Sink.taken c.put_section.new.out) (g.O.Sink.taken c.put_all.new.out) head _ _
    c.in_ok-put_section.ensures.ok (section_parts c.args.self.now ∙ ap (λ t. head ++ t) (sym lines)) c.put_all.ensures.front
