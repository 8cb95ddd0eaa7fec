use Rattle.std.proofs.Common.{◌∙◌}
use Rattle.p10_cert.specs.Sealed.{section_of}
use Rattle.p10_cert.specs.Statements.{section_head}
use Rattle.p10_cert.proofs.PieceTexts.{on_ok, on_front}
use Rattle.p10_cert.proofs.SealedTexts.{counted, section_is}
use Rattle.p10_cert.proofs.writing_sealed.put_section.Goals as goal

pub returns-clause-ok : goal.returns-clause-ok
returns-clause-ok g c = on_ok c.put_all.result (g.O.Sink.taken c.args.out.now) (g.O.Sink.taken c.put_all.new.out) _ _ (counted c.args.section.now.name c.as_slice.result.now c.args.section.now.lines c.as_slice.ensures ∙ section_is (section_head (section_of c.args.section.now))) c.put_all.ensures.ok

pub returns-clause-front : goal.returns-clause-front
returns-clause-front g c = on_front c.put_all.result (g.O.Sink.taken c.args.out.now) (g.O.Sink.taken c.put_all.new.out) _ _ (counted c.args.section.now.name c.as_slice.result.now c.args.section.now.lines c.as_slice.ensures ∙ section_is (section_head (section_of c.args.section.now))) c.put_all.ensures.front
