use Rattle.std.proofs.Common.{map}
use Rattle.p10_cert.specs.Sealed.{section_of}
use Rattle.p10_diff.specs.Ranked.{rank_by}
use Rattle.p10_front.specs.Answers.{reading_of}
use Rattle.p10_derive_command.proofs.Versions.{one_each, sealed_by}
use Rattle.p10_derive_command.proofs.program.seal.Goals as goal

pub sealed_text_with-requires : goal.sealed_text_with-requires
sealed_text_with-requires c = one_each c.args.reading.now.program c.args.claims c.in_ok-found.found c.requires c.in_ok-found.ensures.each

pub returns : goal.returns
returns c =
    sealed_by c.args.reading.now.program (reading_of c.args.reading.now) c.args.claims c.in_ok-found.found (map rank_by c.args.ranks.now) (map section_of c.in_ok-sections.sections) c.sealed_text_with.result c.requires c.in_ok-found.ensures.right
    c.in_ok-found.ensures.each c.in_ok-sections.ensures c.sealed_text_with.ensures
