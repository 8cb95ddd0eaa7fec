use Rattle.p10_agreement.proofs.Agreeing.{derived_are_verified, texts_are_verified}
use Rattle.p10_agreement.proofs.laws.derived_certificates_are_verified.Goals as goal

pub returns-clause-certificates : goal.returns-clause-certificates
returns-clause-certificates c =
    derived_are_verified c.readings_are_programs.ensures c.programs_are_named.ensures.texts c.programs_are_named.ensures.named c.derived_certificates_are_accepted.ensures.accepted c.one_answer_is_right.ensures
    c.sealed_with_is_a_certificate.ensures c.sealed_says_the_same.ensures c.reading_digests_are_sized.ensures c.rank_sections_say.ensures c.derived_ranks_have_sections.ensures

pub returns-clause-texts : goal.returns-clause-texts
returns-clause-texts c =
    texts_are_verified c.readings_are_programs.ensures c.programs_are_named.ensures.texts c.programs_are_named.ensures.named c.derived_certificates_are_accepted.ensures.accepted c.one_answer_is_right.ensures
    c.sealed_with_is_a_certificate.ensures c.sealed_says_the_same.ensures c.reading_digests_are_sized.ensures c.rank_sections_say.ensures c.derived_ranks_have_sections.ensures c.success_is_a_certificate.ensures
