use Rattle.p10_gen_laws.proofs.Stages.{texts_are_accepted, runs_have_steps, none_fails_at_verifying}
use Rattle.p10_gen_laws.proofs.laws.no_certificate_is_refused.Goals as goal

pub returns-clause-texts : goal.returns-clause-texts
returns-clause-texts c = texts_are_accepted c.readings_are_programs.ensures c.programs_are_named.ensures.texts c.derived_certificates_are_accepted.ensures.accepted c.one_judgement.ensures

pub returns-clause-steps : goal.returns-clause-steps
returns-clause-steps c = runs_have_steps c.derived_certificates_are_accepted.ensures.bounds

pub returns-clause-answers : goal.returns-clause-answers
returns-clause-answers c =
    none_fails_at_verifying (texts_are_accepted c.readings_are_programs.ensures c.programs_are_named.ensures.texts c.derived_certificates_are_accepted.ensures.accepted c.one_judgement.ensures)
