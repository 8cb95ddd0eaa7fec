use Rattle.p10_derived_texts.proofs.Texts.{claims_have_text, derived_have_text, derived_read_back, derived_are_few}
use Rattle.p10_derived_texts.proofs.laws.derived_certificates_have_texts.Goals as goal

pub returns-clause-claims : goal.returns-clause-claims
returns-clause-claims c = claims_have_text

pub returns-clause-derived : goal.returns-clause-derived
returns-clause-derived c = derived_have_text

pub returns-clause-read : goal.returns-clause-read
returns-clause-read c = derived_read_back

pub returns-clause-small : goal.returns-clause-small
returns-clause-small c = derived_are_few
