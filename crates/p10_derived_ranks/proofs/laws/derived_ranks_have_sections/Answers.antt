use Rattle.p10_derived_ranks.proofs.Said.{derived_said}
use Rattle.p10_derived_ranks.proofs.laws.derived_ranks_have_sections.Goals as goal

pub returns : goal.returns
returns c = derived_said c.derived_certificates_have_texts.ensures.small
