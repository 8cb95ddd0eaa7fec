use Rattle.p10_clean_soundness.proofs.CleanLaws.{clean_exclude, clean_by_ranges_exclude}
use Rattle.p10_clean_soundness.proofs.laws.clean_certificates_exclude_undefined_operations.Goals as goal

pub returns-clause-any_evidence : goal.returns-clause-any_evidence
returns-clause-any_evidence c = clean_exclude

pub returns-clause-ranges : goal.returns-clause-ranges
returns-clause-ranges c = clean_by_ranges_exclude
