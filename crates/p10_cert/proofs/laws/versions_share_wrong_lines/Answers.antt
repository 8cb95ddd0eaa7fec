use Rattle.p10_cert.proofs.VersionLaws.{wrong_in_first, wrong_in_second, versions}
use Rattle.p10_cert.proofs.laws.versions_share_wrong_lines.Goals as goal

pub returns : goal.returns
returns c = λ text n wrong. (λ e. wrong_in_first text n ((versions text).0 e) wrong, λ e. wrong_in_second text n ((versions text).1 e) wrong)
