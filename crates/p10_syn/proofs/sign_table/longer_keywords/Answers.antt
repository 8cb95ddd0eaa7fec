use Rattle.std.proofs.Common.{refl}
use Rattle.p10_syn.specs.Signs.{keywords}
use Rattle.p10_syn.proofs.Lengths.{none_longer}
use Rattle.p10_syn.proofs.sign_table.longer_keywords.Goals as goal

pub returns-then-bytes-gt10 : goal.returns-then-bytes-gt10
returns-then-bytes-gt10 c = none_longer c.args.bytes c.if-bytes-gt10.true

pub returns-else-bytes-gt10 : goal.returns-else-bytes-gt10
unfolding keywords
returns-else-bytes-gt10 c = λ text same. refl
