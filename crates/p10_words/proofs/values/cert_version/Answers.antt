use Rattle.p10_words.specs.CommandLines.{HasVersion}
use Rattle.p10_words.proofs.Numbers.{asks_for_none}
use Rattle.p10_words.proofs.values.cert_version.Goals as goal

pub returns-in-Some-clause-none : goal.returns-in-Some-clause-none
returns-in-Some-clause-none c = asks_for_none HasVersion c.args.value c.in-Some.value c.version_named.result c.in-Some.is c.version_named.ensures.none
