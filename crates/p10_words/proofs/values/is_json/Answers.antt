use Rattle.p10_words.specs.CommandLines.{HasFormat}
use Rattle.p10_words.proofs.Numbers.{asks_for_none}
use Rattle.p10_words.proofs.values.is_json.Goals as goal

pub returns-in-Some-clause-none : goal.returns-in-Some-clause-none
returns-in-Some-clause-none c = asks_for_none HasFormat c.args.value c.in-Some.value c.format_named.result c.in-Some.is c.format_named.ensures.none
