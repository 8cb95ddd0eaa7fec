-- What the code's facts and ranks are.
use Rattle.std.specs.Prelude.{map}
use Rattle.p10_diff.specs.declared.ranks.Fact.{Fact as CodeFact}
use Rattle.p10_diff.specs.declared.ranks.Rank.{Rank as CodeRank}
use Rattle.p10_diff.specs.Evidence.{Fact, Rank}

abbrev pub fact_by : CodeFact → Fact
fact_by x = record { greater = x.greater; lesser = x.lesser; by = x.by }

abbrev pub rank_by : CodeRank → Rank
rank_by r = record { function = r.function; loop = r.at; below = r.below; above = r.above; more = r.more; facts = map fact_by r.facts.items }
