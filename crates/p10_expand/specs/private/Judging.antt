-- What the functions on conditions answer.
use Rattle.std.specs.Prelude.{ℕ, ◌≡◌, Option, option_map, Result, Ok, Err}
use Rattle.std.specs.Borrow.{Bor}
use Rattle.p10_base.specs.Words.{Text}
use Rattle.p10_expand.specs.declared.expansion.condition.Verdict.{Verdict}
use Rattle.p10_expand.specs.declared.expansion.condition.Verdict.TheVariants as verdict
use Rattle.p10_expand.specs.declared.expansion.fault.ExpandFault.{ExpandFault}
use Rattle.p10_expand.specs.declared.expansion.fault.ExpandFault.TheVariants.{Over, Memory}
use Rattle.p10_expand.specs.Conditionals.{Judged, Holds, Fails, Exceeds}
use Rattle.p10_base.specs.declared.report.TheConstants.Limit.{EXPANDED_WORDS}

-- what is asked for, without where the name lies in memory
abbrev pub as_asked : Option (Bor Text × ℕ) → Option (Text × ℕ)
as_asked found = option_map (λ (name, behind). (name.now, behind)) found

-- what the code has judged, as a plain value
abbrev pub judged_by : Verdict → Judged
judged_by (verdict.Holds truth left) = Holds truth left
judged_by (verdict.Fails refusal) = Fails refusal

-- what comes of a condition is the answer
abbrev pub Decides : (Judged → Type 0) → Result Verdict ExpandFault → Type 0
Decides judges (Ok found) = judges (judged_by found)
Decides judges (Err (Over limit)) = (limit ≡ EXPANDED_WORDS) × judges Exceeds
Decides judges (Err Memory) = Unit {0}
