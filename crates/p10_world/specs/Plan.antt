-- The calls of a form in memory, numbered from 1, and those of them that are to fail.
use Rattle.std.specs.Prelude.{◌≡◌, ℕ, ◌+◌, ◌==◌, Bool, List, min, if◌then◌else◌}
use Rattle.std.specs.List.{list_any}
use Rattle.p10_world.specs.Faults.{last_count}
use Rattle.p10_world.specs.declared.plan.Plan.{Plan}

-- the numbers of the calls that are to fail
abbrev pub fails_of : Plan → List ℕ
fails_of plan = plan.fails.items

-- how many calls were made
abbrev pub calls_of : Plan → ℕ
calls_of plan = plan.calls

-- how many calls failed
abbrev pub faults_of : Plan → ℕ
faults_of plan = plan.faults

-- the next count, or the last one again
abbrev pub next_count : ℕ → ℕ
next_count count = min (count + 1) last_count

-- the next call is one of those that are to fail
abbrev pub fails_next : Plan → Bool
fails_next plan = list_any (λ number. number == next_count (calls_of plan)) (fails_of plan)

-- one call more was made, and one more failed where it was to fail
pub record CountsCall (old new : Plan) : Type 0 where
  pub fails : fails_of new ≡ fails_of old
  pub calls : calls_of new ≡ next_count (calls_of old)
  pub faults : faults_of new ≡ (if fails_next old then next_count (faults_of old) else faults_of old)
