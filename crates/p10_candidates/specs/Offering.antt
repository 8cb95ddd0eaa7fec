-- What the code's loops, candidates, approaches and claims are.
use Rattle.std.specs.Prelude.{map, option_to_list}
use Rattle.std.specs.Option.{option_map, option_copied}
use Rattle.p10_core.specs.Views.{plain_value, plain_variable, plain_statement}
use Rattle.p10_cert.specs.Claims.{loop_of}
use Rattle.p10_pass.specs.Marks.{is_marked}
use Rattle.p10_candidates.specs.declared.entry.LoopEntry.{LoopEntry as CodeEntry}
use Rattle.p10_candidates.specs.declared.guard.Candidate.{Candidate as CodeCandidate}
use Rattle.p10_candidates.specs.declared.offers.Approach.{Approach as CodeApproach}
use Rattle.p10_candidates.specs.declared.rounds.Rounds.{Rounds as CodeRounds}
use Rattle.p10_candidates.specs.declared.standing.LoopFound.{LoopFound as CodeFound}
use Rattle.p10_candidates.specs.Candidates.{LoopEntry, Candidate}
use Rattle.p10_candidates.specs.Approaches.{Approach}
use Rattle.p10_candidates.specs.Trials.{Rounds, rounds_in, LoopFound}

-- an entered loop of the code
abbrev pub entry_by : CodeEntry → LoopEntry
entry_by l = record {
  variables = map plain_variable l.variables.now;
  assigned = is_marked l.assigned.now;
  guard = option_map plain_value (option_copied l.guard);
  entry = l.entry.now.values;
}

-- a candidate of the code
abbrev pub candidate_by : CodeCandidate → Candidate
candidate_by c = record { rank = c.rank; trial = c.trial.values }

-- an approach of the code
abbrev pub approach_by : CodeApproach → Approach
approach_by a = record { below = a.below; above = a.above; may_equal = a.may_equal }

-- the rounds of a loop of the code
abbrev pub rounds_by : CodeRounds → Rounds
rounds_by r = rounds_in (map plain_variable r.variables.now) (plain_statement r.looped.now)

-- what a loop of the code counts with
abbrev pub loop_found_by : CodeFound → LoopFound
loop_found_by l = record { claim = loop_of l.claim; unbounded = option_to_list l.unbounded; approach = option_map approach_by l.approach }
