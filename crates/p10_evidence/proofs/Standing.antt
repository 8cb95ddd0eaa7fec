-- Whether a claim stands, by the round that the code finds.
use Rattle.std.proofs.Common.{◌≡◌, ◌∙◌, Bool, List, Option, Some, option_map, sym, ap}
use Rattle.p10_core.specs.Typed.{PlainVariable, PlainStatement}
use Rattle.p10_cert.specs.Claims.{Loop}
use Rattle.p10_absx.specs.Environments.{Environment}
use Rattle.p10_absx.specs.Trails.{Branching}
use Rattle.p10_absx.specs.Branches.{unbranched}
use Rattle.p10_pass.specs.declared.rounds.Round.{Round as CodeRound}
use Rattle.p10_pass.specs.Claiming.{head_of}
use Rattle.p10_pass.specs.Passing.{Round, trial_manner}
use Rattle.p10_pass.specs.Rounds.{round_at, round_by}
use Rattle.p10_turns.specs.Evidence.{loop_stands}
use Rattle.p10_turns.specs.LoopParts.{parts_of}
use Rattle.p10_evidence.specs.private.Trials.{round_stands, stands_with}
use Rattle.p10_evidence.proofs.Trials.{trial_told}

rounded_at : (variables : List PlainVariable) (s : PlainStatement) (entry : Environment) (claim : Loop) (head : Branching) (o : Option CodeRound) (r : Option Round) → head ≡ unbranched (head_of claim variables entry)
    → option_map round_by o ≡ round_at (trial_manner variables) s head.values → option_map round_by o ≡ r → stands_with variables r entry claim ≡ loop_stands variables (parts_of s) entry claim
rounded_at variables s entry claim head o r headed rounded is =
    ap (λ x. stands_with variables x entry claim) (sym is ∙ (rounded ∙ ap (λ (b : Branching). round_at (trial_manner variables) s b.values) headed)) ∙ trial_told variables s entry claim

-- a claim stands where it holds by the round
pub by_round : (variables : List PlainVariable) (s : PlainStatement) (entry : Environment) (claim : Loop) (head : Branching) (o : Option CodeRound) (round : CodeRound) (b : Bool) → head ≡ unbranched (head_of claim variables entry)
    → option_map round_by o ≡ round_at (trial_manner variables) s head.values → o ≡ Some round → b ≡ round_stands variables (round_by round) entry claim → b ≡ loop_stands variables (parts_of s) entry claim
by_round variables s entry claim head o round b headed rounded there is = is ∙ rounded_at variables s entry claim head o (Some (round_by round)) headed rounded (ap (option_map round_by) there)
