-- What a pass has to find of a loop and its claim, so that the claim's rank bounds the loop's turns.
use Rattle.std.specs.Prelude.{◌≡◌, ℕ, Bool, true, false, List, [], Some}
use Rattle.p10_core.specs.Typed.{PlainVariable}
use Rattle.p10_cert.specs.declared.claims.Rank.{Rank}
use Rattle.p10_cert.specs.declared.claims.Rank.TheVariants.{Task}
use Rattle.p10_cert.specs.Claims.{Loop}
use Rattle.p10_meaning.specs.Values.{Held}
use Rattle.p10_absx.specs.Abstract.{Abstract, only_range}
use Rattle.p10_absx.specs.Environments.{Environment, known}
use Rattle.p10_absx.specs.Describing.{DescribesVariable}
use Rattle.p10_pass.specs.Claiming.{ranges_hold, ranges_hold_reached}
use Rattle.p10_pass.specs.Passing.{Manner, Round, rank_fails}
use Rattle.p10_turns.specs.LoopParts.{LoopParts, round_under}

-- the ranges of an environment describe what the variables of a frame hold, whatever its offsets are
pub record RangesDescribe (variables : List PlainVariable) (env : Environment) (held : List Held) : Type 0 where
  pub each : (n : ℕ) (a : Abstract) → known env n ≡ Some a → DescribesVariable variables [] held n (only_range a.range)

-- whether a claim is of a loop that ends, and not of the task loop, whose turns have no bound
abbrev pub is_ranked : Rank → Bool
is_ranked Task = false
is_ranked rank = true

-- in a round of a loop nothing fails in its parts: neither calls (K3) nor `return`s (K5), nor the ranges of inner loops (K6, K7)
pub record PartsHold (r : Round) : Type 0 where
  pub calls : r.names ≡ []
  pub results : r.body.results ≡ []
  pub entries : r.body.entries ≡ []
  pub backs : r.body.backs ≡ []

-- from an entry environment a pass in some manner finds that nothing fails in the loop's parts, that the claimed ranges hold at entry and
-- again on each way back (K6, K7), and that the rank bounds the turns (K8 to K10)
pub record StandsByRank (m : Manner) (claim : Loop) (l : LoopParts) (entry : Environment) : Type 0 where
  pub ranked : is_ranked claim.rank ≡ true
  pub parts : PartsHold (round_under m claim l entry)
  pub at_entry : ranges_hold claim 0 m.variables entry ≡ true
  pub on_back : ranges_hold_reached claim m.variables (round_under m claim l entry).back ≡ true
  pub rank_holds : rank_fails claim l.head.span entry (round_under m claim l entry) ≡ []
