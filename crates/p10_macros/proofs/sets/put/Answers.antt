use Rattle.std.proofs.Common.{◌∙◌}
use Rattle.p10_macros.proofs.Blocks.{put_part, below_put}
use Rattle.p10_macros.proofs.sets.put.Goals as goal

pub returns-clause-part : goal.returns-clause-part
returns-clause-part c = λ less. put_part _ _ _ c.len.result c.in_ok-push.ensures.items (c.len.ensures ∙ c.push.new.self.ok.0) less

pub returns-clause-below : goal.returns-clause-below
returns-clause-below c = λ bound below bits. below_put _ _ _ bound c.in_ok-push.ensures.items below bits
