use Rattle.std.proofs.Common.{map}
use Rattle.p10_base.specs.Words.{plain_word}
use Rattle.p10_macros.proofs.Fronts.{fronts_give}
use Rattle.p10_expand.specs.private.Steps.{state_of}
use Rattle.p10_expand.proofs.Before.{refused_so}
use Rattle.p10_expand.proofs.expansion.run.expand_text.Goals as goal

pub returns-in_ok-expand_before-in-Err-Refused-clause-gives : goal.returns-in_ok-expand_before-in-Err-Refused-clause-gives
returns-in_ok-expand_before-in-Err-Refused-clause-gives c =
    λ order. refused_so (state_of c.args.state.now) (state_of c.expand_before.new.state) (map plain_word c.args.words.now) c.in-Err-Refused.refusal fronts_give order (rw c.in-Err-Refused.field-0-is at c.in-Err-Refused.ensures.refused) c.in_ok-expand_before-in-Err-Refused.ensures
