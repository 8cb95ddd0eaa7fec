use Rattle.std.proofs.Common.{map}
use Rattle.p10_base.specs.Words.{plain_word}
use Rattle.p10_expand.proofs.Including.{refused_none}
use Rattle.p10_expand.proofs.includes.include_of.Goals as goal

pub returns-in-Err-Refused : goal.returns-in-Err-Refused
returns-in-Err-Refused c = refused_none (map plain_word c.args.line.now) c.in-Err-Refused.field-0-0 c.one_outcome.ensures (rw c.in-Err-Refused.field-0-is at c.in-Err-Refused.ensures.refused)
