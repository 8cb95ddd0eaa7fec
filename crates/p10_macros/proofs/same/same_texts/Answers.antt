use Rattle.std.proofs.Common.{Bor, bytes_eq}
use Rattle.p10_base.specs.Words.{Text}
use Rattle.p10_macros.proofs.Tables.{lists_same}
use Rattle.p10_macros.proofs.same.same_texts.Goals as goal

pub returns-then-these-those : goal.returns-then-these-those
returns-then-these-those c = lists_same (λ (text : Bor Text). text.now) bytes_eq c.args.these.now c.args.those.now c.each_text.result c.if-these-those.true c.each_text.ensures
