use Rattle.p10_base.specs.Words.{plain_word}
use Rattle.p10_macros.specs.Table.{same_word}
use Rattle.p10_macros.proofs.Tables.{lists_same}
use Rattle.p10_macros.proofs.same.same_words.Goals as goal

pub returns-then-these-those : goal.returns-then-these-those
returns-then-these-those c = lists_same plain_word same_word c.args.these.now c.args.those.now c.each_word.result c.if-these-those.true c.each_word.ensures
