use Rattle.std.proofs.Common.{map, ap, ◌∙◌}
use Rattle.p10_base.specs.Words.{plain_word}
use Rattle.p10_expand.specs.private.Steps.{state_of, texts_in}
use Rattle.p10_expand.proofs.InOrder.{items_run}
use Rattle.p10_expand.proofs.expansion.run.expand_run.Goals as goal

pub returns-in_ok-items-clause-gives : goal.returns-in_ok-items-clause-gives
returns-in_ok-items-clause-gives c =
    items_run c.args.built_in (state_of c.args.state.now) (map plain_word c.args.words.now) (map plain_word c.deref.result.now) (texts_in c.new_items.new.given.items) c.expand_text.result c.expand_text.new.state c.if-built_in.true
    (ap (map plain_word) c.deref.ensures.value ∙ c.in_ok-items.ensures.words) c.in_ok-items.ensures.given c.expand_text.ensures.gives
