use Rattle.std.proofs.Common.{List, ◌++◌, ◌∙◌, map, ap}
use Rattle.std.proofs.lemmas.List.{map-append}
use Rattle.p10_base.specs.Words.{PlainWord, plain_word}
use Rattle.p10_expand.specs.Obeying.{State}
use Rattle.p10_expand.specs.private.Steps.{state_of}
use Rattle.p10_expand.proofs.Before.{replaced_so, not_refused, not_too_many}
use Rattle.p10_expand.proofs.expansion.run.expand_before.Goals as goal

pub returns-in_ok-put_run-in-Ok : goal.returns-in_ok-put_run-in-Ok
returns-in_ok-put_run-in-Ok c = λ made left gives.
    ap (λ (all : List PlainWord). let new : State = record (state_of c.args.state.now) { words = all } in new)
    (ap (map plain_word) c.in_ok-put_run-in-Ok.ensures ∙ map-append plain_word c.args.state.now.words.items c.in-Ok.replaced.words.items
    ∙ ap (λ (run : List PlainWord). map plain_word c.args.state.now.words.items ++ run) (replaced_so _ _ _ _ c.count_before.ensures.words made left gives c.in-Ok.replaced c.in-Ok.ensures.replaced))

pub returns-in-Err-Refused : goal.returns-in-Err-Refused
returns-in-Err-Refused c = λ made left gives. absurd (not_refused _ _ _ _ c.count_before.ensures.words made left gives c.in-Err-Refused.field-0-0 (rw c.in-Err-Refused.field-0-is at c.in-Err-Refused.ensures.refused))

pub returns-in-Err-TooMany : goal.returns-in-Err-TooMany
returns-in-Err-TooMany c = λ made left gives. absurd (not_too_many _ _ _ _ c.count_before.ensures.words made left gives (rw c.in-Err-TooMany.field-0-is at c.in-Err-TooMany.ensures.refused))
