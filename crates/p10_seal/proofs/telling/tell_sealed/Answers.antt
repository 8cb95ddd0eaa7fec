use Rattle.std.proofs.Common.{◌∙◌, ap, sym, Some}
use Rattle.p10_seal.proofs.Texts.{text_told, text_stopped, limit_told, limit_stopped}
use Rattle.p10_seal.proofs.telling.tell_sealed.Goals as goal

pub returns-in-Some-clause-told : goal.returns-in-Some-clause-told
returns-in-Some-clause-told g c = λ six. text_told c.args.text.now c.as_slice.result.now _ _ _ _ (c.in-Some.is ∙ ap Some (sym c.as_slice.ensures)) (c.tell_text.ensures.status six) (c.tell_text.ensures.told six)

pub returns-in-Some-clause-stopped : goal.returns-in-Some-clause-stopped
returns-in-Some-clause-stopped g c = λ six. text_stopped c.args.text.now c.as_slice.result.now _ _ _ (c.in-Some.is ∙ ap Some (sym c.as_slice.ensures)) (c.tell_text.ensures.stopped six)

pub returns-in-None-clause-told : goal.returns-in-None-clause-told
returns-in-None-clause-told g c = λ six. limit_told c.args.text.now _ _ _ _ c.in-None.is (c.tell_limit.ensures.told six)

pub returns-in-None-clause-stopped : goal.returns-in-None-clause-stopped
returns-in-None-clause-stopped g c = λ six. limit_stopped c.args.text.now _ _ _ c.in-None.is (c.tell_limit.ensures.stopped six)
