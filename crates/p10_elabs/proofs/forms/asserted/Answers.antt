use Rattle.std.proofs.Common.{◌≡◌, ◌∙◌, sym, subst}
use Rattle.p10_elabs.proofs.FormParts.{single, not_single}
use Rattle.p10_elabs.proofs.forms.asserted.Goals as goal

pub returns-then-count-eq1 : goal.returns-then-count-eq1
returns-then-count-eq1 c = single c.args.at c.args.values.items _ (sym (c.len-count.ensures ∙ c.args.values.ok.0) ∙ c.if-count-eq1.true) c.remove-v.ensures.value

pub returns : goal.returns
returns c = not_single c.args.at c.args.values.items (subst (λ n. n ≡ 1 → ⊥) (c.len-count.ensures ∙ c.args.values.ok.0) c.if-count-eq1.false)
