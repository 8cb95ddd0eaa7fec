use Rattle.std.proofs.Common.{sym, ap, ◌∙◌, inl, inr, arith}
use Rattle.p10_macros.specs.declared.pending.Pending.{Pending}
use Rattle.p10_macros.proofs.Links.{past_at, none_at}
use Rattle.p10_macros.proofs.ahead.Ahead.exits_after.Goals as goal

pub returns-then-place-eq0 : goal.returns-then-place-eq0
returns-then-place-eq0 c = sym (none_at c.args.self.now.words.items c.args.place (inl c.if-place-eq0.true))

pub returns-then-place-count : goal.returns-then-place-count
returns-then-place-count c = sym (none_at c.args.self.now.words.items c.args.place (inr (omega (arith, c.if-place-count.true, c.count.ensures))))

pub returns : goal.returns
returns c = ap (λ (p : Pending). p.exits) c.index.ensures ∙ past_at c.args.self.now.words.items c.args.place _ (omega (arith, c.if-place-eq0.false)) (omega (arith, c.if-place-count.false, c.count.ensures))
