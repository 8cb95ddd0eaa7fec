use Rattle.std.proofs.Common.{sym, ◌∙◌}
use Rattle.p10_macros.proofs.Links.{last_separating, last_opening, last_other}
use Rattle.p10_macros.proofs.ahead.Ahead.exits.Goals as goal

pub returns-then-is_punctuator-2 : goal.returns-then-is_punctuator-2
returns-then-is_punctuator-2 c =
    last_separating _ c.args.self.now.words.items _ c.as_slice.ensures.value c.in-len1-up.len_at_least c.args.self.now.linked _
    c.count-then-is_punctuator-2.ensures (sym c.is_punctuator-else-is_punctuator.ensures ∙ c.if-is_punctuator-2.true)

pub returns-then-is_punctuator-3 : goal.returns-then-is_punctuator-3
returns-then-is_punctuator-3 c =
    last_opening _ c.args.self.now.words.items _ c.as_slice.ensures.value c.in-len1-up.len_at_least c.args.self.now.linked _
    c.exits_after.ensures (sym c.is_punctuator-else-is_punctuator-2.ensures ∙ c.if-is_punctuator-3.true)

pub returns-else-is_punctuator-3 : goal.returns-else-is_punctuator-3
returns-else-is_punctuator-3 c =
    last_other _ c.args.self.now.words.items _ c.as_slice.ensures.value c.in-len1-up.len_at_least c.args.self.now.linked
    (sym c.is_punctuator-else-is_punctuator-2.ensures ∙ c.if-is_punctuator-3.false) (sym c.is_punctuator.ensures ∙ c.if-is_punctuator.false) (sym c.is_punctuator-else-is_punctuator.ensures ∙ c.if-is_punctuator-2.false)
