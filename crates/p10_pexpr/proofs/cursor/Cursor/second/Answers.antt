use Rattle.std.proofs.Common.{drop, ap, ◌∙◌}
use Rattle.p10_pexpr.specs.Fronts.{first}
use Rattle.p10_pexpr.proofs.LeftWords.{next_symbols, past_symbols}
use Rattle.p10_pexpr.proofs.cursor.Cursor.second.Goals as goal

pub returns-then-self : goal.returns-then-self
returns-then-self c = c.at.ensures ∙ ap first (next_symbols c.self.inside.place c.self.inside.tokens.now ∙ ap (drop 1) c.self.view_is)

pub returns-else-self : goal.returns-else-self
returns-else-self c = past_symbols c.self.inside.place c.self.inside.tokens.now c.if-self.false ∙ ap (λ x. first (drop 1 x)) c.self.view_is
