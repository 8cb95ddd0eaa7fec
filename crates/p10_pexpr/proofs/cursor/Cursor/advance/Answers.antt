use Rattle.std.proofs.Common.{drop, ap, ◌∙◌}
use Rattle.p10_pexpr.proofs.LeftWords.{next_symbols}
use Rattle.p10_pexpr.proofs.cursor.Cursor.advance.Goals as goal

pub returns-then-self : goal.returns-then-self
returns-then-self c = next_symbols c.self.inside.place c.self.inside.tokens.now ∙ ap (drop 1) c.self.view_is
