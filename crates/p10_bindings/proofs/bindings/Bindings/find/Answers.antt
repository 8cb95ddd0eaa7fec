use Rattle.std.proofs.Common.{◌∙◌, sym, ap}
use Rattle.p10_bindings.specs.Bound.{what_at}
use Rattle.p10_bindings.proofs.Linking.{known_name, unknown_spelling}
use Rattle.p10_bindings.proofs.bindings.Bindings.find.Goals as goal

pub returns-in-Some : goal.returns-in-Some
returns-in-Some g c =
    known_name _ _ _ _ c.in-Some.spelling _ c.args.self.now.linked (sym c.in-Some.is ∙ c.place.ensures) (c.what_at.ensures ∙ ap (what_at c.args.self.now.entries.items) c.last_at.ensures)

pub returns-in-None : goal.returns-in-None
returns-in-None g c = unknown_spelling _ _ _ _ c.args.self.now.linked (sym c.in-None.is ∙ c.place.ensures)
