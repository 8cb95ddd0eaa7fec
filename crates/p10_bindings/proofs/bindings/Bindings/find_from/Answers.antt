use Rattle.std.proofs.Common.{◌∙◌, sym, ap}
use Rattle.p10_bindings.specs.Bound.{what_at}
use Rattle.p10_bindings.proofs.Later.{known_later, unknown_later}
use Rattle.p10_bindings.proofs.bindings.Bindings.find_from.Goals as goal

pub returns-in-Some : goal.returns-in-Some
returns-in-Some g c =
    known_later _ _ _ _ c.args.from c.in-Some.spelling _ _ c.args.self.now.linked (sym c.in-Some.is ∙ c.place.ensures) c.last_at.ensures
    (c.what_at.ensures ∙ ap (what_at c.args.self.now.entries.items) c.place_from.ensures)

pub returns-in-None : goal.returns-in-None
returns-in-None g c = unknown_later _ _ _ _ c.args.from c.args.self.now.linked (sym c.in-None.is ∙ c.place.ensures)
