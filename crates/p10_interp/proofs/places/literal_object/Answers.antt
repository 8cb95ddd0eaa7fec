-- Literals stand after the objects of static lifetime.
use Rattle.std.proofs.Common.{◌+◌, sym, ◌∙◌, ap, map, option_map}
use Rattle.p10_core.specs.Views.{plain_literal}
use Rattle.p10_interp.proofs.Literals.{literal_is}
use Rattle.p10_interp.proofs.places.literal_object.Goals as goal

pub returns-in-Some : goal.returns-in-Some
returns-in-Some c =
    sym (literal_is c.args.number c.args.globals (map plain_literal c.args.literals.now) ∙ ap (λ o. option_map (λ j. c.args.globals + j) o) (sym c.literal_place.ensures ∙ c.in-Some.is))

pub returns-in-None : goal.returns-in-None
returns-in-None c =
    sym (literal_is c.args.number c.args.globals (map plain_literal c.args.literals.now) ∙ ap (λ o. option_map (λ j. c.args.globals + j) o) (sym c.literal_place.ensures ∙ c.in-None.is))
