-- A literal that is there is an object, wherever the numbers of literals begin.
use Rattle.std.proofs.Common.{◌+◌, sym, ◌∙◌, ap, map, option_map}
use Rattle.p10_core.specs.Views.{plain_literal}
use Rattle.p10_code.specs.ValueCode.{spot_of_literal}
use Rattle.p10_compile.proofs.Literals.{literal_is}
use Rattle.p10_compile.proofs.spots.spot_of_literal.Goals as goal

pub returns-in-Some : goal.returns-in-Some
returns-in-Some c from =
    ap spot_of_literal (sym (literal_is c.args.number from (map plain_literal c.args.literals.now) ∙ ap (λ o. option_map (λ j. from + j) o) (sym c.literal_place.ensures ∙ c.in-Some.is)))

pub returns-in-None : goal.returns-in-None
returns-in-None c from =
    ap spot_of_literal (sym (literal_is c.args.number from (map plain_literal c.args.literals.now) ∙ ap (λ o. option_map (λ j. from + j) o) (sym c.literal_place.ensures ∙ c.in-None.is)))
