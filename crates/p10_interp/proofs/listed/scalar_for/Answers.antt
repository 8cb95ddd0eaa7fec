-- What the list gives is converted, or nothing is given.
use Rattle.std.proofs.Common.{sym, ◌∙◌, map}
use Rattle.p10_core.specs.Views.{plain_item}
use Rattle.p10_interp.specs.private.Operations.{scalars_of_items}
use Rattle.p10_interp.proofs.Filled.{listed_found, listed_missing, if_ok_moved}
use Rattle.p10_interp.proofs.listed.scalar_for.Goals as goal

pub returns-in-Some-clause-value : goal.returns-in-Some-clause-value
returns-in-Some-clause-value c = λ t k.
    if_ok_moved c.convert_to_kind.result _ _ (listed_found c.args.number t (scalars_of_items (map plain_item c.args.listed.items.now) c.args.listed.values.now) c.in-Some.x (sym c.find_listed.ensures ∙ c.in-Some.is)) (c.convert_to_kind.ensures.value t k)

pub returns-in-None-clause-value : goal.returns-in-None-clause-value
returns-in-None-clause-value c = λ t k. c.zero_of_kind.ensures t k ∙ listed_missing c.args.number t (scalars_of_items (map plain_item c.args.listed.items.now) c.args.listed.values.now) (sym c.find_listed.ensures ∙ c.in-None.is)
