use Rattle.p10_elabx.proofs.Refusing.{function_joins}
use Rattle.p10_elabx.proofs.parameters.function_judged.Goals as goal

pub returns : goal.returns
returns c =
    function_joins c.args.site.at c.args.site.name_at c.args.site.parentheses c.args.site.lacking c.args.site.made _ _ _ _ _ _ _
    c.given_found-given.ensures c.function_found-found.ensures c.is_of_aggregate.ensures c.shape_refused-found.ensures c.shape_refused.ensures
