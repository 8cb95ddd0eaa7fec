use Rattle.p10_macros.specs.private.KnownMacros.{plain_known}
use Rattle.p10_macros.specs.private.Putting.{part_of}
use Rattle.p10_macros.proofs.Results.{if_ok_so, if_err_so}
use Rattle.p10_macros.specs.private.Traces.{lists_of}
use Rattle.p10_macros.proofs.Putting.{puts_along, short_along}
use Rattle.p10_macros.proofs.Replacing.{gives_none}
use Rattle.p10_macros.proofs.replacement.put_chosen.Goals as goal

pub returns-clause-ok : goal.returns-clause-ok
returns-clause-ok c =
    if_ok_so c.put_list.result c.put_list.ensures.ok (λ remaining puts.
    puts_along _ _ _ _ _ _ (c.in_ok-chosen.ensures.whole (part_of (plain_known c.args.known.now) (lists_of c.args.values.now) c.args.site.at c.args.site.from) (λ word none. gives_none _ _ none)) puts)

pub returns-clause-err : goal.returns-clause-err
returns-clause-err c =
    if_err_so c.put_list.result c.put_list.ensures.err (λ f short.
    short_along _ _ _ f (c.in_ok-chosen.ensures.whole (part_of (plain_known c.args.known.now) (lists_of c.args.values.now) c.args.site.at c.args.site.from) (λ word none. gives_none _ _ none)) short)
