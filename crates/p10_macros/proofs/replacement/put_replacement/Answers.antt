use Rattle.p10_macros.proofs.SetsOfMacros.{extends_all}
use Rattle.p10_macros.proofs.Results.{if_ok_so, if_err_so}
use Rattle.p10_macros.specs.private.Traces.{lists_of}
use Rattle.p10_macros.proofs.Replacing.{puts_lighter, is_replacement, is_short}
use Rattle.p10_macros.proofs.replacement.put_replacement.Goals as goal

pub returns-clause-lighter : goal.returns-clause-lighter
returns-clause-lighter c = if_ok_so c.put_chosen.result c.put_chosen.ensures.ok (λ remaining puts. puts_lighter _ _ _ _ remaining puts)

pub returns-clause-grown : goal.returns-clause-grown
returns-clause-grown c = extends_all _ _ _ c.in_ok-from.ensures.grown c.in_ok-give_all.ensures.grown

pub returns-clause-ok : goal.returns-clause-ok
returns-clause-ok c =
    if_ok_so c.put_chosen.result c.put_chosen.ensures.ok (λ remaining puts.
    is_replacement _ _ _ c.args.known.now c.args.name (lists_of c.args.values.now) (lists_of c.give_all.new.values) c.in_ok-from.from
    c.in_ok-from.ensures.grown c.in_ok-give_all.ensures.grown c.in_ok-from.ensures.one c.in_ok-give_all.ensures.given _ _ _ remaining puts)

pub returns-clause-err : goal.returns-clause-err
returns-clause-err c =
    if_err_so c.put_chosen.result c.put_chosen.ensures.err (λ f short.
    is_short _ _ _ c.args.known.now c.args.name (lists_of c.args.values.now) (lists_of c.give_all.new.values) c.in_ok-from.from
    c.in_ok-from.ensures.grown c.in_ok-give_all.ensures.grown c.in_ok-from.ensures.one c.in_ok-give_all.ensures.given _ f short)

pub returns-in_err-give_all-clause-grown : goal.returns-in_err-give_all-clause-grown
returns-in_err-give_all-clause-grown c = extends_all _ _ _ c.in_ok-from.ensures.grown c.in_err-give_all.ensures.grown
