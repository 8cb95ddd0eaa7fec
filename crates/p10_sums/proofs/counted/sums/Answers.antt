use Rattle.std.proofs.Common.{List, map, length, sym, ◌∙◌, ap, subst}
use Rattle.std.proofs.lemmas.List.{length-map}
use Rattle.std.proofs.lemmas.Result.{err_from_is_err_and}
use Rattle.p10_core.specs.Views.{plain_program, plain_function}
use Rattle.p10_cert.specs.declared.claims.FuncClaim.{FuncClaim}
use Rattle.p10_cert.specs.Claims.{func_of}
use Rattle.p10_sums.specs.declared.sum.FuncSum.{FuncSum}
use Rattle.p10_sums.specs.Sums.{all_sums, IsFault}
use Rattle.p10_sums.proofs.Listing.{Lists, lists_start, lists_next, lists_fault}
use Rattle.p10_sums.proofs.counted.sums.Goals as goal

pub loop-number-init : goal.loop-number-init
loop-number-init c =
    let P : List FuncSum → Type 0 = λ found. Lists (plain_program c.args.program.now) (map func_of c.as_slice-functions.result.now) found 0 (length c.as_slice-number-end.result.now) in
    subst P (sym c.new-found.ensures.items) (lists_start (plain_program c.args.program.now) (map func_of c.as_slice-functions.result.now) (length c.as_slice-number-end.result.now)
    (length-map c.args.program.now.functions plain_function ∙ ap length (sym c.as_slice-number-end.ensures)))

pub loop-number-preserved : goal.loop-number-preserved
loop-number-preserved c =
    lists_next (plain_program c.args.program.now) (map func_of c.as_slice-functions.result.now) c.loop-number.found.items c.push_sum.new.found.items c.loop-number.number (length c.as_slice-number-end.result.now)
    c.loop-number-test.true c.loop-number.invariant c.in_ok-push_sum.ensures.sum c.in_ok-push_sum.ensures.within

pub returns-in_err-push_sum-clause-fault : goal.returns-in_err-push_sum-clause-fault
returns-in_err-push_sum-clause-fault c =
    let p = err_from_is_err_and c.from_residual.result c.from_residual.ensures.1 in
    let P : List FuncClaim → Type 0 = λ fs. IsFault (all_sums (plain_program c.args.program.now) (map func_of fs)) c.in_err-push_sum.field-0.0 in
    rw (p.1, p.2) (subst P c.as_slice-functions.ensures (lists_fault (plain_program c.args.program.now) (map func_of c.as_slice-functions.result.now) c.loop-number.found.items c.loop-number.number (length c.as_slice-number-end.result.now)
    c.in_err-push_sum.field-0.0 c.loop-number-test.true c.loop-number.invariant c.in_err-push_sum.ensures.fault))
