use Rattle.std.proofs.Common.{◌≡◌, List, map, true, false, sym, ◌∙◌, ap}
use Rattle.p10_core.specs.Views.{plain_program}
use Rattle.p10_cert.specs.declared.claims.FuncClaim.{FuncClaim}
use Rattle.p10_cert.specs.Claims.{func_of, claims_of}
use Rattle.p10_finder.specs.private.Limits.{long_among}
use Rattle.p10_finder.proofs.Derived.{keeps_sums, turns_passed}
use Rattle.p10_finder.proofs.limits.keep_sums.Goals as goal

pub returns-then-has_long_loop-clause-fault : goal.returns-then-has_long_loop-clause-fault
returns-then-has_long_loop-clause-fault c =
    let long : long_among (map func_of c.args.certificate.now.funcs) ≡ true = ap (λ (fs : List FuncClaim). long_among (map func_of fs)) (sym c.as_slice.ensures) ∙ (sym c.has_long_loop.ensures ∙ c.if-has_long_loop.true) in
    turns_passed (plain_program c.args.program.now) (claims_of c.args.certificate.now) long

pub returns-in-Ok-clause-sums : goal.returns-in-Ok-clause-sums
returns-in-Ok-clause-sums c =
    let short : long_among (map func_of c.args.certificate.now.funcs) ≡ false = ap (λ (fs : List FuncClaim). long_among (map func_of fs)) (sym c.as_slice.ensures) ∙ (sym c.has_long_loop.ensures ∙ c.if-has_long_loop.false) in
    keeps_sums (plain_program c.args.program.now) (claims_of c.args.certificate.now) c.in-Ok.field-0.funcs c.in-Ok.ensures.sums c.in-Ok.ensures.within short
