-- The sum is counted under the claims, and put among them.
use Rattle.std.proofs.Common.{◌≡◌, ◌∙◌, ◌<◌, List, length, map, Some, ap, sym, subst, arith}
use Rattle.std.specs.Prelude.{slice_get, slice_set}
use Rattle.std.proofs.Math.ListN.{length-set}
use Rattle.std.proofs.lemmas.List.{length-map, map-set}
use Rattle.std.proofs.lemmas.Option.{slice_get-get_or}
use Rattle.p10_core.specs.Views.{plain_function, plain_program}
use Rattle.p10_cert.specs.declared.claims.FuncClaim.{FuncClaim}
use Rattle.p10_cert.specs.Claims.{Func, func_of}
use Rattle.p10_absx.proofs.Entries.{get_map}
use Rattle.p10_sums.specs.Sums.{sum_at}
use Rattle.p10_finder.specs.Functions.{counted_sum}
use Rattle.p10_finder.proofs.Counted.{sum_is}
use Rattle.p10_finder.proofs.Listing.{with_sums_set}
use Rattle.p10_finder.proofs.counting.Ranked.count_once.Goals as goal

pub returns-clause-sums : goal.returns-clause-sums
returns-clause-sums c =
    let p = plain_program c.args.self.now.calls.program.now in
    let made = c.capped_sum_of-sum.result in
    let e = c.capped_sum_of-sum.ensures in
    ap (slice_set c.args.sums.now.items c.args.node)
    (sum_is made (sum_at p (map func_of c.args.claims.now.funcs) c.args.node) e.steps e.calls e.bytes e.alloc e.turn ∙ ap (λ (fs : List Func). counted_sum (sum_at p fs c.args.node)) c.requires.claims)

pub returns-clause-each : goal.returns-clause-each
returns-clause-each c = length-set c.args.sums.now.items c.args.node c.capped_sum_of-sum.result ∙ c.requires.each

pub returns-clause-claims : goal.returns-clause-claims
returns-clause-claims c =
    let self = c.args.self.now in
    let made = c.capped_sum_of-sum.result in
    let all = c.as_slice-unsummed.result.now in
    let x = c.index-unsummed-node.result in
    let count : length (map func_of self.claims.now.funcs) ≡ length (plain_program self.calls.program.now).functions = c.requires.ranked.claims.each in
    let mapped = length-map self.claims.now.funcs func_of in
    let functions = length-map self.calls.program.now.functions plain_function in
    let inside : c.args.node < length self.claims.now.funcs = omega (arith, c.requires.there, count, mapped, functions) in
    let within : c.args.node < length all = subst (λ (fs : List FuncClaim). c.args.node < length fs) (sym c.as_slice-unsummed.ensures) inside in
    let there : slice_get (map func_of self.claims.now.funcs) c.args.node ≡ Some (func_of x) =
    ap (λ (fs : List FuncClaim). slice_get (map func_of fs) c.args.node) (sym c.as_slice-unsummed.ensures) ∙ get_map func_of all c.args.node x (slice_get-get_or all c.args.node x within ∙ ap Some (sym c.index-unsummed-node.is)) in
    ap (map func_of) c.exchange.ensures.put
    ∙ map-set func_of c.args.claims.now.funcs c.args.node c.in_ok-claim.claim
    ∙ (λ i. slice_set (c.requires.claims i) c.args.node (c.in_ok-claim.ensures i))
    ∙ with_sums_set (map func_of self.claims.now.funcs) c.args.sums.now.items c.args.node (func_of x) made there
