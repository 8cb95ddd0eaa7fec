use Rattle.std.proofs.Common.{◌≡◌, List, map, sym, ◌∙◌, ap, subst}
use Rattle.std.proofs.lemmas.Option.{get_or_from_slice_get}
use Rattle.p10_core.specs.Views.{plain_program}
use Rattle.p10_cert.specs.declared.claims.FuncClaim.{FuncClaim}
use Rattle.p10_cert.specs.Claims.{Func, func_of, claims_of}
use Rattle.p10_absx.proofs.Entries.{get_below}
use Rattle.p10_sums.specs.Sums.{sum_at}
use Rattle.p10_finder.specs.Functions.{counted_sum, total_of}
use Rattle.p10_finder.specs.Answers.{AreClaims}
use Rattle.p10_finder.specs.private.Counting.{with_sums}
use Rattle.p10_finder.proofs.Counted.{are_claims}
use Rattle.p10_approach.specs.Offers.{offers_if}
use Rattle.p10_finder.proofs.counting.Ranked.certificate.Goals as goal

pub count_all-requires-clause-claims : goal.count_all-requires-clause-claims
count_all-requires-clause-claims c =
    ap (λ (l : List FuncClaim). map func_of l) c.of.ensures ∙ (c.in_ok-funcs.ensures ∙ (ap (λ (l : List FuncClaim). with_sums (map func_of l) c.as_slice-2.result.now) c.as_slice.ensures ∙ ap (with_sums (map func_of c.args.self.now.claims.now.funcs)) c.as_slice-2.ensures.value))

pub returns : goal.returns
returns c =
    let self = c.args.self.now in
    let p = plain_program self.calls.program.now in
    let counted = c.in_ok-count_all.ensures in
    let sums = c.count_all.new.sums.items in
    let total : c.total_of-total.result ≡ total_of (counted_sum (sum_at p (with_sums (map func_of self.claims.now.funcs) sums) p.main)) =
    c.total_of-total.ensures ∙ ap total_of (c.index.ensures ∙ get_or_from_slice_get sums p.main _ c.index.result.now (counted.right.counted p.main (get_below p.functions p.main c.requires.whole.main.function c.requires.whole.main.there))) in
    subst (λ (fs : List Func). AreClaims (offers_if self.calls.approaching) p (record { funcs = fs; total = c.total_of-total.result })) (sym counted.claims)
    (are_claims (offers_if self.calls.approaching) p (claims_of self.claims.now) self.ranks.now self.calls.numbers.now c.requires.claims c.requires.ranks sums counted.right c.total_of-total.result total)
