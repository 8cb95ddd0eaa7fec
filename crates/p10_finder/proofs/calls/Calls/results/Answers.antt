use Rattle.std.proofs.Common.{◌∙◌, List, map, sym, ap, subst, arith}
use Rattle.std.proofs.lemmas.List.{length-map}
use Rattle.p10_core.specs.declared.program.Func.{Func as CodeFunc}
use Rattle.p10_core.specs.Views.{plain_function, plain_program}
use Rattle.p10_cert.specs.declared.claims.ValueClaim.{ValueClaim}
use Rattle.p10_cert.specs.Claims.{value_of}
use Rattle.p10_finder.specs.Answers.{HaveResults}
use Rattle.p10_finder.specs.private.Settling.{any_results, claims_by}
use Rattle.p10_finder.proofs.Settled.{first_results, all_results}
use Rattle.p10_approach.specs.Offers.{offers_if}
use Rattle.p10_finder.proofs.calls.Calls.results.Goals as goal

pub loop-number-init : goal.loop-number-init
loop-number-init c =
    let self = c.args.self.now in
    let p = plain_program self.program.now in
    record {
      results = any_results p.functions;
      claims =
          c.in_ok-claims.ensures
          ∙ ap (λ (vs : List ValueClaim). claims_by (map plain_function c.as_slice-functions.result.now) (map value_of vs)) c.as_slice.ensures.value
          ∙ ap (claims_by (map plain_function c.as_slice-functions.result.now)) c.in_ok-results.ensures
          ∙ ap (λ (fs : List CodeFunc). claims_by (map plain_function fs) (any_results (map plain_function fs))) c.as_slice-functions.ensures;
      below = first_results (offers_if self.approaching) p self.graph.now self.numbers.now;
    }

pub returns : goal.returns
returns c =
    let self = c.args.self.now in
    let p = plain_program self.program.now in
    let nodes = c.requires.nodes ∙ sym (length-map self.program.now.functions plain_function) in
    let settled = c.loop-number.invariant in
    subst (HaveResults (offers_if self.approaching) p) (sym settled.claims)
    (all_results (offers_if self.approaching) p self.graph.now self.numbers.now nodes c.requires.edges c.count-end.ensures.whole c.requires.numbers settled.results c.loop-number.number (omega (arith, c.loop-number-test.false, c.count-end.ensures.count)) settled.below)
