-- The result is what is found where the claims stand.
use Rattle.std.proofs.Common.{◌≡◌, ◌∙◌, ◌<◌, List, length, map, Some, ap, sym, subst}
use Rattle.std.specs.Prelude.{slice_get}
use Rattle.std.proofs.lemmas.Option.{slice_get-get_or}
use Rattle.p10_core.specs.declared.program.Func.{Func as CodeFunc}
use Rattle.p10_core.specs.Views.{plain_function, plain_program}
use Rattle.p10_cert.specs.Claims.{claims_of}
use Rattle.p10_absx.proofs.Entries.{get_map}
use Rattle.p10_finder.specs.Functions.{result_of}
use Rattle.p10_finder.specs.private.Settling.{bare_claim, with_claim}
use Rattle.p10_finder.proofs.Settled.{one_function}
use Rattle.p10_approach.specs.Offers.{offers_if}
use Rattle.p10_finder.proofs.calls.Calls.find.Goals as goal

pub returns : goal.returns
returns c =
    let p = plain_program c.args.self.now.program.now in
    let all = c.as_slice.result.now in
    let claims = claims_of c.args.claims.now in
    let x = c.index-as_slice-node.result in
    let within : c.args.node < length all = subst (λ (fs : List CodeFunc). c.args.node < length fs) (sym c.as_slice.ensures) c.requires in
    let there : slice_get all c.args.node ≡ Some x = slice_get-get_or all c.args.node x within ∙ ap Some (sym c.index-as_slice-node.is) in
    let got : slice_get p.functions c.args.node ≡ Some (plain_function x) = ap (λ (fs : List CodeFunc). slice_get (map plain_function fs) c.args.node) (sym c.as_slice.ensures) ∙ get_map plain_function all c.args.node x there in
    λ f is.
    let one : plain_function x ≡ f = one_function (plain_function x) f (sym got ∙ is) in
    c.in_ok-put_result.ensures ∙ ap (with_claim claims c.args.node) (λ i. bare_claim (one i) ((c.in_ok-found.ensures.result ∙ ap (result_of (offers_if c.args.self.now.approaching) p claims c.args.node) one) i))
