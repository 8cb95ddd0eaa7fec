use Rattle.std.proofs.Common.{◌≡◌, ◌+◌, ◌<◌, ◌≤◌, ◌++◌, ◌∷◌, [], List, length, map, sym, ◌∙◌, ap, arith, length-append}
use Rattle.std.specs.Prelude.{slice_get, slice_index}
use Rattle.std.proofs.lemmas.List.{length-map}
use Rattle.p10_core.specs.declared.program.Func.{Func as CodeFunc}
use Rattle.p10_core.specs.Views.{plain_function, plain_program}
use Rattle.p10_cert.specs.declared.claims.FuncClaim.{FuncClaim}
use Rattle.p10_cert.specs.Claims.{value_of, func_of, claims_of}
use Rattle.p10_absx.proofs.Entries.{get_below}
use Rattle.p10_finder.proofs.UnsummedClaims.{result_there, unsummed_more}
use Rattle.p10_approach.specs.Offers.{offers_if}
use Rattle.p10_finder.specs.Functions.{result_of}
use Rattle.p10_finder.specs.private.Counting.{result_in, unsummed_by}
use Rattle.p10_finder.proofs.unsummed.unsummed_claims.Goals as goal

pub loop-n-preserved : goal.loop-n-preserved
loop-n-preserved c =
    let o = offers_if c.args.approaching in
    let p = plain_program c.args.program.now in
    let results = claims_of c.args.results.now in
    let f = plain_function c.index-functions-n.result in
    let returned : value_of c.result_at-returned.result ≡ result_of o p results c.loop-n.n f =
    c.result_at-returned.ensures ∙ (ap (λ (claims : List FuncClaim). result_in (slice_get (map func_of claims) c.loop-n.n) f) c.as_slice-settled.ensures
    ∙ result_there o p results c.args.ranks.now c.as_slice-functions.result.now c.loop-n.n c.index-functions-n.result c.requires.ranks c.requires.right (ap (map plain_function) (sym c.as_slice-functions.ensures)) c.loop-n-test.true c.index-functions-n.is) in
    record {
      each =
          let put : c.push.new.self.items ≡ c.loop-n.funcs.items ++ c.in_ok-unsummed_claim.field-0 ∷ [] = c.in_ok-push.ensures.items in
          let size : length c.loop-n.funcs.items ≡ c.loop-n.n = c.loop-n.invariant.each in
          let more : length (c.loop-n.funcs.items ++ c.in_ok-unsummed_claim.field-0 ∷ []) ≡ length c.loop-n.funcs.items + 1 = length-append c.loop-n.funcs.items (c.in_ok-unsummed_claim.field-0 ∷ []) in
          ap (λ (l : List FuncClaim). length l) put ∙ omega (arith, size, more);
      claims = λ k f low got. unsummed_more (offers_if c.args.approaching) (plain_program c.args.program.now) (claims_of c.args.results.now) c.args.ranks.now c.as_slice-functions.result.now c.loop-n.n c.index-functions-n.result c.loop-n.funcs.items c.push.new.self.items
          c.in_ok-unsummed_claim.field-0 c.loop-n-test.true c.index-functions-n.is (c.in_ok-unsummed_claim.ensures ∙ (λ i. unsummed_by (c.in_ok-found.ensures i).claims (returned i) (slice_index c.args.ranks.now c.loop-n.n) (plain_function c.index-functions-n.result)))
          c.in_ok-push.ensures.items c.loop-n.invariant.each (λ m g below at. c.loop-n.invariant.claims m g below at) k f low got;
    }

pub returns : goal.returns
returns c =
    let slice : length c.as_slice-functions.result.now ≡ length c.args.program.now.functions = ap (λ (fs : List CodeFunc). length fs) c.as_slice-functions.ensures in
    let size : length (map plain_function c.args.program.now.functions) ≡ length c.args.program.now.functions = length-map c.args.program.now.functions plain_function in
    let past : length c.as_slice-functions.result.now ≤ c.loop-n.n = c.loop-n-test.false in
    let end : c.loop-n.n ≤ length c.as_slice-functions.result.now = c.loop-n.auto.n-end in
    let each : length c.loop-n.funcs.items ≡ c.loop-n.n = c.loop-n.invariant.each in
    let claims : length (map func_of c.loop-n.funcs.items) ≡ length c.loop-n.funcs.items = length-map c.loop-n.funcs.items func_of in
    record {
      each = ap (λ (l : List FuncClaim). length (map func_of l)) c.of.ensures ∙ omega (arith, slice, size, past, end, each, claims);
      claims = λ n f there.
          let low : n < length (map plain_function c.args.program.now.functions) = get_below (map plain_function c.args.program.now.functions) n f there in
          ap (λ (l : List FuncClaim). slice_get (map func_of l) n) c.of.ensures
          ∙ c.loop-n.invariant.claims n f (omega (arith, low, size, slice, past)) (ap (λ (fs : List CodeFunc). slice_get (map plain_function fs) n) c.as_slice-functions.ensures ∙ there);
    }
