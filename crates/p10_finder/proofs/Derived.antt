-- What is derived of a program.
use Rattle.std.proofs.Common.{◌≡◌, inl, inr, true, false, List, [], ◌∷◌, refl, sym, ◌∙◌, subst}
use Rattle.std.specs.List.{Contains, All}
use Rattle.p10_base.specs.declared.report.Limit.{Limit}
use Rattle.p10_base.specs.declared.report.Violation.{Violation}
use Rattle.p10_base.specs.declared.report.TheConstants.Limit.{SUM}
use Rattle.p10_core.specs.Typed.{PlainProgram}
use Rattle.p10_calls.specs.declared.sites.CallSite.{CallSite}
use Rattle.p10_calls.specs.CallSites.{call_sites}
use Rattle.p10_calls.specs.Recursion.{IsRecursiveCall, AreRecursiveCalls}
use Rattle.p10_calls.proofs.Lists.{here, none_in, passed}
use Rattle.p10_cert.specs.Claims.{Claims, claims_of}
use Rattle.p10_flowrules.specs.FlowRows.{recursion, recursion_row}
use Rattle.p10_sums.specs.declared.sum.FuncSum.{FuncSum}
use Rattle.p10_sums.specs.Sums.{HasPassing, keeps_limit, all_sums}
use Rattle.p10_diff.specs.Evidence.{Rank}
use Rattle.p10_finder.specs.declared.found.Found.{Found}
use Rattle.p10_finder.specs.declared.found.Found.TheVariants.{Certificate, Violations}
use Rattle.p10_finder.specs.declared.found.FinderFault.{FinderFault}
use Rattle.p10_finder.specs.declared.found.FinderFault.TheVariants as fault
use Rattle.p10_finder.specs.Answers.{HaveResults, flow, AreViolations, AreClaims, Claiming, PassesSum, IsViolating, IsDerived}
use Rattle.p10_finder.specs.Finding.{derived_of, HasRanks, IsFault}
use Rattle.p10_finder.specs.Ranking.{ranks_of}
use Rattle.p10_finder.specs.private.Limits.{IsPassed, long_among}
use Rattle.p10_finder.proofs.OneAnswer.{violates_same}
use Rattle.p10_finder.proofs.OneClaims.{claims_have_results}
use Rattle.p10_finder.proofs.OneResult.{results_same}
use Rattle.p10_finder.proofs.RanksFound.{ranks_same}
use Rattle.p10_finder.proofs.Long.{among_here, among_there}
use Rattle.p10_approach.specs.Offers.{Offers}

-- ## No violations

-- a program without violations has no recursive calls
pub no_recursion : (o : Offers) (p : PlainProgram) (c : Claims) (calls : List CallSite) → AreViolations o p c [] → AreRecursiveCalls p calls → (calls ≡ [] → ⊥) → ⊥
no_recursion o p c [] lawful are some = some refl
no_recursion o p c (call ∷ rest) lawful are some =
    let held : Contains (call ∷ rest) call = here call rest in
    let among = passed are.test (call_sites p) call (subst (λ xs. Contains xs call) are.are held) in
    let recursive : IsRecursiveCall p call = (are.exact call among.0).0 among.1 in
    none_in (record { sub = recursion_row; span = call.call.name })
    ((lawful.exact (record { sub = recursion_row; span = call.call.name })).1 (flow recursion_row call.call.name (recursion call.call.name (record { call = call; stands = among.0; recursive = recursive; span_is = refl }))))

-- the same violations are there under the claims of the certificate
pub claiming : (o : Offers) (p : PlainProgram) (results c : Claims) → HaveResults o p results → AreViolations o p results [] → AreClaims o p c → Claiming o p c
claiming o p results c right lawful are = record {
  claims = are;
  lawful = record {
    sorted = lawful.sorted;
    exact = λ v. (
      (λ held. absurd (none_in v held)),
      (λ violates. (lawful.exact v).1 (violates_same o p c results (claims_have_results o p c are) right v.sub v.span violates)),
    );
  };
}

pub violating : (o : Offers) (p : PlainProgram) (c : Claims) (found : List Violation) → HaveResults o p c → AreViolations o p c found → (found ≡ [] → ⊥) → IsViolating o p found
violating o p c found right all some = record { all = record { claims = c; right = right; all = all }; some = some }

-- ## Limits

-- a fault, where this certificate exceeds the limit
pub passed_fault : (o : Offers) (p : PlainProgram) (c : Claims) (why : FinderFault) → Claiming o p c → IsPassed p c why → IsFault o p why
passed_fault o p c (fault.Over limit) claims passes = record { certificate = c; claims = claims; passes = passes }
passed_fault o p c fault.Memory claims passes = tt

-- no sum exceeds the limit, and no loop has too many turns
pub keeps_sums : (p : PlainProgram) (c : Claims) (sums : List FuncSum) → sums ≡ all_sums p c.funcs → All (λ s. keeps_limit s ≡ true) sums → long_among c.funcs ≡ false → PassesSum p c → ⊥
keeps_sums p c sums are within short (inl passing) =
    let held : Contains sums passing.sum = subst (λ xs. Contains xs passing.sum) (sym are) passing.among in
    let keeps : keeps_limit passing.sum ≡ true = kept sums passing.sum within held in
    let over : keeps_limit passing.sum ≡ false = passing.passes in
    absurd cc
  where
    kept : (xs : List FuncSum) (x : FuncSum) → All (λ s. keeps_limit s ≡ true) xs → Contains xs x → keeps_limit x ≡ true
    kept xs x all (k, inside, is) = subst (λ (s : FuncSum). keeps_limit s ≡ true) is (all k x inside)
keeps_sums p c sums are within short (inr long) = let yes : long_among c.funcs ≡ true = among_here c.funcs long in absurd cc

pub sum_passed : (p : PlainProgram) (c : Claims) (limit : Limit) → (limit ≡ SUM) × HasPassing (all_sums p c.funcs) → IsPassed p c (fault.Over limit)
sum_passed p c limit (is, passing) = inl (is, inl passing)

pub turns_passed : (p : PlainProgram) (c : Claims) → long_among c.funcs ≡ true → IsPassed p c (fault.Over SUM)
turns_passed p c long = inl (refl, inr (among_there c.funcs long))

-- the ranks that are found where the results stand are those of the certificate
pub ranks_found : (o : Offers) (p : PlainProgram) (results : Claims) (found : Found) (ranks : List Rank) → HaveResults o p results → IsDerived o p (derived_of found) → ranks ≡ ranks_of o p results → HasRanks o p found ranks
ranks_found o p results (Certificate c) ranks right derived are =
    are ∙ ranks_same o p results (claims_of c) (results_same o p results (claims_of c) right (claims_have_results o p (claims_of c) derived.claims.claims)) 0 p.functions
ranks_found o p results (Violations found) ranks right derived are = tt
