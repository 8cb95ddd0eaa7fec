-- Answers of small programs.
use Rattle.std.proofs.Common.{◌≡◌, ℕ, ◌<◌, ◌≤◌, true, false, List, [], ◌∷◌, length, refl, sym, ◌∙◌, ap, subst, arith, inl, inr, lit≤}
use Rattle.std.specs.Prelude.{◌⊎◌}
use Rattle.std.specs.List.{Contains}
use Rattle.std.specs.Fmt.{digits}
use Rattle.std.specs.List.Sorted.{IsStrictlySortedBy}
use Rattle.p10_base.specs.declared.span.Span.{Span}
use Rattle.p10_base.specs.declared.report.Sub.{Sub}
use Rattle.p10_base.specs.declared.report.Violation.{Violation}
use Rattle.p10_base.specs.declared.report.TheConstants.Limit.{MOST_SUM, MOST_CERTIFICATE_BYTES}
use Rattle.p10_core.specs.Typed.{PlainProgram}
use Rattle.p10_range.specs.Rows.{fitted_interval}
use Rattle.p10_cert.specs.Lines.{line_then, text_of}
use Rattle.p10_cert.specs.Certificate.{certificate_text}
use Rattle.p10_cert.specs.Claims.{Loop, Func, Claims}
use Rattle.p10_meaning.specs.Examples.{span}
use Rattle.p10_meaning.specs.Costs.{summing}
use Rattle.p10_sums.specs.declared.sum.FuncSum.{FuncSum}
use Rattle.p10_sums.specs.Sums.{keeps_limit, HasPassing, all_sums}
use Rattle.p10_pass.specs.SmallPasses.{all_ints, wrapping}
use Rattle.p10_finder.specs.Answers.{bound_row, HaveResults, LacksBoundAt, ViolatesBounds, no_bound, AreViolations, AreClaims, HasLongLoop, PassesSum}
use Rattle.p10_finder.specs.Worked.{claiming}
use Rattle.p10_finder.specs.Whole.{certificate_with, summing_claim, unbounded_at, long_running, long_claim, AnswersOfEachKind}
use Rattle.p10_finder.proofs.Alone.{none_there, only_one, no_flow, lacks_alone, violates_alone, ranks_alone, results_alone, found_alone}
use Rattle.p10_approach.specs.Offers.{Offers, no_offers}

-- ## Violations

none_violated : (o : Offers) (p : PlainProgram) (c : Claims) → ((sub : Sub) (span : Span) → ViolatesBounds o p c sub span → (bound_row ≡ sub) × Contains [] span) → AreViolations o p c []
unfolding IsStrictlySortedBy
none_violated o p c all = record { sorted = tt; exact = λ v. (λ c. absurd (none_there v c), λ w. absurd (none_there v.span (all v.sub v.span w).1)) }

violates_at : (o : Offers) (p : PlainProgram) (c : Claims) (n : ℕ) → LacksBoundAt o p c (span n) → ((sub : Sub) (at : Span) → ViolatesBounds o p c sub at → (bound_row ≡ sub) × Contains (span n ∷ []) at) → AreViolations o p c (unbounded_at n ∷ [])
unfolding IsStrictlySortedBy
violates_at o p c n lacks all = record { sorted = (tt, tt); exact = λ v. (there v, back v) }
  where
    there : (v : Violation) → Contains (unbounded_at n ∷ []) v → ViolatesBounds o p c v.sub v.span
    there v h = subst (λ (w : Violation). ViolatesBounds o p c w.sub w.span) (only_one (unbounded_at n) v h) (no_bound (span n) lacks)

    same : (v : Violation) → bound_row ≡ v.sub → span n ≡ v.span → unbounded_at n ≡ v
    same v a b = λ i. record { sub = a i; span = b i }

    back : (v : Violation) → ViolatesBounds o p c v.sub v.span → Contains (unbounded_at n ∷ []) v
    back v w =
        let (sub_is, among) = all v.sub v.span w in
        subst (λ x. Contains (unbounded_at n ∷ []) x) (same v sub_is (only_one (span n) v.span among)) (0, omega arith, refl)

-- ## Limits

within_sums : (p : PlainProgram) (funcs : List Func) (s : FuncSum) (claim : Func) → all_sums p funcs ≡ s ∷ [] → keeps_limit s ≡ true → funcs ≡ claim ∷ [] →
    ((l : Loop) → Contains claim.loops l → l.turns ≤ MOST_SUM) → (HasPassing (all_sums p funcs) ⊎ HasLongLoop funcs) → ⊥
within_sums p funcs s claim one keeps claims short passing = elim passing as (λ _. ⊥) [
  | inl h ↦ let same : s ≡ h.sum = only_one s h.sum (subst (λ xs. Contains xs h.sum) one h.among) in let yes : keeps_limit h.sum ≡ true = ap keeps_limit (sym same) ∙ keeps in let no : keeps_limit h.sum ≡ false = h.passes in absurd cc
  | inr h ↦
      let same : claim ≡ h.func = only_one claim h.func (subst (λ xs. Contains xs h.func) claims h.among) in
      let most : h.loop.turns ≤ MOST_SUM = short h.loop (subst (λ (f : Func). Contains f.loops h.loop) (sym same) h.inside) in
      let more : MOST_SUM < h.loop.turns = h.long in
      omega arith
]

-- ## A certificate

-- its claims
summing_certificate : Claims
summing_certificate = certificate_with summing (summing_claim ∷ [])

summing_lacks : (at : Span) → LacksBoundAt no_offers summing summing_certificate at → Contains [] at
unfolding summing_certificate fitted_interval
summing_lacks at l = lacks_alone no_offers summing _ _ [] refl refl at l

summing_claims : AreClaims no_offers summing (certificate_with summing (summing_claim ∷ []))
unfolding fitted_interval
summing_claims = record { ranks = ranks_alone; each = found_alone no_offers summing _ _ summing_claim refl refl refl; total = refl }

summing_text : length (certificate_text (certificate_with summing (summing_claim ∷ []))) ≤ MOST_CERTIFICATE_BYTES
unfolding certificate_text text_of line_then digits
summing_text = lit≤ tt

summing_within : PassesSum summing (certificate_with summing (summing_claim ∷ [])) → ⊥
summing_within = within_sums summing _ _ summing_claim refl refl refl (λ l c. subst (λ (m : Loop). m.turns ≤ MOST_SUM) (only_one _ l c) (lit≤ tt))

-- ## A violation

-- claims with its result
wrapping_claims : Claims
wrapping_claims = certificate_with wrapping (claiming 0 0 0 0 [] all_ints [] ∷ [])

wrapping_right : HaveResults no_offers wrapping wrapping_claims
unfolding wrapping_claims fitted_interval
wrapping_right = results_alone no_offers wrapping _ wrapping_claims _ refl refl refl refl refl

wrapping_lacks : (at : Span) → LacksBoundAt no_offers wrapping wrapping_claims at → Contains (span 4 ∷ []) at
unfolding wrapping_claims fitted_interval
wrapping_lacks at l = lacks_alone no_offers wrapping _ _ (span 4 ∷ []) refl refl at l

wrapping_at : LacksBoundAt no_offers wrapping wrapping_claims (span 4)
unfolding wrapping_claims fitted_interval
wrapping_at = record {
  number = 0;
  function = _;
  there = refl;
  lacks = (0, omega arith, refl);
}

-- ## A limit

-- its claims
long_certificate : Claims
long_certificate = certificate_with long_running (long_claim ∷ [])

long_lacks : (at : Span) → LacksBoundAt no_offers long_running long_certificate at → Contains [] at
unfolding long_certificate fitted_interval
long_lacks at l = lacks_alone no_offers long_running _ _ [] refl refl at l

long_claims : AreClaims no_offers long_running (certificate_with long_running (long_claim ∷ []))
unfolding fitted_interval
long_claims = record { ranks = ranks_alone; each = found_alone no_offers long_running _ _ long_claim refl refl refl; total = refl }

long_passes : PassesSum long_running (certificate_with long_running (long_claim ∷ []))
long_passes = inl (record { sum = _; among = (0, omega arith, refl); passes = refl })

-- ## Answers

pub answers_of_each_kind : AnswersOfEachKind
unfolding summing_certificate long_certificate
answers_of_each_kind = record {
  certified = record {
    claims = record { claims = summing_claims; lawful = none_violated no_offers summing summing_certificate (violates_alone no_offers summing summing_certificate [] (no_flow summing refl refl refl) summing_lacks) };
    sums = summing_within;
    text = λ more. let most : length (certificate_text (certificate_with summing (summing_claim ∷ []))) ≤ MOST_CERTIFICATE_BYTES = summing_text in omega arith;
  };
  violating = record {
    all = record {
      claims = wrapping_claims;
      right = wrapping_right;
      all = violates_at no_offers wrapping wrapping_claims 4 wrapping_at (violates_alone no_offers wrapping wrapping_claims (span 4 ∷ []) (no_flow wrapping refl refl refl) wrapping_lacks);
    };
    some = λ e. absurd cc;
  };
  over = record {
    certificate = long_certificate;
    claims = record { claims = long_claims; lawful = none_violated no_offers long_running long_certificate (violates_alone no_offers long_running long_certificate [] (no_flow long_running refl refl refl) long_lacks) };
    passes = inl (refl, long_passes);
  };
}
