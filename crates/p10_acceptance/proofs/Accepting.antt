-- A certificate that is derived is accepted by the evidence of ranges.
use Rattle.std.proofs.Common.{◌≡◌, ℕ, zero, suc, ◌+◌, ◌<◌, ◌≤◌, length, Bool, true, false, not, List, [], ◌∷◌, ◌++◌, map, take, Some, refl, ap, sym, ◌∙◌, subst, inl, inr, arith}
use Rattle.std.specs.Prelude.{slice_get, if◌then◌else◌, ◌&&◌, ◌||◌, nat_eq}
use Rattle.std.specs.List.{Contains}
use Rattle.std.proofs.lemmas.Option.{same_Some, none-some}
use Rattle.std.proofs.lemmas.Bool.{cases_lt}
use Rattle.p10_base.specs.declared.span.Span.{Span}
use Rattle.p10_base.specs.declared.at.At.{At}
use Rattle.p10_base.specs.declared.report.Sub.{Sub}
use Rattle.p10_base.specs.declared.report.TheConstants.Limit.{MOST_SUM}
use Rattle.p10_core.specs.Typed.{PlainVariable, PlainFunction, PlainProgram}
use Rattle.p10_core.specs.WholePrograms.{IsWholeProgram}
use Rattle.p10_calls.proofs.Lists.{none_in, here, there as later}
use Rattle.p10_cert.specs.Claims.{Value, Loop, Func, Claims}
use Rattle.p10_cert.specs.Certificate.{IsCertificate}
use Rattle.p10_cert.proofs.TextLaws.{text_tells_claims}
use Rattle.p10_absx.specs.Entering.{claims_on}
use Rattle.p10_sums.specs.Counting.{alloc_claimed}
use Rattle.p10_sums.specs.Depths.{effect_of}
use Rattle.p10_sums.specs.Sums.{function_sum, sum_at}
use Rattle.p10_flowrules.specs.declared.calls.AnyCall.{AnyCall}
use Rattle.p10_flowrules.specs.Allocating.{late_calls, AreLateAllocations}
use Rattle.p10_flowrules.specs.TaskExits.{task_exits}
use Rattle.p10_flowrules.specs.FlowRows.{task_row, allocation_row, task_end, late_allocation}
use Rattle.p10_turns.specs.Ranked.{is_ranked}
use Rattle.p10_turns.specs.Evidence.{stands_by_ranges}
use Rattle.p10_turns.specs.Laws.{IsLawful}
use Rattle.p10_turns.proofs.Bounded.{ranges_lawful}
use Rattle.p10_diff.proofs.Lawful.{differences_lawful}
use Rattle.p10_check.specs.Places.{place_if, places_from, name_at}
use Rattle.p10_check.specs.Shapes.{has_some, wrong_main, has_hidden_effect, late_names, hidden_effects}
use Rattle.p10_check.specs.declared.verdict.Verdict.TheVariants.{Accepted}
use Rattle.p10_check.specs.Conditions.{IsVerdict}
use Rattle.p10_check.specs.Passes.{Standing}
use Rattle.p10_check.specs.Accepting.{Holds}
use Rattle.p10_check.proofs.Holding.{holding_accepts}
use Rattle.p10_soundness.proofs.Sound.{accepted_bound}
use Rattle.p10_derived_texts.proofs.Texts.{derived_have_text}
use Rattle.p10_candidates.specs.Trials.{counted}
use Rattle.p10_finder.specs.Functions.{any_value, loops_of, with_turn_steps}
use Rattle.p10_finder.specs.Answers.{ViolatesBounds, no_bound, flow, AreClaims, IsCertified}
use Rattle.p10_finder.specs.Ranking.{ranks_of}
use Rattle.p10_finder.proofs.OneClaims.{claims_have_results}
use Rattle.p10_acceptance.specs.Laws.{SupportedCertificatesHold, DerivedCertificatesHold, DerivedCertificatesAreAccepted, DerivedCertificatesBoundRuns, DerivedTextsAreAccepted}
use Rattle.p10_acceptance.specs.Supporting.{Supports, standing_if}
use Rattle.p10_acceptance.proofs.Results.{is_there, there_below, mapped_at, claim_there}
use Rattle.p10_acceptance.proofs.Functions.{ranked_same, function_holds}
use Rattle.p10_acceptance.proofs.Calls.{none_passes, ranks_hold}
use Rattle.p10_acceptance.proofs.Speaking.{speaks}
use Rattle.p10_acceptance.proofs.Differing.{differences_support}
use Rattle.p10_acceptance.proofs.Summing.{steps_hold, depths_hold, total_holds}
use Rattle.p10_approach.specs.Offers.{Offers, AreOffers, no_offers, approach_offers, offers_if}

-- ## Lists

got : {A : Type 0} (xs : List A) (k : ℕ) (x : A) → slice_get xs k ≡ Some x → Contains xs x
got [] k x e = absurd (none-some _ e)
got {A} (y ∷ xs) zero x e = subst (λ (z : A). Contains (y ∷ xs) z) (same_Some _ _ e) (here y xs)
got (y ∷ xs) (suc k) x e = later y xs x (got xs k x e)

-- a list has no element that can't be
nothing_in : {A : Type 0} (xs : List A) → ((x : A) → Contains xs x → ⊥) → xs ≡ []
nothing_in [] h = refl
nothing_in (x ∷ xs) h = absurd (h x (here x xs))

no_places : (places : ℕ → PlainFunction → List Span) (k : ℕ) (fs : List PlainFunction) → ((i : ℕ) (f : PlainFunction) → slice_get fs i ≡ Some f → places (k + i) f ≡ []) → places_from places k fs ≡ []
no_places places k [] h = refl
no_places places k (f ∷ fs) h =
    let first : places k f ≡ [] = subst (λ (n : ℕ). places n f ≡ []) (plain k) (h 0 f refl) in
    ap (λ xs. xs ++ places_from places (k + 1) fs) first ∙ no_places places (k + 1) fs (λ i g e. subst (λ (n : ℕ). places n g ≡ []) (moved k i) (h (suc i) g e))
  where
    plain : (k : ℕ) → k + 0 ≡ k
    plain k = omega arith

    moved : (k i : ℕ) → k + suc i ≡ k + 1 + i
    moved k i = omega arith

-- ## The certificate

module _ (o : Offers) (are : AreOffers o) (p : PlainProgram) (whole : IsWholeProgram p) (c : Claims) (k : IsCertified o p c) where
  is : AreClaims o p c
  is = k.claims.claims

  no_violation : (sub : Sub) (span : Span) → ViolatesBounds o p c sub span → ⊥
  no_violation sub span v = none_in (record { sub = sub; span = span }) ((k.claims.lawful.exact (record { sub = sub; span = span })).1 v)

  bounded : (n : ℕ) (f : PlainFunction) → slice_get p.functions n ≡ Some f → (loops_of o p c n f).unbounded ≡ []
  bounded n f there = nothing_in (loops_of o p c n f).unbounded (λ span held. no_violation _ span (no_bound span (record { number = n; function = f; there = there; lacks = held })))

  short : (n : ℕ) (f : PlainFunction) → slice_get p.functions n ≡ Some f → (j : ℕ) (l : Loop) → slice_get (loops_of o p c n f).claims j ≡ Some l → is_ranked l.rank ≡ true → l.turns ≤ MOST_SUM
  short n f there j l e ranked = elim (cases_lt MOST_SUM l.turns) [
    | inr low ↦ low
    | inl long ↦
        let same : length c.funcs ≡ length p.functions = (claims_have_results o p c is).each in
        let inside : n < length p.functions = there_below p.functions n f there in
        let a = is_there c.funcs n (omega (arith, same, inside)) in
        let loops : a.0.loops ≡ map (with_turn_steps (counted (sum_at p c.funcs n).turn)) (loops_of o p c n f).claims = ap (λ (x : Func). x.loops) (is.each n f a.0 there a.1) in
        let held : Contains a.0.loops l = got a.0.loops j l (ap (λ (ls : List Loop). slice_get ls j) loops ∙ (mapped_at (with_turn_steps (counted (sum_at p c.funcs n).turn)) (loops_of o p c n f).claims j l e ∙ ap Some (ranked_same (counted (sum_at p c.funcs n).turn) l ranked))) in
        absurd (k.sums (inr (record { func = a.0; loop = l; among = got c.funcs n a.0 a.1; inside = held; long = long })))
  ]

  -- ## `main`

  no_exits : task_exits p ≡ []
  no_exits = nothing_in (task_exits p) (λ at held. no_violation task_row at.span (flow task_row at.span (task_end at.span (record { at = at; leaves = held; span_is = refl }))))

  no_parameters : claims_on (slice_get c.funcs p.main) ≡ []
  no_parameters =
      let main = whole.main in
      let a = claim_there o are p whole c is bounded short p.main main.function main.there in
      ap claims_on a.1 ∙ (ap (λ (x : Func). x.params) (is.each p.main main.function a.0 main.there a.1) ∙ ap (λ (n : ℕ). map any_value (map (λ (v : PlainVariable). v.type) (take n main.function.variables))) main.is.no_parameters)

  -- K4
  main_holds : wrong_main p c.funcs ≡ []
  main_holds = ap (λ (l : List Value). place_if (has_some l || has_some (task_exits p)) (name_at p p.main)) no_parameters ∙ ap (λ (l : List At). place_if (has_some l) (name_at p p.main)) no_exits

  -- ## Allocation

  none_late : AreLateAllocations p []
  none_late = record {
    test = λ x. false;
    exact = λ x held. ((λ e. absurd cc), (λ a. absurd (no_violation allocation_row x.at.span (flow allocation_row x.at.span (late_allocation x.at.span (record { call = x; late = held; allocating = a; span_is = refl }))))));
    are = sym (none_passes (λ x. false) (late_calls p) (λ x held. refl));
  }

  not_hidden : (b : Bool) → b && not b ≡ false
  not_hidden true = refl
  not_hidden false = refl

  no_late : (n : ℕ) → late_names p [] n ≡ []
  no_late n = at (nat_eq n p.main)
    where
      at : (b : Bool) → (if b then map (λ (x : AnyCall). x.name) [] else []) ≡ []
      at true = refl
      at false = refl

  -- K13
  effects_hold : hidden_effects p c.funcs [] ≡ []
  effects_hold = no_places (λ n f. place_if (has_hidden_effect c.funcs n f) f.span ++ late_names p [] n) 0 p.functions (λ i f there.
      let a = claim_there o are p whole c is bounded short i f there in
      let alloc : alloc_claimed (slice_get c.funcs i) ≡ effect_of c.funcs f = ap alloc_claimed a.1 ∙ (ap (λ (x : Func). x.alloc) (is.each i f a.0 there a.1) ∙ ap (λ o. (function_sum p c.funcs i o).alloc) there) in
      subst (λ (n : ℕ). place_if (has_hidden_effect c.funcs n f) f.span ++ late_names p [] n ≡ []) (plain i)
      (ap (λ b. place_if (effect_of c.funcs f && not b) f.span ++ late_names p [] i) alloc
      ∙ (ap (λ b. place_if b f.span ++ late_names p [] i) (not_hidden (effect_of c.funcs f)) ∙ no_late i)))
    where
      plain : (i : ℕ) → i ≡ 0 + i
      plain i = omega arith

  -- ## All conditions

  pub all_hold : (stands : Standing) → Supports o stands p c → Holds stands p c
  all_hold stands supports = record {
    fits = speaks o are p whole c is bounded short;
    ranks = ranks_hold o p whole c is;
    main = main_holds;
    functions = λ n f there.
        let a = claim_there o are p whole c is bounded short n f there in
        let h = function_holds o are p whole c is bounded short stands supports n f there a.0 a.1 in
        record {
          arguments = h.arguments;
          results = h.results;
          entries = h.entries;
          backs = h.backs;
          entered = h.ranked 8;
          falling = h.ranked 9;
          turns = h.ranked 10;
          steps = steps_hold o are p whole c is bounded short (λ x. k.sums (inl x)) n f there a.0 a.1;
          depths = depths_hold o are p whole c is bounded short (λ x. k.sums (inl x)) n f there a.0 a.1;
        };
    late = [];
    late_are = none_late;
    effects = effects_hold;
    total = total_holds o are p whole c is bounded short (λ x. k.sums (inl x));
  }

-- ## The laws

pub supported_hold : SupportedCertificatesHold
supported_hold o stands p whole c k supports = all_hold o supports.are p whole c k stands supports

-- where nothing is offered, the evidence of ranges is enough
ranges_support : (p : PlainProgram) (c : Claims) → Supports no_offers (stands_by_ranges p) p c
ranges_support p c = record { are = λ n f k depth parts l. tt; by_ranges = λ n k entry l e. e; by_offers = λ n f there k depth parts l a placed e marked offered. absurd (none-some _ offered) }

supports_if : (diff : Bool) (p : PlainProgram) (c : Claims) → Supports (offers_if diff) (standing_if diff p c) p c
supports_if false p c = ranges_support p c
supports_if true p c = differences_support p c

lawful_if : (diff : Bool) (p : PlainProgram) → IsWholeProgram p → (c : Claims) → IsLawful p (standing_if diff p c)
lawful_if false p whole c = ranges_lawful p whole
lawful_if true p whole c = differences_lawful p whole (ranks_of approach_offers p c)

pub derived_hold : DerivedCertificatesHold
derived_hold diff p whole c k = supported_hold (offers_if diff) (standing_if diff p c) p whole c k (supports_if diff p c)

pub derived_are_accepted : DerivedCertificatesAreAccepted
derived_are_accepted diff p whole c k = holding_accepts (standing_if diff p c) p c (derived_hold diff p whole c k)

pub derived_bound : DerivedCertificatesBoundRuns
derived_bound diff p whole c k = accepted_bound p whole (standing_if diff p c) (lawful_if diff p whole c) c c.total (derived_are_accepted diff p whole c k)

pub derived_texts_accepted : DerivedTextsAreAccepted
derived_texts_accepted p whole named c k =
    let text : IsCertificate c = derived_have_text no_offers (λ n f k depth parts l. tt) p whole named c k in (
      text,
      λ d other same.
          let claims : d ≡ c = text_tells_claims d c other text same in
          subst (λ (x : Claims). IsVerdict (stands_by_ranges p) p x (Accepted c.total)) (sym claims) (derived_are_accepted false p whole c k),
    )
