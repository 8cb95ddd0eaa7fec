-- The loops without a bound of all functions, and the violations that they are.
use Rattle.std.proofs.Common.{◌≡◌, ℕ, zero, suc, ◌+◌, List, [], ◌∷◌, ◌++◌, map, Some, refl, sym, ◌∙◌, ap, subst, arith, inl, inr, add-zero}
use Rattle.std.specs.Prelude.{◌↔◌, slice_get, IsPermutation}
use Rattle.std.specs.List.{Contains, dedup}
use Rattle.std.specs.List.Sorted.{IsSorted}
use Rattle.std.proofs.lemmas.List.Elements.{Contains-append_left, Contains-append_right, Contains-append_cases}
use Rattle.p10_base.specs.declared.span.Span.{Span}
use Rattle.p10_base.specs.declared.report.Sub.{Sub}
use Rattle.p10_base.specs.declared.report.Violation.{Violation}
use Rattle.p10_base.specs.Order.{violation_cmp}
use Rattle.p10_core.specs.Typed.{PlainFunction, PlainProgram}
use Rattle.p10_calls.proofs.Lists.{none_in, mapped, mapped_from}
use Rattle.p10_cert.specs.Claims.{Claims}
use Rattle.p10_flowrules.specs.FlowRows.{ViolatesFlow}
use Rattle.p10_flowrules.proofs.FlowOrder.{same, strictly_sorted, still_exact}
use Rattle.p10_finder.specs.Functions.{loops_of}
use Rattle.p10_finder.specs.Answers.{ViolatesBounds, no_bound, flow, AreViolations}
use Rattle.p10_finder.specs.private.Judging.{lacking_from, unbounded_at}
use Rattle.p10_approach.specs.Offers.{Offers}

-- a loop without a bound in a function among some
pub record LacksAmong (o : Offers) (p : PlainProgram) (c : Claims) (n : ℕ) (fs : List PlainFunction) (s : Span) : Type 0 where
  pub place : ℕ
  pub function : PlainFunction
  pub there : slice_get fs place ≡ Some function
  pub lacks : Contains (loops_of o p c (n + place) function).unbounded s

pub lacks_among : (o : Offers) (p : PlainProgram) (c : Claims) (n : ℕ) (fs : List PlainFunction) (s : Span) → Contains (lacking_from o p c n fs) s → LacksAmong o p c n fs s
lacks_among o p c n [] s held = absurd (none_in s held)
lacks_among o p c n (f ∷ rest) s held = elim (Contains-append_cases (loops_of o p c n f).unbounded (lacking_from o p c (suc n) rest) s held) as (λ _. LacksAmong o p c n (f ∷ rest) s) [
  | inl first ↦ record { place = 0; function = f; there = refl; lacks = subst (λ k. Contains (loops_of o p c k f).unbounded s) (sym (add-zero n)) first }
  | inr later ↦
      let l : LacksAmong o p c (suc n) rest s = lacks_among o p c (suc n) rest s later in
      let same : suc n + l.place ≡ n + suc l.place = omega arith in
      record { place = suc l.place; function = l.function; there = l.there; lacks = subst (λ k. Contains (loops_of o p c k l.function).unbounded s) same l.lacks }
]

pub among_lacks : (o : Offers) (p : PlainProgram) (c : Claims) (n : ℕ) (fs : List PlainFunction) (s : Span) (k : ℕ) (f : PlainFunction) → slice_get fs k ≡ Some f → Contains (loops_of o p c (n + k) f).unbounded s → Contains (lacking_from o p c n fs) s
among_lacks o p c n [] s k f there held = absurd cc
among_lacks o p c n (g ∷ rest) s zero f there held =
    let is : g ≡ f = cc in
    Contains-append_left (loops_of o p c n g).unbounded (lacking_from o p c (suc n) rest) s
    (subst (λ (h : PlainFunction). Contains (loops_of o p c n h).unbounded s) (sym is) (subst (λ m. Contains (loops_of o p c m f).unbounded s) (add-zero n) held))
among_lacks o p c n (g ∷ rest) s (suc k) f there held =
    let same : n + suc k ≡ suc n + k = omega arith in
    Contains-append_right (loops_of o p c n g).unbounded (lacking_from o p c (suc n) rest) s (among_lacks o p c (suc n) rest s k f there (subst (λ m. Contains (loops_of o p c m f).unbounded s) same held))

-- the violations of the flow and those of these loops are all
pub all_listed : (o : Offers) (p : PlainProgram) (c : Claims) (found : List Violation) (spans : List Span) → ((v : Violation) → Contains found v ↔ ViolatesFlow p v.sub v.span) → spans ≡ lacking_from o p c 0 p.functions →
    (v : Violation) → Contains (found ++ map unbounded_at spans) v ↔ ViolatesBounds o p c v.sub v.span
all_listed o p c found spans exact are v = (listed, listed_back v.sub v.span)
  where
    listed : Contains (found ++ map unbounded_at spans) v → ViolatesBounds o p c v.sub v.span
    listed held = elim (Contains-append_cases found (map unbounded_at spans) v held) as (λ _. ViolatesBounds o p c v.sub v.span) [
      | inl first ↦ flow v.sub v.span ((exact v).0 first)
      | inr later ↦
          let at = mapped_from unbounded_at spans v later in
          let l : LacksAmong o p c 0 p.functions at.0 = lacks_among o p c 0 p.functions at.0 (subst (λ xs. Contains xs at.0) are at.1) in
          let same : 0 + l.place ≡ l.place = omega arith in
          subst (λ (w : Violation). ViolatesBounds o p c w.sub w.span) at.2
          (no_bound at.0 (record { number = l.place; function = l.function; there = l.there; lacks = subst (λ k. Contains (loops_of o p c k l.function).unbounded at.0) same l.lacks }))
    ]

    listed_back : (sub : Sub) (span : Span) → ViolatesBounds o p c sub span → Contains (found ++ map unbounded_at spans) (record { sub = sub; span = span })
    listed_back _ _ (no_bound span l) =
        let same : l.number ≡ 0 + l.number = omega arith in
        Contains-append_right found (map unbounded_at spans) (unbounded_at span)
        (mapped unbounded_at spans span (subst (λ xs. Contains xs span) (sym are) (among_lacks o p c 0 p.functions span l.number l.function l.there (subst (λ k. Contains (loops_of o p c k l.function).unbounded span) same l.lacks))))
    listed_back _ _ (flow sub span w) = Contains-append_left found (map unbounded_at spans) (record { sub = sub; span = span }) ((exact (record { sub = sub; span = span })).1 w)

-- the violations that are sorted, each once
pub all_in_order : (o : Offers) (p : PlainProgram) (c : Claims) (flows pushed sorted found : List Violation) (spans slice : List Span) → ((v : Violation) → Contains flows v ↔ ViolatesFlow p v.sub v.span) → spans ≡ lacking_from o p c 0 p.functions → slice ≡ spans →
    pushed ≡ flows ++ map unbounded_at slice → IsPermutation pushed sorted → IsSorted violation_cmp sorted → found ≡ dedup same sorted → AreViolations o p c found
all_in_order o p c flows pushed sorted found spans slice exact are lent put moved in_order e =
    let put_all : pushed ≡ flows ++ map unbounded_at spans = put ∙ ap (λ l. flows ++ map unbounded_at l) lent in
    let all : (v : Violation) → Contains pushed v ↔ ViolatesBounds o p c v.sub v.span = λ v. subst (λ l. Contains l v ↔ ViolatesBounds o p c v.sub v.span) (sym put_all) (all_listed o p c flows spans exact are v) in
    record { sorted = strictly_sorted sorted found in_order e; exact = still_exact (λ (v : Violation). ViolatesBounds o p c v.sub v.span) pushed sorted found all moved e }
