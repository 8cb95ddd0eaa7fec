-- Violations in order, each once.
use Rattle.std.proofs.Common.{◌≡◌, ◌==◌, List, Bool, true, ◌&&◌, sym, ◌∙◌, subst, rules}
use Rattle.std.specs.Prelude.{◌↔◌, IsPermutation}
use Rattle.std.specs.Cmp.{IsTotalOrder, IsEquivalence}
use Rattle.std.specs.Cmp.Rules.{comparing}
use Rattle.std.specs.Ordering.{eq_by_cmp}
use Rattle.std.specs.List.{Contains, dedup}
use Rattle.std.specs.List.Sorted.{IsSorted, IsStrictlySortedBy}
use Rattle.std.proofs.lemmas.Bool.{and_parts, eqb-true}
use Rattle.std.proofs.lemmas.Cmp.{eq_by_cmp_equiv}
use Rattle.std.proofs.lemmas.List.Kept.{Contains-dedup, Contains-from_dedup, IsStrictlySortedBy-dedup}
use Rattle.std.proofs.lemmas.List.Sorted.{Contains-permutation, IsPermutation-sym}
use Rattle.p10_base.specs.declared.report.Violation.{Violation}
use Rattle.p10_base.specs.Order.{violation_cmp}

-- the derived equality of violations
abbrev pub same : Violation → Violation → Bool
same x y = ((x.sub.rule == y.sub.rule) && (x.sub.sub == y.sub.sub)) && ((x.span.file == y.span.file) && ((x.span.start == y.span.start) && (x.span.end == y.span.end)))

total : IsTotalOrder violation_cmp
total = search (comparing, rules) depth 9

ties : (x y : Violation) → same x y ≡ eq_by_cmp violation_cmp x y
ties = search (comparing, rules) depth 9

equivalence : IsEquivalence same
equivalence =
    let base = eq_by_cmp_equiv total in
    record {
      refl = λ x. ties x x ∙ base.refl x;
      symm = λ x y. ties x y ∙ base.symm x y ∙ sym (ties y x);
      congr = λ x y z e. ties x z ∙ base.congr x y z (sym (ties x y) ∙ e) ∙ sym (ties y z);
    }

one_violation : (x y : Violation) → same x y ≡ true → x ≡ y
one_violation x y e =
    let all = and_parts ((x.sub.rule == y.sub.rule) && (x.sub.sub == y.sub.sub)) ((x.span.file == y.span.file) && ((x.span.start == y.span.start) && (x.span.end == y.span.end))) e in
    let sub = and_parts (x.sub.rule == y.sub.rule) (x.sub.sub == y.sub.sub) all.0 in
    let span = and_parts (x.span.file == y.span.file) ((x.span.start == y.span.start) && (x.span.end == y.span.end)) all.1 in
    let ends = and_parts (x.span.start == y.span.start) (x.span.end == y.span.end) span.1 in
    let rule = eqb-true x.sub.rule y.sub.rule sub.0 in
    let row = eqb-true x.sub.sub y.sub.sub sub.1 in
    let file = eqb-true x.span.file y.span.file span.0 in
    let start = eqb-true x.span.start y.span.start ends.0 in
    let end = eqb-true x.span.end y.span.end ends.1 in
    λ i. record { sub = record { rule = rule i; sub = row i }; span = record { file = file i; start = start i; end = end i } }

pub strictly_sorted : (sorted found : List Violation) → IsSorted violation_cmp sorted → found ≡ dedup same sorted → IsStrictlySortedBy violation_cmp found
strictly_sorted sorted found is e = subst (IsStrictlySortedBy violation_cmp) (sym e) (IsStrictlySortedBy-dedup total ties sorted is)

pub still_exact : (P : Violation → Type 0) (all sorted found : List Violation) → ((v : Violation) → Contains all v ↔ P v) → IsPermutation all sorted → found ≡ dedup same sorted → (v : Violation) → Contains found v ↔ P v
still_exact P all sorted found exact moved e v = (
  (λ held. (exact v).0 (Contains-permutation sorted all v (IsPermutation-sym all sorted moved) (Contains-from_dedup same sorted v (subst (λ l. Contains l v) e held)))),
  (λ holds. subst (λ l. Contains l v) (sym e) (Contains-dedup equivalence one_violation sorted v (Contains-permutation all sorted v moved ((exact v).1 holds)))),
)
