-- A search among stretches that follow one another.
use Rattle.std.proofs.Common.{◌≡◌, ℕ, zero, suc, ◌+◌, ◌<◌, ◌≤◌, List, [], ◌∷◌, length, get_or, Bool, true, false, ◌||◌, Some, refl, sym, ◌∙◌, ap, subst, arith, ◌⊎◌, inl, inr}
use Rattle.std.specs.Prelude.{nat_le}
use Rattle.std.specs.List.{list_any}
use Rattle.std.proofs.lemmas.Bool.{and_parts, leb-true}
use Rattle.p10_userules.specs.declared.parts.Stretch.{Stretch}
use Rattle.p10_userules.specs.declared.spreads.Spread.{Spread}
use Rattle.p10_userules.specs.private.Spreads.{lies_in, Rises, StretchesRise}

-- the places before `low` and from `high` on have no stretch in which all occurrences lie
pub record AllFail (s : Spread) (ts : List Stretch) (low high : ℕ) : Type 0 where
  pub inside : high ≤ length ts
  pub ordered : low ≤ high
  pub before : (k : ℕ) (d : Stretch) → k < low → lies_in (Some s) (get_or ts k d) ≡ false
  pub after : (k : ℕ) (d : Stretch) → high ≤ k → k < length ts → lies_in (Some s) (get_or ts k d) ≡ false

-- ## Stretches that rise

later_end : (from : ℕ) (ts : List Stretch) (to : ℕ) → Rises from ts to → (k : ℕ) (d : Stretch) → k < length ts → (from ≤ (get_or ts k d).start) × ((get_or ts k d).start ≤ (get_or ts k d).end)
later_end from [] to r k d h = absurd (omega (arith, h))
later_end from (t ∷ ts) to (low, ordered, rest) zero d h = (low, ordered)
later_end from (t ∷ ts) to (low, ordered, rest) (suc k) d h = let l = later_end t.end ts to rest k d (omega (arith, h)) in (omega (arith, low, ordered, l.0), l.1)

pub in_order : (from : ℕ) (ts : List Stretch) (to : ℕ) → Rises from ts to → (i j : ℕ) (d : Stretch) → i ≤ j → j < length ts
    → ((get_or ts i d).start ≤ (get_or ts j d).start) × ((get_or ts i d).end ≤ (get_or ts j d).end)
in_order from [] to r i j d h below = absurd (omega (arith, below))
in_order from (t ∷ ts) to r zero zero d h below = (omega arith, omega arith)
in_order from (t ∷ ts) to (low, ordered, rest) zero (suc j) d h below = let l = later_end t.end ts to rest j d (omega (arith, below)) in (omega (arith, ordered, l.0), omega (arith, l.0, l.1))
in_order from (t ∷ ts) to r (suc i) zero d h below = absurd (omega (arith, h))
in_order from (t ∷ ts) to (low, ordered, rest) (suc i) (suc j) d h below = in_order t.end ts to rest i j d (omega (arith, h)) (omega (arith, below))

-- ## Failing

fails : (s : Spread) (t : Stretch) → ((t.end < s.end) ⊎ (s.start < t.start)) → lies_in (Some s) t ≡ false
fails s t apart = by_test (lies_in (Some s) t) refl where
  by_test : (b : Bool) → lies_in (Some s) t ≡ b → lies_in (Some s) t ≡ false
  by_test false e = e
  by_test true e =
      let parts = and_parts (nat_le t.start s.start) (nat_le s.end t.end) e in
      let low : t.start ≤ s.start = leb-true t.start s.start parts.0 in
      let high : s.end ≤ t.end = leb-true s.end t.end parts.1 in
      absurd (elim apart [ inl before ↦ omega (arith, before, high) | inr after ↦ omega (arith, after, low) ])

-- the stretch at a place ends too early, and so do those before it
pub fail_lower : (s : Spread) (ts : List Stretch) (low high middle : ℕ) (none here : Stretch) → StretchesRise ts → AllFail s ts low high → low ≤ middle → middle < high → here ≡ get_or ts middle none → here.end < s.end → AllFail s ts (middle + 1) high
fail_lower s ts low high middle none here rising f above below is early = record {
  inside = f.inside;
  ordered = omega (arith, below);
  before = λ k d h.
      let order = in_order rising.from ts rising.to rising.rises k middle d (omega (arith, h)) (omega (arith, below, f.inside)) in
      let same : get_or ts middle d ≡ here = one_default ts middle d none (omega (arith, below, f.inside)) ∙ sym is in
      let end : (get_or ts k d).end ≤ here.end = subst (λ (t : Stretch). (get_or ts k d).end ≤ t.end) same order.1 in
      fails s (get_or ts k d) (inl (omega (arith, end, early)));
  after = f.after;
} where
  one_default : {A : Type 0} (xs : List A) (i : ℕ) (d e : A) → i < length xs → get_or xs i d ≡ get_or xs i e
  one_default [] i d e h = absurd (omega (arith, h))
  one_default (x ∷ xs) zero d e h = refl
  one_default (x ∷ xs) (suc i) d e h = one_default xs i d e (omega (arith, h))

-- the stretch at a place begins too late, and so do those after it
pub fail_upper : (s : Spread) (ts : List Stretch) (low high middle : ℕ) (none here : Stretch) → StretchesRise ts → AllFail s ts low high → low ≤ middle → middle < high → here ≡ get_or ts middle none → s.start < here.start → AllFail s ts low middle
fail_upper s ts low high middle none here rising f above below is late = record {
  inside = omega (arith, below, f.inside);
  ordered = above;
  before = f.before;
  after = λ k d h inside.
      let order = in_order rising.from ts rising.to rising.rises middle k d h inside in
      let same : get_or ts middle d ≡ here = one_default ts middle d none (omega (arith, below, f.inside)) ∙ sym is in
      let start : here.start ≤ (get_or ts k d).start = subst (λ (t : Stretch). t.start ≤ (get_or ts k d).start) same order.0 in
      fails s (get_or ts k d) (inr (omega (arith, start, late)));
} where
  one_default : {A : Type 0} (xs : List A) (i : ℕ) (d e : A) → i < length xs → get_or xs i d ≡ get_or xs i e
  one_default [] i d e h = absurd (omega (arith, h))
  one_default (x ∷ xs) zero d e h = refl
  one_default (x ∷ xs) (suc i) d e h = one_default xs i d e (omega (arith, h))

-- ## What is found

none_of : (s : Spread) (ts : List Stretch) → ((k : ℕ) (d : Stretch) → k < length ts → lies_in (Some s) (get_or ts k d) ≡ false) → list_any (lies_in (Some s)) ts ≡ false
none_of s [] all = refl
none_of s (t ∷ ts) all =
    ap (λ b. b || list_any (lies_in (Some s)) ts) (all 0 t (omega arith))
    ∙ none_of s ts (λ k d h. all (suc k) d (omega (arith, h)))

-- nothing is left
pub none_found : (s : Spread) (ts : List Stretch) (low high : ℕ) → AllFail s ts low high → high ≤ low → false ≡ list_any (lies_in (Some s)) ts
none_found s ts low high f done = sym (none_of s ts (λ k d h. elim (less_or k low) [ inl below ↦ f.before k d below | inr above ↦ f.after k d (omega (arith, above, done)) h ])) where
  less_or : (a b : ℕ) → (a < b) ⊎ (b ≤ a)
  less_or a zero = inr (omega arith)
  less_or zero (suc b) = inl (omega arith)
  less_or (suc a) (suc b) = elim (less_or a b) [ inl l ↦ inl (omega (arith, l)) | inr g ↦ inr (omega (arith, g)) ]
