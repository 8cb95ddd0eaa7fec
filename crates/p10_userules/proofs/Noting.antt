-- Noting occurrences, from the last to the first.
use Rattle.std.proofs.Common.{◌≡◌, ◌≢◌, ℕ, zero, suc, ◌+◌, ◌<◌, ◌==◌, List, [], ◌∷◌, length, drop, get_or, Bool, true, false, if◌then◌else◌, Option, Some, None, refl, sym, ◌∙◌, ap, subst, arith, ◌⊎◌, inl, inr}
use Rattle.std.specs.Prelude.{slice_get, slice_set}
use Rattle.std.proofs.Math.Seq.{drop-cons}
use Rattle.std.proofs.lemmas.Bool.{eqb-true, eqb-false}
use Rattle.p10_userules.specs.declared.occurrences.Referent.{Referent}
use Rattle.p10_userules.specs.declared.occurrences.Referent.TheVariants.{Variable, Object}
use Rattle.p10_userules.specs.declared.occurrences.Occurrence.{Occurrence}
use Rattle.p10_userules.specs.declared.spreads.Spread.{Spread}
use Rattle.p10_userules.specs.declared.spreads.Kind.{Kind}
use Rattle.p10_userules.specs.declared.spreads.Kind.TheVariants.{Variables, Objects}
use Rattle.p10_userules.specs.Occurrences.{is_same_referent}
use Rattle.p10_userules.specs.private.Spreads.{joined, spread_of, numbered, number_of_kind, put_first, note_first, AreSpreads, spreads_from}

abbrev is_number : ℕ → Option ℕ → Bool
is_number n None = false
is_number n (Some m) = n == m

same_by_number : (kind : Kind) (n : ℕ) (x : Referent) → is_same_referent (numbered kind n) x ≡ is_number n (number_of_kind kind x)
same_by_number Variables n (Variable m) = refl
same_by_number Variables n (Object m) = refl
same_by_number Objects n (Variable m) = refl
same_by_number Objects n (Object m) = refl

-- ## Lists in which one element is set

set_same : {A : Type 0} (xs : List A) (i : ℕ) (a : A) → i < length xs → slice_get (slice_set xs i a) i ≡ Some a
set_same [] i a h = absurd (omega (arith, h))
set_same (x ∷ xs) zero a h = refl
set_same (x ∷ xs) (suc i) a h = set_same xs i a (omega (arith, h))

set_other : {A : Type 0} (xs : List A) (i k : ℕ) (a : A) → k ≢ i → slice_get (slice_set xs i a) k ≡ slice_get xs k
set_other [] i k a h = refl
set_other (x ∷ xs) zero zero a h = absurd (h refl)
set_other (x ∷ xs) zero (suc k) a h = refl
set_other (x ∷ xs) (suc i) zero a h = refl
set_other (x ∷ xs) (suc i) (suc k) a h = set_other xs i k a (λ e. h (ap suc e))

set_length : {A : Type 0} (xs : List A) (i : ℕ) (a : A) → length (slice_set xs i a) ≡ length xs
set_length [] i a = refl
set_length (x ∷ xs) zero a = refl
set_length (x ∷ xs) (suc i) a = ap suc (set_length xs i a)

-- ## One occurrence more

equal_or_not : (n m : ℕ) → (n ≡ m) ⊎ (n ≢ m)
equal_or_not zero zero = inl refl
equal_or_not zero (suc m) = inr (λ e. absurd cc)
equal_or_not (suc n) zero = inr (λ e. absurd cc)
equal_or_not (suc n) (suc m) = elim (equal_or_not n m) [ inl e ↦ inl (ap suc e) | inr h ↦ inr (λ e. h (omega (arith, e))) ]

equal_itself : (n : ℕ) → (n == n) ≡ true
equal_itself n = by_test (n == n) refl where
  by_test : (b : Bool) → (n == n) ≡ b → (n == n) ≡ true
  by_test true e = e
  by_test false e = absurd (eqb-false n n e refl)

not_equal : (n m : ℕ) → n ≢ m → (n == m) ≡ false
not_equal n m h = by_test (n == m) refl where
  by_test : (b : Bool) → (n == m) ≡ b → (n == m) ≡ false
  by_test false e = e
  by_test true e = absurd (h (eqb-true n m e))

noted_length : (spreads : List (Option Spread)) (number : Option ℕ) (first : Spread) → length (note_first spreads number first) ≡ length spreads
noted_length spreads None first = refl
noted_length spreads (Some n) first = by_get (slice_get spreads n) where
  by_get : (o : Option (Option Spread)) → length (put_first spreads n o first) ≡ length spreads
  by_get None = refl
  by_get (Some later) = set_length spreads n (joined (Some first) later)

abbrev when : Bool → Spread → Option Spread
when b first = if b then Some first else None

noted_get : (spreads : List (Option Spread)) (number : Option ℕ) (first : Spread) (n : ℕ) (old : Option Spread) → n < length spreads → slice_get spreads n ≡ Some old
    → slice_get (note_first spreads number first) n ≡ Some (joined (when (is_number n number) first) old)
noted_get spreads None first n old h is = is
noted_get spreads (Some m) first n old h is = elim (equal_or_not n m) [ inl e ↦ same e | inr apart ↦ other apart ] where
  same : n ≡ m → slice_get (note_first spreads (Some m) first) n ≡ Some (joined (when (n == m) first) old)
  same e =
      let at : slice_get spreads m ≡ Some old = subst (λ k. slice_get spreads k ≡ Some old) e is in
      let in' : m < length spreads = subst (λ k. k < length spreads) e h in
      ap (slice_get (note_first spreads (Some m) first)) e
      ∙ ap (λ o. slice_get (put_first spreads m o first) m) at
      ∙ set_same spreads m (joined (Some first) old) in'
      ∙ ap (λ (b : Bool). Some (joined (when b first) old)) (sym (ap (λ k. n == k) (sym e) ∙ equal_itself n))

  unchanged : n ≢ m → (o : Option (Option Spread)) → slice_get (put_first spreads m o first) n ≡ slice_get spreads n
  unchanged apart None = refl
  unchanged apart (Some later) = set_other spreads m n (joined (Some first) later) apart

  other : n ≢ m → slice_get (note_first spreads (Some m) first) n ≡ Some (joined (when (n == m) first) old)
  other apart =
      unchanged apart (slice_get spreads m) ∙ is
      ∙ ap (λ (b : Bool). Some (joined (when b first) old)) (sym (not_equal n m apart))

-- what is known of the occurrences after one, and that one, is what is known of all
pub noted : (kind : Kind) (at : ℕ) (o : Occurrence) (rest : List Occurrence) (spreads : List (Option Spread)) → AreSpreads kind (at + 1) rest spreads
    → AreSpreads kind at (o ∷ rest) (note_first spreads (number_of_kind kind o.referent) (record { start = at; end = at + 1; checked = o.checked }))
noted kind at o rest spreads are n h =
    let first : Spread = record { start = at; end = at + 1; checked = o.checked } in
    let below : n < length spreads = subst (λ k. n < k) (noted_length spreads (number_of_kind kind o.referent) first) h in
    noted_get spreads (number_of_kind kind o.referent) first n (spread_of (at + 1) (numbered kind n) rest) below (are n below)
    ∙ ap (λ (b : Bool). Some (joined (when b first) (spread_of (at + 1) (numbered kind n) rest))) (sym (same_by_number kind n o.referent))

-- ## A turn of the loop

pub turned : (kind : Kind) (start before left : ℕ) (os : List Occurrence) (none o : Occurrence) (old new : List (Option Spread)) → before ≡ left + 1 → left < length os → o ≡ get_or os left none
    → AreSpreads kind (start + before) (drop before os) old → new ≡ note_first old (number_of_kind kind o.referent) (record { start = start + left; end = (start + left) + 1; checked = o.checked })
    → AreSpreads kind (start + left) (drop left os) new
turned kind start before left os none o old new e below is are made =
    let more : start + before ≡ (start + left) + 1 = omega (arith, e) in
    let next : before ≡ suc left = omega (arith, e) in
    let this : drop left os ≡ o ∷ drop before os = drop-cons os left none below ∙ ap (λ (x : Occurrence). x ∷ drop (suc left) os) (sym is) ∙ ap (λ k. o ∷ drop k os) (sym next) in
    subst (λ l. AreSpreads kind (start + left) l new) (sym this)
    (subst (AreSpreads kind (start + left) (o ∷ drop before os)) (sym made)
    (noted kind (start + left) o (drop before os) old (subst (λ k. AreSpreads kind k (drop before os) old) more are)))

pub turned_length : (old new : List (Option Spread)) (number : Option ℕ) (first : Spread) (count : ℕ) → length old ≡ count → new ≡ note_first old number first → length new ≡ count
turned_length old new number first count e made = ap length made ∙ noted_length old number first ∙ e

-- ## The whole list

from_get : (n : ℕ) (kind : Kind) (start : ℕ) (os : List Occurrence) (count : ℕ) (spreads : List (Option Spread)) → length spreads ≡ count
    → ((k : ℕ) → k < length spreads → slice_get spreads k ≡ Some (spread_of start (numbered kind (n + k)) os)) → spreads ≡ spreads_from n kind start os count
from_get n kind start os zero [] e get = refl
from_get n kind start os (suc count) [] e get = absurd (omega (arith, e))
from_get n kind start os zero (s ∷ ss) e get = absurd (omega (arith, e))
from_get n kind start os (suc count) (s ∷ ss) e get =
    let here : n + 0 ≡ n = omega arith in
    let first : s ≡ spread_of start (numbered kind n) os = some_same (get 0 (omega arith) ∙ ap (λ k. Some (spread_of start (numbered kind k) os)) here) in
    let rest : ss ≡ spreads_from (n + 1) kind start os count =
    from_get (n + 1) kind start os count ss (omega (arith, e)) (λ k h. get (suc k) (omega (arith, h)) ∙ ap (λ m. Some (spread_of start (numbered kind m) os)) (moved k)) in
    ap (λ x. x ∷ ss) first ∙ ap (λ l. spread_of start (numbered kind n) os ∷ l) rest where
      some_same : {A : Type 0} {x y : A} → Some x ≡ Some y → x ≡ y
      some_same {x} {y} e = cc

      moved : (k : ℕ) → n + suc k ≡ (n + 1) + k
      moved k = omega arith

pub all_noted : (kind : Kind) (start left : ℕ) (os : List Occurrence) (count : ℕ) (spreads : List (Option Spread)) → left ≡ 0 → length spreads ≡ count → AreSpreads kind (start + left) (drop left os) spreads
    → spreads ≡ spreads_from 0 kind start os count
all_noted kind start left os count spreads e l are =
    let here : start + left ≡ start = omega (arith, e) in
    let none : drop left os ≡ os = ap (λ k. drop k os) e in
    from_get 0 kind start os count spreads l
    (λ k h. are k h ∙ ap (λ m. Some (spread_of m (numbered kind k) (drop left os))) here ∙ ap (λ rest. Some (spread_of start (numbered kind k) rest)) none ∙ ap (λ m. Some (spread_of start (numbered kind m) os)) (sym (zero_more k))) where
      zero_more : (k : ℕ) → 0 + k ≡ k
      zero_more k = omega arith

-- where the occurrences of a thing lie, by its number
pub at_number : (n : ℕ) (kind : Kind) (start : ℕ) (os : List Occurrence) (count k : ℕ) → k < count → slice_get (spreads_from n kind start os count) k ≡ Some (spread_of start (numbered kind (n + k)) os)
at_number n kind start os zero k h = absurd (omega (arith, h))
at_number n kind start os (suc count) zero h = let here : n ≡ n + 0 = omega arith in ap (λ m. Some (spread_of start (numbered kind m) os)) here
at_number n kind start os (suc count) (suc k) h =
    let moved : (n + 1) + k ≡ n + suc k = omega arith in
    at_number (n + 1) kind start os count k (omega (arith, h)) ∙ ap (λ m. Some (spread_of start (numbered kind m) os)) moved

pub so_many : (n : ℕ) (kind : Kind) (start : ℕ) (os : List Occurrence) (count : ℕ) → length (spreads_from n kind start os count) ≡ count
so_many n kind start os zero = refl
so_many n kind start os (suc count) = ap suc (so_many (n + 1) kind start os count)
