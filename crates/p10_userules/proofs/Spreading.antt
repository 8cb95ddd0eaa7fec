-- Occurrences lie in a stretch from the first to the last exactly where what it stands for has all of them.
use Rattle.std.proofs.Common.{◌≡◌, ℕ, ◌+◌, ◌<◌, ◌≤◌, List, [], ◌∷◌, ◌++◌, length, Bool, true, false, ◌&&◌, if◌then◌else◌, Option, Some, None, option_map, refl, sym, ◌∙◌, ap, subst, arith}
use Rattle.std.specs.Prelude.{nat_le}
use Rattle.std.proofs.lemmas.Bool.{and_parts, leb-true, le-leb}
use Rattle.p10_userules.specs.declared.occurrences.Referent.{Referent}
use Rattle.p10_userules.specs.declared.occurrences.Occurrence.{Occurrence}
use Rattle.p10_userules.specs.declared.parts.Stretch.{Stretch}
use Rattle.p10_userules.specs.declared.spreads.Spread.{Spread}
use Rattle.p10_userules.specs.Occurrences.{is_same_referent, times, first_checked}
use Rattle.p10_userules.specs.Violations.{IsUsedOnlyIn}
use Rattle.p10_userules.specs.private.Spreads.{joined, spread_at, spread_of, lies_in}
use Rattle.p10_userules.specs.private.Laid.{Stands}

-- ## One list after another

joined_assoc : (a b c : Option Spread) → joined (joined a b) c ≡ joined a (joined b c)
joined_assoc None b c = refl
joined_assoc (Some a) None c = refl
joined_assoc (Some a) (Some b) None = refl
joined_assoc (Some a) (Some b) (Some c) = refl

pub spread_append : (i : ℕ) (x : Referent) (a b : List Occurrence) → spread_of i x (a ++ b) ≡ joined (spread_of i x a) (spread_of (i + length a) x b)
spread_append i x [] b = let same : i ≡ i + length {A = Occurrence} [] = omega arith in ap (λ n. spread_of n x b) same
spread_append i x (o ∷ a) b =
    let same : (i + 1) + length a ≡ i + length (o ∷ a) = omega arith in
    ap (joined (spread_at i x o)) (spread_append (i + 1) x a b ∙ ap (λ n. joined (spread_of (i + 1) x a) (spread_of n x b)) same)
    ∙ sym (joined_assoc (spread_at i x o) (spread_of (i + 1) x a) (spread_of (i + length (o ∷ a)) x b))

pub times_append : (x : Referent) (a b : List Occurrence) → times x (a ++ b) ≡ times x a + times x b
times_append x [] b = omega arith
times_append x (o ∷ a) b = let rest = times_append x a b in omega (arith, rest)

-- ## Bounds

-- k occurrences lie between two places
abbrev pub Bounded : ℕ → ℕ → Option Spread → ℕ → Type 0
Bounded from to None k = k ≡ 0
Bounded from to (Some s) k = (from ≤ s.start) × (s.start < s.end) × (s.end ≤ to) × (0 < k)

one_more : (i to : ℕ) (checked b : Bool) (s : Option Spread) (k : ℕ) → i + 1 ≤ to → Bounded (i + 1) to s k
    → Bounded i to (joined (if b then Some (record { start = i; end = i + 1; checked = checked }) else None) s) ((if b then 1 else 0) + k)
one_more i to checked true None k room h = (omega arith, omega arith, room, omega arith)
one_more i to checked true (Some s) k room (low, some, high, used) = (omega arith, omega (arith, low, some), high, omega arith)
one_more i to checked false None k room h = omega (arith, h)
one_more i to checked false (Some s) k room (low, some, high, used) = (omega (arith, low), some, high, omega (arith, used))

pub bounded : (i : ℕ) (x : Referent) (os : List Occurrence) (to : ℕ) → i + length os ≡ to → Bounded i to (spread_of i x os) (times x os)
bounded i x [] to e = refl
bounded i x (o ∷ rest) to e =
    one_more i to o.checked (is_same_referent x o.referent) (spread_of (i + 1) x rest) (times x rest) (omega (arith, e)) (bounded (i + 1) x rest to (omega (arith, e)))

-- ## Lying in a stretch

inside : (s : Spread) (t : Stretch) → lies_in (Some s) t ≡ true → (t.start ≤ s.start) × (s.end ≤ t.end)
inside s t h = let parts = and_parts (nat_le t.start s.start) (nat_le s.end t.end) h in (leb-true t.start s.start parts.0, leb-true s.end t.end parts.1)

both : (a b : Bool) → a ≡ true → b ≡ true → (a && b) ≡ true
both true true e f = refl
both true false e f = absurd cc
both false b e f = absurd cc

is_inside : (s : Spread) (t : Stretch) → t.start ≤ s.start → s.end ≤ t.end → lies_in (Some s) t ≡ true
is_inside s t low high = both (nat_le t.start s.start) (nat_le s.end t.end) (le-leb t.start s.start low) (le-leb s.end t.end high)

parted : (t : Stretch) (from to : ℕ) (before here after : Option Spread) (a b c : ℕ) → Bounded from t.start before a → Bounded t.start t.end here b → Bounded t.end to after c
    → lies_in (joined before (joined here after)) t ≡ true → (0 < b) × (b ≡ a + (b + c))
parted t from to None None None a b c p q r h = absurd cc
parted t from to None None (Some z) a b c p q (low, some, high, used) h = let i = inside z t h in absurd (omega (arith, low, some, i.1))
parted t from to None (Some y) None a b c p (low, some, high, used) r h = (used, omega (arith, p, r))
parted t from to None (Some y) (Some z) a b c p q (low, some, high, used) h = let i = inside (record { start = y.start; end = z.end; checked = y.checked }) t h in absurd (omega (arith, low, some, i.1))
parted t from to (Some x) None None a b c (low, some, high, used) q r h = let i = inside x t h in absurd (omega (arith, some, high, i.0))
parted t from to (Some x) None (Some z) a b c (low, some, high, used) q r h = let i = inside (record { start = x.start; end = z.end; checked = x.checked }) t h in absurd (omega (arith, some, high, i.0))
parted t from to (Some x) (Some y) None a b c (low, some, high, used) q r h = let i = inside (record { start = x.start; end = y.end; checked = x.checked }) t h in absurd (omega (arith, some, high, i.0))
parted t from to (Some x) (Some y) (Some z) a b c (low, some, high, used) q r h = let i = inside (record { start = x.start; end = z.end; checked = x.checked }) t h in absurd (omega (arith, some, high, i.0))

whole : (t : Stretch) (from to : ℕ) (before here after : Option Spread) (a b c : ℕ) → Bounded from t.start before a → Bounded t.start t.end here b → Bounded t.end to after c
    → 0 < b → b ≡ a + (b + c) → lies_in (joined before (joined here after)) t ≡ true
whole t from to None None after a b c p q r some same = absurd (omega (arith, q, some))
whole t from to None (Some y) None a b c p (low, full, high, used) r some same = is_inside y t low high
whole t from to None (Some y) (Some z) a b c p q (low, full, high, used) some same = absurd (omega (arith, used, same))
whole t from to (Some x) here after a b c (low, full, high, used) q r some same = absurd (omega (arith, used, same))

module _ (start : ℕ) (x : Referent) (os : List Occurrence) (t : Stretch) (part : List Occurrence) (s : Stands start os t part) where
  spread_is : spread_of start x os ≡ joined (spread_of start x s.front) (joined (spread_of t.start x part) (spread_of t.end x s.back))
  spread_is =
      ap (spread_of start x) s.is
      ∙ spread_append start x s.front (part ++ s.back)
      ∙ ap (joined (spread_of start x s.front))
      (ap (λ n. spread_of n x (part ++ s.back)) (sym s.starts) ∙ spread_append t.start x part s.back ∙ ap (λ n. joined (spread_of t.start x part) (spread_of n x s.back)) (sym s.ends))

  times_are : times x os ≡ times x s.front + (times x part + times x s.back)
  times_are = ap (times x) s.is ∙ times_append x s.front (part ++ s.back) ∙ ap (λ n. times x s.front + n) (times_append x part s.back)

  pub used_only : lies_in (spread_of start x os) t ≡ true → IsUsedOnlyIn x part os
  used_only h =
      let p = parted t start (t.end + length s.back) (spread_of start x s.front) (spread_of t.start x part) (spread_of t.end x s.back) (times x s.front) (times x part) (times x s.back)
      (bounded start x s.front t.start (sym s.starts)) (bounded t.start x part t.end (sym s.ends)) (bounded t.end x s.back (t.end + length s.back) refl)
      (subst (λ e. lies_in e t ≡ true) spread_is h) in
      record { used = p.0; only = p.1 ∙ sym times_are }

  pub lies : IsUsedOnlyIn x part os → lies_in (spread_of start x os) t ≡ true
  lies u =
      subst (λ e. lies_in e t ≡ true) (sym spread_is)
      (whole t start (t.end + length s.back) (spread_of start x s.front) (spread_of t.start x part) (spread_of t.end x s.back) (times x s.front) (times x part) (times x s.back)
      (bounded start x s.front t.start (sym s.starts)) (bounded t.start x part t.end (sym s.ends)) (bounded t.end x s.back (t.end + length s.back) refl)
      u.used (u.only ∙ times_are))

-- ## The first occurrence

first_of_two : (checked b : Bool) (i : ℕ) (s : Option Spread) (rest : Option Bool) → option_map (λ (e : Spread). e.checked) s ≡ rest
    → option_map (λ (e : Spread). e.checked) (joined (if b then Some (record { start = i; end = i + 1; checked = checked }) else None) s) ≡ (if b then Some checked else rest)
first_of_two checked true i None rest e = refl
first_of_two checked true i (Some s) rest e = refl
first_of_two checked false i s rest e = e

pub first_is : (i : ℕ) (x : Referent) (os : List Occurrence) → option_map (λ (e : Spread). e.checked) (spread_of i x os) ≡ first_checked x os
first_is i x [] = refl
first_is i x (o ∷ rest) = first_of_two o.checked (is_same_referent x o.referent) i (spread_of (i + 1) x rest) (first_checked x rest) (first_is (i + 1) x rest)
