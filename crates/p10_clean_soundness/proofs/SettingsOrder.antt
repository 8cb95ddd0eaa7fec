-- The order of settings: where less is set, they are lower. Where no path comes everything counts as set, so nothing stands above that.
use Rattle.std.proofs.Common.{◌≡◌, ℕ, zero, suc, ◌&&◌, Bool, true, false, List, [], ◌∷◌, refl, Some, None}
use Rattle.std.specs.Prelude.{slice_set}
use Rattle.p10_pass.specs.Marks.{is_marked}
use Rattle.p10_clean.specs.Settings.{Settings, is_set, marked_as, common_marks, on_both}

-- each variable with a mark of the first has one of the second
abbrev pub AreFewer : List Bool → List Bool → Type 0
AreFewer [] others = Unit {0}
AreFewer (a ∷ marks) [] = ⊥
AreFewer (a ∷ marks) (b ∷ others) = (a ≡ true → b ≡ true) × AreFewer marks others

-- what is set on the first is set on the second
abbrev pub IsBelow : Settings → Settings → Type 0
IsBelow a None = Unit {0}
IsBelow None (Some others) = ⊥
IsBelow (Some marks) (Some others) = AreFewer marks others

fewer_same : (marks : List Bool) → AreFewer marks marks
fewer_same [] = tt
fewer_same (a ∷ marks) = ((λ e. e), fewer_same marks)

below_same : (a : Settings) → IsBelow a a
below_same None = tt
below_same (Some marks) = fewer_same marks

-- ## What is set

fewer_marked : (a b : List Bool) → AreFewer a b → (n : ℕ) → is_marked a n ≡ true → is_marked b n ≡ true
fewer_marked [] b h n e = absurd cc
fewer_marked (x ∷ a) [] h n e = absurd h
fewer_marked (x ∷ a) (y ∷ b) h zero e = h.0 e
fewer_marked (x ∷ a) (y ∷ b) h (suc n) e = fewer_marked a b h.1 n e

pub below_set : (a b : Settings) → IsBelow a b → (n : ℕ) → is_set a n ≡ true → is_set b n ≡ true
below_set a None h n e = refl
below_set None (Some y) h n e = absurd h
below_set (Some x) (Some y) h n e = fewer_marked x y h n e

-- ## Both of two paths

and_left : (a b : Bool) → (a && b) ≡ true → a ≡ true
and_left true b e = refl
and_left false b e = absurd cc

and_right : (a b : Bool) → (a && b) ≡ true → b ≡ true
and_right true b e = e
and_right false b e = absurd cc

and_both : (a b : Bool) → a ≡ true → b ≡ true → (a && b) ≡ true
and_both true b e q = q
and_both false b e q = absurd cc

common_left : (a b : List Bool) → AreFewer (common_marks a b) a
common_left [] b = tt
common_left (x ∷ a) [] = tt
common_left (x ∷ a) (y ∷ b) = (and_left x y, common_left a b)

common_right : (a b : List Bool) → AreFewer (common_marks a b) b
common_right [] b = tt
common_right (x ∷ a) [] = tt
common_right (x ∷ a) (y ∷ b) = (and_right x y, common_right a b)

pub both_left : (a b : Settings) → IsBelow (on_both a b) a
both_left None b = tt
both_left (Some x) None = fewer_same x
both_left (Some x) (Some y) = common_left x y

pub both_right : (a b : Settings) → IsBelow (on_both a b) b
both_right None b = below_same b
both_right (Some x) None = tt
both_right (Some x) (Some y) = common_right x y

common_marked : (a b : List Bool) (n : ℕ) → is_marked a n ≡ true → is_marked b n ≡ true → is_marked (common_marks a b) n ≡ true
common_marked [] b n e q = e
common_marked (x ∷ a) [] n e q = q
common_marked (x ∷ a) (y ∷ b) zero e q = and_both x y e q
common_marked (x ∷ a) (y ∷ b) (suc n) e q = common_marked a b n e q

-- what is set on each of two paths is set on both
pub both_set : (a b : Settings) (n : ℕ) → is_set a n ≡ true → is_set b n ≡ true → is_set (on_both a b) n ≡ true
both_set None b n e q = q
both_set (Some x) None n e q = e
both_set (Some x) (Some y) n e q = common_marked x y n e q

-- ## One variable

same_mark : (c : Bool) (m n : ℕ) (marks : List Bool) → (n ≡ m → ⊥) → is_marked (slice_set marks m c) n ≡ is_marked marks n
same_mark c m n [] h = refl
same_mark c zero zero (x ∷ marks) h = absurd (h refl)
same_mark c zero (suc n) (x ∷ marks) h = refl
same_mark c (suc m) zero (x ∷ marks) h = refl
same_mark c (suc m) (suc n) (x ∷ marks) h = same_mark c m n marks (λ e. h (λ i. suc (e i)))

-- another variable stays as it is
pub other_set : (c : Bool) (m n : ℕ) (before : Settings) → (n ≡ m → ⊥) → is_set (marked_as c m before) n ≡ is_set before n
other_set c m n None h = refl
other_set c m n (Some marks) h = same_mark c m n marks h

unset_mark : (n : ℕ) (marks : List Bool) → is_marked (slice_set marks n false) n ≡ false
unset_mark n [] = refl
unset_mark zero (x ∷ marks) = refl
unset_mark (suc n) (x ∷ marks) = unset_mark n marks

-- a variable that is unset isn't set, where a path comes
pub unset_there : (n : ℕ) (marks : List Bool) → is_set (marked_as false n (Some marks)) n ≡ false
unset_there n marks = unset_mark n marks

set_mark : (m n : ℕ) (marks : List Bool) → is_marked marks n ≡ true → is_marked (slice_set marks m true) n ≡ true
set_mark m n [] e = e
set_mark zero zero (x ∷ marks) e = refl
set_mark zero (suc n) (x ∷ marks) e = e
set_mark (suc m) zero (x ∷ marks) e = e
set_mark (suc m) (suc n) (x ∷ marks) e = set_mark m n marks e

-- what is set stays set where a variable becomes set
pub set_more : (m n : ℕ) (before : Settings) → is_set before n ≡ true → is_set (marked_as true m before) n ≡ true
set_more m n None e = refl
set_more m n (Some marks) e = set_mark m n marks e
