-- The lines outside bodies, word by word.
use Rattle.std.proofs.Common.{◌≡◌, ℕ, ◌+◌, ◌≤◌, Bool, true, false, cond, nat_le, List, [], ◌∷◌, ◌++◌, refl, ap, ◌∙◌, arith, le-leb}
use Rattle.std.proofs.lemmas.Bool.Decides.{nat_tests}
use Rattle.p10_base.specs.declared.at.At.{At}
use Rattle.p10_base.specs.Words.{PlainWord}
use Rattle.p10_digests.specs.Lines.{bodies_from, line_before, lines_outside}

-- bodies that are over are over later
pub from_later : (n m : ℕ) (bodies : List At) → n ≤ m → bodies_from m (bodies_from n bodies) ≡ bodies_from m bodies
from_later n m [] within = refl
from_later n m (b ∷ bodies) within = by_first (nat_le b.past n) refl (from_later n m bodies within)
  where
    by_first : (over : Bool) → nat_le b.past n ≡ over → bodies_from m (bodies_from n bodies) ≡ bodies_from m bodies → bodies_from m (bodies_from n (b ∷ bodies)) ≡ bodies_from m (b ∷ bodies)
    by_first true e later =
        let ended : b.past ≤ n = grind (arith, nat_tests) in
        let past : nat_le b.past m ≡ true = le-leb b.past m (omega (arith, ended, within)) in
        rw (e, past) later
    by_first false e later = rw e refl

-- the first body is over
pub first_over : (n : ℕ) (bodies rest : List At) (b : At) → bodies ≡ b ∷ rest → b.past ≤ n → bodies_from n bodies ≡ bodies_from n rest
first_over n bodies rest b e past = ap (bodies_from n) e ∙ rw (le-leb b.past n past) refl

-- the first body isn't over, or there is none
pub first_stays : (n : ℕ) (b : At) (rest : List At) → (b.past ≤ n → ⊥) → bodies_from n (b ∷ rest) ≡ b ∷ rest
first_stays n b rest later = by_test (nat_le b.past n) refl
  where
    by_test : (over : Bool) → nat_le b.past n ≡ over → cond over (bodies_from n rest) (b ∷ rest) ≡ b ∷ rest
    by_test true e = absurd (later (grind (arith, nat_tests)))
    by_test false e = refl

pub outside_line : (bodies : List At) (n : ℕ) (w : PlainWord) (words : List PlainWord) → lines_outside bodies n (w ∷ words) ≡ line_before n w (bodies_from n bodies) ++ lines_outside bodies (n + 1) words
unfolding lines_outside
outside_line bodies n w words = refl

pub outside_none : (bodies : List At) (n : ℕ) → lines_outside bodies n [] ≡ []
unfolding lines_outside
outside_none bodies n = refl
