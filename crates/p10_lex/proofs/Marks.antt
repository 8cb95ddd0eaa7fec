-- One step of the search for splices and trigraphs.
use Rattle.std.proofs.Common.{◌≡◌, ℕ, zero, suc, ◌+◌, ◌-◌, ◌<◌, ◌≤◌, List, [], ◌∷◌, length, take, drop, refl, arith, false}
use Rattle.std.proofs.lemmas.List.{take_rest}
use Rattle.p10_lex.specs.Splices.{splice_length}
use Rattle.p10_lex.specs.Refusals.{begins_trigraph}
use Rattle.p10_lex.specs.private.Reading.{mark_at}

-- one byte on
one_step : (o k : ℕ) (c : ℕ) (t : List ℕ) → splice_length (c ∷ t) ≡ 0 → begins_trigraph (c ∷ t) ≡ false → mark_at (o + 1) k t ≡ mark_at o (suc k) (c ∷ t)
unfolding mark_at
one_step o k c t s b = rw (s, b) refl

-- no splice or trigraph stands here, so the search goes on after the first byte
pub mark_more : (o k : ℕ) (t : List ℕ) → 0 < length t → 0 < k → splice_length t ≤ 0 → begins_trigraph t ≡ false → mark_at (o + 1) (k - 1) (take (length t - 1) (drop 1 t)) ≡ mark_at o k t
mark_more o zero t some left s b = absurd (omega arith)
mark_more o (suc k) [] some left s b = absurd (omega arith)
mark_more o (suc k) (c ∷ t) some left s b =
    let e : suc k - 1 ≡ k = omega arith in
    let z : splice_length (c ∷ t) ≡ 0 = omega arith in
    rw (e, take_rest (c ∷ t) 1) (one_step o k c t z b)

-- the place and what is left of the text keep their sum
pub length_rest : (o : ℕ) (t : List ℕ) (n : ℕ) → 0 < length t → o + length t ≡ n → o + 1 + length (take (length t - 1) (drop 1 t)) ≡ n
length_rest o [] n some e = absurd (omega arith)
length_rest o (c ∷ t) n some e = rw (take_rest (c ∷ t) 1) (omega arith)
