-- Structures for which others come to stand, one after the other.
use Rattle.std.proofs.Common.{◌≡◌, ℕ, zero, suc, ◌+◌, ◌<◌, List, [], ◌∷◌, map, length, take, slice_index_or, slice_set, cond, is_some, refl, sym, ◌∙◌, ap, subst, arith}
use Rattle.p10_core.specs.declared.structures.Structure.{Structure}
use Rattle.p10_core.specs.Types.{PlainStructure, plain_structure}
use Rattle.p10_core.specs.Completing.{complete_count, AreBuilt}
use Rattle.p10_core.specs.Representing.{represented}
use Rattle.p10_core.proofs.Tables.{IsTable}

pub none_represented : (ss : List PlainStructure) → represented ss [] ≡ ss
none_represented [] = refl
none_represented (s ∷ ss) = refl

-- the structures, where another one stands for the one with a number
abbrev with_representative : List PlainStructure → ℕ → ℕ → List PlainStructure
with_representative [] place n = []
with_representative (s ∷ ss) zero n = record s { representative = n } ∷ ss
with_representative (s ∷ ss) (suc place) n = s ∷ with_representative ss place n

one_set : (ss : List Structure) (place n : ℕ) (s : Structure) → place < length ss →
    map plain_structure (slice_set ss place (record (slice_index_or ss place s) { representative = n })) ≡ with_representative (map plain_structure ss) place n
one_set [] place n s h = absurd (omega (arith, h))
one_set (x ∷ ss) zero n s h = refl
one_set (x ∷ ss) (suc place) n s h = ap (λ rest. plain_structure x ∷ rest) (one_set ss place n s (omega (arith, h)))

one_more : (ss : List PlainStructure) (numbers : List ℕ) (place d : ℕ) → place < length numbers → place < length ss →
    with_representative (represented ss (take place numbers)) place (slice_index_or numbers place d) ≡ represented ss (take (suc place) numbers)
one_more [] numbers place d h k = absurd (omega (arith, k))
one_more (s ∷ ss) [] place d h k = absurd (omega (arith, h))
one_more (s ∷ ss) (n ∷ numbers) zero d h k = ap (λ rest. record s { representative = n } ∷ rest) (sym (none_represented ss))
one_more (s ∷ ss) (n ∷ numbers) (suc place) d h k = ap (λ rest. record s { representative = n } ∷ rest) (one_more ss numbers place d (omega (arith, h)) (omega (arith, k)))

pub one_represented : (ss : List Structure) (plain : List PlainStructure) (numbers : List ℕ) (place d : ℕ) (s : Structure) →
    map plain_structure ss ≡ represented plain (take place numbers) → place < length numbers → place < length ss → place < length plain →
    map plain_structure (slice_set ss place (record (slice_index_or ss place s) { representative = slice_index_or numbers place d })) ≡ represented plain (take (place + 1) numbers)
one_represented ss plain numbers place d s is h k l =
    one_set ss place (slice_index_or numbers place d) s k
    ∙ ap (λ rest. with_representative rest place (slice_index_or numbers place d)) is
    ∙ one_more plain numbers place d h l
    ∙ ap (λ k. represented plain (take k numbers)) (after place)
  where
    after : (k : ℕ) → suc k ≡ k + 1
    after k = omega arith

bodies_counted : (ss : List PlainStructure) (numbers : List ℕ) → complete_count (represented ss numbers) ≡ complete_count ss
bodies_counted [] numbers = refl
bodies_counted (s ∷ ss) [] = refl
bodies_counted (s ∷ ss) (n ∷ numbers) = ap (λ k. cond (is_some s.body) 1 0 + k) (bodies_counted ss numbers)

-- a table where others come to stand for its structures
pub represented_is_table : (ss ts : List Structure) (bodies : ℕ) (numbers : List ℕ) → IsTable ss bodies → length ts ≡ length ss →
    map plain_structure ts ≡ represented (map plain_structure ss) numbers → AreBuilt (represented (map plain_structure ss) numbers) → IsTable ts bodies
represented_is_table ss ts bodies numbers t long is built = record {
  few = omega (arith, t.few, long);
  counted = t.counted ∙ sym (ap complete_count is ∙ bodies_counted (map plain_structure ss) numbers);
  built = subst AreBuilt (sym is) built;
}
