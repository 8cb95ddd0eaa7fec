-- Sizes of types, as they are kept with structures and computed.
use Rattle.std.proofs.Common.{◌≡◌, ℕ, zero, suc, ◌*◌, ◌≤◌, Bool, false, List, Some, None, length, Fits, w64, refl, sym, ◌∙◌, ap, subst, arith}
use Rattle.p10_core.specs.Types.{PlainType, array, structure, PlainBody, PlainStructure, body_of, members_in}
use Rattle.p10_core.specs.Sizes.{layout_by, layout_of_members, structure_layout, layout_of, size_of, alignment_of, scalars_of, has_constant}
use Rattle.p10_core.specs.WholePrograms.{AreWholeStructures, IsWholeType, most_bytes}

pub kept_bytes : (ss : List PlainStructure) → AreWholeStructures ss → (n : ℕ) (b : PlainBody) → Some b ≡ body_of ss n → b.bytes ≡ size_of ss (structure false n)
kept_bytes ss w n b e = (w.bodies n b (sym e)).bytes_are

incomplete_at : (ss : List PlainStructure) (n d : ℕ) → None ≡ body_of ss n → 0 ≡ (structure_layout d ss n).bytes
incomplete_at ss n zero e = refl
incomplete_at ss n (suc d) e = ap (λ o. (layout_of_members (layout_by ss (structure_layout d ss)) (members_in o)).bytes) e

pub incomplete_bytes : (ss : List PlainStructure) (n : ℕ) → None ≡ body_of ss n → 0 ≡ size_of ss (structure false n)
unfolding layout_of
incomplete_bytes ss n e = incomplete_at ss n (length ss) e

array_bytes : (ss : List PlainStructure) (c : Bool) (t : PlainType) (n : ℕ) → size_of ss (array c t n) ≡ n * size_of ss t
unfolding layout_of
array_bytes ss c t n = refl

small : (n r : ℕ) → n * r ≤ most_bytes → Fits w64 (n * r)
unfolding most_bytes
small n r h = omega (arith, h)

pub array_fits : (ss : List PlainStructure) (whole : PlainType) (c : Bool) (t : PlainType) (n r : ℕ) → whole ≡ array c t n → IsWholeType ss whole → r ≡ size_of ss t → Fits w64 (n * r)
array_fits ss whole c t n r e w is =
    let h : IsWholeType ss (array c t n) = subst (IsWholeType ss) e w in
    small n r (subst (λ k. k ≤ most_bytes) (array_bytes ss c t n ∙ ap (λ k. n * k) (sym is)) h.3)

pub inner_whole : (ss : List PlainStructure) (whole : PlainType) (c : Bool) (t : PlainType) (n : ℕ) → whole ≡ array c t n → IsWholeType ss whole → IsWholeType ss t
inner_whole ss whole c t n e w = let h : IsWholeType ss (array c t n) = subst (IsWholeType ss) e w in h.0

pub kept_alignment : (ss : List PlainStructure) → AreWholeStructures ss → (n : ℕ) (b : PlainBody) → Some b ≡ body_of ss n → b.alignment ≡ alignment_of ss (structure false n)
kept_alignment ss w n b e = (w.bodies n b (sym e)).alignment_is

unaligned_at : (ss : List PlainStructure) (n d : ℕ) → None ≡ body_of ss n → 1 ≡ (structure_layout d ss n).alignment
unaligned_at ss n zero e = refl
unaligned_at ss n (suc d) e = ap (λ o. (layout_of_members (layout_by ss (structure_layout d ss)) (members_in o)).alignment) e

pub incomplete_alignment : (ss : List PlainStructure) (n : ℕ) → None ≡ body_of ss n → 1 ≡ alignment_of ss (structure false n)
unfolding layout_of
incomplete_alignment ss n e = unaligned_at ss n (length ss) e

pub kept_constant : (ss : List PlainStructure) → AreWholeStructures ss → (n : ℕ) (b : PlainBody) → Some b ≡ body_of ss n → b.constant ≡ has_constant ss (structure false n)
kept_constant ss w n b e = (w.bodies n b (sym e)).constant_is

inconstant_at : (ss : List PlainStructure) (n d : ℕ) → None ≡ body_of ss n → false ≡ (structure_layout d ss n).constant
inconstant_at ss n zero e = refl
inconstant_at ss n (suc d) e = ap (λ o. (layout_of_members (layout_by ss (structure_layout d ss)) (members_in o)).constant) e

pub incomplete_constant : (ss : List PlainStructure) (n : ℕ) → None ≡ body_of ss n → false ≡ has_constant ss (structure false n)
unfolding layout_of
incomplete_constant ss n e = inconstant_at ss n (length ss) e

pub kept_scalars : (ss : List PlainStructure) → AreWholeStructures ss → (n : ℕ) (b : PlainBody) → Some b ≡ body_of ss n → b.scalars ≡ length (scalars_of ss (structure false n))
kept_scalars ss w n b e = (w.bodies n b (sym e)).scalars_are

no_scalars_at : (ss : List PlainStructure) (n d : ℕ) → None ≡ body_of ss n → 0 ≡ length (structure_layout d ss n).scalars
no_scalars_at ss n zero e = refl
no_scalars_at ss n (suc d) e = ap (λ o. length (layout_of_members (layout_by ss (structure_layout d ss)) (members_in o)).scalars) e

pub incomplete_scalars : (ss : List PlainStructure) (n : ℕ) → None ≡ body_of ss n → 0 ≡ length (scalars_of ss (structure false n))
unfolding layout_of
incomplete_scalars ss n e = no_scalars_at ss n (length ss) e
