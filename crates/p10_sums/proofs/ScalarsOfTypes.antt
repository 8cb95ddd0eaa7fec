-- How many scalars types have, as they are kept with structures and counted.
use Rattle.std.proofs.Common.{◌≡◌, ℕ, zero, suc, ◌+◌, ◌*◌, Bool, false, List, Some, None, length, refl, sym, ◌∙◌, ap, arith, length-append}
use Rattle.p10_core.specs.Types.{PlainType, array, structure, PlainBody, PlainStructure, body_of, members_in}
use Rattle.p10_core.specs.Sizes.{repeated, layout_by, layout_of_members, structure_layout, layout_of, scalars_of}
use Rattle.p10_core.specs.WholePrograms.{AreWholeStructures}
use Rattle.p10_sums.specs.private.Tallies.{capped}
use Rattle.p10_sums.proofs.Adding.{capped_product}

pub kept_scalars : (ss : List PlainStructure) → AreWholeStructures ss → (n : ℕ) (b : PlainBody) → Some b ≡ body_of ss n → b.scalars ≡ length (scalars_of ss (structure false n))
kept_scalars ss w n b e = (w.bodies n b (sym e)).scalars_are

incomplete_at : (ss : List PlainStructure) (n d : ℕ) → None ≡ body_of ss n → 0 ≡ length (structure_layout d ss n).scalars
incomplete_at ss n zero e = refl
incomplete_at ss n (suc d) e = ap (λ o. length (layout_of_members (layout_by ss (structure_layout d ss)) (members_in o)).scalars) e

pub incomplete_scalars : (ss : List PlainStructure) (n : ℕ) → None ≡ body_of ss n → 0 ≡ length (scalars_of ss (structure false n))
unfolding layout_of
incomplete_scalars ss n e = incomplete_at ss n (length ss) e

length_repeated : {A : Type 0} (n : ℕ) (xs : List A) → length (repeated n xs) ≡ n * length xs
length_repeated zero xs = omega arith
length_repeated (suc n) xs = length-append xs (repeated n xs) ∙ (ap (λ k. length xs + k) (length_repeated n xs) ∙ omega arith)

array_scalars : (ss : List PlainStructure) (c : Bool) (t : PlainType) (n : ℕ) → n * length (scalars_of ss t) ≡ length (scalars_of ss (array c t n))
unfolding layout_of
array_scalars ss c t n = sym (length_repeated n (scalars_of ss t))

-- an array has the scalars of each element, as far as they are counted
pub array_counted : (ss : List PlainStructure) (whole : PlainType) (c : Bool) (t : PlainType) (n r total : ℕ) → whole ≡ array c t n → r ≡ capped (length (scalars_of ss t)) → total ≡ capped (n * r) →
    total ≡ capped (length (scalars_of ss whole))
array_counted ss whole c t n r total e is s =
    s ∙ (ap (λ r. capped (n * r)) is ∙ (capped_product n (length (scalars_of ss t)) ∙ (ap capped (array_scalars ss c t n) ∙ ap (λ t. capped (length (scalars_of ss t))) (sym e))))
