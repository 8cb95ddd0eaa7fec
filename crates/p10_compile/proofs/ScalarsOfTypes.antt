-- How many scalars types have, as they are kept with structures and counted.
use Rattle.std.proofs.Common.{◌≡◌, ℕ, zero, suc, ◌+◌, ◌*◌, Bool, false, List, Option, Some, None, SomeIff, IfSome, length, refl, sym, ◌∙◌, ap, arith, length-append}
use Rattle.p10_core.specs.Types.{PlainType, array, structure, PlainBody, PlainStructure, body_of, members_in}
use Rattle.p10_core.specs.Sizes.{repeated, layout_by, layout_of_members, structure_layout, layout_of, scalars_of}
use Rattle.p10_core.specs.WholePrograms.{AreWholeStructures}

pub kept_scalars : (ss : List PlainStructure) → AreWholeStructures ss → (n : ℕ) (b : PlainBody) → Some b ≡ body_of ss n → b.scalars ≡ length (scalars_of ss (structure false n))
kept_scalars ss w n b e = (w.bodies n b (sym e)).scalars_are

incomplete_at : (ss : List PlainStructure) (n d : ℕ) → None ≡ body_of ss n → 0 ≡ length (structure_layout d ss n).scalars
incomplete_at ss n zero e = refl
incomplete_at ss n (suc d) e = ap (λ o. length (layout_of_members (layout_by ss (structure_layout d ss)) (members_in o)).scalars) e

pub incomplete_scalars : (ss : List PlainStructure) (n : ℕ) → None ≡ body_of ss n → 0 ≡ length (scalars_of ss (structure false n))
unfolding layout_of
incomplete_scalars ss n e = incomplete_at ss n (length ss) e

length_repeated : {A : Type 0} (n : ℕ) (xs : List A) → length (repeated n xs) ≡ n * length xs
length_repeated zero xs = omega arith
length_repeated (suc n) xs = length-append xs (repeated n xs) ∙ (ap (λ k. length xs + k) (length_repeated n xs) ∙ omega arith)

pub array_scalars : (ss : List PlainStructure) (c : Bool) (t : PlainType) (n : ℕ) → n * length (scalars_of ss t) ≡ length (scalars_of ss (array c t n))
unfolding layout_of
array_scalars ss c t n = sym (length_repeated n (scalars_of ss t))

pub array_counted : (ss : List PlainStructure) (whole : PlainType) (c : Bool) (t : PlainType) (n r : ℕ) (o : Option ℕ) (P : Type 0) → whole ≡ array c t n → r ≡ length (scalars_of ss t) → SomeIff o P (n * r) → IfSome o (λ k. k ≡ length (scalars_of ss whole))
array_counted ss whole c t n r None P e is s = tt
array_counted ss whole c t n r (Some k) P e is s = s.1 ∙ (ap (λ r. n * r) is ∙ (array_scalars ss c t n ∙ ap (λ t. length (scalars_of ss t)) (sym e)))
