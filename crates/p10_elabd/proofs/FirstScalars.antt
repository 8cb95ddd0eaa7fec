-- The first scalar of a type.
use Rattle.std.specs.Prelude.{◌≡◌, ℕ, zero, suc, ◌-◌, Bool, true, false, nat_eq, if◌then◌else◌, List, [], ◌∷◌, ◌++◌, slice_get, Option, Some, None, refl}
use Rattle.std.proofs.Common.{ap, sym, ◌∙◌, arith}
use Rattle.std.proofs.lemmas.Bool.{ne_eqb}
use Rattle.p10_core.specs.Types.{PlainType, void, integer, pointer, array, structure, PlainMember, PlainStructure, members_of}
use Rattle.p10_core.specs.Sizes.{Layout, layout_by, repeated, scalars_of_members, structure_layout}
use Rattle.p10_elabd.specs.private.Heads.{PlainHead, no_head, head_of, scalar_by, scalar_within, or_else, first_of_members}

-- the first of some and more
first_of_both : (xs ys : List PlainType) → slice_get (xs ++ ys) 0 ≡ or_else (slice_get xs 0) (slice_get ys 0)
first_of_both [] ys = refl
first_of_both (x ∷ xs) ys = refl

first_repeated : (n : ℕ) (xs : List PlainType) → slice_get (repeated (suc n) xs) 0 ≡ slice_get xs 0
first_repeated n (x ∷ xs) = refl
first_repeated zero [] = refl
first_repeated (suc n) [] = first_repeated n []

-- by what stands first
pub first_is : (structures : List PlainStructure) (f : ℕ → Layout) (t : PlainType) → slice_get (layout_by structures f t).scalars 0 ≡ scalar_by structures f (head_of t)
first_is structures f (void c) = refl
first_is structures f (integer c i) = refl
first_is structures f (pointer c t) = refl
first_is structures f (array c t zero) = refl
first_is structures f (array c t (suc n)) =
    first_repeated n (layout_by structures f t).scalars ∙ first_is structures f t
    ∙ ap (λ b. scalar_by structures f (if b then no_head else head_of t)) (sym (ne_eqb (suc n) 0 (λ e. omega (arith, e))))
first_is structures f (structure c n) = refl

-- the first scalar of members
pub members_first : (depth : ℕ) (structures : List PlainStructure) (all : List PlainMember) →
    slice_get (scalars_of_members (layout_by structures (structure_layout depth structures)) all) 0 ≡ first_of_members depth structures all
members_first depth structures [] = refl
members_first depth structures (m ∷ rest) =
    first_of_both (layout_by structures (structure_layout depth structures) m.type).scalars (scalars_of_members (layout_by structures (structure_layout depth structures)) rest)
    ∙ ap (or_else (scalar_within depth structures m.type)) (members_first depth structures rest)

-- the first scalar of a structure
pub within_depth : (depth : ℕ) (structures : List PlainStructure) (n : ℕ) → (depth ≡ 0 → ⊥) →
    first_of_members (depth - 1) structures (members_of structures n) ≡ slice_get (structure_layout depth structures n).scalars 0
within_depth zero structures n some = absurd (some refl)
within_depth (suc d) structures n some =
    let less : suc d - 1 ≡ d = omega arith in
    ap (λ k. first_of_members k structures (members_of structures n)) less ∙ sym (members_first d structures (members_of structures n))
