-- Types lie alike in two lists of structures that have the same bodies, whichever of them stand for others.
use Rattle.std.proofs.Common.{◌≡◌, ℕ, zero, suc, ◌+◌, ◌*◌, max, ◌||◌, List, [], ◌∷◌, length, refl, sym, ◌∙◌, ap, subst, length-append}
use Rattle.p10_core.specs.Types.{PlainType, void, integer, pointer, array, structure, PlainMember, PlainStructure, body_of, members_in, members_of}
use Rattle.p10_core.specs.Sizes.{Layout, aligned, repeated, past_members, greatest_alignment, scalars_of_members, constant_among, layout_of_members, layout_by, structure_layout, layout_of}

-- two layouts agree in all but which scalars there are
pub record LiesAlike (l k : Layout) : Type 0 where
  pub bytes : l.bytes ≡ k.bytes
  pub alignment : l.alignment ≡ k.alignment
  pub scalars : length l.scalars ≡ length k.scalars
  pub constant : l.constant ≡ k.constant

repeated_alike : (n : ℕ) (xs ys : List PlainType) → length xs ≡ length ys → length (repeated n xs) ≡ length (repeated n ys)
repeated_alike zero xs ys h = refl
repeated_alike (suc n) xs ys h = length-append xs (repeated n xs) ∙ (λ i. h i + repeated_alike n xs ys h i) ∙ sym (length-append ys (repeated n ys))

type_alike : (ss ts : List PlainStructure) (F G : ℕ → Layout) → ((n : ℕ) → LiesAlike (F n) (G n)) → (t : PlainType) → LiesAlike (layout_by ss F t) (layout_by ts G t)
type_alike ss ts F G h (void c) = record { bytes = refl; alignment = refl; scalars = refl; constant = refl }
type_alike ss ts F G h (integer c i) = record { bytes = refl; alignment = refl; scalars = refl; constant = refl }
type_alike ss ts F G h (pointer c t) = record { bytes = refl; alignment = refl; scalars = refl; constant = refl }
type_alike ss ts F G h (array c t n) =
    let inner : LiesAlike (layout_by ss F t) (layout_by ts G t) = type_alike ss ts F G h t in
    record {
      bytes = ap (λ b. n * b) inner.bytes;
      alignment = inner.alignment;
      scalars = repeated_alike n (layout_by ss F t).scalars (layout_by ts G t).scalars inner.scalars;
      constant = ap (λ b. c || b) inner.constant;
    }
type_alike ss ts F G h (structure c n) = record {
  bytes = (h n).bytes;
  alignment = (h n).alignment;
  scalars = (h n).scalars;
  constant = ap (λ b. c || b) (h n).constant;
}

past_alike : (f g : PlainType → Layout) → ((t : PlainType) → LiesAlike (f t) (g t)) → (n : ℕ) (ms : List PlainMember) → past_members f n ms ≡ past_members g n ms
past_alike f g h n [] = refl
past_alike f g h n (m ∷ ms) =
    past_alike f g h (aligned n (f m.type).alignment + (f m.type).bytes) ms
    ∙ (λ i. past_members g (aligned n ((h m.type).alignment i) + (h m.type).bytes i) ms)

alignment_alike : (f g : PlainType → Layout) → ((t : PlainType) → LiesAlike (f t) (g t)) → (ms : List PlainMember) → greatest_alignment f ms ≡ greatest_alignment g ms
alignment_alike f g h [] = refl
alignment_alike f g h (m ∷ ms) = λ i. max ((h m.type).alignment i) (alignment_alike f g h ms i)

scalars_alike : (f g : PlainType → Layout) → ((t : PlainType) → LiesAlike (f t) (g t)) → (ms : List PlainMember) → length (scalars_of_members f ms) ≡ length (scalars_of_members g ms)
scalars_alike f g h [] = refl
scalars_alike f g h (m ∷ ms) =
    length-append (f m.type).scalars (scalars_of_members f ms)
    ∙ (λ i. (h m.type).scalars i + scalars_alike f g h ms i)
    ∙ sym (length-append (g m.type).scalars (scalars_of_members g ms))

constant_alike : (f g : PlainType → Layout) → ((t : PlainType) → LiesAlike (f t) (g t)) → (ms : List PlainMember) → constant_among f ms ≡ constant_among g ms
constant_alike f g h [] = refl
constant_alike f g h (m ∷ ms) = λ i. (h m.type).constant i || constant_alike f g h ms i

members_alike : (f g : PlainType → Layout) → ((t : PlainType) → LiesAlike (f t) (g t)) → (ms : List PlainMember) → LiesAlike (layout_of_members f ms) (layout_of_members g ms)
members_alike f g h ms = record {
  bytes = λ i. aligned (past_alike f g h 0 ms i) (alignment_alike f g h ms i);
  alignment = alignment_alike f g h ms;
  scalars = scalars_alike f g h ms;
  constant = constant_alike f g h ms;
}

structure_alike : (ss ts : List PlainStructure) → ((n : ℕ) → body_of ss n ≡ body_of ts n) → (depth n : ℕ) → LiesAlike (structure_layout depth ss n) (structure_layout depth ts n)
structure_alike ss ts same zero n = record { bytes = refl; alignment = refl; scalars = refl; constant = refl }
structure_alike ss ts same (suc depth) n =
    let f : PlainType → Layout = layout_by ss (structure_layout depth ss) in
    let g : PlainType → Layout = layout_by ts (structure_layout depth ts) in
    let inner : (t : PlainType) → LiesAlike (f t) (g t) = type_alike ss ts (structure_layout depth ss) (structure_layout depth ts) (structure_alike ss ts same depth) in
    subst (λ ms. LiesAlike (layout_of_members f (members_of ss n)) (layout_of_members g ms)) (ap members_in (same n)) (members_alike f g inner (members_of ss n))

-- a type lies alike in both
pub layout_alike : (ss ts : List PlainStructure) → length ss ≡ length ts → ((n : ℕ) → body_of ss n ≡ body_of ts n) → (t : PlainType) → LiesAlike (layout_of ss t) (layout_of ts t)
unfolding layout_of
layout_alike ss ts long same t =
    subst (λ depth. LiesAlike (layout_of ss t) (layout_by ts (structure_layout depth ts) t)) long
    (type_alike ss ts (structure_layout (length ss) ss) (structure_layout (length ss) ts) (structure_alike ss ts same (length ss)) t)
