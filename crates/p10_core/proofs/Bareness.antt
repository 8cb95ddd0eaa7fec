-- Compatible types lie alike: marks, and the numbers of structures that stand for others, aside.
use Rattle.std.proofs.Common.{◌≡◌, ℕ, zero, suc, ◌+◌, ◌*◌, ◌<◌, max, true, false, List, [], ◌∷◌, ◌++◌, map, length, All, Some, refl, sym, ◌∙◌, ap, subst, arith}
use Rattle.std.proofs.lemmas.List.Elements.{All-head, All-tail}
use Rattle.p10_core.specs.Types.{PlainType, void, integer, pointer, array, structure, bare, PlainMember, PlainBody, PlainStructure, body_of, members_of, representative_of}
use Rattle.p10_core.specs.Sizes.{Layout, integer_bytes, aligned, repeated, past_members, greatest_alignment, scalars_of_members, layout_of_members, with_mark, layout_of}
use Rattle.p10_core.specs.Rows.{is_complete}
use Rattle.p10_core.specs.Constants.{integer_of}
use Rattle.p10_core.specs.WholePrograms.{order_in, ContainsBefore, IsWholeMember, IsWholeBody, AreWholeStructures, bare_member}
use Rattle.p10_core.specs.Laws.{LiesLike, StructuresLieAsTheirMembers, CompatibleTypesLieAlike}
use Rattle.p10_core.proofs.Layouts.{body_there, structure_lies}

alike : (l m : Layout) → l.bytes ≡ m.bytes → l.alignment ≡ m.alignment → l.scalars ≡ m.scalars → LiesLike l m
alike l m a b c = record { same_bytes = a; same_alignment = b; same_scalars = c }

-- members whose types lie alike, one by one
abbrev AlikeMembers : (PlainType → Layout) → List PlainMember → List PlainMember → Type 0
AlikeMembers f [] [] = Unit {0}
AlikeMembers f (m ∷ ms) (k ∷ ks) = LiesLike (f m.type) (f k.type) × AlikeMembers f ms ks
AlikeMembers f [] (k ∷ ks) = ⊥
AlikeMembers f (m ∷ ms) [] = ⊥

past_alike : (f : PlainType → Layout) (n : ℕ) (ms ks : List PlainMember) → AlikeMembers f ms ks → past_members f n ms ≡ past_members f n ks
past_alike f n [] [] h = refl
past_alike f n (m ∷ ms) (k ∷ ks) h =
    past_alike f (aligned n (f m.type).alignment + (f m.type).bytes) ms ks h.1
    ∙ (λ i. past_members f (aligned n (h.0.same_alignment i) + h.0.same_bytes i) ks)
past_alike f n [] (k ∷ ks) h = absurd h
past_alike f n (m ∷ ms) [] h = absurd h

alignment_alike : (f : PlainType → Layout) (ms ks : List PlainMember) → AlikeMembers f ms ks → greatest_alignment f ms ≡ greatest_alignment f ks
alignment_alike f [] [] h = refl
alignment_alike f (m ∷ ms) (k ∷ ks) h = λ i. max (h.0.same_alignment i) (alignment_alike f ms ks h.1 i)
alignment_alike f [] (k ∷ ks) h = absurd h
alignment_alike f (m ∷ ms) [] h = absurd h

scalars_alike : (f : PlainType → Layout) (ms ks : List PlainMember) → AlikeMembers f ms ks → scalars_of_members f ms ≡ scalars_of_members f ks
scalars_alike f [] [] h = refl
scalars_alike f (m ∷ ms) (k ∷ ks) h = λ i. h.0.same_scalars i ++ scalars_alike f ms ks h.1 i
scalars_alike f [] (k ∷ ks) h = absurd h
scalars_alike f (m ∷ ms) [] h = absurd h

members_lie_alike : (f : PlainType → Layout) (ms ks : List PlainMember) → AlikeMembers f ms ks → LiesLike (layout_of_members f ms) (layout_of_members f ks)
members_lie_alike f ms ks h = record {
  same_bytes = λ i. aligned (past_alike f 0 ms ks h i) (alignment_alike f ms ks h i);
  same_alignment = alignment_alike f ms ks h;
  same_scalars = scalars_alike f ms ks h;
}

element_in : PlainType → PlainType
element_in (array c t n) = t
element_in t = t

count_in : PlainType → ℕ
count_in (array c t n) = n
count_in t = 0

number_in : PlainType → ℕ
number_in (structure c n) = n
number_in t = 0

same_element : (s t : PlainType) (m n : ℕ) → array false s m ≡ array false t n → s ≡ t
unfolding element_in
same_element s t m n e = ap element_in e

same_count : (s t : PlainType) (m n : ℕ) → array false s m ≡ array false t n → m ≡ n
unfolding count_in
same_count s t m n e = ap count_in e

same_number : (m n : ℕ) → structure false m ≡ structure false n → m ≡ n
unfolding number_in
same_number m n e = ap number_in e

-- structures below an order for which one structure stands lie alike
abbrev StructuresAlike : List PlainStructure → ℕ → Type 0
StructuresAlike ss order = (n m : ℕ) (b d : PlainBody) → body_of ss n ≡ Some b → body_of ss m ≡ Some d → representative_of ss n ≡ representative_of ss m → b.order < order →
    LiesLike (layout_of ss (structure false n)) (layout_of ss (structure false m))

types_alike : (ss : List PlainStructure) (order : ℕ) → StructuresAlike ss order → (s t : PlainType) → ContainsBefore ss order s → is_complete ss s ≡ true → is_complete ss t ≡ true → bare ss s ≡ bare ss t →
    LiesLike (layout_of ss s) (layout_of ss t)
unfolding layout_of
types_alike ss order H (void c) (void d) before full full' e = alike _ _ refl refl refl
types_alike ss order H (integer c i) (integer d j) before full full' e =
    alike _ _ (ap (λ t. integer_bytes (integer_of t)) e) (ap (λ t. integer_bytes (integer_of t)) e) (ap (λ t. t ∷ []) e)
types_alike ss order H (pointer c s) (pointer d t) before full full' e = alike _ _ refl refl (ap (λ t. t ∷ []) e)
types_alike ss order H (array c s m) (array d t n) before full full' e =
    let inner : LiesLike (layout_of ss s) (layout_of ss t) = types_alike ss order H s t before full full' (same_element (bare ss s) (bare ss t) m n e) in
    let counts : m ≡ n = same_count (bare ss s) (bare ss t) m n e in
    record {
      same_bytes = λ i. counts i * inner.same_bytes i;
      same_alignment = inner.same_alignment;
      same_scalars = λ i. repeated (counts i) (inner.same_scalars i);
    }
types_alike ss order H (structure c m) (structure d n) before full full' e =
    body_there (body_of ss m) full (λ b is. body_there (body_of ss n) full' (λ k is'.
    let h : LiesLike (layout_of ss (structure false m)) (layout_of ss (structure false n)) =
    H m n b k is is' (same_number (representative_of ss m) (representative_of ss n) e) (subst (λ o. order_in o < order) is before) in
    record { same_bytes = h.same_bytes; same_alignment = h.same_alignment; same_scalars = h.same_scalars }))
types_alike ss order H s t before full full' e = absurd cc

head_type : List PlainMember → PlainType
head_type [] = void false
head_type (m ∷ ms) = m.type

rest_of : List PlainMember → List PlainMember
rest_of [] = []
rest_of (m ∷ ms) = ms

same_head : (m k : PlainMember) (ms ks : List PlainMember) → (m ∷ ms) ≡ (k ∷ ks) → m.type ≡ k.type
unfolding head_type
same_head m k ms ks e = ap head_type e

same_rest : (m k : PlainMember) (ms ks : List PlainMember) → (m ∷ ms) ≡ (k ∷ ks) → ms ≡ ks
unfolding rest_of
same_rest m k ms ks e = ap rest_of e

members_alike : (ss : List PlainStructure) (order other : ℕ) → StructuresAlike ss order → (ms ks : List PlainMember) → All (IsWholeMember ss order) ms → All (IsWholeMember ss other) ks →
    map (bare_member ss) ms ≡ map (bare_member ss) ks → AlikeMembers (layout_of ss) ms ks
members_alike ss order other H [] [] a b e = tt
members_alike ss order other H (m ∷ ms) (k ∷ ks) a b e =
    let first : bare ss m.type ≡ bare ss k.type = same_head (bare_member ss m) (bare_member ss k) (map (bare_member ss) ms) (map (bare_member ss) ks) e in (
      types_alike ss order H m.type k.type (All-head (IsWholeMember ss order) m ms a).before (All-head (IsWholeMember ss order) m ms a).object.complete (All-head (IsWholeMember ss other) k ks b).object.complete first,
      members_alike ss order other H ms ks (All-tail (IsWholeMember ss order) m ms a) (All-tail (IsWholeMember ss other) k ks b) (same_rest (bare_member ss m) (bare_member ss k) (map (bare_member ss) ms) (map (bare_member ss) ks) e),
    )
members_alike ss order other H [] (k ∷ ks) a b e = absurd cc
members_alike ss order other H (m ∷ ms) [] a b e = absurd cc

structures_alike : (ss : List PlainStructure) → AreWholeStructures ss → (order : ℕ) → StructuresAlike ss order
structures_alike ss w zero n m b d is is' same low = absurd (omega (arith, low))
structures_alike ss w (suc order) n m b d is is' same low =
    let one : IsWholeBody ss n b = w.bodies n b is in
    let two : IsWholeBody ss m d = w.bodies m d is' in
    let members : map (bare_member ss) b.members ≡ map (bare_member ss) d.members =
    sym one.same_members ∙ ap (λ r. map (bare_member ss) (members_of ss r)) same ∙ two.same_members in
    let below : StructuresAlike ss b.order = λ n m b d is is' same less. structures_alike ss w order n m b d is is' same (omega (arith, low, less)) in
    let h : LiesLike (layout_of_members (layout_of ss) b.members) (layout_of_members (layout_of ss) d.members) =
    members_lie_alike (layout_of ss) b.members d.members (members_alike ss b.order d.order below b.members d.members one.members two.members members) in
    let p : layout_of ss (structure false n) ≡ with_mark false (layout_of_members (layout_of ss) b.members) = structure_lies ss w false n b is in
    let q : layout_of ss (structure false m) ≡ with_mark false (layout_of_members (layout_of ss) d.members) = structure_lies ss w false m d is' in
    record {
      same_bytes = ap (λ l. l.bytes) p ∙ h.same_bytes ∙ sym (ap (λ l. l.bytes) q);
      same_alignment = ap (λ l. l.alignment) p ∙ h.same_alignment ∙ sym (ap (λ l. l.alignment) q);
      same_scalars = ap (λ l. l.scalars) p ∙ h.same_scalars ∙ sym (ap (λ l. l.scalars) q);
    }

-- all that lies in a type was completed
pub below_all : (ss : List PlainStructure) → AreWholeStructures ss → (t : PlainType) → is_complete ss t ≡ true → ContainsBefore ss (length ss) t
below_all ss w (void c) full = tt
below_all ss w (integer c i) full = tt
below_all ss w (pointer c t) full = tt
below_all ss w (array c t n) full = below_all ss w t full
below_all ss w (structure c n) full =
    body_there (body_of ss n) full (λ b is. subst (λ o. order_in o < length ss) (sym is) (w.bodies n b is).few)

pub structures_lie_as_their_members : StructuresLieAsTheirMembers
structures_lie_as_their_members ss w c n b is = structure_lies ss w c n b is

pub compatible_types_lie_alike : CompatibleTypesLieAlike
compatible_types_lie_alike ss w s t a b e =
    types_alike ss (length ss) (structures_alike ss w (length ss)) s t (below_all ss w s a.complete) a.complete b.complete e
