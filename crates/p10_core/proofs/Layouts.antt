-- How structures lie doesn't depend on how deep they may be nested: the laws of `layout_of`.
use Rattle.std.proofs.Common.{◌≡◌, ℕ, zero, suc, ◌+◌, ◌*◌, ◌<◌, max, Bool, true, ◌||◌, List, [], ◌∷◌, ◌++◌, length, All, Option, Some, None, is_some, refl, sym, ◌∙◌, ap, subst, arith}
use Rattle.std.proofs.lemmas.List.Elements.{All-head, All-tail}
use Rattle.p10_core.specs.Types.{PlainType, void, integer, pointer, array, structure, PlainMember, PlainBody, PlainStructure, body_of, members_in, members_of}
use Rattle.p10_core.specs.Sizes.{Layout, aligned, repeated, past_members, greatest_alignment, scalars_of_members, constant_among, layout_of_members, with_mark, layout_by, structure_layout, layout_of}
use Rattle.p10_core.specs.Rows.{is_complete}
use Rattle.p10_core.specs.WholePrograms.{order_in, ContainsBefore, IsWholeMember, IsWholeBody, AreWholeStructures}

-- two layouts of types agree on the types of members
abbrev pub Agree : (PlainType → Layout) → (PlainType → Layout) → List PlainMember → Type 0
Agree f g [] = Unit {0}
Agree f g (m ∷ rest) = (f m.type ≡ g m.type) × Agree f g rest

past_same : (f g : PlainType → Layout) (n : ℕ) (ms : List PlainMember) → Agree f g ms → past_members f n ms ≡ past_members g n ms
past_same f g n [] h = refl
past_same f g n (m ∷ rest) h =
    past_same f g (aligned n (f m.type).alignment + (f m.type).bytes) rest h.1
    ∙ ap (λ l. past_members g (aligned n l.alignment + l.bytes) rest) h.0

alignment_same : (f g : PlainType → Layout) (ms : List PlainMember) → Agree f g ms → greatest_alignment f ms ≡ greatest_alignment g ms
alignment_same f g [] h = refl
alignment_same f g (m ∷ rest) h =
    ap (λ n. max (f m.type).alignment n) (alignment_same f g rest h.1) ∙ ap (λ l. max l.alignment (greatest_alignment g rest)) h.0

scalars_same : (f g : PlainType → Layout) (ms : List PlainMember) → Agree f g ms → scalars_of_members f ms ≡ scalars_of_members g ms
scalars_same f g [] h = refl
scalars_same f g (m ∷ rest) h =
    ap (λ xs. (f m.type).scalars ++ xs) (scalars_same f g rest h.1) ∙ ap (λ l. l.scalars ++ scalars_of_members g rest) h.0

constant_same : (f g : PlainType → Layout) (ms : List PlainMember) → Agree f g ms → constant_among f ms ≡ constant_among g ms
constant_same f g [] h = refl
constant_same f g (m ∷ rest) h =
    ap (λ b. (f m.type).constant || b) (constant_same f g rest h.1) ∙ ap (λ l. l.constant || constant_among g rest) h.0

pub members_same : (f g : PlainType → Layout) (ms : List PlainMember) → Agree f g ms → layout_of_members f ms ≡ layout_of_members g ms
members_same f g ms h = λ i. record {
  bytes = aligned (past_same f g 0 ms h i) (alignment_same f g ms h i);
  alignment = alignment_same f g ms h i;
  scalars = scalars_same f g ms h i;
  constant = constant_same f g ms h i;
}

-- the body of a structure that is complete
pub body_there : {P : Type 0} (o : Option PlainBody) → is_some o ≡ true → ((b : PlainBody) → o ≡ Some b → P) → P
body_there None h go = absurd cc
body_there (Some b) h go = go b refl

-- two layouts of structures agree below an order
abbrev pub AgreeBelow : List PlainStructure → ℕ → (ℕ → Layout) → (ℕ → Layout) → Type 0
AgreeBelow ss order F G = (n : ℕ) (b : PlainBody) → body_of ss n ≡ Some b → b.order < order → F n ≡ G n

pub type_same : (ss : List PlainStructure) (order : ℕ) (F G : ℕ → Layout) → AgreeBelow ss order F G → (t : PlainType) → ContainsBefore ss order t → is_complete ss t ≡ true → layout_by ss F t ≡ layout_by ss G t
type_same ss order F G agree (void c) before complete = refl
type_same ss order F G agree (integer c i) before complete = refl
type_same ss order F G agree (pointer c t) before complete = refl
type_same ss order F G agree (array c t n) before complete =
    ap (λ l. let l : Layout = l in record { bytes = n * l.bytes; alignment = l.alignment; scalars = repeated n l.scalars; constant = c || l.constant }) (type_same ss order F G agree t before complete)
type_same ss order F G agree (structure c n) before complete =
    body_there (body_of ss n) complete (λ b e. ap (with_mark c) (agree n b e (subst (λ o. order_in o < order) e before)))

members_agree : (ss : List PlainStructure) (order : ℕ) (F G : ℕ → Layout) → AgreeBelow ss order F G → (ms : List PlainMember) → All (IsWholeMember ss order) ms → Agree (layout_by ss F) (layout_by ss G) ms
members_agree ss order F G agree [] h = tt
members_agree ss order F G agree (m ∷ rest) h =
    (type_same ss order F G agree m.type (All-head (IsWholeMember ss order) m rest h).before (All-head (IsWholeMember ss order) m rest h).object.complete, members_agree ss order F G agree rest (All-tail (IsWholeMember ss order) m rest h))

-- how a structure lies is the same for each depth above its order
pub stable : (ss : List PlainStructure) → AreWholeStructures ss → (d e n : ℕ) (b : PlainBody) → body_of ss n ≡ Some b → b.order < d → b.order < e → structure_layout d ss n ≡ structure_layout e ss n
stable ss w zero e n b is p q = absurd (omega (arith, p))
stable ss w (suc d) zero n b is p q = absurd (omega (arith, q))
stable ss w (suc d) (suc e) n b is p q =
    let whole : IsWholeBody ss n b = w.bodies n b is in
    let ms : members_of ss n ≡ b.members = ap members_in is in
    ap (layout_of_members (layout_by ss (structure_layout d ss))) ms
    ∙ members_same (layout_by ss (structure_layout d ss)) (layout_by ss (structure_layout e ss)) b.members
    (members_agree ss b.order (structure_layout d ss) (structure_layout e ss) (λ m c es r. stable ss w d e m c es (omega (arith, p, r)) (omega (arith, q, r))) b.members whole.members)
    ∙ sym (ap (layout_of_members (layout_by ss (structure_layout e ss))) ms)

-- how a structure that is complete lies: as its members, as they lie
pub structure_lies : (ss : List PlainStructure) → AreWholeStructures ss → (c : Bool) (n : ℕ) (b : PlainBody) → body_of ss n ≡ Some b →
    layout_of ss (structure c n) ≡ with_mark c (layout_of_members (layout_of ss) b.members)
unfolding layout_of
structure_lies ss w c n b is =
    let whole : IsWholeBody ss n b = w.bodies n b is in
    ap (with_mark c) (stable ss w (length ss) (suc (length ss)) n b is whole.few (omega (arith, whole.few)) ∙ ap (λ o. layout_of_members (layout_of ss) (members_in o)) is)
