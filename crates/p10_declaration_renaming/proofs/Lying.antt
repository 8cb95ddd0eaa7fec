-- Types that are the same lie the same in memory.
use Rattle.std.proofs.Common.{◌≡◌, ◌∙◌, sym, refl, ap, subst, arith, ℕ, zero, suc, ◌+◌, ◌*◌, ◌<◌, ◌≤◌, max, Bool, true, false, ◌||◌, List, [], ◌∷◌, ◌++◌, length, All, Option, Some, None, slice_get}
use Rattle.std.proofs.lemmas.List.Elements.{All-head, All-tail}
use Rattle.p10_core.specs.Types.{PlainType, void, integer, pointer, array, structure, bare, PlainMember, PlainBody, PlainStructure, body_in, body_of, members_in, representative_in}
use Rattle.p10_core.specs.Sizes.{Layout, aligned, repeated, past_members, greatest_alignment, scalars_of_members, constant_among, layout_of_members, with_mark, layout_by, structure_layout, layout_of}
use Rattle.p10_core.specs.WholePrograms.{order_in, ContainsBefore, IsWholeMember}
use Rattle.p10_core.proofs.Layouts.{structure_lies}
use Rattle.p10_renaming.specs.Renaming.{Pairing, SameType, same_void, same_integer, same_pointer, same_array, same_structure}
use Rattle.p10_expression_renaming.specs.Knowing.{SameTypes, same_no_types, same_more_types, SameMembers, same_no_members, same_more_members}
use Rattle.p10_declaration_renaming.specs.Standings.{Both, SameStructure, SameTables}

-- ## What two numbers say that are paired

pub bodies_by : (R : Pairing) (o p : Option PlainStructure) → Both (SameStructure R) o p → Both (λ b d. SameMembers R b.members d.members) (body_in o) (body_in p)
bodies_by R None None h = tt
bodies_by R (Some x) (Some y) h = h.members
bodies_by R None (Some y) h = absurd h
bodies_by R (Some x) None h = absurd h

pub bodies_both : (R : Pairing) (these others : List PlainStructure) → SameTables R these others → (n m : ℕ) → R.used n m ≡ true → Both (λ b d. SameMembers R b.members d.members) (body_of these n) (body_of others m)
bodies_both R these others know n m paired = bodies_by R (slice_get these n) (slice_get others m) (know.entries n m paired)

pub representatives_by : (R : Pairing) (n m : ℕ) → R.used n m ≡ true → (o p : Option PlainStructure) → Both (SameStructure R) o p → R.used (representative_in n o) (representative_in m p) ≡ true
representatives_by R n m paired None None h = paired
representatives_by R n m paired (Some x) (Some y) h = h.representatives
representatives_by R n m paired None (Some y) h = absurd h
representatives_by R n m paired (Some x) None h = absurd h

pub bare_both : (R : Pairing) (these others : List PlainStructure) → SameTables R these others → {t u : PlainType} → SameType R t u → SameType R (bare these t) (bare others u)
bare_both R these others know same_void = same_void
bare_both R these others know same_integer = same_integer
bare_both R these others know (same_pointer h) = same_pointer (bare_both R these others know h)
bare_both R these others know (same_array h) = same_array (bare_both R these others know h)
bare_both R these others know (same_structure {n = n} {m = m} paired) = same_structure (representatives_by R n m paired (slice_get these n) (slice_get others m) (know.entries n m paired))

-- ## Layouts

pub record SameLayout (R : Pairing) (l k : Layout) : Type 0 where
  pub bytes : l.bytes ≡ k.bytes
  pub alignment : l.alignment ≡ k.alignment
  pub scalars : SameTypes R l.scalars k.scalars
  pub constant : l.constant ≡ k.constant

joined_types : (R : Pairing) {ts us vs ws : List PlainType} → SameTypes R ts us → SameTypes R vs ws → SameTypes R (ts ++ vs) (us ++ ws)
joined_types R same_no_types k = k
joined_types R (same_more_types h rest) k = same_more_types h (joined_types R rest k)

repeated_types : (R : Pairing) (n : ℕ) {ts us : List PlainType} → SameTypes R ts us → SameTypes R (repeated n ts) (repeated n us)
repeated_types R zero h = same_no_types
repeated_types R (suc n) h = joined_types R h (repeated_types R n h)

-- members that lie the same, one for one
abbrev LieAlike : Pairing → (PlainType → Layout) → (PlainType → Layout) → List PlainMember → List PlainMember → Type 0
LieAlike R f g [] [] = Unit {0}
LieAlike R f g (m ∷ ms) (k ∷ ks) = SameLayout R (f m.type) (g k.type) × LieAlike R f g ms ks
LieAlike R f g [] (k ∷ ks) = ⊥
LieAlike R f g (m ∷ ms) [] = ⊥

past_both : (R : Pairing) (f g : PlainType → Layout) (n : ℕ) (ms ks : List PlainMember) → LieAlike R f g ms ks → past_members f n ms ≡ past_members g n ks
past_both R f g n [] [] h = refl
past_both R f g n (m ∷ ms) (k ∷ ks) h =
    past_both R f g (aligned n (f m.type).alignment + (f m.type).bytes) ms ks h.1
    ∙ (λ i. past_members g (aligned n (h.0.alignment i) + h.0.bytes i) ks)
past_both R f g n [] (k ∷ ks) h = absurd h
past_both R f g n (m ∷ ms) [] h = absurd h

greatest_both : (R : Pairing) (f g : PlainType → Layout) (ms ks : List PlainMember) → LieAlike R f g ms ks → greatest_alignment f ms ≡ greatest_alignment g ks
greatest_both R f g [] [] h = refl
greatest_both R f g (m ∷ ms) (k ∷ ks) h = λ i. max (h.0.alignment i) (greatest_both R f g ms ks h.1 i)
greatest_both R f g [] (k ∷ ks) h = absurd h
greatest_both R f g (m ∷ ms) [] h = absurd h

scalars_both : (R : Pairing) (f g : PlainType → Layout) (ms ks : List PlainMember) → LieAlike R f g ms ks → SameTypes R (scalars_of_members f ms) (scalars_of_members g ks)
scalars_both R f g [] [] h = same_no_types
scalars_both R f g (m ∷ ms) (k ∷ ks) h = joined_types R h.0.scalars (scalars_both R f g ms ks h.1)
scalars_both R f g [] (k ∷ ks) h = absurd h
scalars_both R f g (m ∷ ms) [] h = absurd h

constant_both : (R : Pairing) (f g : PlainType → Layout) (ms ks : List PlainMember) → LieAlike R f g ms ks → constant_among f ms ≡ constant_among g ks
constant_both R f g [] [] h = refl
constant_both R f g (m ∷ ms) (k ∷ ks) h = λ i. h.0.constant i || constant_both R f g ms ks h.1 i
constant_both R f g [] (k ∷ ks) h = absurd h
constant_both R f g (m ∷ ms) [] h = absurd h

members_both : (R : Pairing) (f g : PlainType → Layout) (ms ks : List PlainMember) → LieAlike R f g ms ks → SameLayout R (layout_of_members f ms) (layout_of_members g ks)
members_both R f g ms ks h = record {
  bytes = λ i. aligned (past_both R f g 0 ms ks h i) (greatest_both R f g ms ks h i);
  alignment = greatest_both R f g ms ks h;
  scalars = scalars_both R f g ms ks h;
  constant = constant_both R f g ms ks h;
}

marked : (R : Pairing) (c : Bool) (l k : Layout) → SameLayout R l k → SameLayout R (with_mark c l) (with_mark c k)
marked R c l k h = record { bytes = h.bytes; alignment = h.alignment; scalars = h.scalars; constant = ap (λ b. c || b) h.constant }

by_layouts : (R : Pairing) {l k x y : Layout} → l ≡ x → k ≡ y → SameLayout R x y → SameLayout R l k
by_layouts R {k = k} {x = x} e d h = subst (λ a. SameLayout R a k) (sym e) (subst (λ b. SameLayout R x b) (sym d) h)

-- how a structure lies that isn't complete
no_layout : Layout
no_layout = record { bytes = 0; alignment = 1; scalars = []; constant = false }

nothing_at : (ss : List PlainStructure) (n d : ℕ) → body_of ss n ≡ None → structure_layout d ss n ≡ no_layout
unfolding no_layout
nothing_at ss n zero e = refl
nothing_at ss n (suc d) e = ap (λ o. layout_of_members (layout_by ss (structure_layout d ss)) (members_in o)) e

nothing_lies : (ss : List PlainStructure) (c : Bool) (n : ℕ) → body_of ss n ≡ None → layout_of ss (structure c n) ≡ with_mark c no_layout
unfolding layout_of
nothing_lies ss c n e = ap (with_mark c) (nothing_at ss n (length ss) e)

nothing_both : (R : Pairing) → SameLayout R no_layout no_layout
unfolding no_layout
nothing_both R = record { bytes = refl; alignment = refl; scalars = same_no_types; constant = refl }

-- ## By the order in which structures were completed

contains_more : (ss : List PlainStructure) (a b : ℕ) → a ≤ b → (t : PlainType) → ContainsBefore ss a t → ContainsBefore ss b t
contains_more ss a b p (void c) h = tt
contains_more ss a b p (integer c i) h = tt
contains_more ss a b p (pointer c t) h = tt
contains_more ss a b p (array c t n) h = contains_more ss a b p t h
contains_more ss a b p (structure c n) h = omega (arith, p, h)

abbrev StructuresLie : Pairing → List PlainStructure → List PlainStructure → ℕ → Type 0
StructuresLie R these others order = (c : Bool) (n m : ℕ) → R.used n m ≡ true → order_in (body_of these n) < order → SameLayout R (layout_of these (structure c n)) (layout_of others (structure c m))

type_lies : (R : Pairing) (these others : List PlainStructure) → SameTables R these others → (order : ℕ) → StructuresLie R these others order → {t u : PlainType} → SameType R t u → ContainsBefore these order t
    → SameLayout R (layout_of these t) (layout_of others u)
unfolding layout_of
type_lies R these others know order inner same_void h = record { bytes = refl; alignment = refl; scalars = same_no_types; constant = refl }
type_lies R these others know order inner same_integer h = record { bytes = refl; alignment = refl; scalars = same_more_types same_integer same_no_types; constant = refl }
type_lies R these others know order inner (same_pointer k) h =
    record { bytes = refl; alignment = refl; scalars = same_more_types (same_pointer (bare_both R these others know k)) same_no_types; constant = refl }
type_lies R these others know order inner (same_array {c = c} {n = n} k) h =
    let l = type_lies R these others know order inner k h in
    record { bytes = ap (λ b. n * b) l.bytes; alignment = l.alignment; scalars = repeated_types R n l.scalars; constant = ap (λ b. c || b) l.constant }
type_lies R these others know order inner (same_structure {c = c} {n = n} {m = m} paired) h = inner c n m paired h

members_lie : (R : Pairing) (these others : List PlainStructure) → SameTables R these others → (order below : ℕ) → below ≤ order → StructuresLie R these others order → {ms ks : List PlainMember} → SameMembers R ms ks
    → All (IsWholeMember these below) ms → LieAlike R (layout_of these) (layout_of others) ms ks
members_lie R these others know order below p inner same_no_members a = tt
members_lie R these others know order below p inner (same_more_members {name = name} {t = t} {xs = xs} k rest) a =
    let first : PlainMember = record { name = name; type = t } in (
      type_lies R these others know order inner k (contains_more these below order p t (All-head (IsWholeMember these below) first xs a).before),
      members_lie R these others know order below p inner rest (All-tail (IsWholeMember these below) first xs a),
    )

body_lies : (R : Pairing) (these others : List PlainStructure) → SameTables R these others → (order : ℕ) → StructuresLie R these others order → (c : Bool) (n m : ℕ) → (o p : Option PlainBody) → body_of these n ≡ o → body_of others m ≡ p
    → Both (λ b d. SameMembers R b.members d.members) o p → order_in o ≤ order → SameLayout R (layout_of these (structure c n)) (layout_of others (structure c m))
body_lies R these others know order inner c n m None None e d h low =
    by_layouts R (nothing_lies these c n e) (nothing_lies others c m d) (marked R c no_layout no_layout (nothing_both R))
body_lies R these others know order inner c n m (Some b) (Some k) e d h low =
    by_layouts R (structure_lies these know.built.whole c n b e) (structure_lies others know.other_built.whole c m k d)
    (marked R c _ _ (members_both R (layout_of these) (layout_of others) b.members k.members (members_lie R these others know order b.order low inner h (know.built.whole.bodies n b e).members)))
body_lies R these others know order inner c n m None (Some k) e d h low = absurd h
body_lies R these others know order inner c n m (Some b) None e d h low = absurd h

structures_lie : (R : Pairing) (these others : List PlainStructure) → SameTables R these others → (order : ℕ) → StructuresLie R these others order
structures_lie R these others know zero c n m paired low = absurd (omega (arith, low))
structures_lie R these others know (suc order) c n m paired low =
    body_lies R these others know order (structures_lie R these others know order) c n m (body_of these n) (body_of others m) refl refl (bodies_both R these others know n m paired) (omega (arith, low))

order_low : (R : Pairing) (these others : List PlainStructure) → SameTables R these others → (n : ℕ) (o : Option PlainBody) → body_of these n ≡ o → order_in o < suc (length these)
order_low R these others know n None e = omega arith
order_low R these others know n (Some b) e = omega (arith, (know.built.whole.bodies n b e).few)

contains_all : (R : Pairing) (these others : List PlainStructure) → SameTables R these others → (t : PlainType) → ContainsBefore these (suc (length these)) t
contains_all R these others know (void c) = tt
contains_all R these others know (integer c i) = tt
contains_all R these others know (pointer c t) = tt
contains_all R these others know (array c t n) = contains_all R these others know t
contains_all R these others know (structure c n) = order_low R these others know n (body_of these n) refl

pub lies_same : (R : Pairing) (these others : List PlainStructure) → SameTables R these others → {t u : PlainType} → SameType R t u → SameLayout R (layout_of these t) (layout_of others u)
lies_same R these others know {t = t} h = type_lies R these others know (suc (length these)) (structures_lie R these others know (suc (length these))) h (contains_all R these others know t)
