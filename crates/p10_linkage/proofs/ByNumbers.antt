-- Structures with the numbers of those that stand for them, as the code has them.
use Rattle.std.proofs.Common.{◌≡◌, ℕ, zero, suc, ◌+◌, ◌<◌, nat_eq, Bool, true, false, ◌&&◌, if◌then◌else◌, List, [], ◌∷◌, map, length, Option, Some, None, option_map, slice_get, ◌-◌, is_some, bytes_eq, refl, sym, ◌∙◌, ap, arith, inl, inr}
use Rattle.std.proofs.lemmas.Bool.Decides.{eqb_tells}
use Rattle.std.specs.Bool.{beq}
use Rattle.std.specs.Option.{unwrap_or}
use Rattle.p10_base.specs.Words.{Text}
use Rattle.p10_core.specs.Types.{PlainType, void, integer, pointer, array, structure, PlainMember, PlainBody, PlainStructure, body_of, representative_in, representative_of}
use Rattle.p10_core.specs.Rows.{same_integer}
use Rattle.p10_core.specs.Representing.{representatives, represented}
use Rattle.p10_linkage.specs.Uniting.{same_tags, tagged_alike, standing_for, stands_for_both, and_then, members_united, bodies_united, types_united, united_within}
use Rattle.p10_linkage.specs.declared.meeting.Meeting.{Meeting}
use Rattle.p10_linkage.specs.declared.meeting.Meeting.TheVariants.{Never, Always, Where}
use Rattle.p10_linkage.specs.private.Meetings.{meeting_of, met, slice_or, swapped}

-- ## Types that meet

always_met : (b : Bool) (unite : ℕ → ℕ → List PlainStructure → Option (List PlainStructure)) (ss : List PlainStructure) → (if b then Some ss else None) ≡ met unite (if b then Always else Never) ss
always_met true unite ss = refl
always_met false unite ss = refl

unless_met : (b : Bool) (unite : ℕ → ℕ → List PlainStructure → Option (List PlainStructure)) (ss : List PlainStructure) (o : Option (List PlainStructure)) (m : Meeting) → o ≡ met unite m ss → (if b then o else None) ≡ met unite (if b then m else Never) ss
unless_met true unite ss o m e = e
unless_met false unite ss o m e = refl

-- types are made one where they meet
pub types_met : (unite : ℕ → ℕ → List PlainStructure → Option (List PlainStructure)) (t u : PlainType) (ss : List PlainStructure) → types_united unite t u ss ≡ met unite (meeting_of t u) ss
types_met unite (void c) (void d) ss = always_met (beq c d) unite ss
types_met unite (void c) (integer d j) ss = refl
types_met unite (void c) (pointer d u) ss = refl
types_met unite (void c) (array d u n) ss = refl
types_met unite (void c) (structure d n) ss = refl
types_met unite (integer c i) (void d) ss = refl
types_met unite (integer c i) (integer d j) ss = always_met (beq c d && same_integer i j) unite ss
types_met unite (integer c i) (pointer d u) ss = refl
types_met unite (integer c i) (array d u n) ss = refl
types_met unite (integer c i) (structure d n) ss = refl
types_met unite (pointer c t) (void d) ss = refl
types_met unite (pointer c t) (integer d j) ss = refl
types_met unite (pointer c t) (pointer d u) ss = unless_met (beq c d) unite ss (types_united unite t u ss) (meeting_of t u) (types_met unite t u ss)
types_met unite (pointer c t) (array d u n) ss = refl
types_met unite (pointer c t) (structure d n) ss = refl
types_met unite (array c t m) (void d) ss = refl
types_met unite (array c t m) (integer d j) ss = refl
types_met unite (array c t m) (pointer d u) ss = refl
types_met unite (array c t m) (array d u n) ss = unless_met (nat_eq m n) unite ss (types_united unite t u ss) (meeting_of t u) (types_met unite t u ss)
types_met unite (array c t m) (structure d n) ss = refl
types_met unite (structure c m) (void d) ss = refl
types_met unite (structure c m) (integer d j) ss = refl
types_met unite (structure c m) (pointer d u) ss = refl
types_met unite (structure c m) (array d u n) ss = refl
types_met unite (structure c m) (structure d n) ss = unless_met (beq c d) unite ss (unite (representative_of ss m) (representative_of ss n) ss) (Where m n) refl

-- ## What stands for structures

stands_in : (ss : List PlainStructure) (numbers : List ℕ) (n place : ℕ) → length numbers ≡ length ss → representative_in n (slice_get (represented ss numbers) place) ≡ unwrap_or (slice_get numbers place) n
stands_in [] [] n place h = refl
stands_in [] (m ∷ numbers) n place h = absurd (omega (arith, h))
stands_in (s ∷ ss) [] n place h = absurd (omega (arith, h))
stands_in (s ∷ ss) (m ∷ numbers) n zero h = refl
stands_in (s ∷ ss) (m ∷ numbers) n (suc place) h = stands_in ss numbers n place (omega (arith, h))

-- what stands for a structure is its number in the list
pub stands_by_number : (ss : List PlainStructure) (numbers : List ℕ) (n : ℕ) → length numbers ≡ length ss → representative_of (represented ss numbers) n ≡ slice_or numbers n
stands_by_number ss numbers n h = stands_in ss numbers n n h

-- bodies don't change
pub body_represented : (ss : List PlainStructure) (numbers : List ℕ) (n : ℕ) → body_of (represented ss numbers) n ≡ body_of ss n
body_represented [] numbers n = refl
body_represented (s ∷ ss) [] n = refl
body_represented (s ∷ ss) (m ∷ numbers) zero = refl
body_represented (s ∷ ss) (m ∷ numbers) (suc n) = body_represented ss numbers n

pub as_many_represented : (ss : List PlainStructure) (numbers : List ℕ) → length (represented ss numbers) ≡ length ss
as_many_represented [] numbers = refl
as_many_represented (s ∷ ss) [] = refl
as_many_represented (s ∷ ss) (m ∷ numbers) = ap suc (as_many_represented ss numbers)

-- structures with their own numbers are as they are
pub represented_own : (ss : List PlainStructure) → represented ss (representatives ss) ≡ ss
represented_own [] = refl
represented_own (s ∷ ss) = ap (λ rest. s ∷ rest) (represented_own ss)

tag_represented : (ss : List PlainStructure) (numbers : List ℕ) (n : ℕ) → option_map (λ (s : PlainStructure). s.tag) (slice_get (represented ss numbers) n) ≡ option_map (λ (s : PlainStructure). s.tag) (slice_get ss n)
tag_represented [] numbers n = refl
tag_represented (s ∷ ss) [] n = refl
tag_represented (s ∷ ss) (m ∷ numbers) zero = refl
tag_represented (s ∷ ss) (m ∷ numbers) (suc n) = tag_represented ss numbers n

-- whether tags of structures that may be there are alike
abbrev alike_by_tags : Option (Option Text) → Option (Option Text) → Bool
alike_by_tags (Some a) (Some b) = same_tags a b
alike_by_tags a b = false

by_tags : (o p : Option PlainStructure) → tagged_alike o p ≡ alike_by_tags (option_map (λ (s : PlainStructure). s.tag) o) (option_map (λ (s : PlainStructure). s.tag) p)
by_tags None None = refl
by_tags None (Some t) = refl
by_tags (Some s) None = refl
by_tags (Some s) (Some t) = refl

-- nor do tags
pub alike_represented : (ss : List PlainStructure) (numbers : List ℕ) (m n : ℕ) → tagged_alike (slice_get (represented ss numbers) m) (slice_get (represented ss numbers) n) ≡ tagged_alike (slice_get ss m) (slice_get ss n)
alike_represented ss numbers m n =
    by_tags (slice_get (represented ss numbers) m) (slice_get (represented ss numbers) n)
    ∙ (λ i. alike_by_tags (tag_represented ss numbers m i) (tag_represented ss numbers n i))
    ∙ sym (by_tags (slice_get ss m) (slice_get ss n))

-- another one comes to stand for structures where their numbers are swapped
pub swapped_represented : (ss : List PlainStructure) (numbers : List ℕ) (old new : ℕ) → length numbers ≡ length ss →
    represented ss (map (swapped old new) numbers) ≡ standing_for old new (represented ss numbers)
swapped_represented [] numbers old new h = refl
swapped_represented (s ∷ ss) [] old new h = absurd (omega (arith, h))
swapped_represented (s ∷ ss) (m ∷ numbers) old new h = ap (λ rest. record s { representative = swapped old new m } ∷ rest) (swapped_represented ss numbers old new (omega (arith, h)))

-- ## What the code finds

if_none : {A : Type 0} (b : Bool) (o : Option A) → o ≡ None → (if b then o else None) ≡ None
if_none true o e = e
if_none false o e = refl

pub then_none : {A : Type 0} (o : Option A) (go : A → Option A) → ((x : A) → go x ≡ None) → and_then o go ≡ None
then_none None go e = refl
then_none (Some x) go e = e x

-- members that aren't as many aren't made one
pub members_apart : (unite : PlainType → PlainType → List PlainStructure → Option (List PlainStructure)) (ms ks : List PlainMember) (ss : List PlainStructure) → (length ms ≡ length ks → ⊥) → members_united unite ms ks ss ≡ None
members_apart unite [] [] ss h = absurd (h refl)
members_apart unite [] (k ∷ ks) ss h = refl
members_apart unite (m ∷ ms) [] ss h = refl
members_apart unite (m ∷ ms) (k ∷ ks) ss h =
    if_none (bytes_eq m.name k.name) (and_then (unite m.type k.type ss) (members_united unite ms ks))
    (then_none (unite m.type k.type ss) (members_united unite ms ks) (λ x. members_apart unite ms ks x (λ e. h (ap suc e))))

-- one of two structures stands for both
pub both_represented : (ss : List PlainStructure) (numbers after : List ℕ) (m n : ℕ) (complete : Bool) → length numbers ≡ length ss → complete ≡ is_some (body_of ss m) →
    after ≡ (if complete then map (swapped n m) numbers else map (swapped m n) numbers) → represented ss after ≡ stands_for_both (represented ss numbers) m n
both_represented ss numbers after m n complete long full is =
    ap (represented ss) is
    ∙ chosen complete
    ∙ ap (λ b. if b then standing_for n m (represented ss numbers) else standing_for m n (represented ss numbers)) (full ∙ sym (ap is_some (body_represented ss numbers m)))
  where
    chosen : (b : Bool) → represented ss (if b then map (swapped n m) numbers else map (swapped m n) numbers) ≡ (if b then standing_for n m (represented ss numbers) else standing_for m n (represented ss numbers))
    chosen true = swapped_represented ss numbers n m long
    chosen false = swapped_represented ss numbers m n long

pub some_mapped : {A B : Type 0} (f : A → B) (o : Option A) → is_some (option_map f o) ≡ is_some o
some_mapped f None = refl
some_mapped f (Some x) = refl

-- bodies of which one is lacking agree
pub second_lacks : (unite : PlainType → PlainType → List PlainStructure → Option (List PlainStructure)) (o p : Option PlainBody) (ss : List PlainStructure) → p ≡ None → bodies_united unite o p ss ≡ Some ss
second_lacks unite o p ss e = ap (λ p. bodies_united unite o p ss) e ∙ lacking o
  where
    lacking : (o : Option PlainBody) → bodies_united unite o None ss ≡ Some ss
    lacking None = refl
    lacking (Some b) = refl

pub first_lacks : (unite : PlainType → PlainType → List PlainStructure → Option (List PlainStructure)) (o p : Option PlainBody) (ss : List PlainStructure) → o ≡ None → bodies_united unite o p ss ≡ Some ss
first_lacks unite o p ss e = ap (λ o. bodies_united unite o p ss) e ∙ lacking p
  where
    lacking : (p : Option PlainBody) → bodies_united unite None p ss ≡ Some ss
    lacking None = refl
    lacking (Some b) = refl

-- structures that aren't alike by their tags aren't made one
pub none_alike : (o p : Option PlainStructure) → p ≡ None → tagged_alike o p ≡ false
none_alike o p e = ap (tagged_alike o) e ∙ lacking o
  where
    lacking : (o : Option PlainStructure) → tagged_alike o None ≡ false
    lacking None = refl
    lacking (Some s) = refl

differ_is : (m n : ℕ) → (m ≡ n → ⊥) → nat_eq m n ≡ false
differ_is m n differ = elim (eqb_tells m n) as (λ _. nat_eq m n ≡ false) [
  | inl (e, is) ↦ absurd (differ is)
  | inr (e, other) ↦ e
]

-- two structures that aren't one yet are made one by their bodies, where their tags are alike
pub within_apart : (pairs m n : ℕ) (ss : List PlainStructure) (numbers : List ℕ) (alike : Bool) → (pairs ≡ 0 → ⊥) → (m ≡ n → ⊥) → tagged_alike (slice_get ss m) (slice_get ss n) ≡ alike →
    united_within pairs m n (represented ss numbers) ≡ (if alike then bodies_united (types_united (united_within (pairs - 1))) (body_of ss m) (body_of ss n) (stands_for_both (represented ss numbers) m n) else None)
within_apart zero m n ss numbers alike some differ is = absurd (some refl)
within_apart (suc pairs) m n ss numbers alike some differ is =
    let rs : List PlainStructure = represented ss numbers in
    let unite : PlainType → PlainType → List PlainStructure → Option (List PlainStructure) = types_united (united_within pairs) in
    let fewer : pairs ≡ suc pairs - 1 = omega arith in
    ap (λ b. if b then Some rs else (if tagged_alike (slice_get rs m) (slice_get rs n) then bodies_united unite (body_of rs m) (body_of rs n) (stands_for_both rs m n) else None)) (differ_is m n differ)
    ∙ (λ i. if (alike_represented ss numbers m n ∙ is) i then bodies_united unite (body_represented ss numbers m i) (body_represented ss numbers n i) (stands_for_both rs m n) else None)
    ∙ ap (λ p. if alike then bodies_united (types_united (united_within p)) (body_of ss m) (body_of ss n) (stands_for_both rs m n) else None) fewer
