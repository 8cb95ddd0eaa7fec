-- Numbers grow from slot to slot, so that a slot is found by a binary search, and no other slot has its number.
use Rattle.std.proofs.Common.{◌≡◌, ◌≢◌, ℕ, zero, suc, get_or, ◌+◌, ◌-◌, ◌/◌, ◌<◌, ◌≤◌, ltb, eqb, ◌&&◌, cond, Bool, true, false, List, [], ◌∷◌, length, refl, sym, ◌∙◌, ap, subst, arith, Some, None, slice_get}
use Rattle.std.proofs.lemmas.Bool.Decides.{nat_tests}
use Rattle.std.proofs.lemmas.Option.{same_Some, none-some, slice_get_within, slice_get-get_or, get_or_from_slice_get}
use Rattle.p10_store.specs.declared.slots.Slot.{Slot}
use Rattle.p10_store.specs.Ranges.{AreGrowing, AreBelow}
use Rattle.p10_store.specs.Places.{has, slot_at, HasSlot, HasLiveSlot, IsSearched}

pub at_least : (n i : ℕ) (ss : List Slot) (s : Slot) → AreGrowing n ss → slice_get ss i ≡ Some s → n ≤ s.number
at_least n i [] s g e = absurd (none-some _ e)
at_least n zero (r ∷ ss) s g e = subst (λ s. n ≤ s.number) (same_Some _ _ e) g.0
at_least n (suc i) (r ∷ ss) s g e = let h : suc r.number ≤ s.number = at_least (suc r.number) i ss s g.1 e in let k : n ≤ r.number = g.0 in omega (arith, h, k)

pub grows : (n i j : ℕ) (ss : List Slot) (a b : Slot) → AreGrowing n ss → slice_get ss i ≡ Some a → slice_get ss j ≡ Some b → i < j → a.number < b.number
grows n i j [] a b g d e l = absurd (none-some _ d)
grows n i zero (r ∷ ss) a b g d e l = absurd (omega (arith, l))
grows n zero (suc j) (r ∷ ss) a b g d e l =
    let h : suc r.number ≤ b.number = at_least (suc r.number) j ss b g.1 e in
    subst (λ a. a.number < b.number) (same_Some _ _ d) (omega (arith, h))
grows n (suc i) (suc j) (r ∷ ss) a b g d e l = grows (suc r.number) i j ss a b g.1 d e (omega (arith, l))

-- ## The search

pub search_begins : (ss : List Slot) (n most : ℕ) → most ≡ length ss → IsSearched ss n 0 most
search_begins ss n most is = record {
  order = omega arith;
  within = omega (arith, is);
  lower = λ i s e l. absurd (omega (arith, l));
  higher = λ i s e l. let h : i < length ss = slice_get_within ss i s e in absurd (omega (arith, l, h, is));
}

lower_now : (ss : List Slot) (n i middle : ℕ) (s r : Slot) → AreGrowing 0 ss → slice_get ss middle ≡ Some r → r.number < n → slice_get ss i ≡ Some s → i < middle + 1 → (b : Bool) → ltb i middle ≡ b → s.number < n
lower_now ss n i middle s r g e below d l true is =
    let h : s.number < r.number = grows 0 i middle ss s r g d e (grind (arith, nat_tests, is)) in omega (arith, h, below)
lower_now ss n i middle s r g e below d l false is =
    let same : middle ≡ i = grind (arith, nat_tests, is, l) in
    subst (λ s. s.number < n) (same_Some _ _ (sym e ∙ (ap (slice_get ss) same ∙ d))) below

pub search_up : (ss : List Slot) (n low high middle : ℕ) (r : Slot) → AreGrowing 0 ss → IsSearched ss n low high → slice_get ss middle ≡ Some r → middle < high → r.number < n → IsSearched ss n (middle + 1) high
search_up ss n low high middle r g h e m below = record {
  order = omega (arith, m);
  within = h.within;
  lower = λ i s d l. lower_now ss n i middle s r g e below d l (ltb i middle) refl;
  higher = h.higher;
}

higher_now : (ss : List Slot) (n i middle : ℕ) (s r : Slot) → AreGrowing 0 ss → slice_get ss middle ≡ Some r → n < r.number → slice_get ss i ≡ Some s → middle ≤ i → (b : Bool) → ltb middle i ≡ b → n < s.number
higher_now ss n i middle s r g e above d l true is =
    let h : r.number < s.number = grows 0 middle i ss r s g e d (grind (arith, nat_tests, is)) in omega (arith, h, above)
higher_now ss n i middle s r g e above d l false is =
    let same : middle ≡ i = grind (arith, nat_tests, is, l) in
    subst (λ s. n < s.number) (same_Some _ _ (sym e ∙ (ap (slice_get ss) same ∙ d))) above

pub search_down : (ss : List Slot) (n low high middle : ℕ) (r : Slot) → AreGrowing 0 ss → IsSearched ss n low high → slice_get ss middle ≡ Some r → low ≤ middle → middle < high → n < r.number → IsSearched ss n low middle
search_down ss n low high middle r g h e l m above = record {
  order = l;
  within = let k : high ≤ length ss = h.within in omega (arith, k, m);
  lower = h.lower;
  higher = λ i s d k. higher_now ss n i middle s r g e above d k (ltb middle i) refl;
}

other : (ss : List Slot) (n low high i : ℕ) (s : Slot) → IsSearched ss n low high → high ≤ low → slice_get ss i ≡ Some s → (b : Bool) → ltb i low ≡ b → s.number ≢ n
other ss n low high i s h over d true is same = let k : s.number < n = h.lower i s d (grind (arith, nat_tests, is)) in omega (arith, k, same)
other ss n low high i s h over d false is same = let k : n < s.number = h.higher i s d (grind (arith, nat_tests, is, over)) in omega (arith, k, same)

pub search_ends : (ss : List Slot) (n low high : ℕ) → IsSearched ss n low high → high ≤ low → (i : ℕ) (s : Slot) → slice_get ss i ≡ Some s → s.number ≢ n
search_ends ss n low high h over i s d = other ss n low high i s h over d (ltb i low) refl

-- ## What was found

not_here : (n : ℕ) (s : Slot) → s.number ≢ n → has n s ≡ false
not_here n s d = case s.live
  where
    off : eqb s.number n ≡ false
    off = grind (arith, nat_tests, d)

    case : (b : Bool) → (b && eqb s.number n) ≡ false
    case false = refl
    case true = off

pub slot_none : (n : ℕ) (ss : List Slot) → ((i : ℕ) (s : Slot) → slice_get ss i ≡ Some s → s.number ≢ n) → slot_at n ss ≡ None
slot_none n [] d = refl
slot_none n (s ∷ ss) d = rw (not_here n s (d 0 s refl)) (slot_none n ss (λ i r e. d (suc i) r e))

slot_here : (n : ℕ) (s : Slot) (ss : List Slot) → s.number ≡ n → slot_at n ss ≡ None → slot_at n (s ∷ ss) ≡ cond s.live (Some s) None
slot_here n s ss e none = case s.live
  where
    on : eqb s.number n ≡ true
    on = grind (arith, nat_tests, e)

    case : (b : Bool) → cond (b && eqb s.number n) (Some s) (slot_at n ss) ≡ cond b (Some s) None
    case false = none
    case true = rw on refl

pub slot_is : (n m i : ℕ) (ss : List Slot) (s : Slot) → AreGrowing m ss → slice_get ss i ≡ Some s → s.number ≡ n → slot_at n ss ≡ cond s.live (Some s) None
slot_is n m i [] s g e is = absurd (none-some _ e)
slot_is n m zero (r ∷ ss) s g e is =
    subst (λ s. slot_at n (r ∷ ss) ≡ cond s.live (Some s) None) (same_Some _ _ e)
    (let same : r.number ≡ n = ap (λ s. s.number) (same_Some _ _ e) ∙ is in
    slot_here n r ss same (slot_none n ss (λ j t d. λ k. let h : suc r.number ≤ t.number = at_least (suc r.number) j ss t g.1 d in absurd (omega (arith, h, k, same)))))
slot_is n m (suc i) (r ∷ ss) s g e is =
    let h : suc r.number ≤ s.number = at_least (suc r.number) i ss s g.1 e in
    rw (not_here n r (λ k. omega (arith, h, k, is))) (slot_is n (suc r.number) i ss s g.1 e is)

-- ## The answers

abbrev middle : ℕ → ℕ → ℕ
middle low high = low + (high - low) / 2

middle_below : (low high : ℕ) → low < high → middle low high < high
middle_below low high l = omega (arith, l)

pub up_from_middle : (ss : List Slot) (n low high : ℕ) (d : Slot) → AreGrowing 0 ss → IsSearched ss n low high → low < high → (get_or ss (middle low high) d).number < n → IsSearched ss n (middle low high + 1) high
up_from_middle ss n low high d g h l below =
    let m : middle low high < high = middle_below low high l in
    let w : high ≤ length ss = h.within in
    search_up ss n low high (middle low high) (get_or ss (middle low high) d) g h (slice_get-get_or ss (middle low high) d (omega (arith, m, w))) m below

pub down_to_middle : (ss : List Slot) (n low high : ℕ) (d : Slot) → AreGrowing 0 ss → IsSearched ss n low high → low < high → (get_or ss (middle low high) d).number ≢ n → n ≤ (get_or ss (middle low high) d).number → IsSearched ss n low (middle low high)
down_to_middle ss n low high d g h l other most =
    let m : middle low high < high = middle_below low high l in
    let w : high ≤ length ss = h.within in
    search_down ss n low high (middle low high) (get_or ss (middle low high) d) g h (slice_get-get_or ss (middle low high) d (omega (arith, m, w))) (omega arith) m (omega (arith, other, most))

slot_found : (ss : List Slot) (n i : ℕ) (d : Slot) → AreGrowing 0 ss → HasSlot ss n i → slot_at n ss ≡ cond (get_or ss i d).live (Some (get_or ss i d)) None
slot_found ss n i d g h =
    subst (λ s. slot_at n ss ≡ cond s.live (Some s) None) (sym (get_or_from_slice_get ss i h.slot d h.there)) (slot_is n 0 i ss h.slot g h.there h.number)

pub found_live : (ss : List Slot) (n i : ℕ) (d : Slot) → AreGrowing 0 ss → HasSlot ss n i → (get_or ss i d).live ≡ true → Some (get_or ss i d) ≡ slot_at n ss
found_live ss n i d g h e = sym (slot_found ss n i d g h ∙ ap (λ b. cond b (Some (get_or ss i d)) None) e)

pub found_dead : (ss : List Slot) (n i : ℕ) (d : Slot) → AreGrowing 0 ss → HasSlot ss n i → (get_or ss i d).live ≡ false → None ≡ slot_at n ss
found_dead ss n i d g h e = sym (slot_found ss n i d g h ∙ ap (λ b. cond b (Some (get_or ss i d)) None) e)

-- the slot of a live object
pub live_at : (ss : List Slot) (n i : ℕ) (d : Slot) → HasSlot ss n i → (get_or ss i d).live ≡ true → HasLiveSlot ss n i
live_at ss n i d h e = record { slot = h.slot; there = h.there; number = h.number; live = subst (λ s. s.live ≡ true) (get_or_from_slice_get ss i h.slot d h.there) e }

pub found_at : (ss : List Slot) (n i : ℕ) (d : Slot) → AreGrowing 0 ss → HasLiveSlot ss n i → Some (get_or ss i d) ≡ slot_at n ss
found_at ss n i d g h =
    let s : HasSlot ss n i = record { slot = h.slot; there = h.there; number = h.number } in
    found_live ss n i d g s (subst (λ s. s.live ≡ true) (sym (get_or_from_slice_get ss i h.slot d h.there)) h.live)

-- no slot has the number of the next object
below_at : (opened i : ℕ) (ss : List Slot) (s : Slot) → AreBelow opened ss → slice_get ss i ≡ Some s → s.number < opened
below_at opened i [] s b e = absurd (none-some _ e)
below_at opened zero (r ∷ ss) s b e = subst (λ s. s.number < opened) (same_Some _ _ e) b.0
below_at opened (suc i) (r ∷ ss) s b e = below_at opened i ss s b.1 e

pub none_at_opened : (opened : ℕ) (ss : List Slot) → AreBelow opened ss → slot_at opened ss ≡ None
none_at_opened opened ss b = slot_none opened ss (λ i s e d. let h : s.number < opened = below_at opened i ss s b e in omega (arith, h, d))
