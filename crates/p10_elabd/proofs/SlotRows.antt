-- What is left to initialise of an aggregate, one item after the other.
use Rattle.std.specs.Prelude.{◌≡◌, ℕ, zero, suc, ◌+◌, ◌-◌, nat_lt, Bool, true, false, if◌then◌else◌, List, [], ◌∷◌, map, length, drop, take, slice_get, Option, Some, None, refl}
use Rattle.std.specs.declared.alloc.Global.{Global}
use Rattle.std.proofs.Common.{◌<◌, ◌≤◌, Vec, ap, sym, ◌∙◌, subst, arith}
use Rattle.std.proofs.lemmas.List.{length-drop}
use Rattle.std.proofs.Math.Seq.{take-length}
use Rattle.std.proofs.lemmas.Bool.{lt-ltb, ltb-true, ltb-false}
use Rattle.p10_base.specs.declared.at.At.{At}
use Rattle.p10_syn.specs.declared.statement.Init.{Init}
use Rattle.p10_syn.specs.declared.statement.Init.TheVariants as init
use Rattle.p10_syn.specs.Trees.{Initializer, Initializers, NoInitializers, MoreInitializers, initializer_row}
use Rattle.p10_syn.specs.BuiltStatements.{initializer_of}
use Rattle.p10_core.specs.Types.{PlainType}
use Rattle.p10_core.specs.Typed.{PlainItem}
use Rattle.p10_elabx.specs.First.{only_first}
use Rattle.p10_elabd.specs.declared.lifetime.Lifetime.{Lifetime}
use Rattle.p10_elabd.specs.Standing.{Passed}
use Rattle.p10_elabd.specs.Initializers.{Slots, elements, members, no_slots, has_slot, slot_type, after_slot, scalar_count, no_surplus, item_passed, items_passed}
use Rattle.p10_elabd.specs.ItemViews.{slot_at, slots_after, list_written}
use Rattle.p10_elabd.proofs.ItemRows.{braced_is}

-- something of a type is left, and after it something else
record Leads (s : Slots) (t : PlainType) (next : Slots) : Type 0 where
  has : has_slot s ≡ true
  type : slot_type s ≡ t
  after : after_slot s ≡ next

dropped : (ts : List PlainType) (i : ℕ) (t : PlainType) → Some t ≡ slice_get ts i → drop i ts ≡ t ∷ drop (i + 1) ts
dropped [] zero t e = absurd cc
dropped [] (suc i) t e = absurd cc
dropped (x ∷ xs) zero t e = let same : x ≡ t = cc in ap (λ y. y ∷ xs) same
dropped (x ∷ xs) (suc i) t e =
    let two : suc i + 1 ≡ suc (i + 1) = omega arith in
    dropped xs i t e ∙ ap (λ n. t ∷ drop n (x ∷ xs)) (sym two)

none_dropped : (ts : List PlainType) (i : ℕ) → None ≡ slice_get ts i → drop i ts ≡ []
none_dropped [] zero e = refl
none_dropped [] (suc i) e = refl
none_dropped (x ∷ xs) zero e = absurd cc
none_dropped (x ∷ xs) (suc i) e = none_dropped xs i e

elements_lead : (u t : PlainType) (n i : ℕ) (b : Bool) → nat_lt i n ≡ b → Some t ≡ (if b then Some u else None) → Leads (elements u (n - i)) t (elements u (n - (i + 1)))
elements_lead u t n i false e f = absurd cc
elements_lead u t n i true e f =
    let below : i < n = ltb-true i n e in
    let same : u ≡ t = cc in
    let left : n - i - 1 ≡ n - (i + 1) = omega arith in
    record { has = lt-ltb 0 (n - i) (omega (arith, below)); type = same; after = ap (elements u) left }

slot_there : (s : Slots) (i : ℕ) (t : PlainType) → Some t ≡ slot_at i s → Leads (slots_after i s) t (slots_after (i + 1) s)
slot_there (elements u n) i t e = elements_lead u t n i (nat_lt i n) refl e
slot_there (members ts) i t e =
    subst (λ (xs : List PlainType). Leads (members xs) t (members (drop (i + 1) ts))) (sym (dropped ts i t e)) (record { has = refl; type = refl; after = refl })
slot_there no_slots i t e = absurd cc

-- one item
pub step_items : (life : Lifetime) (s : Slots) (i scalar next : ℕ) (t : PlainType) (p q : Passed (List PlainItem)) (x : Initializer At) (all rest : Initializers At) →
    all ≡ MoreInitializers x rest → Some t ≡ slot_at i s → q ≡ item_passed only_first life t scalar p x → next ≡ scalar + scalar_count p.after.scope.structures t →
    items_passed only_first life (slots_after i s) scalar p all ≡ items_passed only_first life (slots_after (i + 1) s) next q rest
step_items life s i scalar next t p q x all rest cut there eq en =
    let l : Leads (slots_after i s) t (slots_after (i + 1) s) = slot_there s i t there in
    let go : Slots → PlainType → Passed (List PlainItem) = (λ after u. items_passed only_first life after (scalar + scalar_count p.after.scope.structures u) (item_passed only_first life u scalar p x) rest) in
    ap (items_passed only_first life (slots_after i s) scalar p) cut
    ∙ ap (λ b. if b then go (after_slot (slots_after i s)) (slot_type (slots_after i s)) else no_surplus only_first p (MoreInitializers x rest)) l.has
    ∙ ap (λ a. go a (slot_type (slots_after i s))) l.after
    ∙ ap (go (slots_after (i + 1) s)) l.type
    ∙ ap (λ r. items_passed only_first life (slots_after (i + 1) s) (scalar + scalar_count p.after.scope.structures t) r rest) (sym eq)
    ∙ ap (λ n. items_passed only_first life (slots_after (i + 1) s) n q rest) (sym en)

nothing_left : (s : Slots) (i : ℕ) → None ≡ slot_at i s → has_slot (slots_after i s) ≡ false
nothing_left (elements u n) i e = by_test (nat_lt i n) refl e
  where
    by_test : (b : Bool) → nat_lt i n ≡ b → None ≡ (if b then Some u else None) → nat_lt 0 (n - i) ≡ false
    by_test true f g = absurd cc
    by_test false f g = let above : n ≤ i = ltb-false i n f in let zero_left : n - i ≡ 0 = omega (arith, above) in ap (nat_lt 0) zero_left
nothing_left (members ts) i e = ap (λ (xs : List PlainType). has_slot (members xs)) (none_dropped ts i e)
nothing_left no_slots i e = refl

-- items after the last
surplus_is : (life : Lifetime) (s : Slots) (i scalar : ℕ) (p : Passed (List PlainItem)) (all : Initializers At) → None ≡ slot_at i s →
    items_passed only_first life (slots_after i s) scalar p all ≡ no_surplus only_first p all
surplus_is life s i scalar p NoInitializers e = refl
surplus_is life s i scalar p (MoreInitializers x rest) e =
    ap (λ b. if b then items_passed only_first life (after_slot (slots_after i s)) (scalar + scalar_count p.after.scope.structures (slot_type (slots_after i s))) (item_passed only_first life (slot_type (slots_after i s)) scalar p x) rest
    else no_surplus only_first p (MoreInitializers x rest)) (nothing_left s i e)

-- the items of the code from a place on
rest_from : (i : ℕ) (all : List Init) → take (length all - i) (drop i all) ≡ drop i all
rest_from i all = ap (λ n. take n (drop i all)) (sym (length-drop i all)) ∙ take-length (drop i all)

pub surplus_given : (life : Lifetime) (s : Slots) (i scalar : ℕ) (p q : Passed (List PlainItem)) (all : List Init) → None ≡ slot_at i s →
    q ≡ no_surplus only_first p (initializer_row (map initializer_of (take (length all - i) (drop i all)))) →
    q ≡ items_passed only_first life (slots_after i s) scalar p (initializer_row (map initializer_of (drop i all)))
surplus_given life s i scalar p q all e eq =
    eq ∙ ap (λ xs. no_surplus only_first p (initializer_row (map initializer_of xs))) (rest_from i all)
    ∙ sym (surplus_is life s i scalar p (initializer_row (map initializer_of (drop i all))) e)

-- an item in braces
pub braced_arm : (life : Lifetime) (t : PlainType) (scalar : ℕ) (p q : Passed (List PlainItem)) (one : Init) (at : At) (all : Vec Init Global) (comma : Bool) (items : List Init) →
    one ≡ init.Braced at all comma → items ≡ all.items → q ≡ list_written life t scalar p at (initializer_row (map initializer_of items)) →
    q ≡ item_passed only_first life t scalar p (initializer_of one)
braced_arm life t scalar p q one at all comma items is same eq =
    eq ∙ ap (λ xs. list_written life t scalar p at (initializer_row (map initializer_of xs))) same
    ∙ ap (item_passed only_first life t scalar p) (sym (braced_is at all comma))
    ∙ ap (λ i. item_passed only_first life t scalar p (initializer_of i)) (sym is)
