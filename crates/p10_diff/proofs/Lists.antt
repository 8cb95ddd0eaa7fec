-- Bounds in one list, as a function of names.
use Rattle.std.proofs.Common.{◌≡◌, ℕ, zero, suc, ◌+◌, ◌<◌, ◌≤◌, Bool, true, false, List, [], ◌∷◌, ◌++◌, drop, length, get_or, refl, ap, sym, ◌∙◌, Option, Some, None, ℤ, arith}
use Rattle.std.specs.Prelude.{◌&&◌, ◌||◌, if◌then◌else◌}
use Rattle.std.proofs.lemmas.Bool.{eqb-true}
use Rattle.std.proofs.lemmas.List.{append_assoc, append-nil}
use Rattle.p10_pass.proofs.Lists.{cut_at, drop_end}
use Rattle.p10_diff.specs.declared.listed.Bounded.{Bounded}
use Rattle.p10_diff.specs.Differences.{Name, now, was, same_name, is_marked}
use Rattle.p10_diff.specs.Listed.{name_of, is_of, found_after, found_in, names_marked, without_marked}

-- ## Names

pub same_names : (u w : Name) → same_name u w ≡ true → u ≡ w
same_names (now n) (now m) e = ap now (eqb-true n m e)
same_names (was n) (was m) e = ap was (eqb-true n m e)
same_names (now n) (was m) e = absurd cc
same_names (was n) (now m) e = absurd cc

pub both_true : (a b : Bool) → (a && b) ≡ true → (a ≡ true) × (b ≡ true)
both_true true b e = (refl, e)
both_true false b e = absurd cc

pub names_of_both : (x : Bounded) (u w : Name) → is_of x u w ≡ true → (name_of x.greater ≡ u) × (name_of x.lesser ≡ w)
names_of_both x u w q = let both = both_true (same_name (name_of x.greater) u) (same_name (name_of x.lesser) w) q in (same_names (name_of x.greater) u both.0, same_names (name_of x.lesser) w both.1)

-- ## Elements

-- an element is the same with any other one as what stands for a missing one
pub item_is : {X : Type 0} → (xs : List X) (i : ℕ) (d : X) → i < length xs → get_or xs i d ≡ get_or xs i (get_or xs i d)
item_is [] i d h = absurd (omega (arith, h))
item_is (x ∷ xs) zero d h = refl
item_is (x ∷ xs) (suc i) d h = item_is xs i d (omega (arith, h))

-- ## What is found

pub found_next : (xs : List Bounded) (i : ℕ) (d : Bounded) (u w : Name) (last next whole : Option ℤ) → i < length xs → found_after last (drop i xs) u w ≡ whole → next ≡ (if is_of (get_or xs i d) u w then Some (get_or xs i d).most else last) →
    found_after next (drop (i + 1) xs) u w ≡ whole
found_next xs i d u w last next whole below so-far step =
    ap (λ m. found_after m (drop (i + 1) xs) u w) step ∙ (ap (λ ys. found_after last ys u w) (sym (cut_at xs i (get_or xs i d) below (item_is xs i d below))) ∙ so-far)

pub found_end : (xs : List Bounded) (i : ℕ) (u w : Name) (last whole : Option ℤ) → length xs ≤ i → found_after last (drop i xs) u w ≡ whole → last ≡ whole
found_end xs i u w last whole b so-far = ap (λ ys. found_after last ys u w) (sym (drop_end xs i b)) ∙ so-far

-- ## What is put

pub after_put : (last : Option ℤ) (xs : List Bounded) (x : Bounded) (u w : Name) → found_after last (xs ++ (x ∷ [])) u w ≡ (if is_of x u w then Some x.most else found_after last xs u w)
after_put last [] x u w = refl
after_put last (y ∷ xs) x u w = after_put (if is_of y u w then Some y.most else last) xs x u w

-- ## What is forgotten

of_both : (marks : ℕ → Bool) (x : Bounded) (a b : Name) → is_of x a b ≡ true → names_marked marks x ≡ (is_marked marks a || is_marked marks b)
of_both marks x a b q =
    let both = both_true (same_name (name_of x.greater) a) (same_name (name_of x.lesser) b) q in
    λ i. is_marked marks (same_names (name_of x.greater) a both.0 i) || is_marked marks (same_names (name_of x.lesser) b both.1 i)

kept_or_not : (g : Bool) (last : Option ℤ) (x : Bounded) (xs : List Bounded) (a b : Name) → found_after last (if g then xs else x ∷ xs) a b ≡ found_after (if g then last else (if is_of x a b then Some x.most else last)) xs a b
kept_or_not true last x xs a b = refl
kept_or_not false last x xs a b = refl

one_more : (g m q : Bool) (c : ℤ) (last left : Option ℤ) → (q ≡ true → g ≡ m) → left ≡ (if m then None else last) → (if g then left else (if q then Some c else left)) ≡ (if m then None else (if q then Some c else last))
one_more true true q c last left h p = p
one_more true false true c last left h p = let e : true ≡ false = h refl in absurd cc
one_more true false false c last left h p = p
one_more false true true c last left h p = let e : false ≡ true = h refl in absurd cc
one_more false true false c last left h p = p
one_more false false true c last left h p = refl
one_more false false false c last left h p = p

left_found : (marks : ℕ → Bool) (xs : List Bounded) (a b : Name) (last left : Option ℤ) → left ≡ (if is_marked marks a || is_marked marks b then None else last) →
    found_after left (without_marked marks xs) a b ≡ (if is_marked marks a || is_marked marks b then None else found_after last xs a b)
left_found marks [] a b last left p = p
left_found marks (x ∷ xs) a b last left p =
    kept_or_not (names_marked marks x) left x (without_marked marks xs) a b ∙
    left_found marks xs a b (if is_of x a b then Some x.most else last) (if names_marked marks x then left else (if is_of x a b then Some x.most else left))
    (one_more (names_marked marks x) (is_marked marks a || is_marked marks b) (is_of x a b) x.most last left (of_both marks x a b) p)

abbrev nothing : Option ℤ
nothing = None

none_left : (m : Bool) → nothing ≡ (if m then nothing else nothing)
none_left true = refl
none_left false = refl

-- what is found of a difference after the bounds of marked names are taken out
pub unmarked_found : (marks : ℕ → Bool) (xs : List Bounded) (a b : Name) → found_in (without_marked marks xs) a b ≡ (if is_marked marks a || is_marked marks b then None else found_in xs a b)
unmarked_found marks xs a b = left_found marks xs a b None None (none_left (is_marked marks a || is_marked marks b))

-- a list that is gone through, with what is left so far
pub marked_next : (marks : ℕ → Bool) (xs left next whole : List Bounded) (i : ℕ) (d : Bounded) (g : Bool) → i < length xs → g ≡ names_marked marks (get_or xs i d) →
    left ++ without_marked marks (drop i xs) ≡ whole → next ≡ (if g then left else left ++ (get_or xs i d ∷ [])) → next ++ without_marked marks (drop (i + 1) xs) ≡ whole
marked_next marks xs left next whole i d g below is so-far step =
    ap (λ ys. ys ++ without_marked marks (drop (i + 1) xs)) (step ∙ ap (λ c. if c then left else left ++ (x ∷ [])) is) ∙
    (by (names_marked marks x) (without_marked marks (drop (i + 1) xs)) ∙ (ap (λ ys. left ++ without_marked marks ys) (sym (cut_at xs i x below (item_is xs i d below))) ∙ so-far))
  where
    x : Bounded
    x = get_or xs i d

    by : (c : Bool) (rest : List Bounded) → (if c then left else left ++ (x ∷ [])) ++ rest ≡ left ++ (if c then rest else x ∷ rest)
    by true rest = refl
    by false rest = append_assoc left (x ∷ []) rest

pub marked_end : (marks : ℕ → Bool) (xs left whole : List Bounded) (i : ℕ) → length xs ≤ i → left ++ without_marked marks (drop i xs) ≡ whole → left ≡ whole
marked_end marks xs left whole i b so-far = sym (append-nil left) ∙ (ap (λ ys. left ++ without_marked marks ys) (sym (drop_end xs i b)) ∙ so-far)

-- a list that is put again
pub again_next : {X : Type 0} → (xs left next whole : List X) (i : ℕ) (x : X) → i < length xs → x ≡ get_or xs i x → left ++ drop i xs ≡ whole → next ≡ left ++ (x ∷ []) → next ++ drop (i + 1) xs ≡ whole
again_next xs left next whole i x below there so-far step =
    ap (λ ys. ys ++ drop (i + 1) xs) step ∙ (append_assoc left (x ∷ []) (drop (i + 1) xs) ∙ (ap (λ ys. left ++ ys) (sym (cut_at xs i x below there)) ∙ so-far))

pub again_end : {X : Type 0} → (xs left whole : List X) (i : ℕ) → length xs ≤ i → left ++ drop i xs ≡ whole → left ≡ whole
again_end xs left whole i b so-far = sym (append-nil left) ∙ (ap (λ ys. left ++ ys) (sym (drop_end xs i b)) ∙ so-far)
