-- A hull's bounds are those that are put.
use Rattle.std.proofs.Common.{◌≡◌, ℕ, zero, suc, ◌+◌, ◌<◌, ◌≤◌, Bool, true, false, is_some, List, [], ◌∷◌, drop, length, get_or, refl, ap, sym, ◌∙◌, Option, Some, None, ℤ}
use Rattle.std.specs.Prelude.{◌||◌, if◌then◌else◌}
use Rattle.p10_pass.proofs.Lists.{cut_at, drop_end}
use Rattle.p10_diff.specs.declared.listed.Bounded.{Bounded}
use Rattle.p10_diff.specs.Bounds.{or_else}
use Rattle.p10_diff.specs.Differences.{Name, Pair, Differences, bound, hull_bound, unbounded}
use Rattle.p10_diff.specs.Listed.{name_of, is_of, found_after, list_at, place_of, bounds_listed, with_one}
use Rattle.p10_diff.specs.private.Hulls.{hulled, put_once, put_each, put_lists, has_bound, any_has_bound}
use Rattle.p10_diff.proofs.Lists.{names_of_both, item_is}

-- ## The loops

pub each_next : (f before now whole : Name → Name → Option ℤ) (xs : List Bounded) (i : ℕ) (d : Bounded) → i < length xs →
    put_each f before (drop i xs) ≡ whole → now ≡ put_once f before (get_or xs i d) → put_each f now (drop (i + 1) xs) ≡ whole
each_next f before now whole xs i d below so-far step =
    ap (λ put. put_each f put (drop (i + 1) xs)) step ∙ (ap (put_each f before) (sym (cut_at xs i (get_or xs i d) below (item_is xs i d below))) ∙ so-far)

pub each_end : (f now whole : Name → Name → Option ℤ) (xs : List Bounded) (i : ℕ) → length xs ≤ i → put_each f now (drop i xs) ≡ whole → now ≡ whole
each_end f now whole xs i b so-far = ap (put_each f now) (sym (drop_end xs i b)) ∙ so-far

pub lists_next : (f before now whole : Name → Name → Option ℤ) (ls : List (List Bounded)) (i : ℕ) (xs shown : List Bounded) → i < length ls → xs ≡ get_or ls i xs → shown ≡ xs →
    put_lists f before (drop i ls) ≡ whole → now ≡ put_each f before shown → put_lists f now (drop (i + 1) ls) ≡ whole
lists_next f before now whole ls i xs shown below there same so-far step =
    ap (λ put. put_lists f put (drop (i + 1) ls)) (step ∙ ap (put_each f before) same) ∙ (ap (put_lists f before) (sym (cut_at ls i xs below there)) ∙ so-far)

pub lists_end : (f now whole : Name → Name → Option ℤ) (ls : List (List Bounded)) (i : ℕ) → length ls ≤ i → put_lists f now (drop i ls) ≡ whole → now ≡ whole
lists_end f now whole ls i b so-far = ap (put_lists f now) (sym (drop_end ls i b)) ∙ so-far

-- ## What is put

abbrev nothing : Option ℤ
nothing = None

or_nothing : (x : Option ℤ) → or_else x None ≡ x
or_nothing None = refl
or_nothing (Some c) = refl

-- a bound, or else another one under a condition
abbrev or_if : Option ℤ → Bool → Option ℤ → Option ℤ
or_if None q x = if q then x else None
or_if (Some c) q x = Some c

or_not : (m x : Option ℤ) → m ≡ or_if m false x
or_not None x = refl
or_not (Some c) x = refl

put_found : (put : Name → Name → Option ℤ) (x : Bounded) (c : Option ℤ) (b : Bool) (u w : Name) →
    (if b then put else with_one x.greater x.lesser c put) u w ≡ (if b then put u w else (if is_of x u w then or_else c (put u w) else put u w))
put_found put x c true u w = refl
put_found put x c false u w = refl

-- what is found of a difference, where it is that of the bound that is put, or isn't
decided : (m there c d : Option ℤ) (q : Bool) → (q ≡ true → m ≡ there) → (q ≡ true → d ≡ c) → (if is_some there then m else (if q then or_else c m else m)) ≡ or_if m q d
decided None None c d true h k = or_nothing c ∙ sym (k refl)
decided None (Some z) c d true h k = let e : nothing ≡ Some z = h refl in absurd cc
decided (Some y) None c d true h k = let e : Some y ≡ nothing = h refl in absurd cc
decided (Some y) (Some z) c d true h k = refl
decided None None c d false h k = refl
decided None (Some z) c d false h k = refl
decided (Some y) None c d false h k = refl
decided (Some y) (Some z) c d false h k = refl

once_found : (f put : Name → Name → Option ℤ) (x : Bounded) (u w : Name) → put_once f put x u w ≡ or_if (put u w) (is_of x u w) (f u w)
once_found f put x u w =
    let there : Option ℤ = put (name_of x.greater) (name_of x.lesser) in
    let c : Option ℤ = f (name_of x.greater) (name_of x.lesser) in
    put_found put x c (is_some there) u w ∙
    decided (put u w) there c (f u w) (is_of x u w)
    (λ q. let both = names_of_both x u w q in λ i. put (sym both.0 i) (sym both.1 i)) (λ q. let both = names_of_both x u w q in λ i. f (sym both.0 i) (sym both.1 i))

twice : (m x : Option ℤ) (q r : Bool) → or_if (or_if m q x) r x ≡ or_if m (q || r) x
twice (Some c) x q r = refl
twice None x false r = refl
twice None None true true = refl
twice None None true false = refl
twice None (Some c) true r = refl

each_found : (f put : Name → Name → Option ℤ) (xs : List Bounded) (u w : Name) → put_each f put xs u w ≡ or_if (put u w) (has_bound xs u w) (f u w)
each_found f put [] u w = or_not (put u w) (f u w)
each_found f put (x ∷ xs) u w =
    each_found f (put_once f put x) xs u w ∙
    (ap (λ m. or_if m (has_bound xs u w) (f u w)) (once_found f put x u w) ∙ twice (put u w) (f u w) (is_of x u w) (has_bound xs u w))

lists_found : (f put : Name → Name → Option ℤ) (ls : List (List Bounded)) (u w : Name) → put_lists f put ls u w ≡ or_if (put u w) (any_has_bound ls u w) (f u w)
lists_found f put [] u w = or_not (put u w) (f u w)
lists_found f put (xs ∷ ls) u w =
    lists_found f (put_each f put xs) ls u w ∙
    (ap (λ m. or_if m (any_has_bound ls u w) (f u w)) (each_found f put xs u w) ∙ twice (put u w) (f u w) (has_bound xs u w) (any_has_bound ls u w))

-- ## What is known

none_of_two : (a b : Bool) → (a || b) ≡ false → (a ≡ false) × (b ≡ false)
none_of_two true b e = absurd cc
none_of_two false b e = (refl, e)

-- nothing is found of a difference that no list has
not_of : (q : Bool) (c : ℤ) (last : Option ℤ) → q ≡ false → last ≡ None → (if q then Some c else last) ≡ None
not_of true c last e p = absurd cc
not_of false c last e p = p

not_found : (xs : List Bounded) (u w : Name) (last : Option ℤ) → has_bound xs u w ≡ false → last ≡ None → found_after last xs u w ≡ None
not_found [] u w last e p = p
not_found (x ∷ xs) u w last e p =
    let both = none_of_two (is_of x u w) (has_bound xs u w) e in not_found xs u w (if is_of x u w then Some x.most else last) both.1 (not_of (is_of x u w) x.most last both.0 p)

not_at : (ls : List (List Bounded)) (n : ℕ) (u w : Name) → any_has_bound ls u w ≡ false → has_bound (list_at ls n) u w ≡ false
not_at [] n u w e = refl
not_at (xs ∷ ls) zero u w e = (none_of_two (has_bound xs u w) (any_has_bound ls u w) e).0
not_at (xs ∷ ls) (suc n) u w e = not_at ls n u w (none_of_two (has_bound xs u w) (any_has_bound ls u w) e).1

not_listed : (ls : List (List Bounded)) (u w : Name) → any_has_bound ls u w ≡ false → bounds_listed ls u w ≡ None
not_listed ls u w e = not_found (list_at ls (place_of u w)) u w None (not_at ls (place_of u w) u w e) refl

-- ## One of two

-- a hull has a bound where one was known on either side
hulled_so : (q r : Bool) (x y a b : Option ℤ) → (q ≡ false → x ≡ None) → (r ≡ false → y ≡ None) → or_if None (q || r) (hull_bound x y a b) ≡ hull_bound x y a b
hulled_so true r x y a b h k = refl
hulled_so false true x y a b h k = refl
hulled_so false false x y a b h k = λ i. hull_bound (sym (h refl) i) (sym (k refl) i) a b

-- what is put of both sides' lists makes the bounds of the hull
pub hull_listed : (p : Pair) (a b : Differences) (xs ys : List (List Bounded)) → a.bounds ≡ bounds_listed xs → b.bounds ≡ bounds_listed ys →
    put_lists (hulled p a b) (put_lists (hulled p a b) unbounded xs) ys ≡ hulled p a b
hull_listed p a b xs ys k l = λ i u w. at u w i
  where
    f : Name → Name → Option ℤ
    f = hulled p a b

    at : (u w : Name) → put_lists f (put_lists f unbounded xs) ys u w ≡ hull_bound (a.bounds u w) (b.bounds u w) (bound p a u w) (bound p b u w)
    at u w =
        lists_found f (put_lists f unbounded xs) ys u w ∙ (ap (λ m. or_if m (any_has_bound ys u w) (f u w)) (lists_found f unbounded xs u w) ∙ (twice None (f u w) (any_has_bound xs u w) (any_has_bound ys u w) ∙
        hulled_so (any_has_bound xs u w) (any_has_bound ys u w) (a.bounds u w) (b.bounds u w) (bound p a u w) (bound p b u w)
        (λ e. (λ i. k i u w) ∙ not_listed xs u w e) (λ e. (λ i. l i u w) ∙ not_listed ys u w e)))

none_listed : bounds_listed [] ≡ unbounded
none_listed = λ i u w. None

-- the same, as the code puts them
pub hull_told : (p : Pair) (a b : Differences) (xs ys first second start middle all : List (List Bounded)) → a.bounds ≡ bounds_listed xs → b.bounds ≡ bounds_listed ys → first ≡ xs → second ≡ ys → start ≡ [] →
    bounds_listed middle ≡ put_lists (hulled p a b) (bounds_listed start) first → bounds_listed all ≡ put_lists (hulled p a b) (bounds_listed middle) second → bounds_listed all ≡ hulled p a b
hull_told p a b xs ys first second start middle all k l first_is second_is none put puts =
    puts ∙ ((λ i. put_lists (hulled p a b) ((put ∙ (λ j. put_lists (hulled p a b) ((ap bounds_listed none ∙ none_listed) j) (first_is j))) i) (second_is i)) ∙ hull_listed p a b xs ys k l)
