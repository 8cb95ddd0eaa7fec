-- Bounds in lists by the numbers of both names, as a function of names.
use Rattle.std.proofs.Common.{◌≡◌, ℕ, zero, suc, ◌+◌, ◌<◌, ◌≤◌, eq-eqb, Bool, true, false, List, [], ◌∷◌, ◌++◌, map, drop, length, get_or, refl, ap, sym, ◌∙◌, Option, Some, None, ℤ, arith}
use Rattle.std.specs.Prelude.{◌&&◌, ◌||◌, if◌then◌else◌, nat_eq, slice_get, slice_set, slice_index_or}
use Rattle.std.proofs.lemmas.Bool.{eqb-true}
use Rattle.std.proofs.lemmas.List.{append_assoc, append-nil}
use Rattle.p10_pass.proofs.Lists.{cut_at, drop_end}
use Rattle.p10_diff.specs.declared.listed.Name.{Name as CodeName}
use Rattle.p10_diff.specs.declared.listed.Bounded.{Bounded}
use Rattle.p10_diff.specs.Bounds.{or_else, least, kept}
use Rattle.p10_diff.specs.Differences.{Name, same_name, is_marked, learned_bound, unmarked_bounds}
use Rattle.p10_diff.specs.Listed.{name_of, is_of, found_in, without_marked, place_of, list_at, bounds_listed, with_last, with_one}
use Rattle.p10_diff.proofs.Lists.{same_names, both_true, after_put, unmarked_found}

-- ## Lists by their numbers

-- an empty list at the end changes nothing
room_at : (xs : List (List Bounded)) (n : ℕ) → list_at (xs ++ ([] ∷ [])) n ≡ list_at xs n
room_at [] zero = refl
room_at [] (suc n) = refl
room_at (x ∷ xs) zero = refl
room_at (x ∷ xs) (suc n) = room_at xs n

pub room_next : (start xs ys : List (List Bounded)) (x : List Bounded) → x ≡ [] → ys ≡ xs ++ (x ∷ []) → list_at xs ≡ list_at start → list_at ys ≡ list_at start
room_next start xs ys x none more so-far = ap list_at (more ∙ ap (λ z. xs ++ (z ∷ [])) none) ∙ ((λ i n. room_at xs n i) ∙ so-far)

-- a list that is set, and another one
set_there : (i : ℕ) (xs : List (List Bounded)) (new : List Bounded) → i < length xs → list_at (slice_set xs i new) i ≡ new
set_there i [] new h = absurd (omega (arith, h))
set_there zero (y ∷ xs) new h = refl
set_there (suc i) (y ∷ xs) new h = set_there i xs new (omega (arith, h))

read_there : (i : ℕ) (xs : List (List Bounded)) (old : List Bounded) → i < length xs → old ≡ slice_index_or xs i old → list_at xs i ≡ old
read_there i [] old h p = absurd (omega (arith, h))
read_there zero (y ∷ xs) old h p = sym p
read_there (suc i) (y ∷ xs) old h p = read_there i xs old (omega (arith, h)) p

set_apart : (i n : ℕ) (xs : List (List Bounded)) (new : List Bounded) → (i ≡ n → true ≡ false) → list_at (slice_set xs i new) n ≡ list_at xs n
set_apart i n [] new h = refl
set_apart zero zero (y ∷ xs) new h = let e : true ≡ false = h refl in absurd cc
set_apart zero (suc n) (y ∷ xs) new h = refl
set_apart (suc i) zero (y ∷ xs) new h = refl
set_apart (suc i) (suc n) (y ∷ xs) new h = set_apart i n xs new (λ e. h (ap suc e))

-- a list more by one bound
last_at : (i n : ℕ) (x : Bounded) (xs : List (List Bounded)) (old new : List Bounded) → i < length xs → old ≡ slice_index_or xs i old → new ≡ old ++ (x ∷ []) → list_at (slice_set xs i new) n ≡ with_last i x (list_at xs) n
last_at i n x xs old new h p q = by (nat_eq i n) refl
  where
    by : (b : Bool) → nat_eq i n ≡ b → list_at (slice_set xs i new) n ≡ (if b then list_at xs n ++ (x ∷ []) else list_at xs n)
    by true e =
        let same : i ≡ n = eqb-true i n e in
        ap (list_at (slice_set xs i new)) (sym same) ∙ (set_there i xs new h ∙ (q ∙ ap (λ ys. ys ++ (x ∷ [])) (sym (read_there i xs old h p) ∙ ap (list_at xs) same)))
    by false e = set_apart i n xs new (λ s. sym (eq-eqb i n s) ∙ e)

pub last_put : (i : ℕ) (x : Bounded) (start xs : List (List Bounded)) (old new : List Bounded) → i < length xs → list_at xs ≡ list_at start → old ≡ slice_index_or xs i old → new ≡ old ++ (x ∷ []) → list_at (slice_set xs i new) ≡ with_last i x (list_at start)
last_put i x start xs old new h same p q = (λ k n. last_at i n x xs old new h p q k) ∙ ap (with_last i x) same

-- ## What is put

-- what is found of a difference, where the bound that is put is of it or isn't
found_put : (r q : Bool) (x : Bounded) (xs : List Bounded) (a b : Name) → is_of x a b ≡ q → (q ≡ true → r ≡ true) →
    found_in (if r then xs ++ (x ∷ []) else xs) a b ≡ (if q then Some x.most else found_in xs a b)
found_put true q x xs a b is h = after_put None xs x a b ∙ ap (λ t. if t then Some x.most else found_in xs a b) is
found_put false true x xs a b is h = let e : false ≡ true = h refl in absurd cc
found_put false false x xs a b is h = refl

one_put : (u w : CodeName) (c : ℤ) (old new : List (List Bounded)) → list_at new ≡ with_last (place_of (name_of u) (name_of w)) (record { greater = u; lesser = w; most = c }) (list_at old) → bounds_listed new ≡ with_one u w (Some c) (bounds_listed old)
one_put u w c old new is = λ i a b. one a b i
  where
    x : Bounded
    x = record { greater = u; lesser = w; most = c }

    one : (a b : Name) → bounds_listed new a b ≡ with_one u w (Some c) (bounds_listed old) a b
    one a b =
        ap (λ (at : ℕ → List Bounded). found_in (at (place_of a b)) a b) is ∙
        found_put (nat_eq (place_of (name_of u) (name_of w)) (place_of a b)) (is_of x a b) x (list_at old (place_of a b)) a b refl
        (λ q. let both = both_true (same_name (name_of u) a) (same_name (name_of w) b) q in
        eq-eqb (place_of (name_of u) (name_of w)) (place_of a b) (λ i. place_of (same_names (name_of u) a both.0 i) (same_names (name_of w) b both.1 i)))

-- the same, as the code puts it
pub put_told : (u w : CodeName) (most : Option ℤ) (c now : ℤ) (i : ℕ) (old new : List (List Bounded)) → most ≡ Some c → now ≡ c → i ≡ place_of (name_of u) (name_of w) → list_at new ≡ with_last i (record { greater = u; lesser = w; most = now }) (list_at old) →
    bounds_listed new ≡ with_one u w most (bounds_listed old)
put_told u w most c now i old new some number there is =
    one_put u w c old new (is ∙ (λ k. with_last (there k) (record { greater = u; lesser = w; most = number k }) (list_at old))) ∙ ap (λ m. with_one u w m (bounds_listed old)) (sym some)

nothing_put : (q : Bool) (m : Option ℤ) → m ≡ (if q then m else m)
nothing_put true m = refl
nothing_put false m = refl

none_put : (u w : CodeName) (bounds : Name → Name → Option ℤ) → bounds ≡ with_one u w None bounds
none_put u w bounds = λ i a b. nothing_put (same_name (name_of u) a && same_name (name_of w) b) (bounds a b) i

pub none_told : (u w : CodeName) (most : Option ℤ) (bounds : Name → Name → Option ℤ) → most ≡ None → bounds ≡ with_one u w most bounds
none_told u w most bounds none = none_put u w bounds ∙ ap (λ m. with_one u w m bounds) (sym none)

-- ## What is learned

least_after : (m k : Option ℤ) → or_else (least m k) m ≡ least m k
least_after None None = refl
least_after None (Some c) = refl
least_after (Some a) None = refl
least_after (Some a) (Some c) = refl

either_same : (q : Bool) (x y z : Option ℤ) → (q ≡ true → x ≡ y) → (if q then x else z) ≡ (if q then y else z)
either_same true x y z h = h refl
either_same false x y z h = refl

learned_put : (u w : CodeName) (c : ℤ) (bounds : Name → Name → Option ℤ) → with_one u w (least (bounds (name_of u) (name_of w)) (kept (Some c))) bounds ≡ learned_bound (name_of u) (name_of w) c bounds
learned_put u w c bounds = λ i a b. one a b i
  where
    one : (a b : Name) → with_one u w (least (bounds (name_of u) (name_of w)) (kept (Some c))) bounds a b ≡ learned_bound (name_of u) (name_of w) c bounds a b
    one a b =
        let k : Option ℤ = kept (Some c) in
        either_same (same_name (name_of u) a && same_name (name_of w) b) (or_else (least (bounds (name_of u) (name_of w)) k) (bounds a b)) (least (bounds a b) k) (bounds a b)
        (λ q. let both = both_true (same_name (name_of u) a) (same_name (name_of w) b) q in
        (λ i. or_else (least (bounds (same_names (name_of u) a both.0 i) (same_names (name_of w) b both.1 i)) k) (bounds a b)) ∙ least_after (bounds a b) k)

-- the same, as the code learns it
pub learned_told : (u w : CodeName) (c now : ℤ) (told found most : Option ℤ) (xs slice ys : List (List Bounded)) → told ≡ kept (Some now) → now ≡ c → slice ≡ xs → found ≡ bounds_listed slice (name_of u) (name_of w) → most ≡ least found told →
    bounds_listed ys ≡ with_one u w most (bounds_listed xs) → bounds_listed ys ≡ learned_bound (name_of u) (name_of w) c (bounds_listed xs)
learned_told u w c now told found most xs slice ys is number same found_is most_is put =
    put ∙ (ap (λ m. with_one u w m (bounds_listed xs)) (most_is ∙ (λ i. least ((found_is ∙ ap (λ zs. bounds_listed zs (name_of u) (name_of w)) same) i) ((is ∙ ap (λ z. kept (Some z)) number) i))) ∙ learned_put u w c (bounds_listed xs))

-- ## What is forgotten

unmarked_at : (marks : ℕ → Bool) (xs : List (List Bounded)) (n : ℕ) → list_at (map (without_marked marks) xs) n ≡ without_marked marks (list_at xs n)
unmarked_at marks [] n = refl
unmarked_at marks (x ∷ xs) zero = refl
unmarked_at marks (x ∷ xs) (suc n) = unmarked_at marks xs n

pub unmarked_listed : (marks : ℕ → Bool) (xs left : List (List Bounded)) → left ≡ map (without_marked marks) xs → bounds_listed left ≡ unmarked_bounds marks (bounds_listed xs)
unmarked_listed marks xs left is = ap bounds_listed is ∙ (λ i a b. one a b i)
  where
    one : (a b : Name) → bounds_listed (map (without_marked marks) xs) a b ≡ unmarked_bounds marks (bounds_listed xs) a b
    one a b = ap (λ ys. found_in ys a b) (unmarked_at marks xs (place_of a b)) ∙ unmarked_found marks (list_at xs (place_of a b)) a b

-- lists that are gone through, with what is made of them so far
pub mapped_next : (f : List Bounded → List Bounded) (xs left next whole : List (List Bounded)) (i : ℕ) (x y : List Bounded) → i < length xs → x ≡ get_or xs i x → y ≡ f x →
    left ++ map f (drop i xs) ≡ whole → next ≡ left ++ (y ∷ []) → next ++ map f (drop (i + 1) xs) ≡ whole
mapped_next f xs left next whole i x y below there made so-far step =
    ap (λ ys. ys ++ map f (drop (i + 1) xs)) (step ∙ ap (λ z. left ++ (z ∷ [])) made) ∙
    (append_assoc left (f x ∷ []) (map f (drop (i + 1) xs)) ∙ (ap (λ ys. left ++ map f ys) (sym (cut_at xs i x below there)) ∙ so-far))

pub mapped_end : (f : List Bounded → List Bounded) (xs left whole : List (List Bounded)) (i : ℕ) → length xs ≤ i → left ++ map f (drop i xs) ≡ whole → left ≡ whole
mapped_end f xs left whole i b so-far = sym (append-nil left) ∙ (ap (λ ys. left ++ map f ys) (sym (drop_end xs i b)) ∙ so-far)
