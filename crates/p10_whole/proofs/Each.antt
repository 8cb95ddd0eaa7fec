-- What holds of each element of a list, one after the other.
use Rattle.std.proofs.Common.{◌≡◌, ℕ, zero, suc, ◌+◌, ◌<◌, ◌≤◌, List, [], ◌∷◌, map, length, drop, get_or, refl, ap, sym, ◌∙◌, subst, arith, drop-cons, add-one, take, add_assoc}
use Rattle.std.specs.Prelude.{sum, slice_get, option_map, Some}
use Rattle.std.proofs.lemmas.Option.{slice_get-map, slice_get_read}
use Rattle.std.specs.List.{All}
use Rattle.std.proofs.lemmas.List.Sums.{sum_by-cons}

pub drop_end : {X : Type 0} → (xs : List X) (i : ℕ) → length xs ≤ i → drop i xs ≡ []
drop_end [] zero b = refl
drop_end [] (suc i) b = refl
drop_end (x ∷ xs) zero b = absurd (omega (arith, b))
drop_end (x ∷ xs) (suc i) b = drop_end xs i (omega (arith, b))

-- the rest of a list begins with the element at its place
pub cut_at : {X : Type 0} → (xs : List X) (i : ℕ) (x : X) → i < length xs → x ≡ get_or xs i x → drop i xs ≡ x ∷ drop (i + 1) xs
cut_at xs i x below is = drop-cons xs i x below ∙ ap (λ y. y ∷ drop (suc i) xs) (sym is) ∙ ap (λ n. x ∷ drop n xs) (sym (add-one i))

all_cons : {Y : Type 0} → (P : Y → Type 0) (y : Y) (ys : List Y) → P y → All P ys → All P (y ∷ ys)
all_cons P y ys p rest zero d below = p
all_cons P y ys p rest (suc k) d below = rest k d (omega (arith, below))

pub each_next : {X Y : Type 0} → (P : Y → Type 0) (f : X → Y) (whole : List Y) (xs : List X) (i : ℕ) (x : X) → i < length xs → x ≡ get_or xs i x → P (f x) → (All P (map f (drop i xs)) → All P whole) → All P (map f (drop (i + 1) xs)) → All P whole
each_next P f whole xs i x below is p before rest = before (subst (λ ys. All P (map f ys)) (sym (cut_at xs i x below is)) (all_cons P (f x) (map f (drop (i + 1) xs)) p rest))

pub each_end : {X Y : Type 0} → (P : Y → Type 0) (f : X → Y) (xs : List X) (i : ℕ) → length xs ≤ i → All P (map f (drop i xs))
each_end P f xs i b = subst (λ ys. All P (map f ys)) (sym (drop_end xs i b)) (λ k d below. absurd (omega (arith, below)))

-- a sum, as far as it has come
pub sum_next : {X Y : Type 0} → (f : X → Y) (g : Y → ℕ) (whole total : ℕ) (xs : List X) (i : ℕ) (x : X) → i < length xs → x ≡ get_or xs i x → whole ≡ total + sum (map g (map f (drop i xs))) → whole ≡ (total + g (f x)) + sum (map g (map f (drop (i + 1) xs)))
sum_next f g whole total xs i x below is e =
    let cut = ap (λ ys. sum (map g (map f ys))) (cut_at xs i x below is) in
    let apart = sum_by-cons (λ n. n) (g (f x)) (map g (map f (drop (i + 1) xs))) in
    e ∙ ap (λ n. total + n) (cut ∙ apart) ∙ sym (add_assoc total (g (f x)) (sum (map g (map f (drop (i + 1) xs)))))

pub sum_end : {X Y : Type 0} → (f : X → Y) (g : Y → ℕ) (whole total : ℕ) (xs : List X) (i : ℕ) → length xs ≤ i → whole ≡ total + sum (map g (map f (drop i xs))) → whole ≡ total
sum_end f g whole total xs i b e = e ∙ ap (λ ys. total + sum (map g (map f ys))) (drop_end xs i b) ∙ no_sum total
  where
    no_sum : (n : ℕ) → n + sum [] ≡ n
    no_sum n = omega arith

-- the elements of a prefix
pub map_take : {X Y : Type 0} → (f : X → Y) (n : ℕ) (xs : List X) → map f (take n xs) ≡ take n (map f xs)
map_take f zero xs = refl
map_take f (suc n) [] = refl
map_take f (suc n) (x ∷ xs) = ap (λ ys. f x ∷ ys) (map_take f n xs)

pub map_drop : {X Y : Type 0} → (f : X → Y) (n : ℕ) (xs : List X) → map f (drop n xs) ≡ drop n (map f xs)
map_drop f zero xs = refl
map_drop f (suc n) [] = refl
map_drop f (suc n) (x ∷ xs) = map_drop f n xs

pub map_length : {X Y : Type 0} → (f : X → Y) (xs : List X) → length (map f xs) ≡ length xs
map_length f [] = refl
map_length f (x ∷ xs) = ap suc (map_length f xs)

-- the element at a place
pub got_at : {X Y : Type 0} → (f : X → Y) (xs : List X) (i : ℕ) (x : X) → i < length xs → x ≡ get_or xs i x → slice_get (map f xs) i ≡ Some (f x)
got_at f xs i x below is = slice_get-map f xs i ∙ ap (option_map f) (slice_get_read xs (length xs) i x refl below is)
