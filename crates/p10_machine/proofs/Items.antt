-- The item of a list that a loop is at.
use Rattle.std.proofs.Common.{◌≡◌, ℕ, zero, suc, ◌+◌, ◌<◌, ◌≤◌, eqb, Bool, true, false, List, [], ◌∷◌, ◌++◌, map, take, drop, length, get_or, refl, sym, ◌∙◌, ap, arith, Some, option_map, slice_get, drop-cons}
use Rattle.std.proofs.lemmas.List.{drop_all}
use Rattle.std.proofs.lemmas.Bool.{eqb-true}
use Rattle.std.proofs.lemmas.Option.{none-some, same_Some, slice_get_read, slice_get-map}

pub item_there : {A B : Type 0} (f : A → B) (xs : List A) (i : ℕ) (x : A) → i < length xs → x ≡ get_or xs i x → slice_get (map f xs) i ≡ Some (f x)
item_there f xs i x l e = slice_get-map f xs i ∙ ap (λ o. option_map f o) (slice_get_read xs (length xs) i x refl l e)

pub left_at : {A : Type 0} (xs : List A) (i : ℕ) (x : A) → i < length xs → x ≡ get_or xs i x → drop i xs ≡ x ∷ drop (i + 1) xs
left_at xs i x l e =
    drop-cons xs i x l ∙ (ap (λ y. y ∷ drop (suc i) xs) (sym e) ∙ ap (λ j. x ∷ drop j xs) (let d : suc i ≡ i + 1 = omega arith in d))

pub none_left : {A : Type 0} (xs : List A) (i : ℕ) → length xs ≤ i → drop i xs ≡ []
none_left xs i l = drop_all i xs l

pub take_next : {A : Type 0} (xs : List A) (i : ℕ) (x : A) → slice_get xs i ≡ Some x → take (suc i) xs ≡ take i xs ++ x ∷ []
take_next [] i x e = absurd (none-some _ e)
take_next (y ∷ xs) zero x e = ap (λ x. x ∷ []) (same_Some _ _ e)
take_next (y ∷ xs) (suc i) x e = ap (λ ys. y ∷ ys) (take_next xs i x e)

-- numbers that differ
pub not_equal : (s i : ℕ) (d : Bool) → eqb s i ≡ d → (s ≡ i → ⊥) → d ≡ false
not_equal s i true e n = absurd (n (eqb-true s i e))
not_equal s i false e n = refl
