-- Places that are noted by names.
use Rattle.std.proofs.Common.{◌≡◌, ℕ, zero, suc, ◌<◌, Bool, true, false, if◌then◌else◌, List, [], ◌∷◌, ◌++◌, map, length, Option, Some, None, slice_get, slice_index_or, slice_set, bytes_eq, refl, sym, ◌∙◌, ap, subst, arith, ◌⊎◌, inl, inr}
use Rattle.std.proofs.lemmas.Slice.Eq.{bytes_eq-Decides}
use Rattle.std.specs.List.{position_or_len}
use Rattle.p10_base.specs.Words.{Text}
use Rattle.p10_base.specs.Names.{with_name, place_in}
use Rattle.p10_base.proofs.Naming.{same_text, place_before, same_place, place_stays, place_new, place_added}
use Rattle.p10_linkage.specs.private.Grouping.{places_in, group_at}

found_or_not : (o : Option ℕ) → (o ≡ None) ⊎ ((n : ℕ) × (o ≡ Some n))
found_or_not None = inl refl
found_or_not (Some n) = inr (n, refl)

pub true_or_false : (b : Bool) → (b ≡ true) ⊎ (b ≡ false)
true_or_false true = inl refl
true_or_false false = inr refl

none_some : {A P : Type 0} (x : A) → None ≡ Some x → P
none_some x e = absurd cc

both_ways : {P : Type 0} → true ≡ false → P
both_ways e = absurd cc

same_name : (name other : Text) → bytes_eq name other ≡ true → name ≡ other
same_name name other e = same_text name other e

turned : (name other : Text) → bytes_eq other name ≡ true → bytes_eq name other ≡ true
turned name other e = (bytes_eq-Decides name other).1 (sym (same_text other name e))

get_before : {A : Type 0} (xs : List A) (x : A) (n : ℕ) → n < length xs → slice_get (xs ++ x ∷ []) n ≡ slice_get xs n
get_before [] x n h = absurd (omega (arith, h))
get_before (y ∷ xs) x zero h = refl
get_before (y ∷ xs) x (suc n) h = get_before xs x n (omega (arith, h))

get_last : {A : Type 0} (xs : List A) (x : A) → slice_get (xs ++ x ∷ []) (length xs) ≡ Some x
get_last [] x = refl
get_last (y ∷ xs) x = get_last xs x

get_set : {A : Type 0} (xs : List A) (n : ℕ) (x : A) → n < length xs → slice_get (slice_set xs n x) n ≡ Some x
get_set [] n x h = absurd (omega (arith, h))
get_set (y ∷ xs) zero x h = refl
get_set (y ∷ xs) (suc n) x h = get_set xs n x (omega (arith, h))

get_other : {A : Type 0} (xs : List A) (n m : ℕ) (x : A) → (m ≡ n → ⊥) → slice_get (slice_set xs n x) m ≡ slice_get xs m
get_other [] n m x h = refl
get_other (y ∷ xs) zero zero x h = absurd (h refl)
get_other (y ∷ xs) zero (suc m) x h = refl
get_other (y ∷ xs) (suc n) zero x h = refl
get_other (y ∷ xs) (suc n) (suc m) x h = get_other xs n m x (λ e. h (ap suc e))

get_there : {A : Type 0} (xs : List A) (n : ℕ) (d : A) → n < length xs → slice_get xs n ≡ Some (slice_index_or xs n d)
get_there [] n d h = absurd (omega (arith, h))
get_there (x ∷ xs) zero d h = refl
get_there (x ∷ xs) (suc n) d h = get_there xs n d (omega (arith, h))

pub index_mapped : {A B : Type 0} (f : A → B) (xs : List A) (n : ℕ) (d : A) (e : B) → n < length xs → slice_index_or (map f xs) n e ≡ f (slice_index_or xs n d)
index_mapped f [] n d e h = absurd (omega (arith, h))
index_mapped f (x ∷ xs) zero d e h = refl
index_mapped f (x ∷ xs) (suc n) d e h = index_mapped f xs n d e (omega (arith, h))

-- the first place of a name is noted
pub group_begun : (names : List Text) (name other : Text) (places : List (List ℕ)) (group : List ℕ) → place_in names name ≡ None → length places ≡ length names →
    group_at (places ++ group ∷ []) (place_in (with_name names name) other) ≡ (if bytes_eq name other then group else group_at places (place_in names other))
group_begun names name other places group new long = by_place (found_or_not (place_in names other))
  where
    Goal : Type 0
    Goal = group_at (places ++ group ∷ []) (place_in (with_name names name) other) ≡ (if bytes_eq name other then group else group_at places (place_in names other))

    by_name : place_in names other ≡ None → (bytes_eq name other ≡ true) ⊎ (bytes_eq name other ≡ false) → Goal
    by_name none (inl e) =
        let added : place_in (with_name names name) other ≡ Some (position_or_len (bytes_eq name) names) = subst (λ n. place_in (with_name names name) n ≡ Some (position_or_len (bytes_eq name) names)) (same_name name other e) (place_added names name) in
        let last : position_or_len (bytes_eq name) names ≡ length places = (place_new names name other none (position_or_len (bytes_eq name) names) added).0 ∙ sym long in
        ap (group_at (places ++ group ∷ [])) (added ∙ ap Some last)
        ∙ given_last
        ∙ sym (ap (λ b. if b then group else group_at places (place_in names other)) e)
      where
        given_last : group_at (places ++ group ∷ []) (Some (length places)) ≡ group
        given_last = ap places_in (get_last places group)
    by_name none (inr e) =
        still (found_or_not (place_in (with_name names name) other))
        ∙ sym (ap (group_at places) none)
        ∙ sym (ap (λ b. if b then group else group_at places (place_in names other)) e)
      where
        still : (place_in (with_name names name) other ≡ None) ⊎ ((n : ℕ) × (place_in (with_name names name) other ≡ Some n)) → group_at (places ++ group ∷ []) (place_in (with_name names name) other) ≡ []
        still (inl is) = ap (group_at (places ++ group ∷ [])) is
        still (inr (n, is)) = both_ways (sym (turned name other (place_new names name other none n is).1) ∙ e)

    by_place : (place_in names other ≡ None) ⊎ ((n : ℕ) × (place_in names other ≡ Some n)) → Goal
    by_place (inl none) = by_name none (true_or_false (bytes_eq name other))
    by_place (inr (n, is)) =
        let low : n < length places = omega (arith, place_before names other n is, long) in
        ap (group_at (places ++ group ∷ [])) (place_stays names name other n is)
        ∙ ap places_in (get_before places group n low)
        ∙ sym (ap (group_at places) is)
        ∙ sym (ap (λ b. if b then group else group_at places (place_in names other)) (apart (true_or_false (bytes_eq name other))))
      where
        apart : (bytes_eq name other ≡ true) ⊎ (bytes_eq name other ≡ false) → bytes_eq name other ≡ false
        apart (inl e) = none_some n (sym new ∙ ap (place_in names) (same_name name other e) ∙ is)
        apart (inr e) = e

-- a place more is noted for a name
pub group_more : (names : List Text) (name other : Text) (places : List (List ℕ)) (g : ℕ) (group : List ℕ) (place : ℕ) → place_in names name ≡ Some g → length places ≡ length names →
    group ≡ slice_index_or places g [] ++ place ∷ [] →
    group_at (slice_set places g group) (place_in names other) ≡ (if bytes_eq name other then group_at places (place_in names other) ++ place ∷ [] else group_at places (place_in names other))
group_more names name other places g group place is long more = by_name (true_or_false (bytes_eq name other))
  where
    low : g < length places
    low = omega (arith, place_before names name g is, long)

    old : List ℕ
    old = group_at places (place_in names other)

    by_name : (bytes_eq name other ≡ true) ⊎ (bytes_eq name other ≡ false) → group_at (slice_set places g group) (place_in names other) ≡ (if bytes_eq name other then old ++ place ∷ [] else old)
    by_name (inl e) =
        let there : place_in names other ≡ Some g = ap (place_in names) (sym (same_name name other e)) ∙ is in
        let before : old ≡ slice_index_or places g [] = ap (group_at places) there ∙ ap places_in (get_there places g [] low) in
        ap (group_at (slice_set places g group)) there
        ∙ ap places_in (get_set places g group low)
        ∙ more
        ∙ ap (λ xs. xs ++ place ∷ []) (sym before)
        ∙ sym (ap (λ b. if b then old ++ place ∷ [] else old) e)
    by_name (inr e) = elsewhere (found_or_not (place_in names other)) ∙ sym (ap (λ b. if b then old ++ place ∷ [] else old) e)
      where
        elsewhere : (place_in names other ≡ None) ⊎ ((n : ℕ) × (place_in names other ≡ Some n)) → group_at (slice_set places g group) (place_in names other) ≡ old
        elsewhere (inl none) = ap (group_at (slice_set places g group)) none ∙ sym (ap (group_at places) none)
        elsewhere (inr (n, at)) =
            ap (group_at (slice_set places g group)) at
            ∙ ap places_in (get_other places g n group (λ same. both_ways (sym (same_place names name other g is (at ∙ ap Some same)) ∙ e)))
            ∙ sym (ap (group_at places) at)
