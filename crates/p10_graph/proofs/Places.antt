-- Elements of lists by their places, and stacks of places.
use Rattle.std.proofs.Common.{◌≡◌, ℕ, zero, suc, ◌-◌, ◌<◌, ◌⊎◌, inl, inr, List, [], ◌∷◌, ◌++◌, length, take, drop, get_or, reverse, Option, Some, None, IsSome, slice_get, refl, sym, ap, ◌∙◌, arith, append-nil}
use Rattle.std.specs.Option.{option_to_list}
use Rattle.std.proofs.lemmas.List.{reverse-append, get_or-reverse, length-reverse}
use Rattle.std.proofs.lemmas.Bool.{false≢true}
use Rattle.std.proofs.lemmas.Option.{slice_get-get_or, none-some, same_Some}
use Rattle.p10_graph.specs.private.Searching.{stack_of}

-- ## One more element at the end

pub slice_get-left : {X : Type 0} (xs ys : List X) (i : ℕ) (x : X) → slice_get xs i ≡ Some x → slice_get (xs ++ ys) i ≡ Some x
slice_get-left [] ys i x e = absurd (none-some x e)
slice_get-left (y ∷ xs) ys zero x e = e
slice_get-left (y ∷ xs) ys (suc i) x e = slice_get-left xs ys i x e

pub slice_get-last : {X : Type 0} (xs : List X) (y : X) → slice_get (xs ++ y ∷ []) (length xs) ≡ Some y
slice_get-last [] y = refl
slice_get-last (x ∷ xs) y = slice_get-last xs y

-- an element of the longer list is one of the shorter, or the last one
pub push_cases : {X : Type 0} (xs : List X) (y : X) (i : ℕ) (x : X) → slice_get (xs ++ y ∷ []) i ≡ Some x → (slice_get xs i ≡ Some x) ⊎ ((i ≡ length xs) × (y ≡ x))
push_cases [] y zero x e = inr (refl, same_Some y x e)
push_cases [] y (suc i) x e = absurd (none-some x e)
push_cases (z ∷ xs) y zero x e = inl e
push_cases (z ∷ xs) y (suc i) x e =
    elim (push_cases xs y i x e) [ inl h ↦ inl h | inr h ↦ inr (ap suc h.0, h.1) ]

-- an element of a prefix lies below its length
pub take_cases : {X : Type 0} (n : ℕ) (xs : List X) (i : ℕ) (x : X) → slice_get (take n xs) i ≡ Some x → (i < n) × (slice_get xs i ≡ Some x)
take_cases zero xs i x e = absurd (none-some x e)
take_cases (suc n) [] i x e = absurd (none-some x e)
take_cases (suc n) (y ∷ xs) zero x e = (omega arith, e)
take_cases (suc n) (y ∷ xs) (suc i) x e = let h = take_cases n xs i x e in (omega arith, h.1)

pub slice_get-front : {X : Type 0} (n : ℕ) (xs : List X) (i : ℕ) (x : X) → i < n → slice_get xs i ≡ Some x → slice_get (take n xs) i ≡ Some x
slice_get-front zero xs i x l e = absurd (omega arith)
slice_get-front (suc n) [] i x l e = e
slice_get-front (suc n) (y ∷ xs) zero x l e = e
slice_get-front (suc n) (y ∷ xs) (suc i) x l e = slice_get-front n xs i x (omega arith) e

-- ## Stacks

pub stack_push : (xs : List ℕ) (x : ℕ) → stack_of (xs ++ x ∷ []) ≡ x ∷ stack_of xs
unfolding stack_of
stack_push xs x = reverse-append xs (x ∷ [])

pub stack_none : stack_of [] ≡ []
unfolding stack_of
stack_none = refl

pub stack_pop : (old new : List ℕ) (n : ℕ) (r : Option ℕ) → n ≡ length old → old ≡ new ++ option_to_list r → (0 < n → IsSome r) → stack_of new ≡ drop 1 (stack_of old)
stack_pop old new n (Some x) l e f = sym (ap (λ xs. drop 1 (stack_of xs)) e ∙ ap (drop 1) (stack_push new x))
stack_pop [] new n None l e f = ap stack_of (sym (e ∙ append-nil new)) ∙ stack_none ∙ sym (ap (drop 1) stack_none)
stack_pop (y ∷ old) new n None l e f = absurd (false≢true (f (omega arith)))

pub stack_top : (xs : List ℕ) → slice_get xs (length xs - 1) ≡ slice_get (stack_of xs) 0
unfolding stack_of
stack_top [] = refl
stack_top (x ∷ xs) =
    slice_get-get_or (x ∷ xs) (length (x ∷ xs) - 1) x (omega arith)
    ∙ ap (λ i. Some (get_or (x ∷ xs) i x)) (omega arith)
    ∙ ap Some (sym (get_or-reverse (x ∷ xs) 0 x (omega arith)))
    ∙ sym (slice_get-get_or (reverse (x ∷ xs)) 0 x (omega (arith, length-reverse (x ∷ xs))))
