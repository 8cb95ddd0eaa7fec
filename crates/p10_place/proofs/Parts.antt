-- Lists whose first elements have their places already.
use Rattle.std.proofs.Common.{◌≡◌, ℕ, zero, suc, ◌+◌, ◌<◌, ◌≤◌, min, List, [], ◌∷◌, length, map, refl, sym, ◌∙◌, ap, subst, arith, add-one}
use Rattle.std.proofs.Math.ListN.{get_or, set, get_or-map}
use Rattle.std.proofs.Math.Seq.{get_or-set_other}
use Rattle.std.proofs.lemmas.List.{map-set, length-map, length-set}

-- of trees T and U with and without their places: what a place is put into, the words of each, and those before each but the first
module _ (T U : Type 0) (bare : T → U) (place : ℕ → U → T) (size : U → ℕ) (gap : ℕ) where
  -- the list with its first k elements placed, the first from word n on
  abbrev pub placed_first : ℕ → ℕ → List T → List T
  placed_first zero n ts = ts
  placed_first (suc k) n [] = []
  placed_first (suc k) n (t ∷ ts) = place n (bare t) ∷ placed_first k (n + size (bare t) + gap) ts

  -- the word at which the element k begins, or would
  abbrev pub start_of : ℕ → ℕ → List T → ℕ
  start_of zero n ts = n
  start_of (suc k) n [] = n
  start_of (suc k) n (t ∷ ts) = start_of k (n + size (bare t) + gap) ts

  -- an element that isn't placed yet is as it was
  pub stays : (k n : ℕ) (ts : List T) (d : T) → k < length ts → get_or (placed_first k n ts) k d ≡ get_or ts k d
  stays zero n ts d h = refl
  stays (suc k) n [] d h = absurd (omega (arith, h))
  stays (suc k) n (t ∷ ts) d h = stays k (n + size (bare t) + gap) ts d (omega (arith, h))

  -- the next element begins after this one
  pub start_next : (k n : ℕ) (ts : List T) (d : T) → k < length ts → start_of (suc k) n ts ≡ start_of k n ts + size (bare (get_or ts k d)) + gap
  start_next k n [] d h = absurd (omega (arith, h))
  start_next zero n (t ∷ ts) d h = refl
  start_next (suc k) n (t ∷ ts) d h = start_next k (n + size (bare t) + gap) ts d (omega (arith, h))

  -- one more element
  pub placed_next : (k n : ℕ) (ts : List T) (d : T) → k < length ts →
      set (placed_first k n ts) k (place (start_of k n ts) (bare (get_or ts k d))) ≡ placed_first (suc k) n ts
  placed_next k n [] d h = absurd (omega (arith, h))
  placed_next zero n (t ∷ ts) d h = refl
  placed_next (suc k) n (t ∷ ts) d h = ap (λ xs. place n (bare t) ∷ xs) (placed_next k (n + size (bare t) + gap) ts d (omega (arith, h)))

  -- elements begin one after the other
  pub start_grows : (k n : ℕ) (ts : List T) → n ≤ start_of k n ts
  start_grows zero n ts = omega arith
  start_grows (suc k) n [] = omega arith
  start_grows (suc k) n (t ∷ ts) = omega (arith, start_grows k (n + size (bare t) + gap) ts)

  -- an element ends before the list does
  pub ends_within : (k n : ℕ) (ts : List T) (d : T) → k < length ts → start_of k n ts + size (bare (get_or ts k d)) + gap ≤ start_of (length ts) n ts
  ends_within k n [] d h = absurd (omega (arith, h))
  ends_within zero n (t ∷ ts) d h = start_grows (length ts) (n + size (bare t) + gap) ts
  ends_within (suc k) n (t ∷ ts) d h = ends_within k (n + size (bare t) + gap) ts d (omega (arith, h))

  pub length-placed_first : (k n : ℕ) (ts : List T) → length (placed_first k n ts) ≡ length ts
  length-placed_first zero n ts = refl
  length-placed_first (suc k) n [] = refl
  length-placed_first (suc k) n (t ∷ ts) = ap suc (length-placed_first k (n + size (bare t) + gap) ts)

  -- an element begins, with what stands before it, before the list ends
  pub begins_within : (k n : ℕ) (ts : List T) → k < length ts → start_of k n ts + gap ≤ start_of (length ts) n ts
  begins_within k n [] h = absurd (omega (arith, h))
  begins_within zero n (t ∷ ts) h = omega (arith, start_grows (length ts) (n + size (bare t) + gap) ts)
  begins_within (suc k) n (t ∷ ts) h = begins_within k (n + size (bare t) + gap) ts (omega (arith, h))

-- of elements R of the code, seen as such trees
module _ (R T U : Type 0) (view : R → T) (bare : T → U) (place : ℕ → U → T) (size : U → ℕ) (gap : ℕ) where
  -- of the elements that begin with word n the first k are placed, and word `past` is the one past these
  pub record Placing (k n : ℕ) (start now : List R) (past : ℕ) : Type 0 where
    pub placed : map view now ≡ placed_first T U bare place size gap k n (map view start)
    pub reached : past + min k gap ≡ start_of T U bare place size gap k n (map view start)

  -- the tree of an element that isn't placed yet
  pub as_before : (k n : ℕ) (start now : List R) (past : ℕ) (d : R) → k < length start → Placing k n start now past →
      view (get_or now k d) ≡ get_or (map view start) k (view d)
  as_before k n start now past d h p =
      sym (get_or-map view now k d)
      ∙ ap (λ xs. get_or xs k (view d)) p.placed
      ∙ stays T U bare place size gap k n (map view start) (view d) (rw (length-map start view) h)

  -- the words of the element k are there
  pub has_room : (k n : ℕ) (start now : List R) (past : ℕ) (d : R) → k < length start → Placing k n start now past →
      past + min k gap + size (bare (view (get_or now k d))) + gap ≤ start_of T U bare place size gap (length start) n (map view start)
  has_room k n start now past d h p =
      let e = as_before k n start now past d h p in
      let w : start_of T U bare place size gap k n (map view start) + size (bare (get_or (map view start) k (view d))) + gap ≤ start_of T U bare place size gap (length (map view start)) n (map view start) =
      ends_within T U bare place size gap k n (map view start) (view d) (rw (length-map start view) h) in
      rw (e, p.reached) (subst (λ (m : ℕ). start_of T U bare place size gap k n (map view start) + size (bare (get_or (map view start) k (view d))) + gap ≤ start_of T U bare place size gap m n (map view start)) (length-map start view) w)

  -- one more element is placed
  pub one_more : (k n : ℕ) (start now : List R) (past : ℕ) (d r : R) → gap ≤ 1 → k < length start → Placing k n start now past →
      view r ≡ place (past + min k gap) (bare (view (get_or now k d))) →
      Placing (k + 1) n start (set now k r) (past + min k gap + size (bare (view (get_or now k d))))
  one_more k n start now past d r small h p e =
      let same = as_before k n start now past d h p in
      let inside : k < length (map view start) = rw (length-map start view) h in
      record {
        placed = rw (add-one) (map-set view now k r ∙ ap (λ xs. set xs k (view r)) p.placed ∙ ap (λ t. set (placed_first T U bare place size gap k n (map view start)) k t) (e ∙ ap (λ t. place (past + min k gap) (bare t)) same ∙ ap (λ m. place m (bare (get_or (map view start) k (view d)))) p.reached) ∙ placed_next T U bare place size gap k n (map view start) (view d) inside);
        reached = let next = start_next T U bare place size gap k n (map view start) (view d) inside in
            rw (add-one, next, same) (let reached = p.reached in omega arith);
      }

  -- one more element is placed, from where the code places it up to where the code says that it ends
  pub goes_on : (k n : ℕ) (start now now' : List R) (past from past' : ℕ) (d r old : R) → gap ≤ 1 → k < length start → Placing k n start now past →
      old ≡ get_or now k d → now' ≡ set now k r → from ≡ past + min k gap → view r ≡ place from (bare (view old)) → past' ≡ from + size (bare (view old)) → Placing (k + 1) n start now' past'
  goes_on k n start now now' past from past' d r old small h p o e f g m =
      let q = one_more k n start now past d r small h p (g ∙ ap (λ t. place from (bare (view t))) o ∙ ap (λ x. place x (bare (view (get_or now k d)))) f) in
      let end : past + min k gap + size (bare (view (get_or now k d))) ≡ past' = ap (λ x. x + size (bare (view (get_or now k d)))) (sym f) ∙ ap (λ t. from + size (bare (view t))) (sym o) ∙ sym m in
      subst (λ (xs : List R). Placing (k + 1) n start xs past') (sym e) (subst (λ (x : ℕ). Placing (k + 1) n start (set now k r) x) end q)

  -- none is placed yet
  pub begins : (n : ℕ) (start : List R) → Placing 0 n start start n
  begins n start = record { placed = refl; reached = omega arith }

  -- no element is added or lost
  pub same_length : (k n : ℕ) (start now : List R) (past : ℕ) → Placing k n start now past → length now ≡ length start
  same_length k n start now past p =
      sym (length-map now view) ∙ ap length p.placed ∙ length-placed_first T U bare place size gap k n (map view start) ∙ length-map start view

  -- where the element k begins, with what stands before it
  pub has_start : (k n : ℕ) (start now : List R) (past : ℕ) → k < length start → Placing k n start now past →
      past + min k gap + gap ≤ start_of T U bare place size gap (length start) n (map view start)
  has_start k n start now past h p =
      let w : start_of T U bare place size gap k n (map view start) + gap ≤ start_of T U bare place size gap (length (map view start)) n (map view start) =
      begins_within T U bare place size gap k n (map view start) (rw (length-map start view) h) in
      rw (p.reached) (subst (λ (m : ℕ). start_of T U bare place size gap k n (map view start) + gap ≤ start_of T U bare place size gap m n (map view start)) (length-map start view) w)

-- what isn't gone through yet is as it was
pub unvisited_next : (R : Type 0) (xs ys : List R) (i : ℕ) (r : R) → (length xs ≡ length ys) × ((k : ℕ) (d : R) → i ≤ k → get_or xs k d ≡ get_or ys k d) →
    (length (set xs i r) ≡ length ys) × ((k : ℕ) (d : R) → i + 1 ≤ k → get_or (set xs i r) k d ≡ get_or ys k d)
unvisited_next R xs ys i r p = (length-set xs i r ∙ p.0, λ k d h. get_or-set_other xs i k r d (omega (arith, h)) ∙ p.1 k d (omega (arith, h)))
