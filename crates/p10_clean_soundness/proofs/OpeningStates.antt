-- The state before `main` is entered: all objects of static lifetime and all string literals are live and set.
use Rattle.std.proofs.Common.{◌≡◌, ℕ, zero, suc, ◌+◌, ◌≤◌, cond, eqb, Bool, true, false, List, [], ◌∷◌, ◌++◌, length, map, refl, ◌∙◌, ap, sym, subst, arith, Some, slice_get, pos}
use Rattle.std.specs.List.{All}
use Rattle.std.proofs.lemmas.Bool.{cond_both, eq-eqb, ne_eqb}
use Rattle.std.proofs.lemmas.List.Elements.{All-nil, All-cons}
use Rattle.std.proofs.lemmas.Option.{same_Some, none-some}
use Rattle.p10_int.specs.declared.types.IntType.TheVariants.{Char}
use Rattle.p10_int.specs.Conversion.{converted}
use Rattle.p10_core.specs.Types.{PlainType}
use Rattle.p10_core.specs.Typed.{PlainInitializer, not_initialized, single, copied, listed, PlainObject, PlainLiteral, PlainProgram}
use Rattle.p10_meaning.specs.declared.pointers.Scalar.{Scalar}
use Rattle.p10_meaning.specs.declared.pointers.Scalar.TheVariants.{Int}
use Rattle.p10_meaning.specs.declared.pointers.Cell.{Cell}
use Rattle.p10_meaning.specs.declared.world.World.{World}
use Rattle.p10_meaning.specs.Pointers.{holding}
use Rattle.p10_meaning.specs.Objects.{declared, literal as literal_origin, Object, find}
use Rattle.p10_meaning.specs.Scalars.{zero_of, zero_cells}
use Rattle.p10_meaning.specs.Values.{scalars}
use Rattle.p10_meaning.specs.Opening.{static_objects, literal_objects, listed_cells, initial_cells, opening}
use Rattle.p10_clean_soundness.specs.private.Setting.{IsFilled}
use Rattle.p10_clean_soundness.specs.private.Objects.{IsLive, Settled}
use Rattle.p10_clean_soundness.proofs.SettingUp.{holding_filled}

-- ## Cells

zeros_filled : (ts : List PlainType) → All IsFilled (zero_cells ts)
zeros_filled [] = All-nil IsFilled
zeros_filled (t ∷ ts) = All-cons IsFilled (holding (zero_of t)) (zero_cells ts) (holding_filled (zero_of t)) (zeros_filled ts)

listed_filled : (i : ℕ) (ts : List PlainType) (xs : List (ℕ × Scalar)) → All IsFilled (listed_cells i ts xs)
listed_filled i [] xs = All-nil IsFilled
listed_filled i (t ∷ ts) xs = All-cons IsFilled _ (listed_cells (suc i) ts xs) (holding_filled _) (listed_filled (suc i) ts xs)

initial_filled : (p : PlainProgram) (t : PlainType) (initializer : PlainInitializer) → All IsFilled (initial_cells p t initializer)
initial_filled p t not_initialized = zeros_filled (scalars p t)
initial_filled p t (single v) = All-cons IsFilled _ [] (holding_filled _) (All-nil IsFilled)
initial_filled p t (copied q) = zeros_filled (scalars p t)
initial_filled p t (listed at items) = listed_filled 0 (scalars p t) _

letters_filled : (bytes : List ℕ) → All IsFilled (map (λ byte. holding (Int (converted Char (pos byte)))) bytes)
letters_filled [] = All-nil IsFilled
letters_filled (byte ∷ bytes) = All-cons IsFilled (holding (Int (converted Char (pos byte)))) (map (λ byte. holding (Int (converted Char (pos byte)))) bytes) (holding_filled _) (letters_filled bytes)

-- ## Objects

-- each object of a list is set
abbrev AllSet : List Object → Type 0
AllSet [] = Unit {0}
AllSet (x ∷ xs) = All IsFilled x.cells × AllSet xs

found_set : (m : ℕ) (xs : List Object) (x : Object) → AllSet xs → find m xs ≡ Some x → All IsFilled x.cells
found_set m [] x h e = absurd (none-some _ e)
found_set m (y ∷ xs) x h e = case (eqb y.number m) e (found_set m xs x h.1)
  where
    case : (b : Bool) → cond b (Some y) (find m xs) ≡ Some x → (find m xs ≡ Some x → All IsFilled x.cells) → All IsFilled x.cells
    case true e k = subst (λ (x : Object). All IsFilled x.cells) (same_Some _ _ e) h.0
    case false e k = k e

literals_set : (n : ℕ) (literals : List PlainLiteral) → AllSet (literal_objects n literals)
literals_set n [] = tt
literals_set n (l ∷ literals) = (letters_filled l.bytes, literals_set (suc n) literals)

module _ (p : PlainProgram) where
  abbrev cells : PlainObject → List Cell
  cells object = initial_cells p object.type object.initializer

  statics_set : (n : ℕ) (objects : List PlainObject) (ys : List Object) → AllSet ys → AllSet (static_objects cells n objects ++ ys)
  statics_set n [] ys h = h
  statics_set n (x ∷ objects) ys h = let rest : AllSet (static_objects cells (suc n) objects ++ ys) = statics_set (suc n) objects ys h in
      cond_both x.sensor _ _ (λ xs. AllSet (xs ++ ys)) (λ e. rest) (λ e. (initial_filled p x.type x.initializer, rest))

  -- ## Their numbers

  -- an object that isn't among those of static lifetime stands after them
  past_statics : (n : ℕ) (objects : List PlainObject) (ys : List Object) (m : ℕ) → n + length objects ≤ m → find m (static_objects cells n objects ++ ys) ≡ find m ys
  past_statics n [] ys m l = refl
  past_statics n (x ∷ objects) ys m l =
      let rest : find m (static_objects cells (suc n) objects ++ ys) ≡ find m ys = past_statics (suc n) objects ys m (omega (arith, l)) in
      cond_both x.sensor _ _ (λ xs. find m (xs ++ ys) ≡ find m ys) (λ e. rest)
      (λ e. ap (λ b. cond b (Some (record { number = n; origin = declared; cells = cells x })) (find m (static_objects cells (suc n) objects ++ ys))) (ne_eqb n m (λ q. omega (arith, l, q))) ∙ rest)

  static_found : (n : ℕ) (objects : List PlainObject) (ys : List Object) (i : ℕ) (x : PlainObject) → slice_get objects i ≡ Some x → x.sensor ≡ false → find (n + i) (static_objects cells n objects ++ ys) ≡ Some (record { number = n + i; origin = declared; cells = cells x })
  static_found n [] ys i x e isnt = absurd (none-some _ e)
  static_found n (y ∷ objects) ys zero x e isnt =
      let same : y ≡ x = same_Some _ _ e in
      let here : n + 0 ≡ n = omega arith in
      subst (λ k. find k (static_objects cells n (y ∷ objects) ++ ys) ≡ Some (record { number = k; origin = declared; cells = cells x })) (sym here)
      (ap (λ b. find n ((cond b (static_objects cells (suc n) objects) (record { number = n; origin = declared; cells = cells y } ∷ static_objects cells (suc n) objects)) ++ ys)) (ap (λ (y : PlainObject). y.sensor) same ∙ isnt) ∙
      (ap (λ b. cond b (Some (record { number = n; origin = declared; cells = cells y })) (find n (static_objects cells (suc n) objects ++ ys))) (eq-eqb n n refl) ∙ ap (λ (y : PlainObject). Some (record { number = n; origin = declared; cells = cells y })) same))
  static_found n (y ∷ objects) ys (suc i) x e isnt =
      let rest = static_found (suc n) objects ys i x e isnt in
      let next : suc n + i ≡ n + suc i = omega arith in
      let found : find (n + suc i) (static_objects cells (suc n) objects ++ ys) ≡ Some (record { number = n + suc i; origin = declared; cells = cells x }) =
      subst (λ k. find k (static_objects cells (suc n) objects ++ ys) ≡ Some (record { number = k; origin = declared; cells = cells x })) next rest in
      cond_both y.sensor _ _ (λ xs. find (n + suc i) (xs ++ ys) ≡ Some (record { number = n + suc i; origin = declared; cells = cells x })) (λ e. found)
      (λ e. ap (λ b. cond b (Some (record { number = n; origin = declared; cells = cells y })) (find (n + suc i) (static_objects cells (suc n) objects ++ ys))) (ne_eqb n (n + suc i) (λ q. omega (arith, q))) ∙ found)

  literal_found : (n : ℕ) (literals : List PlainLiteral) (i : ℕ) (l : PlainLiteral) → slice_get literals i ≡ Some l → (x : Object) × (find (n + i) (literal_objects n literals) ≡ Some x) × (x.origin ≡ literal_origin)
  literal_found n [] i l e = absurd (none-some _ e)
  literal_found n (y ∷ literals) zero l e =
      let here : n ≡ n + 0 = omega arith in (
        _,
        subst (λ k. find k (literal_objects n (y ∷ literals)) ≡ Some (record { number = n; origin = literal_origin; cells = map (λ byte. holding (Int (converted Char (pos byte)))) y.bytes })) here
            (ap (λ b. cond b (Some (record { number = n; origin = literal_origin; cells = map (λ byte. holding (Int (converted Char (pos byte)))) y.bytes })) (find n (literal_objects (suc n) literals))) (eq-eqb n n refl)),
        refl,
      )
  literal_found n (y ∷ literals) (suc i) l e =
      let rest = literal_found (suc n) literals i l e in
      let next : suc n + i ≡ n + suc i = omega arith in (
        rest.0,
        ap (λ b. cond b (Some (record { number = n; origin = literal_origin; cells = map (λ byte. holding (Int (converted Char (pos byte)))) y.bytes })) (find (n + suc i) (literal_objects (suc n) literals))) (ne_eqb n (n + suc i) (λ q. omega (arith, q))) ∙
            subst (λ k. find k (literal_objects (suc n) literals) ≡ Some rest.0) next rest.1,
        rest.2,
      )

  -- ## The state

  pub opening_settled : (world : World) (left : ℕ) → Settled p [] (opening p world left).objects
  opening_settled world left = record {
    filled = λ m x e none. found_set m (opening p world left).objects x (statics_set 0 p.objects (literal_objects (length p.objects) p.literals) (literals_set (length p.objects) p.literals)) e;
    started = λ m e. absurd cc;
    statics = λ k object e isnt. record { object = record { number = k; origin = declared; cells = cells object }; there = static_at k object e isnt; origin_is = refl; apart = refl };
    literals = λ k l e. literal_at k l e;
  }
    where
      static_at : (k : ℕ) (object : PlainObject) → slice_get p.objects k ≡ Some object → object.sensor ≡ false → find k (static_objects cells 0 p.objects ++ literal_objects (length p.objects) p.literals) ≡ Some (record { number = k; origin = declared; cells = cells object })
      static_at k object e isnt =
          let same : 0 + k ≡ k = omega arith in
          subst (λ k. find k (static_objects cells 0 p.objects ++ literal_objects (length p.objects) p.literals) ≡ Some (record { number = k; origin = declared; cells = cells object })) same
          (static_found 0 p.objects (literal_objects (length p.objects) p.literals) k object e isnt)

      literal_at : (k : ℕ) (l : PlainLiteral) → slice_get p.literals k ≡ Some l → IsLive literal_origin [] (opening p world left).objects (length p.objects + k)
      literal_at k l e =
          let x = literal_found (length p.objects) p.literals k l e in
          record { object = x.0; there = past_statics 0 p.objects (literal_objects (length p.objects) p.literals) (length p.objects + k) (omega arith) ∙ x.1; origin_is = x.2; apart = refl }
