-- An object that a declaration opens: it isn't set until it is initialised, all its scalars are there, and then it is set.
use Rattle.std.proofs.Common.{◌≡◌, ℕ, suc, ◌+◌, ◌*◌, ◌<◌, ◌≤◌, min, Bool, true, false, List, [], ◌∷◌, length, append-nil, refl, ◌∙◌, ap, sym, subst, arith, Some, slice_get}
use Rattle.std.specs.Prelude.{◌||◌, nat_eq}
use Rattle.std.specs.List.{All}
use Rattle.std.proofs.lemmas.Bool.{eqb-true, eqb-false}
use Rattle.std.proofs.lemmas.List.Elements.{All-nil, All-cons}
use Rattle.std.proofs.lemmas.Option.{same_Some}
use Rattle.p10_core.specs.Types.{PlainType}
use Rattle.p10_core.specs.Typed.{PlainProgram}
use Rattle.p10_core.specs.WholePrograms.{is_among}
use Rattle.p10_meaning.specs.declared.pointers.Cell.{Cell}
use Rattle.p10_meaning.specs.Pointers.{last_number, whole_window}
use Rattle.p10_meaning.specs.Objects.{Origin, declared, Object, find, opened_with}
use Rattle.p10_meaning.specs.States.{State}
use Rattle.p10_meaning.specs.Values.{scalars, width}
use Rattle.p10_meaning.specs.Sound.{most_elements, Kind, single_of, AllFit, kind_scalars, Sound}
use Rattle.p10_meaning.specs.Apart.{OpensOne}
use Rattle.p10_meaning.proofs.Geometry.{IsLaidOut}
use Rattle.p10_meaning.proofs.Fitting.{IsFound, FoundIs, find_is}
use Rattle.p10_meaning.proofs.StayApart.{opens_one}
use Rattle.p10_meaning.proofs.SoundParts.{single_fits}
use Rattle.p10_execution.proofs.Numbers.{or_false}
use Rattle.p10_clean_soundness.specs.private.Setting.{IsFilled}
use Rattle.p10_clean_soundness.specs.private.Objects.{IsLive, Settled, Survive}
use Rattle.p10_clean_soundness.proofs.Closing.{live_on, started_on}
use Rattle.p10_clean_soundness.proofs.Moving.{not_opened}
use Rattle.p10_clean_soundness.proofs.Writing.{IsShapedAs, IsFilledAt, part_at, HasParts, MayWrite}
use Rattle.p10_clean_soundness.proofs.WritingParts.{WritesFrom}
use Rattle.p10_clean_soundness.proofs.WritingPlaces.{parts_there}

-- a live object, all of whose scalars are set
pub record IsFull (o : ℕ) (objects : List Object) : Type 0 where
  pub object : Object
  pub there : find o objects ≡ Some object
  pub filled : All IsFilled object.cells

-- an object is live that a declaration opened
pub record IsOpen (o : ℕ) (objects : List Object) : Type 0 where
  pub object : Object
  pub live : find o objects ≡ Some object
  pub origin_is : object.origin ≡ declared

-- ## It is opened

module _ (p : PlainProgram) (ks : List Kind) (w : State) (sound : Sound p ks w) (opening : List ℕ) (cells : List Cell) where
  one : OpensOne w.objects w.opened declared cells
  one = opens_one p ks w sound declared cells

  -- a live object has another number
  pub other_number : (m : ℕ) (x : Object) → find m w.objects ≡ Some x → nat_eq m w.opened ≡ false
  other_number m x e = by_case (nat_eq m w.opened) refl
    where
      by_case : (b : Bool) → nat_eq m w.opened ≡ b → nat_eq m w.opened ≡ false
      by_case true q = absurd (not_opened p ks w sound x (ap (λ k. find k w.objects) (sym (eqb-true m w.opened q)) ∙ e))
      by_case false q = q

  pub opened_survive : Survive w.objects (opened_with w.objects w.opened declared cells)
  opened_survive = record { each = λ m x e. record { object = x; there = one.others m (eqb-false m w.opened (other_number m x e)) ∙ e; origin_is = refl } }

  -- what was live is so, while the new one is being initialised
  pub opened_live : (origin : Origin) (o : ℕ) → IsLive origin opening w.objects o → IsLive origin (w.opened ∷ opening) (opened_with w.objects w.opened declared cells) o
  opened_live origin o l =
      let live : IsLive origin opening (opened_with w.objects w.opened declared cells) o = live_on origin opening w.objects (opened_with w.objects w.opened declared cells) o opened_survive l in
      record { object = live.object; there = live.there; origin_is = live.origin_is; apart = ap (λ b. b || is_among o opening) (other_number o l.object l.there) ∙ l.apart }

  pub opened_settled : Settled p opening w.objects → Settled p (w.opened ∷ opening) (opened_with w.objects w.opened declared cells)
  opened_settled s = record {
    filled = λ m x e out.
        let each : (nat_eq m w.opened ≡ false) × (is_among m opening ≡ false) = or_false (nat_eq m w.opened) (is_among m opening) out in
        s.filled m x (sym (one.others m (eqb-false m w.opened each.0)) ∙ e) each.1;
    started = λ m e. begun m (nat_eq m w.opened) refl e;
    statics = λ k object e isnt. opened_live declared k (s.statics k object e isnt);
    literals = λ k l e. opened_live _ _ (s.literals k l e);
  }
    where
      begun : (m : ℕ) (b : Bool) → nat_eq m w.opened ≡ b → (b || is_among m opening) ≡ true → (x : Object) × (find m (opened_with w.objects w.opened declared cells) ≡ Some x)
      begun m true q e = (record { number = w.opened; origin = declared; cells = cells }, ap (λ k. find k (opened_with w.objects w.opened declared cells)) (eqb-true m w.opened q) ∙ one.new)
      begun m false q e = started_on opening w.objects (opened_with w.objects w.opened declared cells) opened_survive s.started m e

  pub opened_new : IsOpen w.opened (opened_with w.objects w.opened declared cells)
  opened_new = record { object = record { number = w.opened; origin = declared; cells = cells }; live = one.new; origin_is = refl }

  pub opened_full : All IsFilled cells → IsFull w.opened (opened_with w.objects w.opened declared cells)
  opened_full h = record { object = record { number = w.opened; origin = declared; cells = cells }; there = one.new; filled = h }

  -- no object is being initialised that has its number
  pub opened_apart : Settled p opening w.objects → is_among w.opened opening ≡ false
  opened_apart s = by_case (is_among w.opened opening) refl
    where
      by_case : (b : Bool) → is_among w.opened opening ≡ b → is_among w.opened opening ≡ false
      by_case true e = let x = s.started w.opened e in absurd (not_opened p ks w sound x.0 x.1)
      by_case false e = e

-- ## It is initialised

-- an object is set, and no more being initialised
pub full_settled : (p : PlainProgram) (o : ℕ) (opening : List ℕ) (objects : List Object) → IsFull o objects → Settled p (o ∷ opening) objects → Settled p opening objects
full_settled p o opening objects full s = record {
  filled = λ m x e out. by_case m x e out (nat_eq m o) refl;
  started = λ m e. s.started m (more (nat_eq m o) (is_among m opening) e);
  statics = λ k object e isnt. fewer declared k (s.statics k object e isnt);
  literals = λ k l e. fewer _ _ (s.literals k l e);
}
  where
    more : (a b : Bool) → b ≡ true → (a || b) ≡ true
    more true b e = refl
    more false b e = e

    fewer : (origin : Origin) (m : ℕ) → IsLive origin (o ∷ opening) objects m → IsLive origin opening objects m
    fewer origin m l = record { object = l.object; there = l.there; origin_is = l.origin_is; apart = (or_false (nat_eq m o) (is_among m opening) l.apart).1 }

    by_case : (m : ℕ) (x : Object) → find m objects ≡ Some x → is_among m opening ≡ false → (b : Bool) → nat_eq m o ≡ b → All IsFilled x.cells
    by_case m x e out true q =
        let same : full.object ≡ x = same_Some _ _ (sym full.there ∙ (ap (λ k. find k objects) (sym (eqb-true m o q)) ∙ e)) in
        subst (λ (x : Object). All IsFilled x.cells) same full.filled
    by_case m x e out false q = s.filled m x e (ap (λ b. b || is_among m opening) q ∙ out)

all_filled : (cells : List Cell) → ((i : ℕ) → i < length cells → (c : Cell) × (slice_get cells i ≡ Some c) × IsFilled c) → All IsFilled cells
all_filled [] h = All-nil IsFilled
all_filled (x ∷ cells) h =
    let first = h 0 (omega arith) in
    All-cons IsFilled x cells (subst IsFilled (sym (same_Some _ _ first.1)) first.2) (all_filled cells (λ i l. h (suc i) (omega (arith, l))))

fit_length : (p : PlainProgram) (ks : List Kind) (ts : List PlainType) (cells : List Cell) → AllFit p ks ts cells → length cells ≡ length ts
fit_length p ks [] [] h = refl
fit_length p ks [] (x ∷ cells) h = absurd h
fit_length p ks (t ∷ ts) [] h = absurd h
fit_length p ks (t ∷ ts) (x ∷ cells) h = ap suc (fit_length p ks ts cells h.1)

module _ (p : PlainProgram) (out : IsLaidOut p) (opening : List ℕ) (t : PlainType) (o : ℕ) (ks : List Kind) (w : State) (sound : Sound p ks w) (opened : slice_get ks o ≡ Some (single_of p t)) (x : Object) (there : find o w.objects ≡ Some x) where
  -- the object has a scalar for each of its type
  pub object_length : length x.cells ≡ width p t
  object_length =
      let found : IsFound p ks o x = subst (FoundIs p ks o) there (find_is p ks o w.objects sound.all) in
      let same : found.fits.kind ≡ single_of p t = same_Some _ _ (sym found.fits.opened ∙ (ap (slice_get ks) found.number ∙ opened)) in
      fit_length p ks (kind_scalars p found.fits.kind) x.cells found.fits.cells ∙ (ap (λ k. length (kind_scalars p k)) same ∙ ap length (append-nil (scalars p t)))

  pub few_scalars : width p t ≤ last_number
  few_scalars =
      let l : length (kind_scalars p (single_of p t)) ≤ most_elements = (sound.sizes o (single_of p t) opened).scalars in
      let same : length (kind_scalars p (single_of p t)) ≡ width p t = ap length (append-nil (scalars p t)) in
      omega (arith, l, same)

  pub object_parts : HasParts w.objects o (whole_window (width p t) 1) 0 (width p t)
  object_parts = parts_there p out ks w sound t o (whole_window (width p t) 1) 0 (single_fits p ks o t opened) refl refl x there

  pub object_writes : x.origin ≡ declared → MayWrite w.objects o (whole_window (width p t) 1) 0 (width p t)
  object_writes origin = record { parts = object_parts; declared_is = λ y e. ap (λ (y : Object). y.origin) (same_Some _ _ (sym e ∙ there)) ∙ origin }

  -- where all its scalars are written, it is set
  pub object_full : (u : State) → WritesFrom p opening o (whole_window (width p t) 1) 0 (width p t) 0 w.objects u → IsFull o u.objects
  object_full u h =
      let y : IsShapedAs o x u.objects = h.0.shape.each o x there in
      let count : length y.object.cells ≡ width p t = y.length_is ∙ object_length in
      record { object = y.object; there = y.there; filled = all_filled y.object.cells (λ i l. cell i y.object y.there (subst (λ k. i < k) count l)) }
    where
      place : (i : ℕ) → i < width p t → part_at (whole_window (width p t) 1) 0 i ≡ i
      place i l = let few : width p t ≤ last_number = few_scalars in capped i (width p t) l few
        where
          capped : (i n : ℕ) → i < n → n ≤ last_number → min (0 + 0 * n + i) last_number + 0 ≡ i
          capped i n l few = omega (arith, l, few)

      cell : (i : ℕ) (z : Object) → find o u.objects ≡ Some z → i < width p t → (c : Cell) × (slice_get z.cells i ≡ Some c) × IsFilled c
      cell i z e l =
          let f : IsFilledAt u.objects o (part_at (whole_window (width p t) 1) 0 i) = h.1 i (omega arith) l in
          let same : f.object ≡ z = same_Some _ _ (sym f.there ∙ e) in
          (f.cell, subst (λ (z : Object). slice_get z.cells i ≡ Some f.cell) same (subst (λ j. slice_get f.object.cells j ≡ Some f.cell) (place i l) f.has), f.filled)
