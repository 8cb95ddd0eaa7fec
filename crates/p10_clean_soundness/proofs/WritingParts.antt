-- Scalars of elements are written and copied: each of them holds something then.
use Rattle.std.proofs.Common.{◌≡◌, ℕ, zero, suc, ◌+◌, ◌<◌, ◌≤◌, Bool, true, false, List, [], ◌∷◌, length, refl, ◌∙◌, ap, subst, arith, Some, Ok, slice_get}
use Rattle.std.specs.Prelude.{nat_eq}
use Rattle.std.proofs.lemmas.Bool.{eqb-true, eqb-false}
use Rattle.p10_base.specs.declared.span.Span.{Span}
use Rattle.p10_core.specs.Types.{PlainType}
use Rattle.p10_core.specs.Typed.{PlainProgram}
use Rattle.p10_core.specs.WholePrograms.{is_among}
use Rattle.p10_meaning.specs.declared.pointers.Window.{Window}
use Rattle.p10_meaning.specs.declared.pointers.Ptr.TheVariants.{To}
use Rattle.p10_meaning.specs.declared.pointers.Scalar.{Scalar}
use Rattle.p10_meaning.specs.declared.pointers.Cell.{Cell}
use Rattle.p10_meaning.specs.Pointers.{holding, window_in}
use Rattle.p10_meaning.specs.Objects.{Object, on_ok, put, cell_at, write_at}
use Rattle.p10_meaning.specs.States.{State}
use Rattle.p10_meaning.specs.Statements.{Frame, part_of, write_part, copy_scalars, listed_scalar, fill}
use Rattle.p10_meaning.proofs.LaidOut.{all_at}
use Rattle.p10_clean_soundness.specs.private.Stays.{Stays}
use Rattle.p10_clean_soundness.specs.private.Setting.{IsFilled}
use Rattle.p10_clean_soundness.specs.private.Objects.{Settled}
use Rattle.p10_clean_soundness.proofs.Staying.{stays_step, stays_or, stays_weaker}
use Rattle.p10_clean_soundness.proofs.SettingUp.{holding_filled}
use Rattle.p10_clean_soundness.proofs.Writing.{got_below, IsFilledAt, Writes, writes_same, writes_then, put_writes, put_here, HasParts, MayWrite, part_at, parts_kept, may_write_kept, write_ok, read_ok, inner_ok}

-- ## One scalar

module _ (objects : List Object) (o : ℕ) (window : Window) (n count i : ℕ) (below : i < count) where
  -- a scalar is there
  abbrev PartIs : HasParts objects o window n count → Type 0
  PartIs h = (cell : Cell) × (slice_get h.object.cells (part_at window n i) ≡ Some cell)

  part_is : (h : HasParts objects o window n count) → PartIs h
  part_is h = got_below h.object.cells (part_at window n i) (h.room i below)

  inside_of : (h : HasParts objects o window n count) → (window_in window n i 1 1).inside ≡ true
  inside_of h = rw (h.inside, h.within) refl

  part_written : (h : MayWrite objects o window n count) (c : Cell) → write_part objects (To o window n) i c ≡ Ok (put objects o (part_at window n i) c)
  part_written h c =
      let x = part_is h.parts in
      ap (λ r. on_ok r (λ r. write_at objects r c)) (inner_ok objects o window n i h.parts.object h.parts.there) ∙
      write_ok objects o (window_in window n i 1 1) 0 c x.0 h.parts.object h.parts.there (inside_of h.parts) refl x.1 (h.declared_is h.parts.object h.parts.there)

  part_read : (h : HasParts objects o window n count) → part_of objects (To o window n) i ≡ Ok (part_is h).0
  part_read h =
      let x = part_is h in
      ap (λ r. on_ok r (λ r. cell_at objects r)) (inner_ok objects o window n i h.object h.there) ∙ read_ok objects o (window_in window n i 1 1) 0 x.0 h.object h.there (inside_of h) refl x.1

-- ## All scalars of an element

module _ (p : PlainProgram) (opening : List ℕ) (o : ℕ) (window : Window) (n count : ℕ) where
  -- scalars are written from one on
  abbrev pub WritesFrom : ℕ → List Object → State → Type 0
  WritesFrom i before u = Writes p opening before u × ((j : ℕ) → i ≤ j → j < count → IsFilledAt u.objects o (part_at window n j))

  one_more : (i : ℕ) (a : List Object) (b c : State) → Writes p opening a b → IsFilledAt b.objects o (part_at window n i) → WritesFrom (suc i) b.objects c → WritesFrom i a c
  one_more i a b c h f k = (writes_then p opening a b c h k.0, λ j above below. by_case j above below (nat_eq i j) refl)
    where
      after : (j : ℕ) → i ≤ j → (i ≡ j → ⊥) → suc i ≤ j
      after j above d = grind (arith, above, d)

      by_case : (j : ℕ) → i ≤ j → j < count → (b : Bool) → nat_eq i j ≡ b → IsFilledAt c.objects o (part_at window n j)
      by_case j above below true e = let same : i ≡ j = eqb-true i j e in subst (λ k. IsFilledAt c.objects o (part_at window n k)) same (k.0.filled o (part_at window n i) f)
      by_case j above below false e = k.1 j (after j above (eqb-false i j e)) below

  -- one of them is written
  written_part : (i : ℕ) → i < count → (c : Cell) → IsFilled c → (w : State) → Settled p opening w.objects → MayWrite w.objects o window n count → (left : ℕ) →
      Writes p opening w.objects (record w { left = left; objects = put w.objects o (part_at window n i) c }) × IsFilledAt (put w.objects o (part_at window n i) c) o (part_at window n i)
  written_part i below c f w s h left =
      let x = part_is w.objects o window n count i below h.parts in (
        put_writes p opening w.objects o (part_at window n i) c h.parts.object h.parts.there f (record w { left = left; objects = put w.objects o (part_at window n i) c }) refl s,
        put_here p opening w.objects o (part_at window n i) c h.parts.object h.parts.there f x.0 x.1,
      )

  pub fill_writes : (span : Span) (xs : List (ℕ × Scalar)) (types : List PlainType) (i : ℕ) (frame : Frame) (w : State) → i + length types ≡ count → Settled p opening w.objects → MayWrite w.objects o window n count → Stays (λ d u. WritesFrom i w.objects u) (fill span xs types i (To o window n) frame w)
  fill_writes span xs [] i frame w e s h = (writes_same p opening w s, λ j above below. absurd (omega (arith, e, above, below)))
  fill_writes span xs (t ∷ types) i frame w e s h =
      let c : Cell = holding (listed_scalar i t xs) in
      let below : i < count = omega (arith, e) in
      let rest : suc i + length types ≡ count = omega (arith, e) in
      let now : List Object = put w.objects o (part_at window n i) c in
      stays_step (λ d u. WritesFrom i w.objects u) w _ (λ left _.
      let next : State = record w { left = left; objects = now } in
      let one = written_part i below c (holding_filled (listed_scalar i t xs)) w s h left in
      stays_or (λ d u. WritesFrom i w.objects u) (write_part w.objects (To o window n) i c) now span (record w { left = left }) _ (part_written w.objects o window n count i below h c)
      (stays_weaker (λ d u. WritesFrom (suc i) now u) (λ d u. WritesFrom i w.objects u) (fill span xs types (suc i) (To o window n) frame next)
      (fill_writes span xs types (suc i) frame next rest one.0.settled (may_write_kept w.objects now o window n count one.0.shape h)) (λ d u k. one_more i w.objects next u one.0 one.1 k)))

  pub copy_writes : (from : ℕ) (source : Window) (m : ℕ) → is_among from opening ≡ false → (to_span from_span : Span) (more i : ℕ) (frame : Frame) (w : State) → i + more ≡ count → Settled p opening w.objects → MayWrite w.objects o window n count → HasParts w.objects from source m count →
      Stays (λ d u. WritesFrom i w.objects u) (copy_scalars more i to_span (To o window n) from_span (To from source m) frame w)
  copy_writes from source m apart to_span from_span zero i frame w e s h g = (writes_same p opening w s, λ j above below. absurd (omega (arith, e, above, below)))
  copy_writes from source m apart to_span from_span (suc more) i frame w e s h g =
      let below : i < count = omega (arith, e) in
      let rest : suc i + more ≡ count = omega (arith, e) in
      let x = part_is w.objects from source m count i below g in
      let c : Cell = x.0 in
      let filled : IsFilled c = all_at IsFilled g.object.cells (part_at source m i) c (s.filled from g.object g.there apart) x.1 in
      let now : List Object = put w.objects o (part_at window n i) c in
      stays_step (λ d u. WritesFrom i w.objects u) w _ (λ left _.
      let next : State = record w { left = left; objects = now } in
      let one = written_part i below c filled w s h left in
      stays_or (λ d u. WritesFrom i w.objects u) (part_of w.objects (To from source m) i) c from_span (record w { left = left }) _ (part_read w.objects from source m count i below g)
      (stays_or (λ d u. WritesFrom i w.objects u) (write_part w.objects (To o window n) i c) now to_span (record w { left = left }) _ (part_written w.objects o window n count i below h c)
      (stays_weaker (λ d u. WritesFrom (suc i) now u) (λ d u. WritesFrom i w.objects u) (copy_scalars more (suc i) to_span (To o window n) from_span (To from source m) frame next)
      (copy_writes from source m apart to_span from_span more (suc i) frame next rest one.0.settled (may_write_kept w.objects now o window n count one.0.shape h) (parts_kept w.objects now from source m count one.0.shape g))
      (λ d u k. one_more i w.objects next u one.0 one.1 k))))
