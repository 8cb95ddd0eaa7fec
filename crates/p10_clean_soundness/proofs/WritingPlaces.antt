-- Places in live objects: where an element is reached in a sound state, its scalars are there, and may be written in objects that are declared.
use Rattle.std.proofs.Common.{◌≡◌, ℕ, ◌+◌, ◌*◌, ◌<◌, ◌≤◌, ◌&&◌, min, ltb, Bool, true, false, List, length, ◌∙◌, ap, sym, subst, arith, Some, slice_get}
use Rattle.std.proofs.lemmas.Option.{same_Some}
use Rattle.p10_core.specs.Types.{PlainType, bare}
use Rattle.p10_core.specs.Rows.{is_scalar}
use Rattle.p10_core.specs.Typed.{PlainProgram}
use Rattle.p10_meaning.specs.declared.pointers.Window.{Window}
use Rattle.p10_meaning.specs.declared.pointers.Cell.{Cell}
use Rattle.p10_meaning.specs.Pointers.{last_number}
use Rattle.p10_meaning.specs.Objects.{Object, find}
use Rattle.p10_meaning.specs.States.{State}
use Rattle.p10_meaning.specs.Values.{scalars, width}
use Rattle.p10_meaning.specs.Sound.{most_elements, Kind, View, own, IsAt, kind_scalars, Sound}
use Rattle.p10_meaning.proofs.Geometry.{part_get, IsLaidOut, IsLaid, element, walk_laid, own_laid}
use Rattle.p10_meaning.proofs.Fitting.{get_below, HasCell, all_get, IsFound, FoundIs, find_is}
use Rattle.p10_meaning.proofs.Moves.{scalars_are}
use Rattle.p10_clean_soundness.proofs.Writing.{got_below, part_at, HasParts}

both_true : (a b : Bool) → a ≡ true → b ≡ true → (a && b) ≡ true
both_true true b e h = h
both_true false b e h = absurd cc

module _ (p : PlainProgram) (out : IsLaidOut p) (ks : List Kind) (w : State) (sound : Sound p ks w) (t : PlainType) (o : ℕ) (window : Window) (n : ℕ) (at : IsAt p ks t o window n) (inside : window.inside ≡ true) (within : ltb n window.count ≡ true)
    (x : Object) (there : find o w.objects ≡ Some x) where
  abbrev view : View
  view = record { window = window; elem = bare p.structures t }

  few : length (kind_scalars p at.kind) ≤ last_number
  few = let l : length (kind_scalars p at.kind) ≤ most_elements = (sound.sizes o at.kind at.opened).scalars in omega (arith, l)

  laid : IsLaid p (kind_scalars p at.kind) view
  laid = walk_laid p out (kind_scalars p at.kind) few at.leads.path (own p at.kind) view at.leads.leads (own_laid p at.kind)

  -- scalar i of the element has the type that the element's scalar i has
  typed : (i : ℕ) (s : PlainType) → slice_get (scalars p t) i ≡ Some s → slice_get (kind_scalars p at.kind) (window.start + n * window.stride + i) ≡ Some s
  typed i s e = part_get (kind_scalars p at.kind) (scalars p t) (window.start + n * window.stride) i s (element p (kind_scalars p at.kind) view n laid (both_true window.inside (ltb n window.count) inside within)) e

  found : IsFound p ks o x
  found = subst (FoundIs p ks o) there (find_is p ks o w.objects sound.all)

  same_kind : at.kind ≡ found.fits.kind
  same_kind = same_Some _ _ (sym at.opened ∙ (sym (ap (slice_get ks) found.number) ∙ found.fits.opened))

  cell_at_part : (i : ℕ) (s : PlainType) → slice_get (scalars p t) i ≡ Some s → HasCell p ks s x.cells (window.start + n * window.stride + i)
  cell_at_part i s e = all_get p ks (kind_scalars p found.fits.kind) x.cells (window.start + n * window.stride + i) s found.fits.cells (subst (λ k. slice_get (kind_scalars p k) (window.start + n * window.stride + i) ≡ Some s) same_kind (typed i s e))

  part_below : (i : ℕ) → i < width p t → part_at window n i < length x.cells
  part_below i l =
      let s = got_below (scalars p t) i l in
      let h = cell_at_part i s.0 s.1 in
      let a : window.start + n * window.stride + i < length x.cells = get_below x.cells _ h.cell h.there in
      let b : window.start + n * window.stride + i < length (kind_scalars p at.kind) = get_below (kind_scalars p at.kind) _ s.0 (typed i s.0 s.1) in
      capped (window.start + n * window.stride + i) (length x.cells) (length (kind_scalars p at.kind)) a b few
    where
      capped : (j a b : ℕ) → j < a → j < b → b ≤ last_number → min j last_number + 0 < a
      capped j a b h k l = omega (arith, h, k, l)

  -- the scalars of the element are there
  pub parts_there : HasParts w.objects o window n (width p t)
  parts_there = record { object = x; there = there; inside = inside; within = within; room = part_below }

  -- one that is a scalar has a cell
  pub cell_there : is_scalar t ≡ true → (cell : Cell) × (slice_get x.cells (window.start + n) ≡ Some cell)
  cell_there scalar =
      let h = cell_at_part 0 (bare p.structures t) (ap (λ ts. slice_get ts 0) (scalars_are p out t scalar)) in
      (h.cell, subst (λ m. slice_get x.cells m ≡ Some h.cell) (place window.start n window.stride (laid.stride ∙ ap length (scalars_are p out t scalar))) h.there)
    where
      place : (s n m : ℕ) → m ≡ 1 → s + n * m + 0 ≡ s + n
      place s n m e = ap (λ m. s + n * m + 0) e ∙ omega arith
