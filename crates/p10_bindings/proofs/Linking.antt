-- The last entry with a spelling, as it is found.
use Rattle.std.proofs.Common.{◌≡◌, ℕ, suc, ◌+◌, Bool, true, false, if◌then◌else◌, Option, Some, None, List, [], ◌∷◌, option_map, bytes_eq, slice_get, refl, sym, ◌∙◌, ap, arith}
use Rattle.p10_base.specs.Words.{Text}
use Rattle.p10_base.specs.Names.{place_in}
use Rattle.p10_bindings.specs.declared.entry.Entry.{Entry}
use Rattle.p10_bindings.specs.Lookup.{last_after, last_bound}
use Rattle.p10_bindings.specs.Bound.{bound_of, what_at}
use Rattle.p10_bindings.specs.private.Links.{last_place, written, IsLinked}

module _ {T : Type 0} where
  chosen : (all : List (Entry T)) (found : Option ℕ) (i : ℕ) (m : T) (b : Bool) → what_at all (Some i) ≡ Some m →
      (if b then Some m else what_at all found) ≡ what_at all (if b then Some i else found)
  chosen all found i m true e = sym e
  chosen all found i m false e = refl

  shifted : (all : List (Entry T)) (x : Entry T) (rest : List (Entry T)) (i k : ℕ) → ((k : ℕ) → slice_get all (i + k) ≡ slice_get (x ∷ rest) k) → slice_get all (i + 1 + k) ≡ slice_get rest k
  shifted all x rest i k h =
      let e : i + 1 + k ≡ i + suc k = omega arith in
      ap (slice_get all) e ∙ h (suc k)

  first_here : (all : List (Entry T)) (x : Entry T) (rest : List (Entry T)) (i : ℕ) → ((k : ℕ) → slice_get all (i + k) ≡ slice_get (x ∷ rest) k) → what_at all (Some i) ≡ Some x.what
  first_here all x rest i h =
      let e : i ≡ i + 0 = omega arith in
      ap (option_map (λ (e : Entry T). e.what)) (ap (slice_get all) e ∙ h 0)

  pub agrees : (all rest : List (Entry T)) (name : Text) (found : Option ℕ) (i : ℕ) → ((k : ℕ) → slice_get all (i + k) ≡ slice_get rest k) →
      last_after (what_at all found) name (bound_of rest) ≡ what_at all (last_place found i name rest)
  agrees all [] name found i h = refl
  agrees all (x ∷ rest) name found i h =
      ap (λ m. last_after m name (bound_of rest)) (chosen all found i x.what (bytes_eq x.name.now name) (first_here all x rest i h))
      ∙ agrees all rest name (if bytes_eq x.name.now name then Some i else found) (i + 1) (λ k. shifted all x rest i k h)

  -- what is found by a spelling is what its last entry stands for
  pub found_at : (entries : List (Entry T)) (name : Text) → what_at entries (last_place None 0 name entries) ≡ last_bound name (bound_of entries)
  found_at entries name = sym (agrees entries entries name None 0 (λ k. let e : 0 + k ≡ k = omega arith in ap (slice_get entries) e))

  -- a known spelling
  pub known_name : (spellings : List Text) (last : List (Option ℕ)) (entries : List (Entry T)) (name : Text) (place : ℕ) (r : Option T) → IsLinked spellings last entries →
      Some place ≡ place_in spellings name → r ≡ what_at entries (written (slice_get last place)) → r ≡ last_bound name (bound_of entries)
  known_name spellings last entries name place r w e is =
      is ∙ ap (what_at entries) (w.known name place (sym e)) ∙ found_at entries name

  -- an unknown one
  pub unknown_spelling : (spellings : List Text) (last : List (Option ℕ)) (entries : List (Entry T)) (name : Text) → IsLinked spellings last entries →
      None ≡ place_in spellings name → None ≡ last_bound name (bound_of entries)
  unknown_spelling spellings last entries name w e = sym (ap (what_at entries) (w.unknown name (sym e))) ∙ found_at entries name
