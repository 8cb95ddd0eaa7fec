-- The last entry with a spelling among those from a number on, and entries that are taken out from the end.
use Rattle.std.proofs.Common.{◌≡◌, ℕ, zero, suc, ◌+◌, ◌<◌, ◌≤◌, nat_le, Bool, true, false, if◌then◌else◌, Option, Some, None, List, [], ◌∷◌, ◌++◌, drop, reverse, bytes_eq, slice_get, refl, sym, ◌∙◌, ap, subst, arith}
use Rattle.std.specs.Bool.{⊤}
use Rattle.std.proofs.lemmas.Bool.{le-leb, leb-true}
use Rattle.std.proofs.lemmas.List.{map-append, reverse-append}
use Rattle.p10_base.specs.Words.{Text}
use Rattle.p10_base.specs.Names.{place_in}
use Rattle.p10_bindings.specs.declared.bound.Bound.{Bound}
use Rattle.p10_bindings.specs.declared.entry.Entry.{Entry}
use Rattle.p10_bindings.specs.Bound.{bound_of, what_at}
use Rattle.p10_bindings.specs.Taken.{names_of}
use Rattle.p10_bindings.specs.Lookup.{last_after, last_bound}
use Rattle.p10_bindings.specs.private.Later.{kept_from}
use Rattle.p10_bindings.specs.private.Links.{last_place, written, IsLinked}
use Rattle.p10_bindings.proofs.Linking.{agrees}

-- ## Places from a number on

-- the one or else the other
abbrev or_else : Option ℕ → Option ℕ → Option ℕ
or_else (Some p) other = Some p
or_else None other = other

abbrev IsFrom : ℕ → Option ℕ → Type 0
IsFrom k None = ⊤
IsFrom k (Some p) = k ≤ p

or_twice : (x : Option ℕ) (i : ℕ) (other : Option ℕ) → or_else (or_else x (Some i)) other ≡ or_else x (Some i)
or_twice None i other = refl
or_twice (Some p) i other = refl

from_or : (k i : ℕ) (x : Option ℕ) → k ≤ i → IsFrom (i + 1) x → IsFrom k (or_else x (Some i))
from_or k i None h f = h
from_or k i (Some p) h f = omega (arith, h, f)

weaker : (i : ℕ) (x : Option ℕ) → IsFrom (i + 1) x → IsFrom i x
weaker i None f = tt
weaker i (Some p) f = omega (arith, f)

all_kept : (k : ℕ) (x : Option ℕ) → IsFrom k x → x ≡ kept_from k x
all_kept k None h = refl
all_kept k (Some p) h = sym (ap (λ b. if b then Some p else None) (le-leb k p h))

earlier_falls : (k j : ℕ) (x : Option ℕ) → j < k → kept_from k x ≡ kept_from k (or_else x (Some j))
earlier_falls k j (Some p) h = refl
earlier_falls k j None h = sym (by_test (nat_le k j) refl)
  where
    by_test : (b : Bool) → nat_le k j ≡ b → (if b then Some j else None) ≡ None
    by_test false e = refl
    by_test true e = absurd (let g : k ≤ j = leb-true k j e in omega (arith, h, g))

module _ {T : Type 0} where
  -- what was found before counts only where nothing is found
  found_or : (name : Text) (all : List (Entry T)) (found : Option ℕ) (i : ℕ) → last_place found i name all ≡ or_else (last_place None i name all) found
  found_or name [] found i = refl
  found_or name (e ∷ rest) found i = by_test (bytes_eq e.name.now name) (found_or name rest (Some i) (i + 1)) (found_or name rest found (i + 1))
    where
      by_test : (b : Bool) → last_place (Some i) (i + 1) name rest ≡ or_else (last_place None (i + 1) name rest) (Some i) → last_place found (i + 1) name rest ≡ or_else (last_place None (i + 1) name rest) found →
          last_place (if b then Some i else found) (i + 1) name rest ≡ or_else (last_place (if b then Some i else None) (i + 1) name rest) found
      by_test true here before = here ∙ sym (ap (λ x. or_else x found) here ∙ or_twice (last_place None (i + 1) name rest) i found)
      by_test false here before = before

  -- what is found from a place on isn't before it
  found_from : (name : Text) (all : List (Entry T)) (i : ℕ) → IsFrom i (last_place None i name all)
  found_from name [] i = tt
  found_from name (e ∷ rest) i = by_test (bytes_eq e.name.now name) (found_from name rest (i + 1))
    where
      by_test : (b : Bool) → IsFrom (i + 1) (last_place None (i + 1) name rest) → IsFrom i (last_place (if b then Some i else None) (i + 1) name rest)
      by_test true later = subst (IsFrom i) (sym (found_or name rest (Some i) (i + 1))) (from_or i i (last_place None (i + 1) name rest) (omega arith) later)
      by_test false later = weaker i (last_place None (i + 1) name rest) later

  -- the last place among those from a number on
  found_in_rest : (name : Text) (k j : ℕ) (all : List (Entry T)) → last_place None (j + k) name (drop k all) ≡ kept_from (j + k) (last_place None j name all)
  found_in_rest name zero j [] = refl
  found_in_rest name zero j (e ∷ rest) =
      let n : j + 0 ≡ j = omega arith in
      ap (λ m. last_place None m name (e ∷ rest)) n ∙ all_kept j (last_place None j name (e ∷ rest)) (found_from name (e ∷ rest) j) ∙ sym (ap (λ m. kept_from m (last_place None j name (e ∷ rest))) n)
  found_in_rest name (suc k) j [] = refl
  found_in_rest name (suc k) j (e ∷ rest) =
      let n : j + suc k ≡ j + 1 + k = omega arith in
      ap (λ m. last_place None m name (drop k rest)) n ∙ found_in_rest name k (j + 1) rest
      ∙ ap (λ m. kept_from m (last_place None (j + 1) name rest)) (sym n) ∙ by_test (bytes_eq e.name.now name)
    where
      by_test : (b : Bool) → kept_from (j + suc k) (last_place None (j + 1) name rest) ≡ kept_from (j + suc k) (last_place (if b then Some j else None) (j + 1) name rest)
      by_test true = earlier_falls (j + suc k) j (last_place None (j + 1) name rest) (omega arith) ∙ sym (ap (kept_from (j + suc k)) (found_or name rest (Some j) (j + 1)))
      by_test false = refl

  get_rest : (all : List (Entry T)) (k m : ℕ) → slice_get all (k + m) ≡ slice_get (drop k all) m
  get_rest [] zero m = refl
  get_rest (x ∷ xs) zero m = let n : 0 + m ≡ m = omega arith in ap (slice_get (x ∷ xs)) n
  get_rest [] (suc k) zero = refl
  get_rest [] (suc k) (suc m) = refl
  get_rest (x ∷ xs) (suc k) m = let n : suc k + m ≡ suc (k + m) = omega arith in ap (slice_get (x ∷ xs)) n ∙ get_rest xs k m

  bound_rest : (k : ℕ) (all : List (Entry T)) → bound_of (drop k all) ≡ drop k (bound_of all)
  bound_rest zero [] = refl
  bound_rest zero (x ∷ xs) = refl
  bound_rest (suc k) [] = refl
  bound_rest (suc k) (x ∷ xs) = bound_rest k xs

  -- what is found by a spelling from a number on is what its last entry stands for, if that isn't before it
  found_later : (entries : List (Entry T)) (name : Text) (k : ℕ) → what_at entries (kept_from k (last_place None 0 name entries)) ≡ last_bound name (drop k (bound_of entries))
  found_later entries name k =
      let n : 0 + k ≡ k = omega arith in
      sym (ap (what_at entries) (ap (λ m. last_place None m name (drop k entries)) (sym n) ∙ found_in_rest name k 0 entries ∙ ap (λ m. kept_from m (last_place None 0 name entries)) n))
      ∙ sym (agrees entries (drop k entries) name None k (get_rest entries k)) ∙ ap (last_after None name) (bound_rest k entries)

  -- a known spelling
  pub known_later : (spellings : List Text) (last : List (Option ℕ)) (entries : List (Entry T)) (name : Text) (k place : ℕ) (there : Option ℕ) (r : Option T) → IsLinked spellings last entries →
      Some place ≡ place_in spellings name → there ≡ written (slice_get last place) → r ≡ what_at entries (kept_from k there) → r ≡ last_bound name (drop k (bound_of entries))
  known_later spellings last entries name k place there r w e at is =
      is ∙ ap (λ p. what_at entries (kept_from k p)) (at ∙ w.known name place (sym e)) ∙ found_later entries name k

  -- an unknown one
  pub unknown_later : (spellings : List Text) (last : List (Option ℕ)) (entries : List (Entry T)) (name : Text) (k : ℕ) → IsLinked spellings last entries →
      None ≡ place_in spellings name → None ≡ last_bound name (drop k (bound_of entries))
  unknown_later spellings last entries name k w e =
      sym (ap (λ p. what_at entries (kept_from k p)) (w.unknown name (sym e))) ∙ found_later entries name k

  -- ## Names that are taken out

  names_turned : (taken : List (Bound T)) → names_of (reverse taken) ≡ reverse (names_of taken)
  names_turned [] = refl
  names_turned (b ∷ rest) =
      ap names_of (reverse-append (b ∷ []) rest) ∙ map-append (λ (b : Bound T). (b.name.now, b.what)) (reverse rest) (b ∷ [])
      ∙ ap (λ (bs : List (Text × T)). bs ++ (b.name.now, b.what) ∷ []) (names_turned rest) ∙ sym (reverse-append ((b.name.now, b.what) ∷ []) (names_of rest))

  -- in the order in which they were declared
  pub in_order : (taken turned : List (Bound T)) (names : List (Text × T)) → reverse (names_of taken) ≡ names → turned ≡ reverse taken → names_of turned ≡ names
  in_order taken turned names e is = ap names_of is ∙ names_turned taken ∙ e
