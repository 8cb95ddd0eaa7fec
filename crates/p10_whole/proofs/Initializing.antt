-- Initialisers, by tests.
use Rattle.std.specs.Prelude.{◌≡◌, ℕ, nat_eq, Bool, true, false, not, ◌&&◌, Some, List, refl}
use Rattle.std.proofs.Common.{ap, sym, ◌∙◌}
use Rattle.std.proofs.lemmas.Bool.{eqb-true}
use Rattle.p10_core.specs.Types.{PlainType, void, integer, pointer, array, structure, unqualified}
use Rattle.p10_core.specs.Sizes.{scalars_of}
use Rattle.p10_core.specs.Typed.{PlainValue, PlainPlace, PlainItem, type_of, place_type}
use Rattle.p10_core.specs.Rows.{is_scalar, is_complete}
use Rattle.p10_core.specs.Whole.{Surroundings, IsWholeValue, IsWholePlace}
use Rattle.p10_core.specs.WholePrograms.{CopiesStructure, IsSingle, ListsScalars, AreWholeItems}
use Rattle.p10_whole.specs.private.Agreeing.{structure_number}
use Rattle.p10_whole.specs.private.Shows.{Shows}
use Rattle.p10_whole.proofs.Showing.{both_true}

some_number : (k n : ℕ) → Some n ≡ Some k → k ≡ n
some_number k n e = cc

structure_is : (c : Surroundings) (t : PlainType) (n : ℕ) → Some n ≡ structure_number t → (unqualified t ≡ structure false n) × (is_complete c.structures t ≡ is_complete c.structures (structure false n))
structure_is c (void m) n e = absurd cc
structure_is c (integer m i) n e = absurd cc
structure_is c (pointer m t) n e = absurd cc
structure_is c (array m t k) n e = absurd cc
structure_is c (structure m k) n e = let same : k ≡ n = some_number k n e in (ap (structure false) same, ap (λ i. is_complete c.structures (structure false i)) same)

pub copies_shown : (c : Surroundings) (t : PlainType) (p : PlainPlace) (n m : ℕ) (x z : Bool) → Some n ≡ structure_number t → Some m ≡ structure_number (place_type p) → Shows x (IsWholePlace c p) → z ≡ is_complete c.structures t →
    Shows (x && (nat_eq n m && z)) (CopiesStructure c t p)
copies_shown c t p n m x z e f g k = record {
  shows = λ h.
      let a = both_true x (nat_eq n m && z) h in
      let b = both_true (nat_eq n m) z a.1 in
      let s = structure_is c t n e in
      let q = structure_is c (place_type p) m f in
      record { whole = g.shows a.0; number = n; target_is = s.0; source_is = q.0 ∙ ap (structure false) (sym (eqb-true n m b.0)); complete = sym s.1 ∙ sym k ∙ b.1 };
}

pub single_shown : (c : Surroundings) (t : PlainType) (v : PlainValue) (x y z : Bool) → Shows x (IsWholeValue c v) → y ≡ is_scalar t → Shows z (type_of v ≡ unqualified t) → Shows (x && (y && z)) (IsSingle c t v)
single_shown c t v x y z f e g = record {
  shows = λ h.
      let a = both_true x (y && z) h in
      let b = both_true y z a.1 in
      record { whole = f.shows a.0; scalar = sym e ∙ b.0; type_is = g.shows b.1 };
}

not_true : (b : Bool) → not b ≡ true → b ≡ false
not_true true e = absurd cc
not_true false e = refl

pub lists_shown : (c : Surroundings) (t : PlainType) (items : List PlainItem) (x y : Bool) → x ≡ is_scalar t → Shows y (AreWholeItems c (scalars_of c.structures t) 0 items) → Shows (not x && y) (ListsScalars c t items)
lists_shown c t items x y e f = record {
  shows = λ h. let a = both_true (not x) y h in record { aggregate = sym e ∙ not_true x a.0; whole = f.shows a.1 };
}
