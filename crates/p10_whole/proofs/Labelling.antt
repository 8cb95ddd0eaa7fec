-- Labels that are whole.
use Rattle.std.proofs.Common.{◌≡◌, ℕ, zero, suc, ◌+◌, ◌<◌, ◌≤◌, ℤ, Bool, true, false, not, ◌&&◌, ◌||◌, List, [], ◌∷◌, ◌++◌, length, take, drop, Some, None, get_or, refl, ap, sym, ◌∙◌, subst, arith, ◌⊎◌, inl, inr, drop-cons, add-one, slice_index_or}
use Rattle.std.specs.List.{All, Contains, list_any}
use Rattle.std.specs.Ordering.{int_eq}
use Rattle.std.proofs.Math.Bool.{or_assoc, or-false}
use Rattle.std.proofs.lemmas.Bool.Decides.{Decides-int_eq}
use Rattle.p10_numbers.specs.Numbers.{with_number}
use Rattle.p10_numbers.proofs.Numbering.{either_way, number_after}
use Rattle.std.specs.Prelude.{IfSome}
use Rattle.p10_int.specs.declared.types.IntType.{IntType}
use Rattle.p10_int.specs.Types.{InRange, promoted}
use Rattle.p10_core.specs.declared.statements.Label.{Label}
use Rattle.p10_core.specs.Types.{integer}
use Rattle.p10_core.specs.Typed.{PlainValue, type_of, PlainLabels, PlainStatement, statement, block}
use Rattle.p10_core.specs.Whole.{Surroundings, IsWholeValue}
use Rattle.p10_core.specs.WholePrograms.{AreCases, Switches, is_block, is_declaration, switch_items}
use Rattle.p10_whole.specs.private.Labels.{AreLabels, AreLabelsIn, block_items, values_on, has_value}
use Rattle.p10_whole.specs.private.Shows.{Shows}
use Rattle.p10_whole.proofs.Each.{drop_end}
use Rattle.p10_whole.proofs.Showing.{both_true}

-- a body that is a block, and one that isn't
items_are : (s : PlainStatement) (items : List PlainStatement) → Some items ≡ block_items s → (switch_items s ≡ items) × (is_block s ≡ true)
items_are (statement at (block ss)) items e = (sym (some_is _ _ e), refl)
  where
    some_is : (xs ys : List PlainStatement) → Some xs ≡ Some ys → xs ≡ ys
    some_is xs ys e = cc
items_are s items e = absurd cc

no_items_are : (s : PlainStatement) → None ≡ block_items s → switch_items s ≡ s ∷ []
no_items_are (statement at (block ss)) e = absurd cc
no_items_are s e = refl

pub labels_in_block : (kind : IntType) (labels : PlainLabels) (s : PlainStatement) (items : List PlainStatement) → Some items ≡ block_items s → AreLabelsIn kind labels items → AreLabels kind labels s
labels_in_block kind labels s items e h =
    let t = items_are s items e in
    record {
      cases = subst (λ xs. AreCases kind 0 (length xs) [] labels.cases) (sym t.0) h.cases;
      otherwise = subst (λ xs. IfSome labels.otherwise (λ n. n < length xs)) (sym t.0) h.otherwise;
      in_block = λ b. absurd (true_false (sym t.1 ∙ b));
      declares_nothing = subst (All (λ x. is_declaration x ≡ false)) (sym t.0) h.declares_nothing;
    }
  where
    true_false : true ≡ false → ⊥
    true_false e = cc

all_of_one : (s : PlainStatement) → is_declaration s ≡ false → All (λ x. is_declaration x ≡ false) (s ∷ [])
all_of_one s e = λ k d below. first k d (omega (arith, below))
  where
    first : (k : ℕ) (d : PlainStatement) → k ≡ 0 → is_declaration (slice_index_or (s ∷ []) k d) ≡ false
    first k d z = subst (λ n. is_declaration (slice_index_or (s ∷ []) n d) ≡ false) (sym z) e

pub no_labels : (kind : IntType) (labels : PlainLabels) (s : PlainStatement) → None ≡ block_items s → labels.cases ≡ [] → labels.otherwise ≡ None → is_declaration s ≡ false → AreLabels kind labels s
no_labels kind labels s e c o d = record {
  cases = subst (AreCases kind 0 (length (switch_items s)) []) (sym c) tt;
  otherwise = subst (λ x. IfSome x (λ n. n < length (switch_items s))) (sym o) tt;
  in_block = λ b. (c, o);
  declares_nothing = subst (All (λ x. is_declaration x ≡ false)) (sym (no_items_are s e)) (all_of_one s d);
}

pub switch_is : (c : Surroundings) (v : PlainValue) (labels : PlainLabels) (s : PlainStatement) (kind : IntType) → IsWholeValue c v → type_of v ≡ integer false kind → promoted kind ≡ kind → AreLabels kind labels s → Switches c v labels s
switch_is c v labels s kind w t p h = record {
  whole = w;
  kind = kind;
  type_is = t;
  promoted_is = p;
  cases = h.cases;
  otherwise = h.otherwise;
  in_block = h.in_block;
  declares_nothing = h.declares_nothing;
}

-- one value more
values_more : (xs : List Label) (l : Label) (seen : List ℤ) → values_on (xs ++ l ∷ []) seen ≡ l.value ∷ values_on xs seen
values_more [] l seen = refl
values_more (x ∷ xs) l seen = values_more xs l (x.value ∷ seen)

contained_at : (v w : ℤ) (vs : List ℤ) (k : ℕ) → k < length (w ∷ vs) → slice_index_or (w ∷ vs) k v ≡ v → (w ≡ v) ⊎ Contains vs v
contained_at v w vs zero below e = inl e
contained_at v w vs (suc k) below e = inr (k, omega (arith, below), e)

contained : (v w : ℤ) (vs : List ℤ) → Contains (w ∷ vs) v → (w ≡ v) ⊎ Contains vs v
contained v w vs h = contained_at v w vs h.0 h.1 h.2

take_more : (cases : List Label) (i : ℕ) (d : Label) → i < length cases → take (suc i) cases ≡ take i cases ++ get_or cases i d ∷ []
take_more [] i d below = absurd (omega (arith, below))
take_more (x ∷ xs) zero d below = refl
take_more (x ∷ xs) (suc i) d below = ap (λ ys. x ∷ ys) (take_more xs i d (omega (arith, below)))

one_more : (cases : List Label) (i : ℕ) (d : Label) → i < length cases → values_on (take (i + 1) cases) [] ≡ (get_or cases i d).value ∷ values_on (take i cases) []
one_more cases i d below = ap (λ n. values_on (take n cases) []) (add-one i) ∙ ap (λ xs. values_on xs []) (take_more cases i d below) ∙ values_more (take i cases) (get_or cases i d) []

cut_cases : (cases : List Label) (i : ℕ) (d : Label) → i < length cases → drop i cases ≡ get_or cases i d ∷ drop (i + 1) cases
cut_cases cases i d below = drop-cons cases i d below ∙ ap (λ n. get_or cases i d ∷ drop n cases) (sym (add-one i))

-- a value that no label has isn't among their values
not_on : (v : ℤ) (xs : List Label) (seen : List ℤ) → has_value v xs ≡ false → (Contains seen v → ⊥) → Contains (values_on xs seen) v → ⊥
not_on v [] seen e h k = h k
not_on v (l ∷ rest) seen e h k = not_on v rest (l.value ∷ seen) (other (int_eq l.value v) (has_value v rest) e) (λ m. elim (contained v l.value seen m) [ inl p ↦ apart p | inr q ↦ h q ]) k
  where
    other : (a b : Bool) → (a || b) ≡ false → b ≡ false
    other true b e = absurd cc
    other false b e = e

    one : (a b : Bool) → (a || b) ≡ false → a ≡ false
    one true b e = absurd cc
    one false b e = refl

    differ : true ≡ false → ⊥
    differ e = cc

    apart : l.value ≡ v → ⊥
    apart p = differ (sym ((Decides-int_eq l.value v).1 p) ∙ one (int_eq l.value v) (has_value v rest) e)

nothing_in : (v : ℤ) → Contains [] v → ⊥
nothing_in v h = let below = h.1 in absurd (omega (arith, below))

not_before : (v : ℤ) (xs : List Label) → has_value v xs ≡ false → Contains (values_on xs []) v → ⊥
not_before v xs e = not_on v xs [] e (nothing_in v)

-- ## Values that are noted

-- a number that is new isn't there
not_noted : (z : ℤ) (seen : List ℤ) → not (list_any (int_eq z) seen) ≡ true → list_any (int_eq z) seen ≡ false
not_noted z seen e = by (list_any (int_eq z) seen) e
  where
    by : (b : Bool) → not b ≡ true → b ≡ false
    by true e = absurd cc
    by false e = refl

has_value_after : (z : ℤ) (xs : List Label) (l : Label) → has_value z (xs ++ l ∷ []) ≡ (has_value z xs || int_eq l.value z)
has_value_after z [] l = or-false (int_eq l.value z)
has_value_after z (x ∷ xs) l = ap (λ b. int_eq x.value z || b) (has_value_after z xs l) ∙ sym (or_assoc (int_eq x.value z) (has_value z xs) (int_eq l.value z))

-- the values of the labels up to one are noted
pub noted_more : (cases : List Label) (i : ℕ) (d : Label) (seen after : List ℤ) → i < length cases → after ≡ with_number seen (get_or cases i d).value →
    ((z : ℤ) → list_any (int_eq z) seen ≡ has_value z (take i cases)) → (z : ℤ) → list_any (int_eq z) after ≡ has_value z (take (i + 1) cases)
noted_more cases i d seen after below is h z =
    ap (list_any (int_eq z)) is
    ∙ number_after z (get_or cases i d).value seen
    ∙ (λ j. h z j || either_way z (get_or cases i d).value j)
    ∙ sym (has_value_after z (take i cases) (get_or cases i d))
    ∙ ap (has_value z) (sym (take_more cases i d below) ∙ ap (λ n. take n cases) (sym (add-one i)))

-- the value of a case that is new isn't that of one before it
pub case_apart : (cases : List Label) (i : ℕ) (d : Label) (seen : List ℤ) (new : Bool) → new ≡ not (list_any (int_eq (get_or cases i d).value) seen) → new ≡ true → ((z : ℤ) → list_any (int_eq z) seen ≡ has_value z (take i cases)) →
    Contains (values_on (take i cases) []) (get_or cases i d).value → ⊥
case_apart cases i d seen new is e noted =
    not_before (get_or cases i d).value (take i cases) (sym (noted (get_or cases i d).value) ∙ not_noted (get_or cases i d).value seen (sym is ∙ e))

-- a case that is whole, before the rest
pub next_case : (kind : IntType) (count : ℕ) (cases : List Label) (i from : ℕ) (d : Label) → i < length cases → InRange kind (get_or cases i d).value × (from ≤ (get_or cases i d).place) × ((get_or cases i d).place < count) → (Contains (values_on (take i cases) []) (get_or cases i d).value → ⊥) →
    (AreCases kind from count (values_on (take i cases) []) (drop i cases) → AreCases kind 0 count [] cases) →
    AreCases kind (get_or cases i d).place count (values_on (take (i + 1) cases) []) (drop (i + 1) cases) → AreCases kind 0 count [] cases
next_case kind count cases i from d below here apart before after =
    before (subst (AreCases kind from count (values_on (take i cases) [])) (sym (cut_cases cases i d below)) (here.0, here.1, here.2, apart, subst (λ vs. AreCases kind (get_or cases i d).place count vs (drop (i + 1) cases)) (one_more cases i d below) after))

pub cases_end : (kind : IntType) (count : ℕ) (cases : List Label) (i from : ℕ) → length cases ≤ i → AreCases kind from count (values_on (take i cases) []) (drop i cases)
cases_end kind count cases i from b = subst (AreCases kind from count (values_on (take i cases) [])) (sym (drop_end cases i b)) tt

pub switch_shown : (c : Surroundings) (v : PlainValue) (labels : PlainLabels) (s : PlainStatement) (kind p : IntType) (mark w a b : Bool) → type_of v ≡ integer mark kind → p ≡ promoted kind → Shows w (IsWholeValue c v) → Shows a (p ≡ kind) → Shows b (AreLabels kind labels s) → Shows (w && ((not mark && a) && b)) (Switches c v labels s)
switch_shown c v labels s kind p mark w a b t q whole same are = record {
  shows = λ k.
      let outer = both_true w ((not mark && a) && b) k in
      let inner = both_true (not mark && a) b outer.1 in
      let first = both_true (not mark) a inner.0 in
      switch_is c v labels s kind (whole.shows outer.0) (t ∙ ap (λ m. integer m kind) (off mark first.0)) (sym q ∙ same.shows first.1) (are.shows inner.1);
}
  where
    off : (z : Bool) → not z ≡ true → z ≡ false
    off true h = cc
    off false h = refl
