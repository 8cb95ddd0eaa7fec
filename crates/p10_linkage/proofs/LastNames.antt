-- Declarations with linkage that are looked up by their names and roots.
use Rattle.std.proofs.Common.{◌≡◌, ℕ, suc, ◌+◌, ◌-◌, ◌<◌, nat_eq, Bool, true, false, ◌&&◌, ◌||◌, if◌then◌else◌, List, [], ◌∷◌, ◌++◌, map, length, take, Option, Some, None, is_some, slice_get, slice_index_or, bytes_eq, refl, sym, ◌∙◌, ap, subst, arith, append_assoc, length-append}
use Rattle.std.proofs.lemmas.Option.{slice_get-get_or}
use Rattle.std.proofs.lemmas.List.{length-map, map-append}
use Rattle.p10_base.specs.Words.{Text}
use Rattle.p10_linkage.specs.Linkage.{Linked, last_linked, is_defined}
use Rattle.p10_linkage.specs.private.Grouping.{with_row, rows_at, places_named, grouped_after}
use Rattle.p10_linkage.specs.private.Lookups.{name_of, defines, last_in_root, of_root, or_else}
use Rattle.p10_linkage.proofs.Turns.{rows_append, take_more}

-- ## Places by names

-- one element more has its place noted, if it has the name and passes the test
pub places_more : {A : Type 0} (of : A → Text) (test : A → Bool) (name : Text) (n : ℕ) (all : List A) (a : A) →
    places_named of test name n (all ++ a ∷ []) ≡ grouped_after (test a) (of a) (n + length all) name (places_named of test name n all)
places_more of test name n [] a = ap (λ k. if bytes_eq (of a) name && test a then k ∷ [] else []) (omega arith)
places_more {A = A} of test name n (x ∷ all) a =
    ap (λ places. if bytes_eq (of x) name && test x then n ∷ places else places) (places_more of test name (n + 1) all a)
    ∙ passed (bytes_eq (of x) name && test x) (bytes_eq (of a) name && test a) (places_named of test name (n + 1) all) (n + 1 + length all)
    ∙ ap (λ k. grouped_after (test a) (of a) k name (places_named of test name n (x ∷ all))) (omega arith)
  where
    passed : (b c : Bool) (places : List ℕ) (k : ℕ) → (if b then n ∷ (if c then places ++ k ∷ [] else places) else (if c then places ++ k ∷ [] else places))
        ≡ (if c then (if b then n ∷ places else places) ++ k ∷ [] else (if b then n ∷ places else places))
    passed true true places k = refl
    passed true false places k = refl
    passed false true places k = refl
    passed false false places k = refl

-- the places of a name after one element more, or none where all is given up
pub places_kept : {A B : Type 0} (view : B → A) (of : A → Text) (test : A → Bool) (name : Text) (ok : Bool) (rows new : List B) (x : B) (old group : List ℕ) → new ≡ (if ok then rows ++ x ∷ [] else []) →
    group ≡ (if ok then grouped_after (test (view x)) (of (view x)) (length rows) name old else []) → old ≡ places_named of test name 0 (map view rows) → group ≡ places_named of test name 0 (map view new)
places_kept view of test name false rows new x old group e f h = f ∙ ap (λ xs. places_named of test name 0 (map view xs)) (sym e)
places_kept view of test name true rows new x old group e f h =
    f
    ∙ ap (grouped_after (test (view x)) (of (view x)) (length rows) name) h
    ∙ ap (λ k. grouped_after (test (view x)) (of (view x)) k name (places_named of test name 0 (map view rows))) (omega (arith, length-map rows view))
    ∙ sym (places_more of test name 0 (map view rows) (view x))
    ∙ ap (places_named of test name 0) (sym (map-append view rows (x ∷ [])))
    ∙ ap (λ xs. places_named of test name 0 (map view xs)) (sym e)

-- the elements that have a name and pass a test
abbrev pub chosen : {A : Type 0} → (A → Text) → (A → Bool) → Text → List A → List A
chosen of test name [] = []
chosen of test name (a ∷ rest) = if bytes_eq (of a) name && test a then a ∷ chosen of test name rest else chosen of test name rest

at_end : {A : Type 0} (before : List A) (a : A) (rest : List A) → slice_get (before ++ a ∷ rest) (length before) ≡ Some a
at_end [] a rest = refl
at_end (x ∷ before) a rest = at_end before a rest

rows_from : {A : Type 0} (of : A → Text) (test : A → Bool) (name : Text) (before rest : List A) (n : ℕ) → length before ≡ n →
    rows_at (places_named of test name n rest) (before ++ rest) ≡ chosen of test name rest
rows_from of test name before [] n long = refl
rows_from {A = A} of test name before (a ∷ rest) n long =
    by_test (bytes_eq (of a) name && test a)
    ∙ ap (λ rows. if bytes_eq (of a) name && test a then a ∷ rows else rows)
    (ap (rows_at (places_named of test name (n + 1) rest)) (sym (append_assoc before (a ∷ []) rest))
    ∙ rows_from of test name (before ++ a ∷ []) rest (n + 1) (omega (arith, long, length-append before (a ∷ []))))
  where
    later : List ℕ
    later = places_named of test name (n + 1) rest

    there : slice_get (before ++ a ∷ rest) n ≡ Some a
    there = subst (λ k. slice_get (before ++ a ∷ rest) k ≡ Some a) long (at_end before a rest)

    by_test : (b : Bool) → rows_at (if b then n ∷ later else later) (before ++ a ∷ rest) ≡ (if b then a ∷ rows_at later (before ++ a ∷ rest) else rows_at later (before ++ a ∷ rest))
    by_test true = ap (λ o. with_row o (rows_at later (before ++ a ∷ rest))) there
    by_test false = refl

-- what stands at the places of a name
pub rows_chosen : {A : Type 0} (of : A → Text) (test : A → Bool) (name : Text) (all : List A) → rows_at (places_named of test name 0 all) all ≡ chosen of test name all
rows_chosen of test name all = rows_from of test name [] all 0 refl

-- ## The last one

last_chosen : (found : Option Linked) (root : ℕ) (name : Text) (ls : List Linked) → last_in_root found root (chosen name_of (λ l. true) name ls) ≡ last_linked found root name ls
last_chosen found root name [] = refl
last_chosen found root name (l ∷ ls) =
    by_tests (bytes_eq l.name name) (nat_eq l.root root)
    ∙ last_chosen (if nat_eq l.root root && bytes_eq l.name name then Some l else found) root name ls
  where
    rest : List Linked
    rest = chosen name_of (λ l. true) name ls

    by_root : (c : Bool) → last_in_root (if c then Some l else found) root rest ≡ last_in_root (if c && true then Some l else found) root rest
    by_root true = refl
    by_root false = refl

    other : (c : Bool) → last_in_root found root rest ≡ last_in_root (if c && false then Some l else found) root rest
    other true = refl
    other false = refl

    by_tests : (b c : Bool) → last_in_root found root (if b && true then l ∷ rest else rest) ≡ last_in_root (if nat_eq l.root root && b then Some l else found) root rest
    by_tests true c = by_root (nat_eq l.root root)
    by_tests false c = other (nat_eq l.root root)

-- the last declaration of a name in a root is the last one at the places of the name
pub last_is : (root : ℕ) (name : Text) (ls : List Linked) (places : List ℕ) → places ≡ places_named name_of (λ l. true) name 0 ls → last_in_root None root (rows_at places ls) ≡ last_linked None root name ls
last_is root name ls places e = ap (λ places. last_in_root None root (rows_at places ls)) e ∙ ap (last_in_root None root) (rows_chosen name_of (λ l. true) name ls) ∙ last_chosen None root name ls

nothing : (b : Bool) → false ≡ (b && false)
nothing true = refl
nothing false = refl

some_chosen : (found : Option Linked) (root : ℕ) (name : Text) (ls : List Linked) → is_some (last_in_root found root (chosen name_of defines name ls)) ≡ (is_some found || is_defined root name ls)
some_chosen found root name [] = or_none (is_some found)
  where
    or_none : (b : Bool) → b ≡ (b || false)
    or_none true = refl
    or_none false = refl
some_chosen found root name (l ∷ ls) = by_tests (λ f. some_chosen f root name ls) (bytes_eq l.name name) (nat_eq l.root root) l.defines refl refl refl
  where
    rest : List Linked
    rest = chosen name_of defines name ls

    or_true : (b : Bool) → true ≡ (b || true)
    or_true true = refl
    or_true false = refl

    by_tests : ((f : Option Linked) → is_some (last_in_root f root rest) ≡ (is_some f || is_defined root name ls)) → (b c d : Bool) → bytes_eq l.name name ≡ b → nat_eq l.root root ≡ c → l.defines ≡ d →
        is_some (last_in_root found root (if bytes_eq l.name name && l.defines then l ∷ rest else rest)) ≡ (is_some found || ((l.defines && (nat_eq l.root root && bytes_eq l.name name)) || is_defined root name ls))
    by_tests rest_is true true true e f g =
        (λ i. is_some (last_in_root found root (if e i && g i then l ∷ rest else rest)))
        ∙ ap (λ c. is_some (last_in_root (if c then Some l else found) root rest)) f
        ∙ rest_is (Some l)
        ∙ or_true (is_some found)
        ∙ sym (λ i. is_some found || ((g i && (f i && e i)) || is_defined root name ls))
    by_tests rest_is true false true e f g =
        (λ i. is_some (last_in_root found root (if e i && g i then l ∷ rest else rest)))
        ∙ ap (λ c. is_some (last_in_root (if c then Some l else found) root rest)) f
        ∙ rest_is found
        ∙ sym (λ i. is_some found || ((g i && (f i && e i)) || is_defined root name ls))
    by_tests rest_is true c false e f g =
        (λ i. is_some (last_in_root found root (if e i && g i then l ∷ rest else rest)))
        ∙ rest_is found
        ∙ sym (λ i. is_some found || ((g i && (nat_eq l.root root && e i)) || is_defined root name ls))
    by_tests rest_is false true d e f g =
        (λ i. is_some (last_in_root found root (if e i && l.defines then l ∷ rest else rest)))
        ∙ rest_is found
        ∙ ap (λ b. is_some found || (b || is_defined root name ls)) (nothing l.defines)
        ∙ sym (λ i. is_some found || ((l.defines && (f i && e i)) || is_defined root name ls))
    by_tests rest_is false false d e f g =
        (λ i. is_some (last_in_root found root (if e i && l.defines then l ∷ rest else rest)))
        ∙ rest_is found
        ∙ ap (λ b. is_some found || (b || is_defined root name ls)) (nothing l.defines)
        ∙ sym (λ i. is_some found || ((l.defines && (f i && e i)) || is_defined root name ls))

-- a name of a root is defined where one of those that define stands at its places
pub some_is_defined : (root : ℕ) (name : Text) (ls : List Linked) (places : List ℕ) → places ≡ places_named name_of defines name 0 ls → is_some (last_in_root None root (rows_at places ls)) ≡ is_defined root name ls
some_is_defined root name ls places e = ap (λ places. is_some (last_in_root None root (rows_at places ls))) e ∙ ap (λ rows. is_some (last_in_root None root rows)) (rows_chosen name_of defines name ls) ∙ some_chosen None root name ls

-- ## From the end

last_append : (found : Option Linked) (root : ℕ) (ls : List Linked) (o : Option Linked) → last_in_root found root (ls ++ with_row o []) ≡ or_else (of_root root o) (last_in_root found root ls)
last_append found root [] None = refl
last_append found root [] (Some l) = by_root (nat_eq l.root root)
  where
    by_root : (b : Bool) → (if b then Some l else found) ≡ or_else (if b then Some l else None) found
    by_root true = refl
    by_root false = refl
last_append found root (l ∷ ls) o = last_append (if nat_eq l.root root then Some l else found) root ls o

-- the last of several places is looked at before the others
pub from_end : (places : List ℕ) (back : ℕ) (ls : List Linked) (root : ℕ) → back < length places →
    last_in_root None root (rows_at (take (length places - back) places) ls)
    ≡ or_else (of_root root (slice_get ls (slice_index_or places (length places - 1 - back) 0))) (last_in_root None root (rows_at (take (length places - (back + 1)) places) ls))
from_end places back ls root h =
    let m : ℕ = length places - 1 - back in
    let low : m < length places = omega (arith, h) in
    let one : length places - back ≡ suc m = omega (arith, h) in
    let less : m ≡ length places - (back + 1) = omega (arith, h) in
    ap (λ k. last_in_root None root (rows_at (take k places) ls)) one
    ∙ ap (λ ps. last_in_root None root (rows_at ps ls)) (take_more places m (slice_index_or places m 0) (slice_get-get_or places m 0 low))
    ∙ ap (last_in_root None root) (rows_append ls (take m places) (slice_index_or places m 0))
    ∙ last_append None root (rows_at (take m places) ls) (slice_get ls (slice_index_or places m 0))
    ∙ ap (λ k. or_else (of_root root (slice_get ls (slice_index_or places m 0))) (last_in_root None root (rows_at (take k places) ls))) less

pub found_is : (o p : Option Linked) → is_some o ≡ true → or_else o p ≡ o
found_is None p e = absurd cc
found_is (Some l) p e = refl

pub other_is : (o p : Option Linked) → is_some o ≡ false → or_else o p ≡ p
other_is None p e = refl
other_is (Some l) p e = absurd cc
