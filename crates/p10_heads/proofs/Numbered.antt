-- The numbers of what the roots define, as the code finds them.
use Rattle.std.specs.Prelude.{◌≡◌, ℕ, zero, suc, ◌+◌, ◌<◌, ◌≤◌, max, nat_eq, Bool, true, false, not, ◌&&◌, if◌then◌else◌, Option, Some, None, List, [], ◌∷◌, ◌++◌, length, slice_get, bytes_eq, refl}
use Rattle.std.specs.List.{position_from}
use Rattle.std.proofs.Common.{◌∙◌, ap, sym, arith, inl, inr}
use Rattle.std.proofs.Math.Nat.{le-max_left, le-max_right}
use Rattle.std.proofs.lemmas.Bool.{cases_lt, ne_eqb}
use Rattle.p10_base.specs.Words.{Text}
use Rattle.p10_bindings.specs.Lookup.{last_bound}
use Rattle.p10_heads.specs.Heads.{Head, number_by, number_in}
use Rattle.p10_heads.specs.declared.numbers.Whose.TheVariants.{Own, Shared}
use Rattle.p10_heads.specs.private.Firsts.{first_bound}
use Rattle.p10_heads.specs.private.Numbering.{is_meant, numbers_among, first_numbers, tables_upto, roots_in, in_table, numbers_of, number_from}
use Rattle.p10_heads.proofs.FirstNames.{found_first}

-- ## One definition

own_step : (a b c : Bool) (name : Text) (n : ℕ) (xs : List (Text × ℕ)) (r : Option ℕ) (own : Text) → bytes_eq own name ≡ b → first_bound name xs ≡ r →
    first_bound name ((if a && not c then (own, n) ∷ [] else []) ++ xs) ≡ (if a && (b && not c) then Some n else r)
own_step false b c name n xs r own e is = is
own_step true true true name n xs r own e is = is
own_step true false true name n xs r own e is = is
own_step true true false name n xs r own e is = ap (λ x. if x then Some n else first_bound name xs) e
own_step true false false name n xs r own e is = ap (λ x. if x then Some n else first_bound name xs) e ∙ is

shared_step : (b c d : Bool) (name : Text) (n : ℕ) (xs : List (Text × ℕ)) (r : Option ℕ) (own : Text) → bytes_eq own name ≡ b → first_bound name xs ≡ r →
    first_bound name ((if not c && not d then (own, n) ∷ [] else []) ++ xs) ≡ (if b && (not c && not d) then Some n else r)
shared_step true true d name n xs r own e is = is
shared_step false true d name n xs r own e is = is
shared_step true false true name n xs r own e is = is
shared_step false false true name n xs r own e is = is
shared_step true false false name n xs r own e is = ap (λ x. if x then Some n else first_bound name xs) e
shared_step false false false name n xs r own e is = ap (λ x. if x then Some n else first_bound name xs) e ∙ is

-- ## All of them

own_first : (root : ℕ) (name : Text) (n : ℕ) (heads : List Head) →
    first_bound name (numbers_among (Own root) n heads) ≡ position_from (λ f. nat_eq f.root root && (bytes_eq f.name name && not f.in_block)) n heads
own_first root name n [] = refl
own_first root name n (f ∷ rest) =
    own_step (nat_eq f.root root) (bytes_eq f.name name) f.in_block name n (numbers_among (Own root) (n + 1) rest) _ f.name refl (own_first root name (n + 1) rest)

shared_first : (name : Text) (n : ℕ) (heads : List Head) →
    first_bound name (numbers_among Shared n heads) ≡ position_from (λ f. bytes_eq f.name name && (not f.in_block && not f.internal)) n heads
shared_first name n [] = refl
shared_first name n (f ∷ rest) =
    shared_step (bytes_eq f.name name) f.in_block f.internal name n (numbers_among Shared (n + 1) rest) _ f.name refl (shared_first name (n + 1) rest)

-- ## Tables

get_within : {A : Type 0} (xs ys : List A) (i : ℕ) → i < length xs → slice_get (xs ++ ys) i ≡ slice_get xs i
get_within [] ys i h = absurd (omega (arith, h))
get_within (x ∷ xs) ys zero h = refl
get_within (x ∷ xs) ys (suc i) h = get_within xs ys i (omega (arith, h))

get_end : {A : Type 0} (xs : List A) (y : A) (i : ℕ) → i ≡ length xs → slice_get (xs ++ y ∷ []) i ≡ Some y
get_end [] y i e = ap (slice_get (y ∷ [])) e
get_end (x ∷ xs) y i e = ap (slice_get (x ∷ (xs ++ y ∷ []))) e ∙ get_end xs y (length xs) refl

get_past : {A : Type 0} (xs : List A) (i : ℕ) → length xs ≤ i → slice_get xs i ≡ None
get_past [] i h = refl
get_past (x ∷ xs) zero h = absurd (omega (arith, h))
get_past (x ∷ xs) (suc i) h = get_past xs i (omega (arith, h))

append_length : {A : Type 0} (xs : List A) (y : A) → length (xs ++ y ∷ []) ≡ suc (length xs)
append_length [] y = refl
append_length (x ∷ xs) y = ap suc (append_length xs y)

tables_length : (n : ℕ) (heads : List Head) → length (tables_upto n heads) ≡ n
tables_length zero heads = refl
tables_length (suc n) heads = append_length (tables_upto n heads) (first_numbers (Own n) heads) ∙ ap suc (tables_length n heads)

table_within : (n : ℕ) (heads : List Head) (r : ℕ) → r < n → slice_get (tables_upto n heads) r ≡ Some (first_numbers (Own r) heads)
table_within zero heads r h = absurd (omega (arith, h))
table_within (suc n) heads r h = elim (cases_lt r n) [
  | inl less ↦
      let long : length (tables_upto n heads) ≡ n = tables_length n heads in
      get_within (tables_upto n heads) (first_numbers (Own n) heads ∷ []) r (omega (arith, less, long)) ∙ table_within n heads r less
  | inr more ↦
      let same : r ≡ n = omega (arith, h, more) in
      get_end (tables_upto n heads) (first_numbers (Own n) heads) r (same ∙ sym (tables_length n heads)) ∙ ap (λ k. Some (first_numbers (Own k) heads)) (sym same)
]

none_meant : (f : Head) (r : ℕ) → f.root + 1 ≤ r → is_meant (Own r) f ≡ false
none_meant f r h = ap (λ b. b && not f.in_block) (ne_eqb f.root r (λ e. absurd (omega (arith, h, e))))

none_past : (r n : ℕ) (heads : List Head) → roots_in heads ≤ r → numbers_among (Own r) n heads ≡ []
none_past r n [] h = refl
none_past r n (f ∷ rest) h =
    let left : f.root + 1 ≤ max (f.root + 1) (roots_in rest) = le-max_left (f.root + 1) (roots_in rest) in
    let right : roots_in rest ≤ max (f.root + 1) (roots_in rest) = le-max_right (f.root + 1) (roots_in rest) in
    ap (λ b. (if b then (f.name, n) ∷ [] else []) ++ numbers_among (Own r) (n + 1) rest) (none_meant f r (omega (arith, left, h)))
    ∙ none_past r (n + 1) rest (omega (arith, right, h))

-- the number of what a root defines
own_is : (heads : List Head) (root : ℕ) (name : Text) →
    in_table name (slice_get (tables_upto (roots_in heads) heads) root) ≡ position_from (λ f. nat_eq f.root root && (bytes_eq f.name name && not f.in_block)) 0 heads
own_is heads root name = elim (cases_lt root (roots_in heads)) [
  | inl less ↦
      ap (in_table name) (table_within (roots_in heads) heads root less) ∙ found_first name (numbers_among (Own root) 0 heads) ∙ own_first root name 0 heads
  | inr more ↦
      let long : length (tables_upto (roots_in heads) heads) ≡ roots_in heads = tables_length (roots_in heads) heads in
      ap (in_table name) (get_past (tables_upto (roots_in heads) heads) root (omega (arith, more, long)))
      ∙ sym (ap (first_bound name) (none_past root 0 heads more)) ∙ own_first root name 0 heads
]

shared_is : (heads : List Head) (name : Text) →
    last_bound name (first_numbers Shared heads) ≡ position_from (λ f. bytes_eq f.name name && (not f.in_block && not f.internal)) 0 heads
shared_is heads name = found_first name (numbers_among Shared 0 heads) ∙ shared_first name 0 heads

-- numbers are found as they are defined
pub numbers_are : (heads : List Head) (root : ℕ) (internal : Bool) (name : Text) → number_from (numbers_of heads) root internal name ≡ number_in heads root internal name
numbers_are heads root internal name =
    ap (λ o. number_by o (if internal then None else last_bound name (first_numbers Shared heads)) (length heads)) (own_is heads root name)
    ∙ ap (λ s. number_by (position_from (λ f. nat_eq f.root root && (bytes_eq f.name name && not f.in_block)) 0 heads) (if internal then None else s) (length heads)) (shared_is heads name)

-- the tables of one root more
pub one_table_more : (n m : ℕ) (heads : List Head) (old new : List (List (Text × ℕ))) (table : List (Text × ℕ)) → old ≡ tables_upto n heads → table ≡ first_numbers (Own n) heads →
    new ≡ old ++ table ∷ [] → m ≡ n + 1 → new ≡ tables_upto m heads
one_table_more n m heads old new table is made put next =
    let same : m ≡ suc n = omega (arith, next) in
    put ∙ ap (λ ts. ts ++ table ∷ []) is ∙ ap (λ t. tables_upto n heads ++ t ∷ []) made ∙ ap (λ k. tables_upto k heads) (sym same)
