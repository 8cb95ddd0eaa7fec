-- Marks of functions are those of the functions that are touched, and of their callers.
use Rattle.std.proofs.Common.{◌≡◌, ◌∙◌, ℕ, zero, suc, ◌+◌, ◌≤◌, ◌<◌, nat_eq, Bool, true, false, ◌&&◌, ◌||◌, cond, List, [], ◌∷◌, ◌++◌, length, map, Result, Ok, Err, IfOk, sym, ap, refl, arith, eq-eqb}
use Rattle.std.specs.Prelude.{if◌then◌else◌, slice_get, slice_set, Vec}
use Rattle.std.specs.declared.alloc.Global.{Global}
use Rattle.std.proofs.lemmas.List.{length-map}
use Rattle.std.specs.List.{filter, list_any}
use Rattle.std.proofs.lemmas.Bool.Decides.{nat_tests}
use Rattle.p10_core.specs.WholePrograms.{numbers_from}
use Rattle.p10_core.specs.Typed.{PlainProgram}
use Rattle.p10_calls.specs.declared.sites.CallSite.{CallSite}
use Rattle.p10_calls.specs.CallSites.{call_sites}
use Rattle.p10_incr.specs.Edits.{Edit, is_touched, is_dirty, dirty}
use Rattle.p10_incr.specs.private.Marks.{mark_or, marked_or, with_callers, numbers_marked}

-- ## Functions of numbers

-- functions that are the same from a number on
same_above : (m count : ℕ) (f g : ℕ → Bool) → ((n : ℕ) → m ≤ n → f n ≡ g n) → map f (numbers_from m count) ≡ map g (numbers_from m count)
same_above m zero f g same = refl
same_above m (suc count) f g same = λ i. same m (omega arith) i ∷ same_above (m + 1) count f g (λ n above. same n (omega (arith, above))) i

-- one number more
pub one_number_more : {A : Type 0} (f : ℕ → A) (m n : ℕ) → map f (numbers_from m n) ++ f (m + n) ∷ [] ≡ map f (numbers_from m (suc n))
one_number_more f m zero = let here : m + 0 ≡ m = omega arith in ap (λ k. f k ∷ []) here
one_number_more f m (suc n) =
    let next : m + suc n ≡ m + 1 + n = omega arith in
    ap (λ k. f m ∷ (map f (numbers_from (m + 1) n) ++ f k ∷ [])) next ∙ ap (λ rest. f m ∷ rest) (one_number_more f (m + 1) n)

or_false : (b : Bool) → b ≡ (b || false)
or_false true = refl
or_false false = refl

or_true : (b : Bool) → true ≡ (b || true)
or_true true = refl
or_true false = refl

or_both : (a b c : Bool) → ((a || b) || c) ≡ (a || (b || c))
or_both true b c = refl
or_both false b c = refl

apart : (a b : ℕ) → a < b → nat_eq a b ≡ false
apart a b below = grind (arith, nat_tests, below)

-- one mark more
marked_too : (g : ℕ → Bool) (m count k : ℕ) → slice_set (map g (numbers_from m count)) k true ≡ map (λ n. g n || nat_eq (m + k) n) (numbers_from m count)
marked_too g m zero k = refl
marked_too g m (suc count) zero =
    λ i. (or_true (g m) ∙ ap (λ b. g m || b) (sym (eq-eqb (m + 0) m (omega arith)))) i
    ∷ same_above (m + 1) count g (λ n. g n || nat_eq (m + 0) n) (λ n above. or_false (g n) ∙ ap (λ b. g n || b) (sym (apart (m + 0) n (omega (arith, above))))) i
marked_too g m (suc count) (suc k) =
    λ i. (or_false (g m) ∙ ap (λ b. g m || b) (sym (above_it m k))) i
    ∷ (marked_too g (m + 1) count k ∙ same_above (m + 1) count (λ n. g n || nat_eq ((m + 1) + k) n) (λ n. g n || nat_eq (m + suc k) n) (λ n above. ap (λ j. g n || nat_eq j n) (moved m k))) i
  where
    moved : (m k : ℕ) → (m + 1) + k ≡ m + suc k
    moved m k = omega arith

    above_it : (m k : ℕ) → nat_eq (m + suc k) m ≡ false
    above_it m k = grind (arith, nat_tests)

-- ## Callers

-- whether a function is a caller in some calls of functions that meet a test
abbrev pub calls_one : (ℕ → Bool) → List CallSite → ℕ → Bool
calls_one touched sites n = list_any (λ s. nat_eq s.caller n && touched s.call.function) sites

one_more : (b : Bool) (g : ℕ → Bool) (caller count : ℕ) → (if b then slice_set (map g (numbers_from 0 count)) caller true else map g (numbers_from 0 count)) ≡ map (λ n. g n || (nat_eq caller n && b)) (numbers_from 0 count)
one_more true g caller count = marked_too g 0 count caller ∙ same_above 0 count (λ n. g n || nat_eq (0 + caller) n) (λ n. g n || (nat_eq caller n && true)) (λ n above. ap (λ b. g n || b) (ap (λ k. nat_eq k n) (none_plus caller) ∙ and_true (nat_eq caller n)))
  where
    none_plus : (k : ℕ) → 0 + k ≡ k
    none_plus k = omega arith

    and_true : (b : Bool) → b ≡ (b && true)
    and_true true = refl
    and_true false = refl
one_more false g caller count = same_above 0 count g (λ n. g n || (nat_eq caller n && false)) (λ n above. or_false (g n) ∙ ap (λ b. g n || b) (and_false (nat_eq caller n)))
  where
    and_false : (b : Bool) → false ≡ (b && false)
    and_false true = refl
    and_false false = refl

pub callers_marked : (touched g : ℕ → Bool) (sites : List CallSite) (count : ℕ) → with_callers touched sites (map g (numbers_from 0 count)) ≡ map (λ n. g n || calls_one touched sites n) (numbers_from 0 count)
callers_marked touched g [] count = same_above 0 count g (λ n. g n || false) (λ n above. or_false (g n))
callers_marked touched g (s ∷ sites) count =
    ap (with_callers touched sites) (one_more (touched s.call.function) g s.caller count)
    ∙ callers_marked touched (λ n. g n || (nat_eq s.caller n && touched s.call.function)) sites count
    ∙ same_above 0 count (λ n. (g n || (nat_eq s.caller n && touched s.call.function)) || calls_one touched sites n) (λ n. g n || calls_one touched (s ∷ sites) n)
    (λ n above. or_both (g n) (nat_eq s.caller n && touched s.call.function) (calls_one touched sites n))

-- ## Numbers that are marked

-- a mark by a function, or what it gives
pub mark_is : (f : ℕ → Bool) (m count n : ℕ) → mark_or (slice_get (map f (numbers_from m count)) n) (f (m + n)) ≡ f (m + n)
mark_is f m zero n = refl
mark_is f m (suc count) zero = ap f (at m)
  where
    at : (m : ℕ) → m ≡ m + 0
    at m = omega arith
mark_is f m (suc count) (suc n) = ap (λ k. mark_or (slice_get (map f (numbers_from (m + 1) count)) n) (f k)) (moved m n) ∙ mark_is f (m + 1) count n ∙ ap f (sym (moved m n))
  where
    moved : (m n : ℕ) → m + suc n ≡ (m + 1) + n
    moved m n = omega arith

pub marks_are : (f : ℕ → Bool) (count n : ℕ) → marked_or (map f (numbers_from 0 count)) n (f n) ≡ f n
marks_are f count n = ap (λ k. mark_or (slice_get (map f (numbers_from 0 count)) n) (f k)) (sym (none_plus n)) ∙ mark_is f 0 count n ∙ ap f (none_plus n)
  where
    none_plus : (k : ℕ) → 0 + k ≡ k
    none_plus k = omega arith

pub numbers_are : (f : ℕ → Bool) (m count : ℕ) → numbers_marked m (map f (numbers_from m count)) ≡ filter f (numbers_from m count)
numbers_are f m zero = refl
numbers_are f m (suc count) = by_mark (f m) (numbers_are f (m + 1) count)
  where
    by_mark : (b : Bool) → numbers_marked (m + 1) (map f (numbers_from (m + 1) count)) ≡ filter f (numbers_from (m + 1) count)
        → (if b then m ∷ numbers_marked (m + 1) (map f (numbers_from (m + 1) count)) else numbers_marked (m + 1) (map f (numbers_from (m + 1) count))) ≡ cond b (m ∷ filter f (numbers_from (m + 1) count)) (filter f (numbers_from (m + 1) count))
    by_mark true rest = ap (λ numbers. m ∷ numbers) rest
    by_mark false rest = rest

-- ## Dirty functions

-- marks of the functions that are touched, and of their callers, are those of the dirty ones
pub all_marked : (p : PlainProgram) (e : Edit) (count : ℕ) (touched marks : List Bool) (sites : List CallSite) → touched ≡ map (is_touched e) (numbers_from 0 count) → sites ≡ call_sites p
    → marks ≡ with_callers (λ n. marked_or touched n (is_touched e n)) sites touched → marks ≡ map (is_dirty p e) (numbers_from 0 count)
all_marked p e count touched marks sites touched_are sites_are are =
    are
    ∙ (λ i. with_callers (λ n. marked_or (touched_are i) n (is_touched e n)) (sites_are i) (touched_are i))
    ∙ (λ i. with_callers (λ n. marks_are (is_touched e) count n i) (call_sites p) (map (is_touched e) (numbers_from 0 count)))
    ∙ callers_marked (is_touched e) (is_touched e) (call_sites p) count

length_numbers : (m count : ℕ) → length (numbers_from m count) ≡ count
length_numbers m zero = refl
length_numbers m (suc count) = ap suc (length_numbers (m + 1) count)

pub as_many_marks : (f : ℕ → Bool) (count : ℕ) (marks : List Bool) → marks ≡ map f (numbers_from 0 count) → length marks ≡ count
as_many_marks f count marks are = ap length are ∙ length-map (numbers_from 0 count) f ∙ length_numbers 0 count

-- their numbers are the dirty functions, where there are so many functions
pub dirty_found : {E : Type 0} (p : PlainProgram) (e : Edit) (count : ℕ) (marks : List Bool) → count ≡ length p.functions → marks ≡ map (is_dirty p e) (numbers_from 0 count)
    → (r : Result (Vec ℕ Global) E) → IfOk r (λ numbers. numbers.items ≡ numbers_marked 0 marks) → IfOk r (λ numbers. numbers.items ≡ dirty p e)
dirty_found p e count marks counted are (Err fault) found = tt
dirty_found p e count marks counted are (Ok numbers) found =
    found ∙ ap (numbers_marked 0) are ∙ numbers_are (is_dirty p e) 0 count ∙ ap (λ n. filter (is_dirty p e) (numbers_from 0 n)) counted
