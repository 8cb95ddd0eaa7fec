-- What is claimed of loops when they are found: lines that rise, of ranges of their variables' types, and a rank that is written.
use Rattle.std.proofs.Common.{◌≡◌, ℕ, zero, suc, ◌+◌, ◌<◌, ◌≤◌, Bool, true, false, List, [], ◌∷◌, ◌++◌, length, take, flat_map, Option, Some, None, refl, arith}
use Rattle.std.specs.Prelude.{if◌then◌else◌}
use Rattle.std.specs.List.{AllByRecursion}
use Rattle.std.proofs.lemmas.Int.{ints}
use Rattle.p10_int.specs.declared.types.IntType.{IntType}
use Rattle.p10_range.specs.Ranges.{Interval}
use Rattle.p10_range.specs.Laws.{IsOfType}
use Rattle.p10_range.proofs.Small.{small_in}
use Rattle.p10_core.specs.Constants.{integer_of}
use Rattle.p10_core.specs.Typed.{PlainValue, PlainVariable}
use Rattle.p10_cert.specs.declared.claims.Rank.{Rank}
use Rattle.p10_cert.specs.declared.claims.Rank.TheVariants.{Up, Down, One, Task}
use Rattle.p10_cert.specs.Claims.{Var, Loop}
use Rattle.p10_cert.specs.Certificate.{RiseFrom, task_number}
use Rattle.p10_cert.specs.Lines.{IsEnd, AreEnds}
use Rattle.p10_absx.specs.Abstract.{Abstract}
use Rattle.p10_absx.specs.Environments.{Environment, known}
use Rattle.p10_known.specs.Typing.{AreOfTypes, LineOfType, LinesOfTypes}
use Rattle.p10_candidates.specs.declared.course.Course.{Course}
use Rattle.p10_candidates.specs.declared.course.Course.TheVariants.{Below, AtMost, Above, AtLeast}
use Rattle.p10_candidates.specs.Candidates.{rank_along}
use Rattle.p10_candidates.specs.Trials.{is_whole_range, line_for, lines_from, claim_by}

-- ## Lists

pub all_append : {A : Type 0} (P : A → Type 0) (xs ys : List A) → AllByRecursion P xs → AllByRecursion P ys → AllByRecursion P (xs ++ ys)
all_append P [] ys h k = k
all_append P (x ∷ xs) ys h k = (h.0, all_append P xs ys h.1 k)

pub all_more : {A : Type 0} (P Q : A → Type 0) (xs : List A) → ((x : A) → P x → Q x) → AllByRecursion P xs → AllByRecursion Q xs
all_more P Q [] f h = tt
all_more P Q (x ∷ xs) f h = (f x h.0, all_more P Q xs f h.1)

pub all_take : {A : Type 0} (P : A → Type 0) (n : ℕ) (xs : List A) → AllByRecursion P xs → AllByRecursion P (take n xs)
all_take P zero xs h = tt
all_take P (suc n) [] h = tt
all_take P (suc n) (x ∷ xs) h = (h.0, all_take P n xs h.1)

pub all_flat : {A B : Type 0} (P : A → Type 0) (Q : B → Type 0) (f : A → List B) (xs : List A) → ((x : A) → P x → AllByRecursion Q (f x)) → AllByRecursion P xs → AllByRecursion Q (flat_map f xs)
all_flat P Q f [] k h = tt
all_flat P Q f (x ∷ xs) k h = all_append Q (f x) (flat_map f xs) (k x h.0) (all_flat P Q f xs k h.1)

-- ## Ends

-- ends of values of a type are written
pub ends_of_type : (t : IntType) (r : Interval) → IsOfType t r → AreEnds r
ends_of_type t r h =
    let s = small_in t r h.1 in
    record {
      low = record { least = omega (arith, ints, s.small_low); greatest = omega (arith, ints, h.0, s.small_high) };
      high = record { least = omega (arith, ints, s.small_low, h.0); greatest = omega (arith, ints, s.small_high) };
      ordered = h.0;
    }

-- a rank of one of the first `count` variables, with a bound that is written
abbrev pub RankFits : ℕ → Rank → Type 0
RankFits count (Up v bound) = (v < count) × IsEnd bound
RankFits count (Down v bound) = (v < count) × IsEnd bound
RankFits count One = Unit {0}
RankFits count Task = Unit {0}

pub rank_fits : (count : ℕ) (course : Course) (v : ℕ) (t : IntType) (r : Interval) → v < count → IsOfType t r → RankFits count (rank_along course v r)
rank_fits count Below v t r low h = let s = small_in t r h.1 in (low, record { least = omega (arith, ints, s.small_low, h.0); greatest = omega (arith, ints, s.small_high) })
rank_fits count AtMost v t r low h = let s = small_in t r h.1 in (low, record { least = omega (arith, ints, s.small_low, h.0); greatest = omega (arith, ints, s.small_high) })
rank_fits count Above v t r low h = let s = small_in t r h.1 in (low, record { least = omega (arith, ints, s.small_low); greatest = omega (arith, ints, s.small_high, h.0) })
rank_fits count AtLeast v t r low h = let s = small_in t r h.1 in (low, record { least = omega (arith, ints, s.small_low); greatest = omega (arith, ints, s.small_high, h.0) })

pub rank_plain : (course : Course) (v : ℕ) (r : Interval) → task_number (rank_along course v r) ≡ 0
rank_plain Below v r = refl
rank_plain AtMost v r = refl
rank_plain Above v r = refl
rank_plain AtLeast v r = refl

-- ## Lines

-- a claim on a loop: its lines are on variables of the function, rise, and have ranges of their types; its rank is one that is written
pub record LoopFits (variables : List PlainVariable) (l : Loop) : Type 0 where
  pub lines : LinesOfTypes variables l
  pub small : AllByRecursion (λ (x : Var). x.var < length variables) l.vars
  pub rise : RiseFrom 0 l.vars
  pub rank : RankFits (length variables) l.rank

module _ (variables : List PlainVariable) (env : Environment) (h : AreOfTypes variables env) where
  line_typed : (n : ℕ) (t : IntType) (o : Option Abstract) → known env n ≡ o → AllByRecursion (LineOfType variables) (line_for n t o)
  line_typed n t None e = tt
  line_typed n t (Some a) e = at (is_whole_range t a.range)
    where
      at : (b : Bool) → AllByRecursion (LineOfType variables) (if b then [] else record { var = n; ends = a.range } ∷ [])
      at true = tt
      at false = ((λ x there. h.each n x a there e), tt)

  lines_typed : (n : ℕ) (vs : List PlainVariable) → AllByRecursion (LineOfType variables) (lines_from n vs env)
  lines_typed n [] = tt
  lines_typed n (v ∷ vs) = all_append (LineOfType variables) (line_for n (integer_of v.type) (known env n)) (lines_from (suc n) vs env) (line_typed n (integer_of v.type) (known env n) refl) (lines_typed (suc n) vs)

  line_small : (n : ℕ) (t : IntType) (o : Option Abstract) (count : ℕ) → n < count → AllByRecursion (λ (x : Var). x.var < count) (line_for n t o)
  line_small n t None count low = tt
  line_small n t (Some a) count low = at (is_whole_range t a.range)
    where
      at : (b : Bool) → AllByRecursion (λ (x : Var). x.var < count) (if b then [] else record { var = n; ends = a.range } ∷ [])
      at true = tt
      at false = (low, tt)

  lines_small : (n : ℕ) (vs : List PlainVariable) (count : ℕ) → n + length vs ≤ count → AllByRecursion (λ (x : Var). x.var < count) (lines_from n vs env)
  lines_small n [] count low = tt
  lines_small n (v ∷ vs) count low = all_append (λ (x : Var). x.var < count) (line_for n (integer_of v.type) (known env n)) (lines_from (suc n) vs env)
      (line_small n (integer_of v.type) (known env n) count (omega (arith, low))) (lines_small (suc n) vs count (omega (arith, low)))

  lines_rise : (least n : ℕ) (vs : List PlainVariable) → least ≤ n → RiseFrom least (lines_from n vs env)
  lines_rise least n [] low = tt
  lines_rise least n (v ∷ vs) low = at (known env n) (lines_rise least (suc n) vs (omega (arith, low))) (lines_rise (n + 1) (suc n) vs (omega arith))
    where
      tested : (a : Abstract) (b : Bool) → RiseFrom least (lines_from (suc n) vs env) → RiseFrom (n + 1) (lines_from (suc n) vs env) → RiseFrom least ((if b then [] else record { var = n; ends = a.range } ∷ []) ++ lines_from (suc n) vs env)
      tested a true h k = h
      tested a false h k = (low, k)

      at : (o : Option Abstract) → RiseFrom least (lines_from (suc n) vs env) → RiseFrom (n + 1) (lines_from (suc n) vs env) → RiseFrom least (line_for n (integer_of v.type) o ++ lines_from (suc n) vs env)
      at None h k = h
      at (Some a) h k = tested a (is_whole_range (integer_of v.type) a.range) h k

  -- what is claimed by what is known at a head
  pub claim_fits : (assigned : ℕ → Bool) (guard : Option PlainValue) (entry : Environment) (depth : ℕ) (rank : Rank) (turns : ℕ) → RankFits (length variables) rank → LoopFits variables (claim_by (record { variables = variables; assigned = assigned; guard = guard; entry = entry }) depth rank turns env)
  claim_fits assigned guard entry depth rank turns r = record {
    lines = lines_typed 0 variables;
    small = lines_small 0 variables (length variables) (omega arith);
    rise = lines_rise 0 0 variables (omega arith);
    rank = r;
  }
