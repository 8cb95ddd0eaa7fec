-- The ranks of loops, function by function, are those of a section.
use Rattle.std.proofs.Common.{◌≡◌, ℕ, zero, suc, ◌+◌, ◌<◌, ◌≤◌, Bool, true, false, List, [], ◌∷◌, ◌++◌, length, length-append, flat_map, Option, Some, None, pos, refl, sym, ap, ◌∙◌, subst, inl, inr, arith, eq-eqb}
use Rattle.std.specs.Prelude.{◌⊎◌, ◌^◌, slice_get, nat_lt, nat_eq, ◌&&◌, ◌||◌, if◌then◌else◌}
use Rattle.std.specs.List.{AllByRecursion}
use Rattle.std.proofs.lemmas.Bool.{lt-ltb}
use Rattle.std.proofs.lemmas.Int.{ints}
use Rattle.std.proofs.lemmas.Option.{none-some}
use Rattle.p10_core.specs.Typed.{PlainVariable, PlainFunction, PlainProgram}
use Rattle.p10_cert.specs.Claims.{Func, Claims}
use Rattle.p10_cert.specs.Lines.{IsEnd}
use Rattle.p10_diff.specs.Evidence.{Rank}
use Rattle.p10_diff_evidence.specs.Sections.{section_lines, IsRank, comes_before, AreRising}
use Rattle.p10_candidates.specs.Approaches.{Approach}
use Rattle.p10_approach.specs.Approaches.{more_of, approach_rank}
use Rattle.p10_approach.specs.Offers.{Offers}
use Rattle.p10_finder.specs.Functions.{loops_of}
use Rattle.p10_finder.specs.Ranking.{ranks_by, ranks_from, ranks_of}
use Rattle.p10_derived_texts.specs.Approaching.{AreNear, AreFew}
use Rattle.p10_derived_texts.specs.Laws.{DerivedNumbersAreSmall}
use Rattle.p10_derived_ranks.specs.Laws.{MayBeSaid, DerivedRanksHaveSections}

-- ## Numbers

more_small : (a : Approach) → IsEnd (more_of a)
more_small a = at a.may_equal
  where
    at : (b : Bool) → IsEnd (if b then pos 1 else pos 0)
    at true = record { least = omega (arith, ints); greatest = omega (arith, ints) }
    at false = record { least = omega (arith, ints); greatest = omega (arith, ints) }

all_both : {A : Type 0} (P : A → Type 0) (xs ys : List A) → AllByRecursion P xs → AllByRecursion P ys → AllByRecursion P (xs ++ ys)
all_both P [] ys h k = k
all_both P (x ∷ xs) ys h k = (h.0, all_both P xs ys h.1 k)

-- those of the loops of a function
function_numbers : (vs : List PlainVariable) (n k : ℕ) (xs : List (Option Approach)) → n < 2 ^ 32 → length vs < 2 ^ 32 → k + length xs < 2 ^ 32 → AllByRecursion (AreNear vs) xs → AllByRecursion IsRank (ranks_by n k xs)
function_numbers vs n k [] number variables loops near = tt
function_numbers vs n k (None ∷ xs) number variables loops near = function_numbers vs n (suc k) xs number variables (omega (arith, loops)) near.1
function_numbers vs n k (Some a ∷ xs) number variables loops near = (
  record {
    function = record { small = number };
    loop = record { small = omega (arith, loops) };
    below = record { small = omega (arith, near.0.0, variables) };
    above = record { small = omega (arith, near.0.1, variables) };
    more = more_small a;
    facts = tt;
  },
  function_numbers vs n (suc k) xs number variables (omega (arith, loops)) near.1,
)

-- ## Order

-- a rank is that of the loop with a number or of a later one
abbrev IsLater : ℕ → ℕ → Rank → Type 0
IsLater n k r = (n < r.function) ⊎ ((r.function ≡ n) × (k ≤ r.loop))

later_weaker : (n k m j : ℕ) → ((r : Rank) → IsLater n k r → IsLater m j r) → (rs : List Rank) → AllByRecursion (IsLater n k) rs → AllByRecursion (IsLater m j) rs
later_weaker n k m j h [] a = tt
later_weaker n k m j h (r ∷ rs) a = (h r a.0, later_weaker n k m j h rs a.1)

next_loop : (n k : ℕ) (r : Rank) → IsLater n (suc k) r → IsLater n k r
next_loop n k r (inl e) = inl e
next_loop n k r (inr e) = inr (e.0, omega (arith, e.1))

next_function : (n k : ℕ) (r : Rank) → IsLater (suc n) 0 r → IsLater n k r
next_function n k r (inl e) = inl (omega (arith, e))
next_function n k r (inr e) = inl (omega (arith, e.0))

-- a later rank comes after
before_later : (n k : ℕ) (a : Approach) (r : Rank) → IsLater n (suc k) r → comes_before (approach_rank n k a) r ≡ true
before_later n k a r (inl e) = ap (λ b. b || (nat_eq n r.function && nat_lt k r.loop)) (lt-ltb n r.function e)
before_later n k a r (inr e) =
    let same : n ≡ r.function = sym e.0 in
    let low : k < r.loop = omega (arith, e.1) in
    (λ i. nat_lt n r.function || (eq-eqb n r.function same i && lt-ltb k r.loop low i)) ∙ or_true (nat_lt n r.function)
  where
    or_true : (b : Bool) → b || (true && true) ≡ true
    or_true true = refl
    or_true false = refl

-- ranks rise, from a loop on
record RiseFrom (n k : ℕ) (rs : List Rank) : Type 0 where
  rising : AreRising rs
  later : AllByRecursion (IsLater n k) rs

one_more : (n k : ℕ) (a : Approach) (rs : List Rank) → RiseFrom n (suc k) rs → RiseFrom n k (approach_rank n k a ∷ rs)
one_more n k a [] h = record { rising = tt; later = (inr (refl, omega arith), tt) }
one_more n k a (r ∷ rs) h = record { rising = (before_later n k a r h.later.0, h.rising); later = (inr (refl, omega arith), later_weaker n (suc k) n k (next_loop n k) (r ∷ rs) h.later) }

function_rises : (n k : ℕ) (xs : List (Option Approach)) (rest : List Rank) → RiseFrom (suc n) 0 rest → RiseFrom n k (ranks_by n k xs ++ rest)
function_rises n k [] rest h = record { rising = h.rising; later = later_weaker (suc n) 0 n k (next_function n k) rest h.later }
function_rises n k (None ∷ xs) rest h =
    let more = function_rises n (suc k) xs rest h in record { rising = more.rising; later = later_weaker n (suc k) n k (next_loop n k) (ranks_by n (suc k) xs ++ rest) more.later }
function_rises n k (Some a ∷ xs) rest h = one_more n k a (ranks_by n (suc k) xs ++ rest) (function_rises n (suc k) xs rest h)

-- ## All functions

function_lines : (n k : ℕ) (xs : List (Option Approach)) (rest : List Rank) → length (section_lines (ranks_by n k xs ++ rest)) ≤ length xs + length (section_lines rest)
function_lines n k [] rest = omega arith
function_lines n k (None ∷ xs) rest = let more = function_lines n (suc k) xs rest in omega (arith, more)
function_lines n k (Some a ∷ xs) rest = let more = function_lines n (suc k) xs rest in omega (arith, more)

module _ (o : Offers) (p : PlainProgram) (c : Claims) where
  -- functions from a number on
  abbrev FewFrom : ℕ → List PlainFunction → List Func → Type 0
  FewFrom m fs gs = (j : ℕ) (f : PlainFunction) → slice_get fs j ≡ Some f → (n : ℕ) → n ≡ m + j → AreFew o p c n f × ((g : Func) → slice_get gs j ≡ Some g → slice_get c.funcs n ≡ Some g)

  rest_few : (m : ℕ) (f : PlainFunction) (fs : List PlainFunction) (g : Func) (gs : List Func) → FewFrom m (f ∷ fs) (g ∷ gs) → FewFrom (suc m) fs gs
  rest_few m f fs g gs h j x there n is = h (suc j) x there n (omega (arith, is))

  numbers : (m : ℕ) (fs : List PlainFunction) (gs : List Func) → length gs ≡ length fs → FewFrom m fs gs → length (flat_map (λ (g : Func). g.loops) gs) < 2 ^ 32 → AllByRecursion IsRank (ranks_from o p c m fs)
  numbers m [] gs each few small = tt
  numbers m (f ∷ fs) [] each few small = absurd (omega (arith, each))
  numbers m (f ∷ fs) (g ∷ gs) each few small =
      let here = few 0 f refl m (omega arith) in
      let own : length (loops_of o p c m f).approaches ≡ length g.loops = here.0.each g (here.1 g refl) in
      let all = length-append g.loops (flat_map (λ (g : Func). g.loops) gs) in
      all_both IsRank (ranks_by m 0 (loops_of o p c m f).approaches) (ranks_from o p c (suc m) fs)
      (function_numbers f.variables m 0 (loops_of o p c m f).approaches here.0.function here.0.variables (omega (arith, own, all, small)) here.0.near)
      (numbers (suc m) fs gs (omega (arith, each)) (rest_few m f fs g gs few) (omega (arith, all, small)))

  rises : (m : ℕ) (fs : List PlainFunction) → RiseFrom m 0 (ranks_from o p c m fs)
  rises m [] = record { rising = tt; later = tt }
  rises m (f ∷ fs) = function_rises m 0 (loops_of o p c m f).approaches (ranks_from o p c (suc m) fs) (rises (suc m) fs)

  lines : (m : ℕ) (fs : List PlainFunction) (gs : List Func) → length gs ≡ length fs → FewFrom m fs gs → length (section_lines (ranks_from o p c m fs)) ≤ length (flat_map (λ (g : Func). g.loops) gs)
  lines m [] gs each few = omega arith
  lines m (f ∷ fs) [] each few = absurd (omega (arith, each))
  lines m (f ∷ fs) (g ∷ gs) each few =
      let here = few 0 f refl m (omega arith) in
      let own : length (loops_of o p c m f).approaches ≡ length g.loops = here.0.each g (here.1 g refl) in
      let all = length-append g.loops (flat_map (λ (g : Func). g.loops) gs) in
      let first = function_lines m 0 (loops_of o p c m f).approaches (ranks_from o p c (suc m) fs) in
      let more = lines (suc m) fs gs (omega (arith, each)) (rest_few m f fs g gs few) in
      omega (arith, own, all, first, more)

pub derived_said : DerivedNumbersAreSmall → DerivedRanksHaveSections
derived_said small o are p whole named c is =
    let few = small o are p whole named c is in
    let from : FewFrom o p c 0 p.functions c.funcs = λ j f there n same.
    let here : j ≡ n = omega (arith, same) in (
      few.functions n f (subst (λ (i : ℕ). slice_get p.functions i ≡ Some f) here there),
      λ g claimed. subst (λ (i : ℕ). slice_get c.funcs i ≡ Some g) here claimed,
    ) in
    let count : length (section_lines (ranks_of o p c)) ≤ length (flat_map (λ (g : Func). g.loops) c.funcs) = lines o p c 0 p.functions c.funcs few.claims from in
    record { numbers = numbers o p c 0 p.functions c.funcs few.claims from few.loops; rising = (rises o p c 0 p.functions).rising; few = omega (arith, count, few.loops) }
