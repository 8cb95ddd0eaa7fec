-- What is claimed of a function may be claimed.
use Rattle.std.proofs.Common.{◌≡◌, ℕ, zero, suc, ◌+◌, ◌^◌, ◌<◌, ◌≤◌, Bool, true, false, List, [], ◌∷◌, ◌++◌, length, map, Some, None, refl, sym, ap, ◌∙◌, subst, arith, ◌⊎◌, inl, inr}
use Rattle.std.specs.Prelude.{slice_get, nat_eq, leb, ◌&&◌, if◌then◌else◌, codes, All, Contains, sum}
use Rattle.std.specs.List.{AllByRecursion, slice_index}
use Rattle.std.proofs.Math.Nat.{min-le_left}
use Rattle.std.proofs.lemmas.Bool.{and_parts, cases_lt, eqb-true, leb-true}
use Rattle.std.proofs.lemmas.List.{length-map}
use Rattle.std.proofs.lemmas.List.Elements.{All-head, All-tail}
use Rattle.std.proofs.lemmas.List.Sums.{sum_by-cons}
use Rattle.std.proofs.lemmas.Option.{same_Some, slice_get_within}
use Rattle.p10_base.specs.declared.report.TheConstants.Limit.{MOST_SUM, MOST_CERTIFICATE_BYTES, MOST_OBJECT_BYTES}
use Rattle.p10_int.specs.declared.types.IntType.{IntType}
use Rattle.p10_range.specs.Rows.{values_of}
use Rattle.p10_range.specs.Laws.{IsOfType}
use Rattle.p10_core.specs.Types.{PlainType, void, integer, pointer, array, structure, PlainStructure}
use Rattle.p10_core.specs.Constants.{integer_of}
use Rattle.p10_core.specs.Rows.{is_scalar}
use Rattle.p10_core.specs.Typed.{PlainVariable, PlainFunction, PlainProgram}
use Rattle.p10_core.specs.WholePrograms.{AreWholeStructures, IsWholeVariable, IsWholeFunction, IsWholeProgram, frame_bytes, parameter_types, main_items, loops_of as heads_of}
use Rattle.p10_core.proofs.ScalarCounts.{scalars_have_bytes}
use Rattle.p10_calls.specs.CallGraphs.{callees_of, call_graph}
use Rattle.p10_calls.proofs.Lists.{here, there}
use Rattle.p10_cert.specs.declared.claims.Rank.{Rank}
use Rattle.p10_cert.specs.declared.claims.Rank.TheVariants.{Up, Down, One, Task}
use Rattle.p10_cert.specs.Claims.{Value, Number, Address, Nothing, Var, Loop, Func, Claims}
use Rattle.p10_cert.specs.Lines.{IsIndex, IsCount, IsVar, IsRank, IsParam, IsResult as MayResult}
use Rattle.p10_cert.specs.Certificate.{certificate_text, NestFrom, task_number, IsLoop, loop_tasks, IsFunc}
use Rattle.p10_fit.specs.Sites.{loop_number_at, task_loop_number}
use Rattle.p10_sums.specs.declared.sum.FuncSum.{FuncSum}
use Rattle.p10_sums.specs.Sums.{keeps_limit, sum_at, sums_from, all_sums}
use Rattle.p10_known.specs.Typing.{LineOfType}
use Rattle.p10_known.proofs.Ranges.{all_of_type}
use Rattle.p10_candidates.specs.Trials.{counted}
use Rattle.p10_finder.specs.Functions.{any_value, loops_of, result_of, with_turn_steps, counted_sum, func_found}
use Rattle.p10_finder.specs.Answers.{AreClaims, PassesSum, PassesText}
use Rattle.p10_derived_texts.specs.Naming.{AreNamed}
use Rattle.p10_derived_texts.proofs.Lengths.{functions_in_text, loops_in_text, depths_nest}
use Rattle.p10_derived_texts.proofs.Ranks.{rank_small, edge_held}
use Rattle.p10_derived_texts.proofs.Claims.{all_more, ends_of_type, RankFits, LoopFits}
use Rattle.p10_derived_texts.proofs.Walking.{Right, Shallow, task_count, no_task_among, numbers_in}
use Rattle.p10_derived_texts.specs.Approaching.{AreFew}
use Rattle.p10_derived_texts.proofs.Results.{value_claimed, loops_right, few_tasks, result_has, each_claim, rank_is, claims_results}
use Rattle.p10_derived_texts.proofs.Turning.{turned_fit, turned_shallow, turned_nest, turned_tasks}
use Rattle.p10_approach.specs.Offers.{Offers, AreOffers}

-- ## Lists

pub got : {A : Type 0} (xs : List A) (n : ℕ) → n < length xs → (x : A) × (slice_get xs n ≡ Some x)
got [] n h = absurd (omega (arith, h))
got (x ∷ xs) zero h = (x, refl)
got (x ∷ xs) (suc n) h = got xs n (omega (arith, h))

contains_at : {A : Type 0} (xs : List A) (n : ℕ) (x : A) → slice_get xs n ≡ Some x → Contains xs x
contains_at [] n x e = absurd cc
contains_at (y ∷ xs) zero x e = let same : y ≡ x = same_Some _ _ e in subst (Contains (y ∷ xs)) same (here y xs)
contains_at (y ∷ xs) (suc n) x e = there y xs x (contains_at xs n x e)

all_contained : {A : Type 0} (P : A → Type 0) (xs : List A) → ((x : A) → Contains xs x → P x) → AllByRecursion P xs
all_contained P [] h = tt
all_contained P (x ∷ xs) h = (h x (here x xs), all_contained P xs (λ y k. h y (there x xs y k)))

-- ## Limits

pub small_bytes : (n : ℕ) → n ≤ MOST_CERTIFICATE_BYTES → n < 2 ^ 32
small_bytes n h = omega (arith, h)

small_frame : (n : ℕ) → n ≤ MOST_OBJECT_BYTES → n < 2 ^ 32
small_frame n h = omega (arith, h)

count_of : (n : ℕ) → n ≤ MOST_SUM → IsCount n
count_of n h = record { small = h }

-- a number that keeps within the limit is claimed as it is
counted_count : (n : ℕ) → leb n MOST_SUM ≡ true → IsCount (counted n)
counted_count n e = let low : n ≤ MOST_SUM = leb-true n MOST_SUM e in let less : counted n ≤ n = min-le_left n (MOST_SUM + 1) in count_of (counted n) (omega (arith, low, less))

-- there are no more variables than bytes in a frame
variables_in_frame : (structures : List PlainStructure) → AreWholeStructures structures → (vs : List PlainVariable) → All (IsWholeVariable structures) vs → length vs ≤ sum (map (λ (v : PlainVariable). v.bytes) vs)
variables_in_frame structures w [] h = omega arith
variables_in_frame structures w (v ∷ vs) h =
    let one : IsWholeVariable structures v = All-head (IsWholeVariable structures) v vs h in
    let rest : length vs ≤ sum (map (λ (v : PlainVariable). v.bytes) vs) = variables_in_frame structures w vs (All-tail (IsWholeVariable structures) v vs h) in
    let byte = (scalars_have_bytes structures w v.type one.object).0 in
    let bytes = one.bytes_are in
    let more : sum (map (λ (v : PlainVariable). v.bytes) (v ∷ vs)) ≡ v.bytes + sum (map (λ (v : PlainVariable). v.bytes) vs) = sum_by-cons (λ x. x) v.bytes (map (λ (v : PlainVariable). v.bytes) vs) in
    omega (arith, rest, byte, bytes, more)

-- ## Values

params_are : (types : List PlainType) → All (λ t. is_scalar t ≡ true) types → AllByRecursion IsParam (map any_value types)
params_are [] h = tt
params_are (t ∷ types) h = (param t (All-head (λ t. is_scalar t ≡ true) t types h), params_are types (All-tail (λ t. is_scalar t ≡ true) t types h))
  where
    param : (t : PlainType) → is_scalar t ≡ true → IsParam (any_value t)
    param (integer c kind) e = ends_of_type kind (values_of kind) (all_of_type kind)
    param (pointer c t) e = tt
    param (void c) e = absurd cc
    param (array c t n) e = absurd cc
    param (structure c n) e = absurd cc

result_is : (kind : IntType) (v : Value) → IsOfType kind (value_claimed kind v) → MayResult v
result_is kind (Number r) h = ends_of_type kind r h
result_is kind Address h = tt
result_is kind Nothing h = tt

-- ## Loops

module _ (variables : List PlainVariable) (few : length variables < 2 ^ 32) where
  index_below : (n : ℕ) → n < length variables → IsIndex n
  index_below n h = record { small = omega (arith, h, few) }

  lines_are : (vars : List Var) → AllByRecursion (LineOfType variables) vars → AllByRecursion (λ (x : Var). x.var < length variables) vars → AllByRecursion IsVar vars
  lines_are [] h k = tt
  lines_are (x ∷ vars) h k = (one (got variables x.var k.0), lines_are vars h.1 k.1)
    where
      one : (v : PlainVariable) × (slice_get variables x.var ≡ Some v) → IsVar x
      one v = record { var = index_below x.var k.0; ends = ends_of_type (integer_of v.0.type) x.ends (h.0 v.0 v.1) }

  rank_written : (depth : ℕ) (rank : Rank) → RankFits (length variables) rank → (task_number rank ≡ 0) ⊎ (depth ≡ 0) → IsRank depth rank
  rank_written depth (Up v bound) h k = record { known = index_below v h.0; small = h.1 }
  rank_written depth (Down v bound) h k = record { known = index_below v h.0; small = h.1 }
  rank_written depth One h k = tt
  rank_written depth Task h (inl e) = absurd cc
  rank_written depth Task h (inr e) = e

  -- what is claimed of loops may be claimed
  loops_are : (loops : List Loop) → AllByRecursion (LoopFits variables) loops → AllByRecursion Shallow loops → AllByRecursion (λ (l : Loop). l.turns ≤ MOST_SUM) loops → AllByRecursion (λ (l : Loop). l.depth < 2 ^ 32) loops → AllByRecursion IsLoop loops
  loops_are [] h k t d = tt
  loops_are (l ∷ loops) h k t d = (
    record {
      head = record { depth = record { small = d.0 }; rank = rank_written l.depth l.rank h.0.rank k.0; turns = count_of l.turns t.0 };
      vars = lines_are l.vars h.0.lines h.0.small;
      rise = h.0.rise;
    },
    loops_are loops h.1 k.1 t.1 d.1,
  )

-- ## Functions

module _ (o : Offers) (are : AreOffers o) (p : PlainProgram) (whole : IsWholeProgram p) (named : AreNamed p) (c : Claims) (is : AreClaims o p c) (sums : PassesSum p c → ⊥) (text : PassesText c → ⊥) where
  -- the text isn't too long
  text_short : length (certificate_text c) ≤ MOST_CERTIFICATE_BYTES
  text_short = elim (cases_lt MOST_CERTIFICATE_BYTES (length (certificate_text c))) [ inl over ↦ absurd (text over) | inr short ↦ short ]

  sum_among : (k count n : ℕ) → n < count → Contains (sums_from p c.funcs k count) (sum_at p c.funcs (k + n))
  sum_among k zero n low = absurd (omega (arith, low))
  sum_among k (suc count) zero low = let same : k ≡ k + 0 = omega arith in subst (λ j. Contains (sums_from p c.funcs k (suc count)) (sum_at p c.funcs j)) same (here (sum_at p c.funcs k) (sums_from p c.funcs (suc k) count))
  sum_among k (suc count) (suc n) low =
      let same : suc k + n ≡ k + suc n = omega arith in
      there (sum_at p c.funcs k) (sums_from p c.funcs (suc k) count) (sum_at p c.funcs (k + suc n)) (subst (λ j. Contains (sums_from p c.funcs (suc k) count) (sum_at p c.funcs j)) same (sum_among (suc k) count n (omega (arith, low))))

  -- no sum exceeds the limit
  pub sum_keeps : (n : ℕ) → n < length p.functions → keeps_limit (sum_at p c.funcs n) ≡ true
  sum_keeps n low = at (keeps_limit (sum_at p c.funcs n)) refl
    where
      at : (b : Bool) → keeps_limit (sum_at p c.funcs n) ≡ b → keeps_limit (sum_at p c.funcs n) ≡ true
      at true e = e
      at false e = let same : 0 + n ≡ n = omega arith in absurd (sums (inl (record { sum = sum_at p c.funcs n; among = subst (λ k. Contains (all_sums p c.funcs) (sum_at p c.funcs k)) same (sum_among 0 (length p.functions) n low); passes = e })))

  -- the parts of a sum that keeps within the limit
  pub record SumIs (s : FuncSum) : Type 0 where
    pub steps : IsCount (counted s.steps)
    pub calls : IsCount (counted s.calls)
    pub bytes : IsCount (counted s.bytes)
    pub turn : IsCount (counted s.turn)

  pub sum_is : (n : ℕ) → n < length p.functions → SumIs (sum_at p c.funcs n)
  sum_is n low =
      let s : FuncSum = sum_at p c.funcs n in
      let halves = and_parts (leb s.steps MOST_SUM && leb s.calls MOST_SUM) (leb s.bytes MOST_SUM && leb s.turn MOST_SUM) (sum_keeps n low) in
      let first = and_parts (leb s.steps MOST_SUM) (leb s.calls MOST_SUM) halves.0 in
      let second = and_parts (leb s.bytes MOST_SUM) (leb s.turn MOST_SUM) halves.1 in
      record { steps = counted_count s.steps first.0; calls = counted_count s.calls first.1; bytes = counted_count s.bytes second.0; turn = counted_count s.turn second.1 }

  turns_small : (g : Func) → Contains c.funcs g → AllByRecursion (λ (l : Loop). l.turns ≤ MOST_SUM) g.loops
  turns_small g among = all_contained (λ (l : Loop). l.turns ≤ MOST_SUM) g.loops (λ l inside. elim (cases_lt MOST_SUM l.turns) [
    | inl long ↦ absurd (sums (inr (record { func = g; loop = l; among = among; inside = inside; long = long })))
    | inr short ↦ short
  ])

  module _ (n : ℕ) (f : PlainFunction) (claim : Func) (there_f : slice_get p.functions n ≡ Some f) (claimed : slice_get c.funcs n ≡ Some claim) where
    abbrev g : Func
    g = func_found o p c n claim.rank f

    claim_is : claim ≡ g
    claim_is = is.each n f claim there_f claimed

    g_there : slice_get c.funcs n ≡ Some g
    g_there = claimed ∙ ap (λ (x : Func). Some x) claim_is

    abbrev w : IsWholeFunction p n f
    w = whole.functions n f there_f

    abbrev right : Right p f c (claims_results o are p whole c is) (task_loop_number p n f) (o n f) (are n f) 0 (task_count (task_loop_number p n f) (heads_of f.body)) (loops_of o p c n f)
    right = loops_right o are p whole c (claims_results o are p whole c is) n f there_f

    pub few_variables : length f.variables < 2 ^ 32
    few_variables =
        let bytes : length f.variables ≤ frame_bytes f = variables_in_frame p.structures whole.structures f.variables w.variables in
        let small : frame_bytes f ≤ MOST_OBJECT_BYTES = w.small in
        small_frame (length f.variables) (omega (arith, bytes, small))

    pub few_functions : length p.functions < 2 ^ 32
    few_functions =
        let in_text : length c.funcs ≤ length (certificate_text c) = functions_in_text c in
        let short : length (certificate_text c) ≤ MOST_CERTIFICATE_BYTES = text_short in
        let each : length c.funcs ≡ length p.functions = each_claim o are p whole c is in
        small_bytes (length p.functions) (omega (arith, in_text, short, each))

    rank_index : IsIndex claim.rank
    rank_index =
        let nodes : length (call_graph p) ≡ length p.functions = length-map p.functions (callees_of (length p.functions)) in
        let low : n < length p.functions = slice_get_within p.functions n f there_f in
        let small : slice_index (map (λ (f : Func). f.rank) c.funcs) n < length (call_graph p) = rank_small (call_graph p) (map (λ (f : Func). f.rank) c.funcs) is.ranks (edge_held p) n (omega (arith, low, nodes)) in
        let rank : slice_index (map (λ (f : Func). f.rank) c.funcs) n ≡ claim.rank = rank_is o are p whole c is n claim claimed in
        record { small = omega (arith, small, rank, nodes, few_functions) }

    nest : NestFrom 0 g.loops
    nest = turned_nest _ 0 (loops_of o p c n f).claims (subst (NestFrom 0) (append_none (loops_of o p c n f).claims) (right.nesting [] (λ m i. tt)))
      where
        append_none : (xs : List Loop) → xs ++ [] ≡ xs
        append_none [] = refl
        append_none (x ∷ xs) = ap (λ ys. x ∷ ys) (append_none xs)

    depths_small : AllByRecursion (λ (l : Loop). l.depth < 2 ^ 32) g.loops
    depths_small =
        let in_text : length g.loops ≤ length (certificate_text c) = loops_in_text c n g g_there in
        let few : length g.loops < 2 ^ 32 = small_bytes (length g.loops) (omega (arith, in_text, text_short)) in
        all_more (λ (l : Loop). l.depth < 0 + length g.loops) (λ (l : Loop). l.depth < 2 ^ 32) g.loops (λ l h. omega (arith, h, few)) (depths_nest 0 g.loops nest)

    -- its numbers
    pub function_few : AreFew o p c n f
    function_few =
        let low : n < length p.functions = slice_get_within p.functions n f there_f in
        record {
          function = omega (arith, low, few_functions);
          variables = few_variables;
          near = right.near;
          each = λ other there.
              let same : g ≡ other = same_claim g other (sym g_there ∙ there) in
              right.marked ∙ (sym (length-map (loops_of o p c n f).claims (with_turn_steps (counted_sum (sum_at p c.funcs n)).turn)) ∙ ap (λ (x : Func). length x.loops) same);
        }
      where
        same_claim : (x y : Func) → Some x ≡ Some y → x ≡ y
        same_claim x y e = cc

    -- how many tasks are claimed
    pub tasks_are : loop_tasks claim.loops ≡ task_count (task_loop_number p n f) (heads_of f.body)
    tasks_are = ap (λ (x : Func). loop_tasks x.loops) claim_is ∙ (turned_tasks _ (loops_of o p c n f).claims ∙ right.tasks_are)

    pub few_are : loop_tasks claim.loops ≤ 1
    few_are = let few = few_tasks o are p whole c (claims_results o are p whole c is) n f there_f in let same = tasks_are in omega (arith, few, same)

    pub none_elsewhere : nat_eq n p.main ≡ false → loop_tasks claim.loops ≡ 0
    none_elsewhere e =
        let none : task_loop_number p n f ≡ None = ap (λ b. if b then loop_number_at (main_items f) p.task else None) e in
        tasks_are ∙ (ap (λ o. task_count o (heads_of f.body)) none ∙ no_task_among (numbers_in (heads_of f.body)))

    task_name : 0 < loop_tasks claim.loops → f.name ≡ codes "main"
    task_name some = at (nat_eq n p.main) refl
      where
        at : (b : Bool) → nat_eq n p.main ≡ b → f.name ≡ codes "main"
        at true e = let same : n ≡ p.main = eqb-true n p.main e in named.main_is f (ap (slice_get p.functions) (sym same) ∙ there_f)
        at false e = let none : loop_tasks claim.loops ≡ 0 = none_elsewhere e in absurd (omega (arith, none, some))

    found_func : IsFunc g
    found_func =
        let s : SumIs (sum_at p c.funcs n) = sum_is n (slice_get_within p.functions n f there_f) in
        record {
          head = record { name = named.names n f there_f; rank = rank_index; steps = s.steps; calls = s.calls; bytes = s.bytes };
          params = params_are (parameter_types f) w.parameters_scalar;
          result = result_is (integer_of f.result) (result_of o p c n f) (result_has o are p whole c (claims_results o are p whole c is) n f there_f);
          loops = loops_are f.variables few_variables g.loops (turned_fit _ f.variables (loops_of o p c n f).claims right.fits) (turned_shallow _ (loops_of o p c n f).claims right.shallow) (turns_small g (contains_at c.funcs n g g_there)) depths_small;
          nest = nest;
          task = λ some. task_name (subst (λ (x : Func). 0 < loop_tasks x.loops) (sym claim_is) some);
        }

    -- what is claimed of the function may be claimed
    pub claim_func : IsFunc claim
    claim_func = subst IsFunc (sym claim_is) found_func
