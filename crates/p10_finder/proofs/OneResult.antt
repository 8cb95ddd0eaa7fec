-- What is claimed of results of functions is one thing, whatever claims they stand in.
use Rattle.std.proofs.Common.{◌≡◌, ℕ, zero, suc, ◌+◌, ◌<◌, ◌≤◌, Bool, true, false, List, [], ◌∷◌, map, length, Option, Some, None, refl, sym, ap, ◌∙◌, subst, arith, ◌⊎◌, inl, inr, ℤ, nat_eq, nat_lt, eq-eqb}
use Rattle.std.specs.Prelude.{◌&&◌, ◌||◌, slice_get, slice_index_or, if◌then◌else◌}
use Rattle.std.specs.Ordering.{int_eq}
use Rattle.std.specs.List.{Contains}
use Rattle.std.proofs.lemmas.Bool.{and_parts, cases_lt, lt-ltb, eqb-true}
use Rattle.std.proofs.lemmas.Bool.Decides.{Decides-int_eq}
use Rattle.std.proofs.lemmas.Option.{slice_get_past, slice_get_cases}
use Rattle.p10_core.specs.declared.uses.FunctionUse.{FunctionUse}
use Rattle.p10_core.specs.Typed.{PlainFunction, PlainProgram}
use Rattle.p10_core.specs.Nodes.{PlainNode, nodes_of_statements}
use Rattle.p10_core.specs.Uses.{function_used}
use Rattle.p10_graph.specs.Graphs.{Edge, Reaches, IsOnCycle}
use Rattle.p10_graph.proofs.Walks.{reaches_itself, reaches_next, reaches_on}
use Rattle.p10_calls.specs.CallSites.{calls_by}
use Rattle.p10_calls.specs.CallGraphs.{callees_of, call_graph}
use Rattle.p10_calls.proofs.Lists.{here, there, kept, mapped, passes}
use Rattle.p10_cert.specs.Claims.{Value, Number, Address, Nothing, Func, Claims}
use Rattle.p10_absx.specs.Assessing.{result_claimed}
use Rattle.p10_absx.specs.Entering.{claims_on}
use Rattle.p10_finder.specs.Answers.{HaveResults}
use Rattle.p10_finder.proofs.Called.{OfUse, EachCalled}
use Rattle.p10_finder.proofs.SameValues.{SayTheSame, Same}
use Rattle.p10_finder.proofs.SameLoops.{result_same}
use Rattle.p10_approach.specs.Offers.{Offers}

-- ## Equality of values

number_same : (a b : ℤ) → int_eq a b ≡ true → a ≡ b
number_same a b = (Decides-int_eq a b).0

same_number : (a b : ℤ) → a ≡ b → int_eq a b ≡ true
same_number a b = (Decides-int_eq a b).1

-- whether two values are the same
value_eq : Value → Value → Bool
value_eq (Number r) (Number s) = int_eq r.low s.low && int_eq r.high s.high
value_eq Address Address = true
value_eq Nothing Nothing = true
value_eq a b = false

unfolding_same : (a b : Value) → value_eq a b ≡ true → a ≡ b
unfolding value_eq
unfolding_same (Number r) (Number s) e =
    let both = and_parts (int_eq r.low s.low) (int_eq r.high s.high) e in
    let low = number_same r.low s.low both.0 in
    let high = number_same r.high s.high both.1 in
    λ i. Number (record { low = low i; high = high i })
unfolding_same (Number r) Address e = absurd cc
unfolding_same (Number r) Nothing e = absurd cc
unfolding_same Address (Number s) e = absurd cc
unfolding_same Address Address e = refl
unfolding_same Address Nothing e = absurd cc
unfolding_same Nothing (Number s) e = absurd cc
unfolding_same Nothing Address e = absurd cc
unfolding_same Nothing Nothing e = refl

itself : (a : Value) → value_eq a a ≡ true
unfolding value_eq
itself (Number r) = λ i. same_number r.low r.low refl i && same_number r.high r.high refl i
itself Address = refl
itself Nothing = refl

-- two values are the same or not
same_or_not : (a b : Value) → (a ≡ b) ⊎ (a ≡ b → ⊥)
same_or_not a b = at (value_eq a b) refl
  where
    at : (t : Bool) → value_eq a b ≡ t → (a ≡ b) ⊎ (a ≡ b → ⊥)
    at true e = inl (unfolding_same a b e)
    at false e = inr (λ same. let yes : value_eq a b ≡ true = ap (value_eq a) (sym same) ∙ itself a in absurd cc)

-- ## Callees

pub called_each : (P : ℕ → Type 0) (nodes : List PlainNode) → ((x : PlainNode) (u : FunctionUse) → Contains nodes x → function_used x ≡ Some u → P u.function) → EachCalled P nodes
called_each P [] all = tt
called_each P (x ∷ rest) all = (
  elim (function_used x) as (λ o. function_used x ≡ o → OfUse P o) [ None ↦ λ e. tt | Some u ↦ λ e. all x u (here x rest) e ] refl,
  called_each P rest (λ y u held e. all y u (there x rest y held) e),
)

pub row_at : (F : PlainFunction → List ℕ) (fs : List PlainFunction) (n : ℕ) (f : PlainFunction) → slice_get fs n ≡ Some f → slice_index_or (map F fs) n [] ≡ F f
row_at F [] n f e = absurd cc
row_at F (g ∷ fs) zero f e = let same : g ≡ f = cc in ap F same
row_at F (g ∷ fs) (suc n) f e = row_at F fs n f e

-- what holds where edges of calls lead, and of numbers of no function, holds of each function that is called
pub edges_each : (p : PlainProgram) (P : ℕ → Type 0) (n : ℕ) (f : PlainFunction) → slice_get p.functions n ≡ Some f → ((m : ℕ) → Edge (call_graph p) n m → P m) → ((m : ℕ) → length p.functions ≤ m → P m) → EachCalled P (nodes_of_statements f.body)
edges_each p P n f is inside outside = called_each P (nodes_of_statements f.body) (λ x u held e.
    let call : Contains (calls_by f) u = kept function_used (nodes_of_statements f.body) x u held e in
    elim (cases_lt u.function (length p.functions)) [
      | inl low ↦ inside u.function (subst (λ (row : List ℕ). Contains row u.function) (sym (row_at (callees_of (length p.functions)) p.functions n f is))
          (passes (λ m. nat_lt m (length p.functions)) (map (λ c. c.function) (calls_by f)) u.function (mapped (λ c. c.function) (calls_by f) u call) (lt-ltb u.function (length p.functions) low)))
      | inr past ↦ outside u.function past
    ])

-- ## Functions that are left

-- how many numbers below a bound aren't marked
abbrev left_below : (ℕ → Bool) → ℕ → ℕ
left_below marked zero = 0
left_below marked (suc k) = (if marked k then 0 else 1) + left_below marked k

-- one more mark
abbrev with_mark : ℕ → (ℕ → Bool) → ℕ → Bool
with_mark n marked m = nat_eq m n || marked m

no_more : (a b : Bool) → (if a || b then 0 else 1) ≤ (if b then 0 else 1)
no_more true true = omega arith
no_more true false = omega arith
no_more false true = omega arith
no_more false false = omega arith

left_no_more : (marked : ℕ → Bool) (n k : ℕ) → left_below (with_mark n marked) k ≤ left_below marked k
left_no_more marked n zero = omega arith
left_no_more marked n (suc k) =
    let one : (if nat_eq k n || marked k then 0 else 1) ≤ (if marked k then 0 else 1) = no_more (nat_eq k n) (marked k) in
    let rest : left_below (with_mark n marked) k ≤ left_below marked k = left_no_more marked n k in
    omega (arith, one, rest)

less_here : (a b : Bool) → a ≡ true → b ≡ false → (if a || b then 0 else 1) < (if b then 0 else 1)
less_here true false e none = omega arith
less_here true true e none = absurd cc
less_here false b e none = absurd cc

fewer_at : (marked : ℕ → Bool) (n k : ℕ) → n < suc k → marked n ≡ false → (n < k → left_below (with_mark n marked) k < left_below marked k) → (t : Bool) → nat_eq k n ≡ t → left_below (with_mark n marked) (suc k) < left_below marked (suc k)
fewer_at marked n k low none rest_fewer true e =
    let same : k ≡ n = eqb-true k n e in
    let one : (if nat_eq k n || marked k then 0 else 1) < (if marked k then 0 else 1) = less_here (nat_eq k n) (marked k) e (ap marked same ∙ none) in
    let rest : left_below (with_mark n marked) k ≤ left_below marked k = left_no_more marked n k in
    omega (arith, one, rest)
fewer_at marked n k low none rest_fewer false e =
    let apart : k ≡ n → ⊥ = λ same. let yes : nat_eq k n ≡ true = eq-eqb k n same in absurd cc in
    let one : (if nat_eq k n || marked k then 0 else 1) ≤ (if marked k then 0 else 1) = no_more (nat_eq k n) (marked k) in
    let rest : left_below (with_mark n marked) k < left_below marked k = rest_fewer (omega (arith, low, apart)) in
    omega (arith, one, rest)

fewer_left : (marked : ℕ → Bool) (n k : ℕ) → n < k → marked n ≡ false → left_below (with_mark n marked) k < left_below marked k
fewer_left marked n zero low none = absurd (omega (arith, low))
fewer_left marked n (suc k) low none = fewer_at marked n k low none (λ below. fewer_left marked n k below none) (nat_eq k n) refl

-- ## Results

-- where nothing is claimed, the same is said
pub none_same : (x y : Option Func) → x ≡ None → y ≡ None → SayTheSame x y
none_same x y first second = record {
  params = ap claims_on first ∙ sym (ap claims_on second);
  result = λ kind. ap (result_claimed kind) first ∙ sym (ap (result_claimed kind) second);
}

pub some_same : (x y : Option Func) (a b : Func) → x ≡ Some a → y ≡ Some b → a.params ≡ b.params → a.result ≡ b.result → SayTheSame x y
some_same x y a b first second params result = record {
  params = ap claims_on first ∙ (params ∙ sym (ap claims_on second));
  result = λ kind. ap (result_claimed kind) first ∙ ((λ i. result_claimed kind (Some (record a { result = result i }))) ∙ ((λ i. result_claimed kind (Some (record a { result = b.result }))) ∙ sym (ap (result_claimed kind) second)));
}

module _ (o : Offers) (p : PlainProgram) (c d : Claims) (first : HaveResults o p c) (second : HaveResults o p d) where
  -- a way of one call or more
  record Leads (u v : ℕ) : Type 0 where
    next : ℕ
    edge : Edge (call_graph p) u next
    back : Reaches (call_graph p) next v

  -- no function has this number
  past_same : (m : ℕ) → length p.functions ≤ m → Same c d m
  past_same m past =
      let each : length c.funcs ≡ length p.functions = first.each in
      let each2 : length d.funcs ≡ length p.functions = second.each in
      none_same (slice_get c.funcs m) (slice_get d.funcs m) (slice_get_past c.funcs m (omega (arith, past, each))) (slice_get_past d.funcs m (omega (arith, past, each2)))

  -- one function, where marked functions lead to it, and the results of its callees are the same
  one_same : (n : ℕ) (f : PlainFunction) (a b : Func) → slice_get p.functions n ≡ Some f → slice_get c.funcs n ≡ Some a → slice_get d.funcs n ≡ Some b
      → ((IsOnCycle (call_graph p) n → ⊥) → (m : ℕ) → Edge (call_graph p) n m → Same c d m) → Same c d n
  one_same n f a b is claimed claimed2 callees =
      let x = first.results n f a is claimed in
      let y = second.results n f b is claimed2 in
      some_same (slice_get c.funcs n) (slice_get d.funcs n) a b claimed claimed2 (x.params ∙ sym y.params) (elim (same_or_not a.result b.result) [
        | inl same ↦ same
        | inr apart ↦
            let off : IsOnCycle (call_graph p) n → ⊥ = λ on. apart (x.recursive on ∙ sym (y.recursive on)) in
            absurd (apart (x.other off ∙ (result_same o p c d n f (edges_each p (Same c d) n f is (callees off) past_same) ∙ sym (y.other off))))
      ])

  same_below : (k : ℕ) (marked : ℕ → Bool) (n : ℕ) → left_below marked (length p.functions) < k → ((v : ℕ) → marked v ≡ true → Leads v n) → Same c d n
  same_below zero marked n few leads = absurd (omega (arith, few))
  same_below (suc k) marked n few leads = elim (cases_lt n (length p.functions)) [
    | inr past ↦ past_same n past
    | inl low ↦
        let (e, f_is) = slice_get_cases p.functions n in
        let (e2, a_is) = slice_get_cases c.funcs n in
        let (e3, b_is) = slice_get_cases d.funcs n in
        let each : length c.funcs ≡ length p.functions = first.each in
        let each2 : length d.funcs ≡ length p.functions = second.each in
        elim f_is [
          | inr (past, none) ↦ absurd (omega (arith, past, low))
          | inl (f, inside, is, got) ↦ elim a_is [
            | inr (past, none) ↦ absurd (omega (arith, past, low, each))
            | inl (a, inside2, is2, got2) ↦ elim b_is [
              | inr (past, none) ↦ absurd (omega (arith, past, low, each2))
              | inl (b, inside3, is3, got3) ↦ one_same n f a b is is2 is3 (λ off m edge. same_below k (with_mark n marked) m (down low off) (further edge))
            ]
          ]
        ]
  ]
    where
      fresh : (IsOnCycle (call_graph p) n → ⊥) → (t : Bool) → marked n ≡ t → marked n ≡ false
      fresh off true e = let way = leads n e in absurd (off (record { next = way.next; edge = way.edge; back = way.back }))
      fresh off false e = e

      down : n < length p.functions → (IsOnCycle (call_graph p) n → ⊥) → left_below (with_mark n marked) (length p.functions) < k
      down low off =
          let fewer : left_below (with_mark n marked) (length p.functions) < left_below marked (length p.functions) = fewer_left marked n (length p.functions) low (fresh off (marked n) refl) in
          omega (arith, few, fewer)

      further : {m : ℕ} → Edge (call_graph p) n m → (v : ℕ) → with_mark n marked v ≡ true → Leads v m
      further {m = m} edge v e = at (nat_eq v n) refl
        where
          at : (t : Bool) → nat_eq v n ≡ t → Leads v m
          at true is = let same : v ≡ n = eqb-true v n is in record { next = m; edge = subst (λ u. Edge (call_graph p) u m) (sym same) edge; back = reaches_itself (call_graph p) m }
          at false is =
              let way = leads v (sym (ap (λ t. t || marked v) is) ∙ e) in
              record { next = way.next; edge = way.edge; back = reaches_on (call_graph p) way.next n m way.back (reaches_next (call_graph p) n m edge) }

  -- the same is said of all functions
  pub results_same : (n : ℕ) → Same c d n
  results_same n = same_below (suc (left_below (λ v. false) (length p.functions))) (λ v. false) n (omega arith) (λ v e. absurd cc)
