-- A tally has of trees what the definitions say: steps up to the least number that is too great, and what callees are claimed to do.
use Rattle.std.proofs.Common.{◌≡◌, ℕ, ◌+◌, ◌*◌, max, Bool, true, false, List, [], ◌∷◌, ◌++◌, map, refl, sym, ◌∙◌, ap, arith, Option, Some, None}
use Rattle.std.specs.Prelude.{◌||◌, slice_get}
use Rattle.std.proofs.Math.Bool.{or_assoc}
use Rattle.p10_core.specs.declared.statements.LoopKeyword.{LoopKeyword}
use Rattle.p10_core.specs.declared.statements.LoopKeyword.TheVariants.{While, Do, For}
use Rattle.p10_core.specs.declared.uses.FunctionUse.{FunctionUse}
use Rattle.p10_core.specs.declared.typed.Library.{Library}
use Rattle.p10_core.specs.Nodes.{PlainNode, in_loop_order}
use Rattle.p10_core.specs.Uses.{function_used, manages_memory}
use Rattle.p10_cert.specs.Claims.{Func}
use Rattle.p10_sums.specs.declared.tally.Tally.{Tally}
use Rattle.p10_sums.specs.Counting.{steps_claimed, calls_claimed, bytes_claimed, alloc_claimed}
use Rattle.p10_sums.specs.Costs.{loop_cost}
use Rattle.p10_sums.specs.Depths.{with_callee, callees, greatest_number, node_manages_memory, callee_manages_memory, have_effect}
use Rattle.p10_sums.specs.private.Tallies.{capped, no_tally, some_steps, in_turn, one_of, as_often, of_callee, of_library}
use Rattle.p10_sums.specs.private.Walks.{paying, loop_tally}
use Rattle.p10_sums.proofs.Adding.{capped_sum, capped_max, capped_product}

-- the greatest claims of the functions that nodes call
abbrev pub calls_of : List Func → List PlainNode → ℕ
calls_of functions ns = greatest_number (map (λ g. calls_claimed (slice_get functions g)) (callees ns))

abbrev pub bytes_of : List Func → List PlainNode → ℕ
bytes_of functions ns = greatest_number (map (λ g. bytes_claimed (slice_get functions g)) (callees ns))

-- what a tally has
pub record Has (steps calls bytes : ℕ) (alloc : Bool) (t : Tally) : Type 0 where
  pub steps_are : t.steps ≡ capped steps
  pub calls_are : t.calls ≡ calls
  pub bytes_are : t.bytes ≡ bytes
  pub alloc_is : t.alloc ≡ alloc

-- what it has of trees with these nodes
abbrev pub Tells : List Func → ℕ → List PlainNode → Tally → Type 0
Tells functions steps ns t = Has steps (calls_of functions ns) (bytes_of functions ns) (have_effect functions ns) t

-- ## Lists of nodes

greatest_both : (xs ys : List ℕ) → greatest_number (xs ++ ys) ≡ max (greatest_number xs) (greatest_number ys)
greatest_both [] ys = omega arith
greatest_both (x ∷ xs) ys = ap (max x) (greatest_both xs ys) ∙ regroup x (greatest_number xs) (greatest_number ys)
  where
    regroup : (a b c : ℕ) → max a (max b c) ≡ max (max a b) c
    regroup a b c = omega arith

one_more : (f : ℕ → ℕ) (u : Option FunctionUse) (xs ys : List ℕ) → greatest_number (map f xs) ≡ greatest_number (map f ys) → greatest_number (map f (with_callee u xs)) ≡ greatest_number (map f (with_callee u ys))
one_more f None xs ys e = e
one_more f (Some u) xs ys e = ap (max (f u.function)) e

callee_first : (f : ℕ → ℕ) (u : Option FunctionUse) (xs : List ℕ) (m : ℕ) → max (greatest_number (map f (with_callee u []))) (max (greatest_number (map f xs)) m) ≡ max (greatest_number (map f (with_callee u xs))) m
callee_first f None xs m = omega arith
callee_first f (Some u) xs m = omega arith

callees_first : (f : ℕ → ℕ) (u : Option FunctionUse) (xs : List ℕ) → greatest_number (map f (with_callee u xs)) ≡ max (greatest_number (map f (with_callee u []))) (greatest_number (map f xs))
callees_first f None xs = omega arith
callees_first f (Some u) xs = omega arith

pub greatest_of_both : (f : ℕ → ℕ) (ns ks : List PlainNode) → greatest_number (map f (callees (ns ++ ks))) ≡ max (greatest_number (map f (callees ns))) (greatest_number (map f (callees ks)))
greatest_of_both f [] ks = omega arith
greatest_of_both f (n ∷ ns) ks =
    callees_first f (function_used n) (callees (ns ++ ks)) ∙ (ap (max (greatest_number (map f (with_callee (function_used n) [])))) (greatest_of_both f ns ks) ∙
    callee_first f (function_used n) (callees ns) (greatest_number (map f (callees ks))))

pub effect_of_both : (functions : List Func) (ns ks : List PlainNode) → have_effect functions (ns ++ ks) ≡ (have_effect functions ns || have_effect functions ks)
effect_of_both functions [] ks = refl
effect_of_both functions (n ∷ ns) ks =
    let here : Bool = node_manages_memory n || callee_manages_memory functions (function_used n) in
    ap (λ b. here || b) (effect_of_both functions ns ks) ∙ sym (or_assoc here (have_effect functions ns) (have_effect functions ks))

-- ## Rules

pub has_none : Has 0 0 0 false no_tally
unfolding no_tally capped
has_none = record { steps_are = omega arith; calls_are = refl; bytes_are = refl; alloc_is = refl }

pub has_steps : (n : ℕ) → Has n 0 0 false (some_steps n)
unfolding some_steps
has_steps n = record { steps_are = refl; calls_are = refl; bytes_are = refl; alloc_is = refl }

pub has_turn : (m k b n j d : ℕ) (e f : Bool) (s t : Tally) → Has m k b e s → Has n j d f t → Has (m + n) (max k j) (max b d) (e || f) (in_turn s t)
unfolding in_turn
has_turn m k b n j d e f s t x y = record {
  steps_are = (λ i. capped (x.steps_are i + y.steps_are i)) ∙ capped_sum m n;
  calls_are = λ i. max (x.calls_are i) (y.calls_are i);
  bytes_are = λ i. max (x.bytes_are i) (y.bytes_are i);
  alloc_is = λ i. x.alloc_is i || y.alloc_is i;
}

pub has_one : (m k b n j d : ℕ) (e f : Bool) (s t : Tally) → Has m k b e s → Has n j d f t → Has (max m n) (max k j) (max b d) (e || f) (one_of s t)
unfolding one_of
has_one m k b n j d e f s t x y = record {
  steps_are = (λ i. max (x.steps_are i) (y.steps_are i)) ∙ capped_max m n;
  calls_are = λ i. max (x.calls_are i) (y.calls_are i);
  bytes_are = λ i. max (x.bytes_are i) (y.bytes_are i);
  alloc_is = λ i. x.alloc_is i || y.alloc_is i;
}

pub has_often : (m k b n : ℕ) (e : Bool) (s : Tally) → Has m k b e s → Has (n * m) k b e (as_often n s)
unfolding as_often
has_often m k b n e s x = record {
  steps_are = ap (λ z. capped (n * z)) x.steps_are ∙ capped_product n m;
  calls_are = x.calls_are;
  bytes_are = x.bytes_are;
  alloc_is = x.alloc_is;
}

-- the same numbers, written otherwise
pub has_same : (m k b n j d : ℕ) (e f : Bool) (t : Tally) → m ≡ n → k ≡ j → b ≡ d → e ≡ f → Has m k b e t → Has n j d f t
has_same m k b n j d e f t p q r o x = record {
  steps_are = x.steps_are ∙ ap capped p;
  calls_are = x.calls_are ∙ q;
  bytes_are = x.bytes_are ∙ r;
  alloc_is = x.alloc_is ∙ o;
}

max_zero : (n : ℕ) → max 0 n ≡ n
max_zero n = omega arith

pub has_paying : (m k b : ℕ) (e : Bool) (t : Tally) → Has m k b e t → Has (1 + m) k b e (paying t)
has_paying m k b e t x = has_same (1 + m) (max 0 k) (max 0 b) (1 + m) k b (false || e) e (paying t) refl (max_zero k) (max_zero b) refl
    (has_turn 1 0 0 m k b false e (some_steps 1) t (has_steps 1) x)

pub has_callee : (functions : List Func) (g : ℕ) → Has (steps_claimed (slice_get functions g)) (calls_claimed (slice_get functions g)) (bytes_claimed (slice_get functions g)) (alloc_claimed (slice_get functions g)) (of_callee (slice_get functions g))
unfolding of_callee
has_callee functions g = record { steps_are = refl; calls_are = refl; bytes_are = refl; alloc_is = refl }

pub has_library : (l : Library) → Has 1 0 0 (manages_memory l) (of_library l)
unfolding of_library capped
has_library l = record { steps_are = omega arith; calls_are = refl; bytes_are = refl; alloc_is = refl }

-- ## Rules for trees

pub tells_turn : (functions : List Func) (m n : ℕ) (ns ks : List PlainNode) (s t : Tally) → Tells functions m ns s → Tells functions n ks t → Tells functions (m + n) (ns ++ ks) (in_turn s t)
tells_turn functions m n ns ks s t x y =
    has_same (m + n) (max (calls_of functions ns) (calls_of functions ks)) (max (bytes_of functions ns) (bytes_of functions ks)) (m + n) (calls_of functions (ns ++ ks)) (bytes_of functions (ns ++ ks))
    (have_effect functions ns || have_effect functions ks) (have_effect functions (ns ++ ks)) (in_turn s t)
    refl (sym (greatest_of_both (λ g. calls_claimed (slice_get functions g)) ns ks)) (sym (greatest_of_both (λ g. bytes_claimed (slice_get functions g)) ns ks)) (sym (effect_of_both functions ns ks))
    (has_turn m (calls_of functions ns) (bytes_of functions ns) n (calls_of functions ks) (bytes_of functions ks) (have_effect functions ns) (have_effect functions ks) s t x y)

pub tells_one : (functions : List Func) (m n : ℕ) (ns ks : List PlainNode) (s t : Tally) → Tells functions m ns s → Tells functions n ks t → Tells functions (max m n) (ns ++ ks) (one_of s t)
tells_one functions m n ns ks s t x y =
    has_same (max m n) (max (calls_of functions ns) (calls_of functions ks)) (max (bytes_of functions ns) (bytes_of functions ks)) (max m n) (calls_of functions (ns ++ ks)) (bytes_of functions (ns ++ ks))
    (have_effect functions ns || have_effect functions ks) (have_effect functions (ns ++ ks)) (one_of s t)
    refl (sym (greatest_of_both (λ g. calls_claimed (slice_get functions g)) ns ks)) (sym (greatest_of_both (λ g. bytes_claimed (slice_get functions g)) ns ks)) (sym (effect_of_both functions ns ks))
    (has_one m (calls_of functions ns) (bytes_of functions ns) n (calls_of functions ks) (bytes_of functions ks) (have_effect functions ns) (have_effect functions ks) s t x y)

pub tells_paying : (functions : List Func) (m : ℕ) (ns : List PlainNode) (t : Tally) → Tells functions m ns t → Tells functions (1 + m) ns (paying t)
tells_paying functions m ns t x = has_paying m (calls_of functions ns) (bytes_of functions ns) (have_effect functions ns) t x

pub tells_often : (functions : List Func) (m n : ℕ) (ns : List PlainNode) (t : Tally) → Tells functions m ns t → Tells functions (n * m) ns (as_often n t)
tells_often functions m n ns t x = has_often m (calls_of functions ns) (bytes_of functions ns) n (have_effect functions ns) t x

-- ## Loops: the parts stand in another order among the nodes

more_turns : (n m : ℕ) → m + n * m ≡ (n + 1) * m
more_turns n m = omega arith

or_same : (b : Bool) → (b || b) ≡ b
or_same true = refl
or_same false = refl

pub or_swap : (a b : Bool) → (a || b) ≡ (b || a)
or_swap true true = refl
or_swap true false = refl
or_swap false true = refl
or_swap false false = refl

-- what the parts of a loop have together
has_tests : (m k b n : ℕ) (e : Bool) (t : Tally) → Has m k b e t → Has ((n + 1) * m) k b e (in_turn t (as_often n t))
has_tests m k b n e t x = has_same (m + n * m) (max k k) (max b b) ((n + 1) * m) k b (e || e) e (in_turn t (as_often n t)) (more_turns n m) same_k same_b (or_same e)
    (has_turn m k b (n * m) k b e e t (as_often n t) x (has_often m k b n e t x))
  where
    same_k : max k k ≡ k
    same_k = omega arith

    same_b : max b b ≡ b
    same_b = omega arith

regroup_max : (f t h b : ℕ) → max f (max t (max b h)) ≡ max f (max t (max h b))
regroup_max f t h b = omega arith

regroup_do : (f t h b : ℕ) → max f (max b (max h t)) ≡ max f (max b (max t h))
regroup_do f t h b = omega arith

module _ (functions : List Func) (n f t h b : ℕ) (fs ts hs bs : List PlainNode) (first test third body : Tally)
    (is_first : Tells functions f fs first) (is_test : Tells functions t ts test) (is_third : Tells functions h hs third) (is_body : Tells functions b bs body) where
  tested_first : Tells functions (1 + (f + ((n + 1) * t + n * (b + h)))) (fs ++ (ts ++ (bs ++ hs))) (paying (in_turn first (in_turn (in_turn test (as_often n test)) (as_often n (in_turn body third)))))
  tested_first =
      tells_paying functions (f + ((n + 1) * t + n * (b + h))) (fs ++ (ts ++ (bs ++ hs))) _
      (tells_turn functions f ((n + 1) * t + n * (b + h)) fs (ts ++ (bs ++ hs)) first _ is_first
      (tells_turn functions ((n + 1) * t) (n * (b + h)) ts (bs ++ hs) _ _
      (has_tests t (calls_of functions ts) (bytes_of functions ts) n (have_effect functions ts) test is_test)
      (tells_often functions (b + h) n (bs ++ hs) _ (tells_turn functions b h bs hs body third is_body is_third))))

  turned_first : Tells functions (1 + (f + n * (b + (h + t)))) (fs ++ (bs ++ (hs ++ ts))) (paying (in_turn first (as_often n (in_turn body (in_turn third test)))))
  turned_first =
      tells_paying functions (f + n * (b + (h + t))) (fs ++ (bs ++ (hs ++ ts))) _
      (tells_turn functions f (n * (b + (h + t))) fs (bs ++ (hs ++ ts)) first _ is_first
      (tells_often functions (b + (h + t)) n (bs ++ (hs ++ ts)) _ (tells_turn functions b (h + t) bs (hs ++ ts) body _ is_body (tells_turn functions h t hs ts third test is_third is_test))))

-- nodes in another order give the same
swapped : (g : ℕ → ℕ) (xs ys : List PlainNode) → greatest_number (map g (callees (xs ++ ys))) ≡ greatest_number (map g (callees (ys ++ xs)))
swapped g xs ys = greatest_of_both g xs ys ∙ (swap (greatest_number (map g (callees xs))) (greatest_number (map g (callees ys))) ∙ sym (greatest_of_both g ys xs))
  where
    swap : (a b : ℕ) → max a b ≡ max b a
    swap a b = omega arith

swapped_after : (g : ℕ → ℕ) (ps xs ys : List PlainNode) → greatest_number (map g (callees (ps ++ (xs ++ ys)))) ≡ greatest_number (map g (callees (ps ++ (ys ++ xs))))
swapped_after g ps xs ys = greatest_of_both g ps (xs ++ ys) ∙ (ap (max (greatest_number (map g (callees ps)))) (swapped g xs ys) ∙ sym (greatest_of_both g ps (ys ++ xs)))

pub swapped_last : (g : ℕ → ℕ) (qs ps xs ys : List PlainNode) → greatest_number (map g (callees (qs ++ (ps ++ (xs ++ ys))))) ≡ greatest_number (map g (callees (qs ++ (ps ++ (ys ++ xs)))))
swapped_last g qs ps xs ys = greatest_of_both g qs (ps ++ (xs ++ ys)) ∙ (ap (max (greatest_number (map g (callees qs)))) (swapped_after g ps xs ys) ∙ sym (greatest_of_both g qs (ps ++ (ys ++ xs))))

effect_swapped : (functions : List Func) (qs ps xs ys : List PlainNode) → have_effect functions (qs ++ (ps ++ (xs ++ ys))) ≡ have_effect functions (qs ++ (ps ++ (ys ++ xs)))
effect_swapped functions qs ps xs ys =
    effect_of_both functions qs (ps ++ (xs ++ ys)) ∙ (ap (λ b. have_effect functions qs || b)
    (effect_of_both functions ps (xs ++ ys) ∙ (ap (λ b. have_effect functions ps || b) (effect_of_both functions xs ys ∙ (or_swap (have_effect functions xs) (have_effect functions ys) ∙ sym (effect_of_both functions ys xs))) ∙ sym (effect_of_both functions ps (ys ++ xs))))
    ∙ sym (effect_of_both functions qs (ps ++ (ys ++ xs))))

tells_swapped : (functions : List Func) (m : ℕ) (qs ps xs ys : List PlainNode) (t : Tally) → Tells functions m (qs ++ (ps ++ (xs ++ ys))) t → Tells functions m (qs ++ (ps ++ (ys ++ xs))) t
tells_swapped functions m qs ps xs ys t x =
    has_same m (calls_of functions (qs ++ (ps ++ (xs ++ ys)))) (bytes_of functions (qs ++ (ps ++ (xs ++ ys)))) m (calls_of functions (qs ++ (ps ++ (ys ++ xs)))) (bytes_of functions (qs ++ (ps ++ (ys ++ xs))))
    (have_effect functions (qs ++ (ps ++ (xs ++ ys)))) (have_effect functions (qs ++ (ps ++ (ys ++ xs)))) t
    refl (swapped_last (λ g. calls_claimed (slice_get functions g)) qs ps xs ys) (swapped_last (λ g. bytes_claimed (slice_get functions g)) qs ps xs ys) (effect_swapped functions qs ps xs ys) x

pub tells_loop : (functions : List Func) (keyword : LoopKeyword) (n f t h b : ℕ) (fs ts hs bs : List PlainNode) (first test third body : Tally) →
    Tells functions f fs first → Tells functions t ts test → Tells functions h hs third → Tells functions b bs body →
    Tells functions (loop_cost keyword n f t h b) (in_loop_order keyword fs ts hs bs) (loop_tally keyword n first test third body)
unfolding loop_tally
tells_loop functions While n f t h b fs ts hs bs first test third body u v w x =
    tells_swapped functions (1 + (f + ((n + 1) * t + n * (b + h)))) fs ts bs hs _ (tested_first functions n f t h b fs ts hs bs first test third body u v w x)
tells_loop functions For n f t h b fs ts hs bs first test third body u v w x =
    tells_swapped functions (1 + (f + ((n + 1) * t + n * (b + h)))) fs ts bs hs _ (tested_first functions n f t h b fs ts hs bs first test third body u v w x)
tells_loop functions Do n f t h b fs ts hs bs first test third body u v w x =
    tells_swapped functions (1 + (f + n * (b + (h + t)))) fs bs hs ts _ (turned_first functions n f t h b fs ts hs bs first test third body u v w x)
