-- The tally of each tree gives its cost and its calls, by induction on trees.
use Rattle.std.proofs.Common.{◌≡◌, ℕ, ◌+◌, max, Bool, true, false, List, [], ◌∷◌, ◌++◌, refl, sym, ap, arith, Option, Some, None}
use Rattle.std.specs.Prelude.{◌||◌, slice_get}
use Rattle.p10_core.specs.declared.typed.Library.{Library}
use Rattle.p10_core.specs.Typed.{PlainValue, value, constant, read, sense, address, decay, convert, cast, unary, binary, logic, conditional, call, built_in, PlainPlace, place, place_type, variable, global, literal, index, member, dereference, PlainValues, no_values, more_values}
use Rattle.p10_core.specs.Typed.{PlainWritten, one_scalar, scalars_of_text, PlainItem, PlainInitializer, not_initialized, single, copied, listed, PlainStatement, statement, set, update, copy, evaluate, asserts, declare, declare_static, block, if_then, if_else, loop, switch, break, continue, return, empty, mark, PlainStatements, no_statements, more_statements}
use Rattle.p10_core.specs.Nodes.{PlainNode, nodes_of_value, nodes_of_place, nodes_of_values, nodes_of_maybe, nodes_of_written, nodes_of_items, nodes_of_initializer, nodes_of_statement, nodes_of_statements}
use Rattle.p10_cert.specs.Claims.{Func}
use Rattle.p10_meaning.specs.Values.{width}
use Rattle.p10_core.specs.Uses.{manages_memory}
use Rattle.p10_sums.specs.declared.tally.Tally.{Tally}
use Rattle.p10_sums.specs.Counting.{Counting, turns_claimed, steps_claimed, calls_claimed, bytes_claimed, alloc_claimed}
use Rattle.p10_sums.specs.Costs.{value_cost, place_cost, values_cost, written_cost, items_cost, initializer_cost, variable_width, test_cost, return_cost, statement_cost, statements_cost}
use Rattle.p10_sums.specs.Depths.{have_effect}
use Rattle.p10_sums.specs.private.Tallies.{some_steps, in_turn, one_of, of_callee, of_library, of_width}
use Rattle.p10_sums.specs.private.Walks.{paying, value_tally, place_tally, values_tally, written_tally, items_tally, initializer_tally, variable_tally, test_tally, return_tally, statement_tally, statements_tally}
use Rattle.p10_sums.proofs.Telling.{calls_of, bytes_of, or_swap, Has, Tells, has_none, has_steps, has_turn, has_same, has_paying, has_callee, has_library, tells_turn, tells_one, tells_paying, tells_loop}

no_effect : (b : Bool) → b ≡ (b || false)
no_effect true = refl
no_effect false = refl

swap : (a b : ℕ) → max a b ≡ max b a
swap a b = omega arith

none : (a : ℕ) → max 0 a ≡ a
none a = omega arith

-- what a tally has of a call: its own claim and what its arguments do
tells_call : (functions : List Func) (steps g : ℕ) (ns : List PlainNode) (t : Tally) → Tells functions steps ns t →
    Has (1 + (steps + steps_claimed (slice_get functions g))) (max (calls_claimed (slice_get functions g)) (calls_of functions ns)) (max (bytes_claimed (slice_get functions g)) (bytes_of functions ns))
    (alloc_claimed (slice_get functions g) || have_effect functions ns) (paying (in_turn t (of_callee (slice_get functions g))))
tells_call functions steps g ns t x =
    has_paying (steps + steps_claimed (slice_get functions g)) (max (calls_claimed (slice_get functions g)) (calls_of functions ns)) (max (bytes_claimed (slice_get functions g)) (bytes_of functions ns))
    (alloc_claimed (slice_get functions g) || have_effect functions ns) (in_turn t (of_callee (slice_get functions g)))
    (has_same (steps + steps_claimed (slice_get functions g)) (max (calls_of functions ns) (calls_claimed (slice_get functions g))) (max (bytes_of functions ns) (bytes_claimed (slice_get functions g)))
    (steps + steps_claimed (slice_get functions g)) (max (calls_claimed (slice_get functions g)) (calls_of functions ns)) (max (bytes_claimed (slice_get functions g)) (bytes_of functions ns))
    (have_effect functions ns || alloc_claimed (slice_get functions g)) (alloc_claimed (slice_get functions g) || have_effect functions ns) (in_turn t (of_callee (slice_get functions g)))
    refl (swap (calls_of functions ns) (calls_claimed (slice_get functions g))) (swap (bytes_of functions ns) (bytes_claimed (slice_get functions g))) (or_swap (have_effect functions ns) (alloc_claimed (slice_get functions g)))
    (has_turn steps (calls_of functions ns) (bytes_of functions ns) (steps_claimed (slice_get functions g)) (calls_claimed (slice_get functions g)) (bytes_claimed (slice_get functions g))
    (have_effect functions ns) (alloc_claimed (slice_get functions g)) t (of_callee (slice_get functions g)) x (has_callee functions g)))

-- what a tally has of a call of a library function
tells_built_in : (functions : List Func) (steps : ℕ) (l : Library) (ns : List PlainNode) (t : Tally) → Tells functions steps ns t →
    Has (1 + steps) (calls_of functions ns) (bytes_of functions ns) ((manages_memory l || false) || have_effect functions ns) (in_turn (of_library l) t)
tells_built_in functions steps l ns t x =
    has_same (1 + steps) (max 0 (calls_of functions ns)) (max 0 (bytes_of functions ns)) (1 + steps) (calls_of functions ns) (bytes_of functions ns)
    (manages_memory l || have_effect functions ns) ((manages_memory l || false) || have_effect functions ns) (in_turn (of_library l) t)
    refl (none (calls_of functions ns)) (none (bytes_of functions ns)) (ap (λ b. b || have_effect functions ns) (no_effect (manages_memory l)))
    (has_turn 1 0 0 steps (calls_of functions ns) (bytes_of functions ns) (manages_memory l) (have_effect functions ns) (of_library l) t (has_library l) x)

-- steps alone beside what a tree gives
tells_steps : (functions : List Func) (m n : ℕ) (ns : List PlainNode) (t : Tally) → Tells functions m ns t → Tells functions (m + n) ns (in_turn t (some_steps n))
tells_steps functions m n ns t x =
    has_same (m + n) (max (calls_of functions ns) 0) (max (bytes_of functions ns) 0) (m + n) (calls_of functions ns) (bytes_of functions ns)
    (have_effect functions ns || false) (have_effect functions ns) (in_turn t (some_steps n))
    refl (last (calls_of functions ns)) (last (bytes_of functions ns)) (sym (no_effect (have_effect functions ns)))
    (has_turn m (calls_of functions ns) (bytes_of functions ns) n 0 0 (have_effect functions ns) false t (some_steps n) x (has_steps n))
  where
    last : (a : ℕ) → max a 0 ≡ a
    last a = omega arith

-- ## Values and places

mutual
  pub value_tells : (c : Counting) (v : PlainValue) → Tells c.functions (value_cost c v) (nodes_of_value v) (value_tally c v)
  value_tells c (value at t (constant z)) = has_steps 1
  value_tells c (value at t (read p)) = tells_paying c.functions (place_cost c p) (nodes_of_place p) (place_tally c p) (place_tells c p)
  value_tells c (value at t (sense n)) = has_steps 1
  value_tells c (value at t (address p)) = tells_paying c.functions (place_cost c p) (nodes_of_place p) (place_tally c p) (place_tells c p)
  value_tells c (value at t (decay p)) = tells_paying c.functions (place_cost c p) (nodes_of_place p) (place_tally c p) (place_tells c p)
  value_tells c (value at t (convert v)) = value_tells c v
  value_tells c (value at t (cast v)) = tells_paying c.functions (value_cost c v) (nodes_of_value v) (value_tally c v) (value_tells c v)
  value_tells c (value at t (unary op v)) = tells_paying c.functions (value_cost c v) (nodes_of_value v) (value_tally c v) (value_tells c v)
  value_tells c (value at t (binary op a b)) =
      tells_paying c.functions (value_cost c a + value_cost c b) (nodes_of_value a ++ nodes_of_value b) (in_turn (value_tally c a) (value_tally c b))
      (tells_turn c.functions (value_cost c a) (value_cost c b) (nodes_of_value a) (nodes_of_value b) (value_tally c a) (value_tally c b) (value_tells c a) (value_tells c b))
  value_tells c (value at t (logic op a b)) =
      tells_paying c.functions (value_cost c a + value_cost c b) (nodes_of_value a ++ nodes_of_value b) (in_turn (value_tally c a) (value_tally c b))
      (tells_turn c.functions (value_cost c a) (value_cost c b) (nodes_of_value a) (nodes_of_value b) (value_tally c a) (value_tally c b) (value_tells c a) (value_tells c b))
  value_tells c (value at t (conditional v a b)) =
      tells_paying c.functions (value_cost c v + max (value_cost c a) (value_cost c b)) (nodes_of_value v ++ (nodes_of_value a ++ nodes_of_value b)) (in_turn (value_tally c v) (one_of (value_tally c a) (value_tally c b)))
      (tells_turn c.functions (value_cost c v) (max (value_cost c a) (value_cost c b)) (nodes_of_value v) (nodes_of_value a ++ nodes_of_value b) (value_tally c v) (one_of (value_tally c a) (value_tally c b)) (value_tells c v)
      (tells_one c.functions (value_cost c a) (value_cost c b) (nodes_of_value a) (nodes_of_value b) (value_tally c a) (value_tally c b) (value_tells c a) (value_tells c b)))
  value_tells c (value at t (call name g arguments)) = tells_call c.functions (values_cost c arguments) g (nodes_of_values arguments) (values_tally c arguments) (values_tell c arguments)
  value_tells c (value at t (built_in name l arguments)) = tells_built_in c.functions (values_cost c arguments) l (nodes_of_values arguments) (values_tally c arguments) (values_tell c arguments)

  pub place_tells : (c : Counting) (p : PlainPlace) → Tells c.functions (place_cost c p) (nodes_of_place p) (place_tally c p)
  place_tells c (place at t (variable n)) = has_none
  place_tells c (place at t (global n)) = has_none
  place_tells c (place at t (literal n bytes)) = has_none
  place_tells c (place at t (index a i)) =
      tells_paying c.functions (value_cost c a + value_cost c i) (nodes_of_value a ++ nodes_of_value i) (in_turn (value_tally c a) (value_tally c i))
      (tells_turn c.functions (value_cost c a) (value_cost c i) (nodes_of_value a) (nodes_of_value i) (value_tally c a) (value_tally c i) (value_tells c a) (value_tells c i))
  place_tells c (place at t (member p m)) = tells_paying c.functions (place_cost c p) (nodes_of_place p) (place_tally c p) (place_tells c p)
  place_tells c (place at t (dereference v)) = tells_paying c.functions (value_cost c v) (nodes_of_value v) (value_tally c v) (value_tells c v)

  pub values_tell : (c : Counting) (vs : PlainValues) → Tells c.functions (values_cost c vs) (nodes_of_values vs) (values_tally c vs)
  values_tell c no_values = has_none
  values_tell c (more_values v vs) = tells_turn c.functions (value_cost c v) (values_cost c vs) (nodes_of_value v) (nodes_of_values vs) (value_tally c v) (values_tally c vs) (value_tells c v) (values_tell c vs)

-- ## Initialisers

written_tells : (c : Counting) (w : PlainWritten) → Tells c.functions (written_cost c w) (nodes_of_written w) (written_tally c w)
written_tells c (one_scalar v) = value_tells c v
written_tells c (scalars_of_text bytes) = has_none

items_tell : (c : Counting) (items : List PlainItem) → Tells c.functions (items_cost c items) (nodes_of_items items) (items_tally c items)
items_tell c [] = has_none
items_tell c (i ∷ items) = tells_turn c.functions (written_cost c i.written) (items_cost c items) (nodes_of_written i.written) (nodes_of_items items) (written_tally c i.written) (items_tally c items) (written_tells c i.written) (items_tell c items)

initializer_tells : (c : Counting) (scalars : ℕ) (i : PlainInitializer) → Tells c.functions (initializer_cost c scalars i) (nodes_of_initializer i) (initializer_tally c (some_steps scalars) i)
initializer_tells c scalars not_initialized = has_none
initializer_tells c scalars (single v) = value_tells c v
initializer_tells c scalars (copied p) =
    tells_paying c.functions (place_cost c p + scalars) (nodes_of_place p) (in_turn (place_tally c p) (some_steps scalars))
    (tells_steps c.functions (place_cost c p) scalars (nodes_of_place p) (place_tally c p) (place_tells c p))
initializer_tells c scalars (listed at items) = tells_steps c.functions (items_cost c items) scalars (nodes_of_items items) (items_tally c items) (items_tell c items)

-- ## Statements

test_tells : (c : Counting) (v : Option PlainValue) → Tells c.functions (test_cost c v) (nodes_of_maybe v) (test_tally c v)
test_tells c None = has_steps 1
test_tells c (Some v) = value_tells c v

return_tells : (c : Counting) (v : Option PlainValue) → Tells c.functions (return_cost c v) (nodes_of_maybe v) (return_tally c v)
return_tells c None = has_steps 1
return_tells c (Some v) = tells_paying c.functions (value_cost c v) (nodes_of_value v) (value_tally c v) (value_tells c v)

mutual
  pub statement_tells : (c : Counting) (s : PlainStatement) → Tells c.functions (statement_cost c s) (nodes_of_statement s) (statement_tally c s)
  statement_tells c (statement at (set p v)) =
      tells_paying c.functions (place_cost c p + value_cost c v) (nodes_of_place p ++ nodes_of_value v) (in_turn (place_tally c p) (value_tally c v))
      (tells_turn c.functions (place_cost c p) (value_cost c v) (nodes_of_place p) (nodes_of_value v) (place_tally c p) (value_tally c v) (place_tells c p) (value_tells c v))
  statement_tells c (statement at (update kind op t p v)) =
      tells_paying c.functions (place_cost c p + (1 + (value_cost c v + 1))) (nodes_of_place p ++ nodes_of_value v) (in_turn (place_tally c p) (paying (in_turn (value_tally c v) (some_steps 1))))
      (tells_turn c.functions (place_cost c p) (1 + (value_cost c v + 1)) (nodes_of_place p) (nodes_of_value v) (place_tally c p) (paying (in_turn (value_tally c v) (some_steps 1))) (place_tells c p)
      (tells_paying c.functions (value_cost c v + 1) (nodes_of_value v) (in_turn (value_tally c v) (some_steps 1)) (tells_steps c.functions (value_cost c v) 1 (nodes_of_value v) (value_tally c v) (value_tells c v))))
  statement_tells c (statement at (copy p q)) =
      tells_paying c.functions (place_cost c p + (place_cost c q + width c.program (place_type p))) (nodes_of_place p ++ nodes_of_place q) (in_turn (place_tally c p) (in_turn (place_tally c q) (of_width c (place_type p))))
      (tells_turn c.functions (place_cost c p) (place_cost c q + width c.program (place_type p)) (nodes_of_place p) (nodes_of_place q) (place_tally c p) (in_turn (place_tally c q) (of_width c (place_type p))) (place_tells c p)
      (tells_steps c.functions (place_cost c q) (width c.program (place_type p)) (nodes_of_place q) (place_tally c q) (place_tells c q)))
  statement_tells c (statement at (evaluate v)) = tells_paying c.functions (value_cost c v) (nodes_of_value v) (value_tally c v) (value_tells c v)
  statement_tells c (statement at (asserts there v)) = tells_paying c.functions (value_cost c v) (nodes_of_value v) (value_tally c v) (value_tells c v)
  statement_tells c (statement at (declare n i)) =
      tells_paying c.functions (initializer_cost c (variable_width c (slice_get c.variables n)) i) (nodes_of_initializer i) (initializer_tally c (variable_tally c (slice_get c.variables n)) i)
      (initializer_tells c (variable_width c (slice_get c.variables n)) i)
  statement_tells c (statement at (declare_static n)) = has_none
  statement_tells c (statement at (block ss)) = statements_tell c ss
  statement_tells c (statement at (if_then v s)) =
      tells_paying c.functions (value_cost c v + statement_cost c s) (nodes_of_value v ++ nodes_of_statement s) (in_turn (value_tally c v) (statement_tally c s))
      (tells_turn c.functions (value_cost c v) (statement_cost c s) (nodes_of_value v) (nodes_of_statement s) (value_tally c v) (statement_tally c s) (value_tells c v) (statement_tells c s))
  statement_tells c (statement at (if_else v s t)) =
      tells_paying c.functions (value_cost c v + max (statement_cost c s) (statement_cost c t)) (nodes_of_value v ++ (nodes_of_statement s ++ nodes_of_statement t)) (in_turn (value_tally c v) (one_of (statement_tally c s) (statement_tally c t)))
      (tells_turn c.functions (value_cost c v) (max (statement_cost c s) (statement_cost c t)) (nodes_of_value v) (nodes_of_statement s ++ nodes_of_statement t) (value_tally c v) (one_of (statement_tally c s) (statement_tally c t)) (value_tells c v)
      (tells_one c.functions (statement_cost c s) (statement_cost c t) (nodes_of_statement s) (nodes_of_statement t) (statement_tally c s) (statement_tally c t) (statement_tells c s) (statement_tells c t)))
  statement_tells c (statement at (loop head first test third body)) =
      tells_loop c.functions head.keyword (turns_claimed (slice_get c.loops head.number)) (statements_cost c first) (test_cost c test) (statements_cost c third) (statement_cost c body)
      (nodes_of_statements first) (nodes_of_maybe test) (nodes_of_statements third) (nodes_of_statement body) (statements_tally c first) (test_tally c test) (statements_tally c third) (statement_tally c body)
      (statements_tell c first) (test_tells c test) (statements_tell c third) (statement_tells c body)
  statement_tells c (statement at (switch span v labels body)) =
      tells_paying c.functions (value_cost c v + statement_cost c body) (nodes_of_value v ++ nodes_of_statement body) (in_turn (value_tally c v) (statement_tally c body))
      (tells_turn c.functions (value_cost c v) (statement_cost c body) (nodes_of_value v) (nodes_of_statement body) (value_tally c v) (statement_tally c body) (value_tells c v) (statement_tells c body))
  statement_tells c (statement at break) = has_steps 1
  statement_tells c (statement at continue) = has_steps 1
  statement_tells c (statement at (return span v)) = return_tells c v
  statement_tells c (statement at empty) = has_steps 1
  statement_tells c (statement at (mark kind)) = has_none

  pub statements_tell : (c : Counting) (ss : PlainStatements) → Tells c.functions (statements_cost c ss) (nodes_of_statements ss) (statements_tally c ss)
  statements_tell c no_statements = has_none
  statements_tell c (more_statements s ss) =
      tells_turn c.functions (statement_cost c s) (statements_cost c ss) (nodes_of_statement s) (nodes_of_statements ss) (statement_tally c s) (statements_tally c ss) (statement_tells c s) (statements_tell c ss)
