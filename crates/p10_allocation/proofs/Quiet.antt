-- Trees that neither allocate nor free, themselves or by calls, leave the count as it is.
use Rattle.std.proofs.Common.{◌≡◌, ℕ, zero, suc, ◌+◌, ◌<◌, ◌||◌, Bool, true, false, List, [], ◌∷◌, length, refl, sym, ◌∙◌, ap, subst, arith, Option, Some, None, slice_get, inl, inr}
use Rattle.std.specs.List.{Contains, filter}
use Rattle.std.proofs.lemmas.Option.{slice_get_within}
use Rattle.p10_base.specs.declared.span.Span.{Span}
use Rattle.p10_base.specs.declared.at.At.{At}
use Rattle.p10_core.specs.declared.uses.FunctionUse.{FunctionUse}
use Rattle.p10_core.specs.Types.{PlainType}
use Rattle.p10_core.specs.Typed.{value, PlainForm, call, built_in, PlainFunction, PlainProgram}
use Rattle.p10_core.specs.Nodes.{PlainNode, a_statement, a_value, a_place, nodes_of_statements}
use Rattle.p10_core.specs.Uses.{function_used, manages_memory}
use Rattle.p10_graph.specs.Graphs.{Edge}
use Rattle.p10_graph.proofs.Walks.{reaches_itself, reaches_next, reaches_on}
use Rattle.p10_calls.specs.CallSites.{call_sites, calls_by, site}
use Rattle.p10_calls.specs.CallGraphs.{call_graph}
use Rattle.p10_calls.proofs.Lists.{none_in, first_or_later, here, there, kept, passes}
use Rattle.p10_calls.proofs.Standing.{site_there}
use Rattle.p10_calls.proofs.Edges.{edge_there}
use Rattle.p10_flowrules.specs.declared.calls.AnyCall.{AnyCall}
use Rattle.p10_flowrules.specs.declared.calls.Called.TheVariants.{Function, Library as LibraryCall}
use Rattle.p10_flowrules.specs.AnyCalls.{call_made}
use Rattle.p10_flowrules.specs.Allocating.{is_memory_call, has_memory_call, AllocatesOrFrees, IsAllocating, late_statements, late_calls, AreLateAllocations}
use Rattle.p10_flowrules.specs.FlowRows.{ViolatesFlow, late_allocation, allocation_row}
use Rattle.p10_flowrules.proofs.MemoryWalks.{allocating_within}
use Rattle.p10_meaning.specs.declared.pointers.Scalar.{Scalar}
use Rattle.p10_meaning.specs.States.{State}
use Rattle.p10_meaning.specs.Values.{Calls}
use Rattle.p10_meaning.specs.Calling.{Depth, deeper, enter_call, call_at}
use Rattle.p10_allocation.proofs.Outcomes.{Each, Leaves, Keeps, leaves_here, leaves_step}
use Rattle.p10_allocation.proofs.Calls.{enter_leaves}

-- ## Quiet nodes

-- a form of value neither allocates nor frees, itself or by its call
abbrev pub IsQuietForm : PlainProgram → PlainForm → Type 0
IsQuietForm p (call name f arguments) = AllocatesOrFrees p f → ⊥
IsQuietForm p (built_in name f arguments) = manages_memory f ≡ true → ⊥
IsQuietForm p form = Unit {0}

-- the same for a node
abbrev pub IsQuiet : PlainProgram → PlainNode → Type 0
IsQuiet p (a_statement x) = Unit {0}
IsQuiet p (a_value (value at t form)) = IsQuietForm p form
IsQuiet p (a_place q) = Unit {0}

-- what holds for each node that a list contains holds for each of its nodes
each_of : (N : PlainNode → Type 0) (ns : List PlainNode) → ((n : PlainNode) → Contains ns n → N n) → Each N ns
each_of N [] h = tt
each_of N (n ∷ ns) h = (h n (here n ns), each_of N ns (λ m c. h m (there n ns m c)))

-- ## Bodies of functions

memory_among : (ns : List PlainNode) (n : PlainNode) → Contains ns n → is_memory_call (call_made n) ≡ true → has_memory_call ns ≡ true
memory_among [] n c e = absurd (none_in n c)
memory_among (m ∷ ns) n c e = elim (first_or_later m ns n c) [
  | inl same ↦ ap (λ b. b || has_memory_call ns) (ap (λ n. is_memory_call (call_made n)) same ∙ e)
  | inr later ↦ ap (λ b. is_memory_call (call_made m) || b) (memory_among ns n later e) ∙ or_true (is_memory_call (call_made m))
]
  where
    or_true : (b : Bool) → (b || true) ≡ true
    or_true true = refl
    or_true false = refl

-- a function that a body calls, where it allocates or frees, makes the function of that body one that does
called_allocates : (p : PlainProgram) (g : ℕ) (f : PlainFunction) → slice_get p.functions g ≡ Some f → (one : FunctionUse) → Contains (calls_by f) one → AllocatesOrFrees p one.function → AllocatesOrFrees p g
called_allocates p g f found one made a =
    let number : 0 + g ≡ g = omega arith in
    let stands : Contains (call_sites p) (site g one) = subst (λ (k : ℕ). Contains (call_sites p) (site k one)) number (site_there 0 g p.functions f one found made) in
    let low : g < length p.functions = slice_get_within p.functions g f found in
    let edge : Edge (call_graph p) g one.function = edge_there p (site g one) g one.function stands (record { caller_is = refl; called_is = refl; caller_low = low; called_low = allocating_within p one.function a }) in
    record {
      last = a.last;
      function = a.function;
      there = a.there;
      itself = a.itself;
      reached = reaches_on (call_graph p) g one.function a.last (reaches_next (call_graph p) g one.function edge) a.reached;
    }

module _ (p : PlainProgram) (g : ℕ) (f : PlainFunction) (found : slice_get p.functions g ≡ Some f) (quiet : AllocatesOrFrees p g → ⊥) where
  form_quiet : (at : At) (t : PlainType) (form : PlainForm) → Contains (nodes_of_statements f.body) (a_value (value at t form)) → IsQuietForm p form
  form_quiet at t (call name k arguments) c =
      λ a. quiet (called_allocates p g f found (record { at = at; name = name; function = k }) (kept function_used (nodes_of_statements f.body) (a_value (value at t (call name k arguments))) _ c refl) a)
  form_quiet at t (built_in name k arguments) c = λ e. quiet (record {
    last = g;
    function = f;
    there = found;
    itself = memory_among (nodes_of_statements f.body) (a_value (value at t (built_in name k arguments))) c e;
    reached = reaches_itself (call_graph p) g;
  })
  form_quiet at t form c = tt

  node_quiet : (n : PlainNode) → Contains (nodes_of_statements f.body) n → IsQuiet p n
  node_quiet (a_statement x) c = tt
  node_quiet (a_value (value at t form)) c = form_quiet at t form c
  node_quiet (a_place q) c = tt

  -- the body of a function that neither allocates nor frees
  body_quiet : Each (IsQuiet p) (nodes_of_statements f.body)
  body_quiet = each_of (IsQuiet p) (nodes_of_statements f.body) node_quiet

-- ## Late statements

-- no call in `main` after the mark allocates or frees
abbrev pub IsLateFree : PlainProgram → Type 0
IsLateFree p = (c : AnyCall) → Contains (late_calls p) c → IsAllocating p c.called → ⊥

none_passes : {A : Type 0} (test : A → Bool) (xs : List A) (x : A) → [] ≡ filter test xs → Contains xs x → test x ≡ true → ⊥
none_passes test xs x e c t = none_in x (subst (λ l. Contains l x) (sym e) (passes test xs x c t))

pub free_by_list : (p : PlainProgram) → AreLateAllocations p [] → IsLateFree p
free_by_list p none c stands a = none_passes none.test (late_calls p) c none.are stands ((none.exact c stands).1 a)

pub free_by_row : (p : PlainProgram) → ((span : Span) → ViolatesFlow p allocation_row span → ⊥) → IsLateFree p
free_by_row p kept c stands a = kept c.at.span (late_allocation c.at.span (record { call = c; late = stands; allocating = a; span_is = refl }))

module _ (p : PlainProgram) (late_quiet : IsLateFree p) where
  late_form : (at : At) (t : PlainType) (form : PlainForm) → Contains (nodes_of_statements (late_statements p)) (a_value (value at t form)) → IsQuietForm p form
  late_form at t (call name k arguments) c =
      λ a. late_quiet (record { at = at; name = name; called = Function k }) (kept call_made (nodes_of_statements (late_statements p)) (a_value (value at t (call name k arguments))) _ c refl) a
  late_form at t (built_in name k arguments) c =
      λ e. late_quiet (record { at = at; name = name; called = LibraryCall k }) (kept call_made (nodes_of_statements (late_statements p)) (a_value (value at t (built_in name k arguments))) _ c refl) e
  late_form at t form c = tt

  late_node : (n : PlainNode) → Contains (nodes_of_statements (late_statements p)) n → IsQuiet p n
  late_node (a_statement x) c = tt
  late_node (a_value (value at t form)) c = late_form at t form c
  late_node (a_place q) c = tt

  -- each statement after the mark is then quiet
  pub late_each : Each (IsQuiet p) (nodes_of_statements (late_statements p))
  late_each = each_of (IsQuiet p) (nodes_of_statements (late_statements p)) late_node

-- ## Calls

-- the count is this number
abbrev pub Counted : ℕ → Bool → ℕ → Type 0
Counted a marked count = count ≡ a

-- calls of functions that neither allocate nor free keep the count
abbrev QuietCalls : PlainProgram → ℕ → (Depth → Calls) → Type 0
QuietCalls p a meaning = (depth : Depth) (g : ℕ) → (AllocatesOrFrees p g → ⊥) → (xs : List Scalar) (w : State) → w.after_mark ≡ a → Leaves (Counted a) (meaning depth g xs w)

pub quiet_keeps : (p : PlainProgram) (a : ℕ) (meaning : Depth → Calls) → QuietCalls p a meaning → (depth : Depth) → Keeps (Counted a) (IsQuiet p) (meaning depth)
quiet_keeps p a meaning quiet depth = record {
  memory = λ at t name f arguments free e. absurd (free e);
  passes = λ at free marked count e. e;
  calls = λ at t name f arguments free xs w e. quiet depth f free xs w e;
}

enter_quiet : (p : PlainProgram) (a n : ℕ) (meaning : Depth → Calls) → QuietCalls p a meaning → (depth : Depth) (g : ℕ) → (AllocatesOrFrees p g → ⊥) → (o : Option PlainFunction) → slice_get p.functions g ≡ o →
    (xs : List Scalar) (w : State) → w.after_mark ≡ a → Leaves (Counted a) (enter_call p n meaning depth o xs w)
enter_quiet p a n meaning quiet depth g spared None found xs w e = leaves_here (Counted a) None w e
enter_quiet p a n meaning quiet depth g spared (Some f) found xs w e =
    enter_leaves (Counted a) (IsQuiet p) p n meaning depth f (quiet_keeps p a meaning quiet (deeper f depth)) (body_quiet p g f found spared) xs w e

pub quiet_calls : (p : PlainProgram) (a bound : ℕ) → QuietCalls p a (call_at bound p)
quiet_calls p a zero depth g spared xs w e = record { state = e }
quiet_calls p a (suc n) depth g spared xs w e =
    leaves_step (Counted a) w _ e (λ l. enter_quiet p a n (call_at n p) (quiet_calls p a n) depth g spared (slice_get p.functions g) refl xs (record w { left = l }) e)
