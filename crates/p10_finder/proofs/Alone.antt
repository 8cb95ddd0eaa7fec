-- Programs of one function that calls none, without a mark and a task loop.
use Rattle.std.proofs.Common.{◌≡◌, ℕ, zero, suc, ◌<◌, List, [], ◌∷◌, length, map, Some, refl, sym, ◌∙◌, ap, subst, arith, inl}
use Rattle.std.specs.Prelude.{slice_get}
use Rattle.std.specs.List.{Contains}
use Rattle.p10_base.specs.declared.span.Span.{Span}
use Rattle.p10_base.specs.declared.report.Sub.{Sub}
use Rattle.p10_core.specs.Typed.{PlainFunction, PlainProgram}
use Rattle.p10_core.specs.WholePrograms.{parameter_types}
use Rattle.p10_graph.specs.Graphs.{IsOnCycle}
use Rattle.p10_calls.specs.CallGraphs.{call_graph}
use Rattle.p10_calls.specs.CallSites.{call_sites}
use Rattle.p10_calls.specs.Ranks.{AreRanks}
use Rattle.p10_cert.specs.Claims.{Func, Claims}
use Rattle.p10_flowrules.specs.TaskExits.{task_exits}
use Rattle.p10_flowrules.specs.Allocating.{late_calls}
use Rattle.p10_flowrules.specs.FlowRows.{ViolatesFlow, recursion, task_end, late_allocation}
use Rattle.p10_finder.specs.Functions.{any_value, loops_of, result_of, func_found}
use Rattle.p10_finder.specs.Answers.{HaveResults, LacksBoundAt, bound_row, ViolatesBounds, no_bound, flow}
use Rattle.p10_approach.specs.Offers.{Offers}

-- ## Lists

pub none_there : {X : Type 0} (x : X) → Contains [] x → ⊥
none_there x (k, inside, is) = omega (arith, inside)

pub only_one : {X : Type 0} (y x : X) → Contains (y ∷ []) x → y ≡ x
only_one y x (zero, inside, is) = is
only_one y x (suc k, inside, is) = absurd (omega (arith, inside))

pub only_there : {X : Type 0} (y x : X) (n : ℕ) → slice_get (y ∷ []) n ≡ Some x → (n ≡ 0) × (y ≡ x)
only_there y x zero e = (refl, cc)
only_there y x (suc n) e = absurd cc

-- ## Rows

-- none of the rows on calls and the task loop is violated
pub no_flow : (p : PlainProgram) → call_sites p ≡ [] → task_exits p ≡ [] → late_calls p ≡ [] → (sub : Sub) (span : Span) → ViolatesFlow p sub span → ⊥
no_flow p sites exits late _ _ (recursion span r) = none_there r.call (subst (λ xs. Contains xs r.call) sites r.stands)
no_flow p sites exits late _ _ (task_end span r) = none_there r.at (subst (λ xs. Contains xs r.at) exits r.leaves)
no_flow p sites exits late _ _ (late_allocation span r) = none_there r.call (subst (λ xs. Contains xs r.call) late r.late)

-- what row 2.1 says of the one function
pub lacks_alone : (o : Offers) (p : PlainProgram) (c : Claims) (f : PlainFunction) (spans : List Span) → p.functions ≡ f ∷ [] → (loops_of o p c 0 f).unbounded ≡ spans → (span : Span) → LacksBoundAt o p c span → Contains spans span
lacks_alone o p c f spans one found span l =
    let (zero_is, f_is) = only_there f l.function l.number (subst (λ xs. slice_get xs l.number ≡ Some l.function) one l.there) in
    subst (λ xs. Contains xs span) found
    (subst (λ (g : PlainFunction). Contains (loops_of o p c 0 g).unbounded span) (sym f_is)
    (subst (λ n. Contains (loops_of o p c n l.function).unbounded span) zero_is l.lacks))

-- what all rows say
pub violates_alone : (o : Offers) (p : PlainProgram) (c : Claims) (spans : List Span) → ((sub : Sub) (span : Span) → ViolatesFlow p sub span → ⊥) → ((span : Span) → LacksBoundAt o p c span → Contains spans span) →
    (sub : Sub) (span : Span) → ViolatesBounds o p c sub span → (bound_row ≡ sub) × Contains spans span
violates_alone o p c spans none lacks _ _ (no_bound span l) = (refl, lacks span l)
violates_alone o p c spans none lacks _ _ (flow sub span v) = absurd (none sub span v)

-- ## Ranks and cycles

pub no_cycle : (n : ℕ) → IsOnCycle ([] ∷ []) n → ⊥
no_cycle zero c = none_there c.next c.edge
no_cycle (suc n) c = none_there c.next c.edge

pub ranks_alone : AreRanks ([] ∷ []) (0 ∷ [])
ranks_alone = record { each = refl; exact = at }
  where
    at : (u : ℕ) → u < 1 → Rattle.p10_calls.specs.Ranks.HasRank ([] ∷ []) (0 ∷ []) u
    at zero inside = record { above = λ v e. absurd (none_there v e); least = inl refl }
    at (suc u) inside = absurd (omega (arith, inside))

-- ## Claims

-- claims with the result of the one function
pub results_alone : (o : Offers) (p : PlainProgram) (f : PlainFunction) (c : Claims) (claim : Func) → p.functions ≡ f ∷ [] → c.funcs ≡ claim ∷ [] → call_graph p ≡ [] ∷ [] → claim.params ≡ map any_value (parameter_types f) → claim.result ≡ result_of o p c 0 f → HaveResults o p c
results_alone o p f c claim one claims graph params is = record {
  each = ap length claims ∙ sym (ap length one);
  results = λ n g other there claimed.
      let (zero_is, f_is) = only_there f g n (subst (λ xs. slice_get xs n ≡ Some g) one there) in
      let (zero_too, claim_is) = only_there claim other n (subst (λ xs. slice_get xs n ≡ Some other) claims claimed) in
      record {
        params = sym (ap (λ (q : Func). q.params) claim_is) ∙ (params ∙ ap (λ (h : PlainFunction). map any_value (parameter_types h)) f_is);
        recursive = λ cycle. absurd (no_cycle n (subst (λ h. IsOnCycle h n) graph cycle));
        other = λ none. sym (ap (λ (q : Func). q.result) claim_is) ∙ (is ∙ (ap (result_of o p c 0) f_is ∙ ap (λ m. result_of o p c m g) (sym zero_is)));
      };
}

-- the claim of the one function
pub found_alone : (o : Offers) (p : PlainProgram) (f : PlainFunction) (c : Claims) (claim : Func) → p.functions ≡ f ∷ [] → c.funcs ≡ claim ∷ [] → claim ≡ func_found o p c 0 claim.rank f →
    (n : ℕ) (g : PlainFunction) (other : Func) → slice_get p.functions n ≡ Some g → slice_get c.funcs n ≡ Some other → other ≡ func_found o p c n other.rank g
found_alone o p f c claim one claims is n g other there claimed =
    let (zero_is, f_is) = only_there f g n (subst (λ xs. slice_get xs n ≡ Some g) one there) in
    let (zero_too, claim_is) = only_there claim other n (subst (λ xs. slice_get xs n ≡ Some other) claims claimed) in
    sym claim_is ∙ (is ∙ (ap (λ (q : Func). func_found o p c 0 q.rank f) claim_is ∙ (ap (func_found o p c 0 other.rank) f_is ∙ ap (λ m. func_found o p c m other.rank g) (sym zero_is))))
