-- The violations that are listed are those of the rows.
use Rattle.std.proofs.Common.{◌≡◌, List, [], ◌++◌, map, refl, sym, ◌∙◌, ap, subst, inl, inr}
use Rattle.std.specs.Prelude.{◌↔◌}
use Rattle.std.specs.List.{Contains}
use Rattle.std.proofs.lemmas.List.Elements.{Contains-append_left, Contains-append_right, Contains-append_cases}
use Rattle.p10_base.specs.declared.at.At.{At}
use Rattle.p10_base.specs.declared.span.Span.{Span}
use Rattle.p10_base.specs.declared.report.Sub.{Sub}
use Rattle.p10_base.specs.declared.report.Violation.{Violation}
use Rattle.p10_core.specs.Typed.{PlainProgram}
use Rattle.p10_calls.specs.declared.sites.CallSite.{CallSite}
use Rattle.p10_calls.specs.Selections.{AreThose}
use Rattle.p10_calls.specs.CallSites.{call_sites}
use Rattle.p10_calls.specs.Recursion.{IsRecursiveCall, AreRecursiveCalls}
use Rattle.p10_calls.proofs.Lists.{mapped, mapped_from, passes, passed}
use Rattle.p10_flowrules.specs.declared.calls.AnyCall.{AnyCall}
use Rattle.p10_flowrules.specs.TaskExits.{task_exits}
use Rattle.p10_flowrules.specs.Allocating.{IsAllocating, AreLateAllocations, late_calls}
use Rattle.p10_flowrules.specs.FlowRows.{recursion_row, task_row, allocation_row, ViolatesFlow, recursion, task_end, late_allocation}
use Rattle.p10_flowrules.specs.private.FlowListing.{violation_at}

-- ## Elements of which a fact holds

of_those : {A : Type 0} (P : A → Type 0) (all found : List A) (x : A) → AreThose P all found → Contains found x → Contains all x × P x
of_those P all found x are held =
    let parts = passed are.test all x (subst (λ l. Contains l x) are.are held) in
    (parts.0, (are.exact x parts.0).0 parts.1)

those_have : {A : Type 0} (P : A → Type 0) (all found : List A) (x : A) → AreThose P all found → Contains all x → P x → Contains found x
those_have P all found x are held holds = subst (λ l. Contains l x) (sym are.are) (passes are.test all x held ((are.exact x held).1 holds))

-- ## Violations

abbrev at_recursion : CallSite → Violation
at_recursion s = violation_at recursion_row s.call.name

abbrev at_exit : At → Violation
at_exit at = violation_at task_row at.span

abbrev at_allocation : AnyCall → Violation
at_allocation c = violation_at allocation_row c.at.span

module _ (p : PlainProgram) (calls : List CallSite) (exits : List At) (late : List AnyCall) (recursive : AreRecursiveCalls p calls) (leave : exits ≡ task_exits p) (allocate : AreLateAllocations p late) where
  abbrev all : List Violation
  all = (map at_recursion calls ++ map at_exit exits) ++ map at_allocation late

  abbrev Breaks : Violation → Type 0
  Breaks v = ViolatesFlow p v.sub v.span

  listed_is : (v : Violation) → Contains all v → Breaks v
  listed_is v held =
      elim (Contains-append_cases (map at_recursion calls ++ map at_exit exits) (map at_allocation late) v held) [
        | inl front ↦ elim (Contains-append_cases (map at_recursion calls) (map at_exit exits) v front) [
          | inl first ↦
              let found = mapped_from at_recursion calls v first in
              let parts = of_those (IsRecursiveCall p) (call_sites p) calls found.0 recursive found.1 in
              subst Breaks found.2 (recursion found.0.call.name (record { call = found.0; stands = parts.0; recursive = parts.1; span_is = refl }))
          | inr second ↦
              let found = mapped_from at_exit exits v second in
              subst Breaks found.2 (task_end found.0.span (record { at = found.0; leaves = subst (λ (l : List At). Contains l found.0) leave found.1; span_is = refl }))
        ]
        | inr third ↦
            let found = mapped_from at_allocation late v third in
            let parts = of_those (λ (c : AnyCall). IsAllocating p c.called) (late_calls p) late found.0 allocate found.1 in
            subst Breaks found.2 (late_allocation found.0.at.span (record { call = found.0; late = parts.0; allocating = parts.1; span_is = refl }))
      ]

  is_listed : (sub : Sub) (span : Span) → ViolatesFlow p sub span → Contains all (violation_at sub span)
  is_listed _ _ (recursion span r) =
      Contains-append_left (map at_recursion calls ++ map at_exit exits) (map at_allocation late) (violation_at recursion_row span)
      (Contains-append_left (map at_recursion calls) (map at_exit exits) (violation_at recursion_row span)
      (subst (λ (s : Span). Contains (map at_recursion calls) (violation_at recursion_row s)) (sym r.span_is)
      (mapped at_recursion calls r.call (those_have (IsRecursiveCall p) (call_sites p) calls r.call recursive r.stands r.recursive))))
  is_listed _ _ (task_end span r) =
      Contains-append_left (map at_recursion calls ++ map at_exit exits) (map at_allocation late) (violation_at task_row span)
      (Contains-append_right (map at_recursion calls) (map at_exit exits) (violation_at task_row span)
      (subst (λ (s : Span). Contains (map at_exit exits) (violation_at task_row s)) (sym r.span_is) (mapped at_exit exits r.at (subst (λ (l : List At). Contains l r.at) (sym leave) r.leaves))))
  is_listed _ _ (late_allocation span r) =
      Contains-append_right (map at_recursion calls ++ map at_exit exits) (map at_allocation late) (violation_at allocation_row span)
      (subst (λ (s : Span). Contains (map at_allocation late) (violation_at allocation_row s)) (sym r.span_is)
      (mapped at_allocation late r.call (those_have (λ (c : AnyCall). IsAllocating p c.called) (late_calls p) late r.call allocate r.late r.allocating)))

  pub flow_listed : (v : Violation) → Contains all v ↔ Breaks v
  flow_listed v = (listed_is v, is_listed v.sub v.span)

-- what was put down, one row after the other
pub flow_collected : (p : PlainProgram) (calls calls2 : List CallSite) (exits exits2 : List At) (late late2 : List AnyCall) (none first second third : List Violation) → AreRecursiveCalls p calls → exits ≡ task_exits p → AreLateAllocations p late →
    calls2 ≡ calls → exits2 ≡ exits → late2 ≡ late → none ≡ [] → first ≡ none ++ map at_recursion calls2 → second ≡ first ++ map at_exit exits2 → third ≡ second ++ map at_allocation late2 →
    (v : Violation) → Contains third v ↔ ViolatesFlow p v.sub v.span
flow_collected p calls calls2 exits exits2 late late2 none first second third recursive leave allocate same same2 same3 e0 e1 e2 e3 v =
    let one : first ≡ map at_recursion calls = e1 ∙ ap (λ (l : List Violation). l ++ map at_recursion calls2) e0 ∙ ap (map at_recursion) same in
    let two : second ≡ map at_recursion calls ++ map at_exit exits = e2 ∙ ap (λ (l : List Violation). l ++ map at_exit exits2) one ∙ ap (λ (l : List At). map at_recursion calls ++ map at_exit l) same2 in
    let three : third ≡ (map at_recursion calls ++ map at_exit exits) ++ map at_allocation late =
    e3 ∙ ap (λ (l : List Violation). l ++ map at_allocation late2) two ∙ ap (λ (l : List AnyCall). (map at_recursion calls ++ map at_exit exits) ++ map at_allocation l) same3 in
    subst (λ (l : List Violation). Contains l v ↔ ViolatesFlow p v.sub v.span) (sym three) (flow_listed p calls exits late recursive leave allocate v)
