-- All violations in what files were read as.
use Rattle.std.proofs.Common.{◌≡◌, ◌⊎◌, inl, inr, List, map, ◌++◌, Option, Some, None, Ok, refl, sym, ap, subst, ◌∙◌}
use Rattle.std.specs.Prelude.{◌↔◌, IsPermutation}
use Rattle.std.specs.List.{Contains, dedup}
use Rattle.std.specs.List.Sorted.{IsSorted}
use Rattle.std.proofs.lemmas.List.Elements.{Contains-append_cases, Contains-append_left, Contains-append_right}
use Rattle.p10_base.specs.declared.at.At.{At}
use Rattle.p10_base.specs.declared.span.Span.{Span}
use Rattle.p10_base.specs.declared.report.Sub.{Sub}
use Rattle.p10_base.specs.declared.report.Violation.{Violation}
use Rattle.p10_base.specs.Gathered.{Gathered}
use Rattle.p10_base.specs.Order.{violation_cmp}
use Rattle.p10_syn.specs.Trees.{External}
use Rattle.p10_core.specs.Typed.{PlainProgram}
use Rattle.p10_cert.specs.Claims.{Claims}
use Rattle.p10_expand.specs.Answers.{plain_obeyed}
use Rattle.p10_front.specs.declared.reading.Reading.{Reading}
use Rattle.p10_front.specs.Answers.{reading_of, trees_of, typed_of}
use Rattle.p10_front.specs.Readings.{PlainReading, Reads}
use Rattle.p10_pprules.specs.Violations as directives
use Rattle.p10_pprules.proofs.Ordered.{same, strictly_sorted, still_exact}
use Rattle.p10_userules.specs.Violations as uses
use Rattle.p10_flowrules.specs.FlowRows.{ViolatesFlow}
use Rattle.p10_approach.specs.Offers.{no_offers}
use Rattle.p10_finder.specs.Answers.{HasViolations, HaveResults, LacksBoundAt, ViolatesBounds, no_bound, flow}
use Rattle.p10_finder.specs.Laws.{SameLoopsLackBounds}
use Rattle.p10_warn.specs.Violations as warnings
use Rattle.p10_check_command.specs.declared.report.Report.{Report}
use Rattle.p10_check_command.specs.Reports.{AreViolations, IsReport, BreaksProgramRow, by_flow, by_bound, by_use, by_warning, IsReported, in_directives, in_trees, in_program}
use Rattle.p10_check_command.specs.private.Telling.{BreaksRowOfSome, BreaksTreeRow}

-- what stands in one of three lists in a row
in_three : (xs ys zs all : List Violation) (v : Violation) → all ≡ (xs ++ ys) ++ zs → Contains all v → Contains xs v ⊎ (Contains ys v ⊎ Contains zs v)
in_three xs ys zs all v is held = cases (Contains-append_cases (xs ++ ys) zs v (subst (λ l. Contains l v) is held))
  where
    early : Contains xs v ⊎ Contains ys v → Contains xs v ⊎ (Contains ys v ⊎ Contains zs v)
    early (inl first) = inl first
    early (inr second) = inr (inl second)

    cases : Contains (xs ++ ys) v ⊎ Contains zs v → Contains xs v ⊎ (Contains ys v ⊎ Contains zs v)
    cases (inl before) = early (Contains-append_cases xs ys v before)
    cases (inr third) = inr (inr third)

of_three : (xs ys zs all : List Violation) (v : Violation) → all ≡ (xs ++ ys) ++ zs → Contains xs v ⊎ (Contains ys v ⊎ Contains zs v) → Contains all v
of_three xs ys zs all v is (inl first) = subst (λ l. Contains l v) (sym is) (Contains-append_left (xs ++ ys) zs v (Contains-append_left xs ys v first))
of_three xs ys zs all v is (inr (inl second)) = subst (λ l. Contains l v) (sym is) (Contains-append_left (xs ++ ys) zs v (Contains-append_right xs ys v second))
of_three xs ys zs all v is (inr (inr third)) = subst (λ l. Contains l v) (sym is) (Contains-append_right (xs ++ ys) zs v third)

-- lists that are joined through slices of them
pub joined : (xs ys ys' zs zs' all : List Violation) → all ≡ (xs ++ ys') ++ zs' → ys' ≡ ys → zs' ≡ zs → all ≡ (xs ++ ys) ++ zs
joined xs ys ys' zs zs' all is second third = is ∙ ap (λ l. (xs ++ l) ++ zs') second ∙ ap (λ l. (xs ++ ys) ++ l) third

-- ## Programs

-- 1.3, 2.1, 2.2 and 3.1
bound_rows : (p : PlainProgram) (c : Claims) (v : Violation) (sub : Sub) (span : Span) → HaveResults no_offers p c → v.sub ≡ sub → v.span ≡ span → ViolatesBounds no_offers p c sub span → BreaksProgramRow p v
bound_rows p c v sub span right sub_is span_is (no_bound at lacks) = by_bound c right (subst (λ s. LacksBoundAt no_offers p c s) (sym span_is) lacks) sub_is
bound_rows p c v sub span right sub_is span_is (flow row at breaks) = by_flow (subst (λ s. ViolatesFlow p s v.span) (sym sub_is) (subst (λ s. ViolatesFlow p row s) (sym span_is) breaks))

pub program_rows : (p : PlainProgram) (bounds used warned all : List Violation) → all ≡ (bounds ++ used) ++ warned → SameLoopsLackBounds → HasViolations no_offers p bounds
    → ((v : Violation) → Contains used v ↔ uses.Violates p v.sub v.span) → ((v : Violation) → Contains warned v ↔ warnings.Violates p v.sub v.span) → (v : Violation) → Contains all v ↔ BreaksProgramRow p v
program_rows p bounds used warned all is same_loops has used_are warned_are v = (λ held. stands (in_three bounds used warned all v is held), λ breaks. of_three bounds used warned all v is (listed breaks))
  where
    stands : Contains bounds v ⊎ (Contains used v ⊎ Contains warned v) → BreaksProgramRow p v
    stands (inl held) = bound_rows p has.claims v v.sub v.span has.right refl refl ((has.all.exact v).0 held)
    stands (inr (inl held)) = by_use ((used_are v).0 held)
    stands (inr (inr held)) = by_warning ((warned_are v).0 held)

    listed : BreaksProgramRow p v → Contains bounds v ⊎ (Contains used v ⊎ Contains warned v)
    listed (by_flow breaks) = inl ((has.all.exact v).1 (flow v.sub v.span breaks))
    listed (by_bound c right lacks is) =
        inl ((has.all.exact v).1 (subst (λ s. ViolatesBounds no_offers p has.claims s v.span) (sym is) (no_bound v.span (same_loops no_offers p c has.claims v.span right has.right lacks))))
    listed (by_use breaks) = inr (inl ((used_are v).1 breaks))
    listed (by_warning breaks) = inr (inr ((warned_are v).1 breaks))

-- ## Readings

of_trees : (g : Gathered) (reading : PlainReading) (units : Option (List (External At))) (v : Violation) → reading.units ≡ units → BreaksTreeRow g units v → IsReported g reading v
of_trees g reading None v is breaks = absurd breaks
of_trees g reading (Some all) v is breaks = in_trees all is breaks

of_program : (g : Gathered) (reading : PlainReading) (program : Option PlainProgram) (v : Violation) → reading.program ≡ program → BreaksRowOfSome program v → IsReported g reading v
of_program g reading None v is breaks = absurd breaks
of_program g reading (Some p) v is breaks = in_program p is breaks

pub reading_rows : (g : Gathered) (reading : Reading) (lines trees program all : List Violation) → all ≡ (lines ++ trees) ++ program → ((v : Violation) → Contains lines v ↔ directives.Violates (map plain_obeyed reading.expanded.obeyed) v.sub v.span)
    → ((v : Violation) → Contains trees v ↔ BreaksTreeRow g (trees_of reading.units) v) → ((v : Violation) → Contains program v ↔ BreaksRowOfSome (typed_of reading.program) v)
    → (v : Violation) → Contains all v ↔ IsReported g (reading_of reading) v
reading_rows g reading lines trees program all is lines_are trees_are program_is v =
    (λ held. stands (in_three lines trees program all v is held), λ reported. of_three lines trees program all v is (listed reported))
  where
    stands : Contains lines v ⊎ (Contains trees v ⊎ Contains program v) → IsReported g (reading_of reading) v
    stands (inl held) = in_directives ((lines_are v).0 held)
    stands (inr (inl held)) = of_trees g (reading_of reading) (trees_of reading.units) v refl ((trees_are v).0 held)
    stands (inr (inr held)) = of_program g (reading_of reading) (typed_of reading.program) v refl ((program_is v).0 held)

    listed : IsReported g (reading_of reading) v → Contains lines v ⊎ (Contains trees v ⊎ Contains program v)
    listed (in_directives breaks) = inl ((lines_are v).1 breaks)
    listed (in_trees units there breaks) = inr (inl ((trees_are v).1 (subst (λ (o : Option (List (External At))). BreaksTreeRow g o v) (sym there) breaks)))
    listed (in_program p there breaks) = inr (inr ((program_is v).1 (subst (λ (o : Option PlainProgram). BreaksRowOfSome o v) (sym there) breaks)))

-- sorted, and each once
pub are_violations : (g : Gathered) (reading : PlainReading) (all sorted found : List Violation) → ((v : Violation) → Contains all v ↔ IsReported g reading v) → IsSorted violation_cmp sorted → IsPermutation all sorted → found ≡ dedup same sorted → AreViolations g reading found
are_violations g reading all sorted found exact in_order moved is = record {
  sorted = strictly_sorted sorted found in_order is;
  exact = still_exact (IsReported g reading) all sorted found exact moved is;
}

-- the violations of a reading are those of its report
pub is_report : (g : Gathered) (reading : Reading) (violations : List Violation) (report : Report) → report.violations ≡ violations → report.refusal ≡ reading.refusal → Reads g (Ok (reading_of reading)) → AreViolations g (reading_of reading) violations → IsReport g report
is_report g reading violations report listed refused reads are =
    record { reading = reading_of reading; reads = reads; refused = refused; violated = subst (λ (l : List Violation). AreViolations g (reading_of reading) l) (sym listed) are }
