use Rattle.std.proofs.Common.{◌≤◌, ℕ, Bool, ap, ◌∙◌, refl, length, map, arith}
use Rattle.std.proofs.lemmas.List.{length-map}
use Rattle.p10_core.specs.Views.{plain_statement, plain_variable}
use Rattle.p10_meaning.specs.Variables.{may_change}
use Rattle.p10_absx.specs.Trails.{Branching}
use Rattle.p10_pass.proofs.Restoring.{forgot}
use Rattle.p10_diff.specs.Differences.{unmarked_bounds}
use Rattle.p10_diff.specs.Listed.{bounds_listed}
use Rattle.p10_diff.proofs.rules.forget_changes.Goals as goal

pub returns : goal.returns
returns c =
    let changed : ℕ → Bool = λ n. may_change n (plain_statement c.args.c.now.by.now) in
    let few : length (map plain_variable c.args.p.now.variables.now) ≤ c.args.c.now.count = omega (arith, length-map c.args.p.now.variables.now plain_variable, c.requires.count) in
    let ranges = ap (λ (b : Branching). b.values) c.in_ok-forget_marked.ensures ∙ forgot changed c.args.c.now.marks.now c.args.c.now.marks.now c.args.c.now.count (map plain_variable c.args.p.now.variables.now) c.args.e.now.ranges.values refl c.requires.marks few in
    let bounds = c.in_ok-bounds.ensures ∙ ap (λ xs. unmarked_bounds changed (bounds_listed xs)) c.as_slice.ensures.value in
    λ i. record { ranges = ranges i; bounds = bounds i; fall = c.fall_after-e.ensures i }
