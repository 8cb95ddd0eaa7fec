use Rattle.std.proofs.Common.{ℕ, ◌+◌, ◌-◌, ◌/◌, slice_index_or, refl, arith}
use Rattle.p10_userules.specs.declared.parts.Stretch.{Stretch}
use Rattle.p10_userules.proofs.Searching.{fail_lower, fail_upper, none_found}
use Rattle.p10_userules.proofs.spreads.some_lie_in_one.Goals as goal

pub loop-low-preserved-then-here-spread : goal.loop-low-preserved-then-here-spread
loop-low-preserved-then-here-spread c =
    let middle : ℕ = c.loop-low.low + (c.loop-low.high - c.loop-low.low) / 2 in
    let none : Stretch = record { start = 0; end = 0 } in
    fail_lower c.args.spread c.args.stretches.now c.loop-low.low c.loop-low.high middle none (slice_index_or c.args.stretches.now middle none) c.requires c.loop-low.invariant (omega arith) (omega arith) refl c.if-here-spread.true

pub loop-low-preserved : goal.loop-low-preserved
loop-low-preserved c =
    let middle : ℕ = c.loop-low.low + (c.loop-low.high - c.loop-low.low) / 2 in
    let none : Stretch = record { start = 0; end = 0 } in
    fail_upper c.args.spread c.args.stretches.now c.loop-low.low c.loop-low.high middle none (slice_index_or c.args.stretches.now middle none) c.requires c.loop-low.invariant (omega arith) (omega arith) refl c.if-spread-here.true

pub returns : goal.returns
returns c = none_found c.args.spread c.args.stretches.now c.loop-low.low c.loop-low.high c.loop-low.invariant (omega arith)
