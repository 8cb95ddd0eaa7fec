use Rattle.std.proofs.Common.{arith}
use Rattle.p10_macros.proofs.Blocks.{has_nothing, has_beyond, read_part}
use Rattle.p10_macros.proofs.sets.part_at.Goals as goal
use Rattle.p10_macros.proofs.sets.part_at.Goals.{then-set-eq0-via-then-set-eq0, then-set-eq0-via-else-set-eq0+then-set-parts}

pub returns-then-set-eq0-clause-none : goal.returns-then-set-eq0-clause-none
returns-then-set-eq0-clause-none c = elim c.then-set-eq0.branch [
  | then-set-eq0-via-then-set-eq0 w ↦ λ number. has_nothing c.args.parts.now c.args.set number (omega (arith, w.if-set-eq0.true))
  | then-set-eq0-via-else-set-eq0+then-set-parts w ↦ λ number. has_beyond c.args.parts.now c.args.set number w.if-set-parts.true
]

pub returns-clause-some : goal.returns-clause-some
returns-clause-some c = read_part c.args.parts.now c.args.set c.older.result (omega arith) c.if-set-parts.false c.older.ensures.within c.older.ensures.beyond
