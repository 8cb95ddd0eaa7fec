use Rattle.std.proofs.Common.{arith}
use Rattle.p10_core.proofs.MemberLayouts.{most_is}
use Rattle.p10_core.proofs.laying.padded.Goals as goal

pub aligned-bytes-requires-clause-place : goal.aligned-bytes-requires-clause-place
aligned-bytes-requires-clause-place c = omega (arith, c.requires.small.bytes, most_is)

pub returns-then-bytes-gt-MOST_BYTES : goal.returns-then-bytes-gt-MOST_BYTES
returns-then-bytes-gt-MOST_BYTES c = omega (arith, c.if-bytes-gt-MOST_BYTES.true, c.aligned-bytes.ensures, most_is)

pub returns : goal.returns
returns c = (λ i. record c.args.lay.now { bytes = c.aligned-bytes.ensures i }, omega (arith, c.if-bytes-gt-MOST_BYTES.false, c.aligned-bytes.ensures, most_is))
