use Rattle.std.proofs.Common.{◌<◌, ℕ, List, length, slice_index_or}
use Rattle.p10_macros.specs.declared.pending.Traced.{Traced}
use Rattle.p10_macros.specs.private.Traces.{lists_of}
use Rattle.p10_macros.proofs.values.have_words.Given as goal

-- the values so far have words
abbrev pub invariant-loop-value : goal.invariant-loop-value
invariant-loop-value l = (none : List Traced) (k : ℕ) → k < l.value-index → 0 < length (slice_index_or (lists_of l.values) k none)
