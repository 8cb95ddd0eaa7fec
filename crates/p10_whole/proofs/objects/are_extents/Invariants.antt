use Rattle.std.proofs.Common.{ℕ, ◌<◌, get_or}
use Rattle.p10_core.specs.declared.program.Extent.{Extent}
use Rattle.p10_core.specs.Views.{plain_program}
use Rattle.p10_core.specs.WholePrograms.{IsExtent}
use Rattle.p10_whole.proofs.objects.are_extents.Given as goal

abbrev pub invariant-loop-extent : goal.invariant-loop-extent
invariant-loop-extent l = (k : ℕ) (d : Extent) → k < l.extent-index → IsExtent (plain_program l.program) (get_or l.all k d)
