use Rattle.std.proofs.Common.{map, drop}
use Rattle.std.specs.List.{All}
use Rattle.p10_core.specs.Views.{plain_program, plain_object}
use Rattle.p10_core.specs.WholePrograms.{IsWholeObject}
use Rattle.p10_whole.proofs.objects.are_whole_objects.Given as goal

abbrev pub invariant-loop-object : goal.invariant-loop-object
invariant-loop-object l = All (IsWholeObject (plain_program l.program)) (map plain_object (drop l.object-index l.all)) → All (IsWholeObject (plain_program l.program)) (map plain_object l.all)
