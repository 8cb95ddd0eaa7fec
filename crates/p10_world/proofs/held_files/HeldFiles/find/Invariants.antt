-- The file that is found in the rest is the one that is found in all.
use Rattle.std.proofs.Common.{◌≡◌, length, map}
use Rattle.p10_world.specs.Files.{file_of}
use Rattle.p10_world.specs.HeldFiles.{named, files_of}
use Rattle.p10_world.proofs.held_files.HeldFiles.find.Given as goal

abbrev pub invariant-loop-rest : goal.invariant-loop-rest
invariant-loop-rest l = file_of l.name (map named l.rest) ≡ file_of l.name (files_of l.self)

abbrev pub decreases-loop-rest : goal.decreases-loop-rest
decreases-loop-rest l = length l.rest
