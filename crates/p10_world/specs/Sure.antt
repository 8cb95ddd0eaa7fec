-- What the forms that never fail show of themselves.
use Rattle.std.specs.Prelude.{ℕ, List}
use Rattle.p10_world.specs.Files.{Named}
use Rattle.p10_world.specs.HeldFiles.{files_of}
use Rattle.p10_world.specs.Given as given
use Rattle.p10_world.specs.declared.sure.SureFiles.{SureFiles}
use Rattle.p10_world.specs.declared.sure.SureSource.{SureSource}

-- the files held, the one added last first
abbrev pub held_of : SureFiles → List Named
held_of sure = files_of sure.held

-- the bytes that were not given yet
abbrev pub left_of : SureSource → List ℕ
left_of sure = given.left_of sure.bytes
