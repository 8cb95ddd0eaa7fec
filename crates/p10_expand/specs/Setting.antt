-- What a gathering is given.
use Rattle.std.specs.Prelude.{List, Option}
use Rattle.p10_world.specs.Files.{Named}
use Rattle.p10_expand.specs.Gathering.{Setting}
use Rattle.p10_base.specs.Words.{Text}

-- the files that are held, the names of the roots and the directories
abbrev pub setting : Option (List Named) → List Text → List Text → Setting
setting held roots dirs = record { held = held; roots = roots; dirs = dirs }
