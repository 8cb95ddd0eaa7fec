-- What files that are held in memory show of themselves.
use Rattle.std.specs.Prelude.{List, map, string_bytes}
use Rattle.p10_world.specs.Files.{Named}
use Rattle.p10_world.specs.declared.held_files.HeldFile.{HeldFile}
use Rattle.p10_world.specs.declared.held_files.HeldFiles.{HeldFiles}

-- a held file as it is told
abbrev pub named : HeldFile → Named
named file = record { name = string_bytes file.name; bytes = file.bytes.items }

-- the held files as they are told, the one added last first
abbrev pub files_of : HeldFiles → List Named
files_of held = map named held.files.items
