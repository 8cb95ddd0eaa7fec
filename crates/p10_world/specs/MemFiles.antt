-- What files in memory show of themselves.
use Rattle.std.specs.Prelude.{List}
use Rattle.p10_world.specs.Files.{Named}
use Rattle.p10_world.specs.HeldFiles.{files_of}
use Rattle.p10_world.specs.declared.plan.Plan.{Plan}
use Rattle.p10_world.specs.declared.mem_files.MemFiles.{MemFiles}

-- the files held, the one added last first
abbrev pub held_of : MemFiles → List Named
held_of memory = files_of memory.held

-- which reads are to fail, and how many were made and failed
abbrev pub plan_of : MemFiles → Plan
plan_of memory = memory.plan
