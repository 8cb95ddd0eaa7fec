-- What a source in memory shows of itself.
use Rattle.std.specs.Prelude.{ℕ, List}
use Rattle.p10_world.specs.Given as given
use Rattle.p10_world.specs.declared.plan.Plan.{Plan}
use Rattle.p10_world.specs.declared.mem_source.MemSource.{MemSource}

-- the bytes that were not given yet
abbrev pub left_of : MemSource → List ℕ
left_of memory = given.left_of memory.bytes

-- which calls are to fail, and how many were made and failed
abbrev pub plan_of : MemSource → Plan
plan_of memory = memory.plan
