-- What bytes in memory that are given one after the other have left.
use Rattle.std.specs.Prelude.{ℕ, List, drop}
use Rattle.p10_world.specs.declared.given.Given.{Given}

-- the bytes that were not given yet
abbrev pub left_of : Given → List ℕ
left_of bytes = drop bytes.given bytes.bytes.items
