-- What holds of the answers of a command.
use Rattle.std.specs.Prelude.{◌≡◌, ◌≢◌, List, Some}
use Rattle.p10_world.specs.Files.{Named}
use Rattle.p10_command.specs.Saying.{Saying}
use Rattle.p10_command.specs.Seen.{Seen}

-- Where files are told, only one thing is right to say by what is seen of them, unless a read fails or memory runs out. So each
-- answer comes exactly where it is right.
abbrev pub OneIsRight : (Seen → Saying → Type 0) → Type 0
OneIsRight right =
    (seen : Seen) (files : List Named) (some other : Saying) → seen.held ≡ Some files
    → right seen some → right seen other
    → some.status ≢ 5 → some.status ≢ 7 → other.status ≢ 5 → other.status ≢ 7
    → some ≡ other
