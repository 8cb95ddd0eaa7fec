-- What comes of comparing two types, as the code tells it.
use Rattle.std.specs.Prelude.{ℕ, Bool, true, false, Option, Some, None, Vec}
use Rattle.std.specs.declared.alloc.Global.{Global}
use Rattle.p10_linkage.specs.Compatible.{Pairs}
use Rattle.p10_linkage.specs.declared.meeting.Meeting.{Meeting}
use Rattle.p10_linkage.specs.declared.meeting.Meeting.TheVariants.{Never, Always, Where}

-- the pairs then, where what was compared is compatible
abbrev pub compared : Bool → Vec (ℕ × ℕ) Global → Option Pairs
compared true pairs = Some pairs.items
compared false pairs = None

-- types that meet so, where structures are compared so
abbrev pub met_so : (ℕ → ℕ → Pairs → Option Pairs) → Meeting → Pairs → Option Pairs
met_so compare Never pairs = None
met_so compare Always pairs = Some pairs
met_so compare (Where m n) pairs = compare m n pairs
