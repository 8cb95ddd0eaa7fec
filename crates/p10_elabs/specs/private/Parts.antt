-- Parts that may be lacking.
use Rattle.std.specs.Prelude.{Option, Some, None, Result, Ok, Err}

-- both parts, if they are there
abbrev pub both : {A B : Type 0} → Option A → Option B → Option (A × B)
both (Some a) (Some b) = Some (a, b)
both a b = None

-- a part, unless what is before is refused
abbrev pub unless_refused : {A B P : Type 0} → Result A P → Result B P → Result B P
unless_refused (Ok a) part = part
unless_refused (Err p) part = Err p
