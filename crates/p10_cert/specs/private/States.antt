-- What may come next in a certificate's text.
use Rattle.std.specs.Prelude.{ℕ, Bool, true, false, suc, List}
use Rattle.p10_cert.specs.declared.state.Seen.{Seen}
use Rattle.p10_cert.specs.declared.state.Next.{Next as CodeNext}
use Rattle.p10_cert.specs.declared.state.Next.TheVariants as code

-- The first line of the text; a function, or what stands after the functions; the digest of a function, which is `main`
-- or another; a parameter or its result; a loop of at most this depth, a variable of at least this number, another
-- function or what stands after them; the bounds after a digest; a section with a name after this one and the last line,
-- where no lines of the section with this name are left, and else one of these; the last line; nothing.
pub data Next : Type 0 where
  First : Next
  Func : Seen → Next
  Digest : Bool → Seen → Next
  Param : Bool → Seen → Next
  Loop : Bool → Seen → ℕ → ℕ → Next
  Total : Next
  Section : List ℕ → ℕ → Next
  Last : Next
  Over : Next

-- a state of the code, without where its name lies in memory
abbrev pub next_of : CodeNext → Next
next_of code.First = First
next_of (code.Func seen) = Func seen
next_of (code.Digest main seen) = Digest main seen
next_of (code.Param main seen) = Param main seen
next_of (code.Loop main seen deepest least) = Loop main seen deepest least
next_of code.Total = Total
next_of (code.Section since left) = Section since.now left
next_of code.Last = Last
next_of code.Over = Over

-- whether a line of a section has to come, whatever it says
abbrev pub is_free : Next → Bool
is_free (Section since (suc left)) = true
is_free _ = false

-- whether nothing may come
abbrev pub is_over : Next → Bool
is_over Over = true
is_over _ = false
