-- What may come next in a certificate's text, line by line.
use Rattle.std.specs.Prelude.{ℕ, ◌+◌, ◌^◌, Bool, true, false, zero, suc, not, ◌&&◌, nat_le, if◌then◌else◌, List, [], ◌∷◌, codes, bytes_eq, Option, Some, None}
use Rattle.p10_cert.specs.declared.claims.Rank.{Rank}
use Rattle.p10_cert.specs.declared.claims.Rank.TheVariants.{Task}
use Rattle.p10_cert.specs.declared.state.Seen.{Seen}
use Rattle.p10_cert.specs.Lines.{Line, FirstLine, FuncLine, ParamLine, ResultLine, LoopLine, VarLine, TotalLine, LastLine, SealedLine, DigestLine, OutsideLine, SectionLine, BodyLine}
use Rattle.p10_cert.specs.Statements.{is_before}
use Rattle.p10_cert.specs.private.States.{Next, First, Func, Digest, Param, Loop, Total, Section, Last, Over, is_free}
use Rattle.p10_cert.specs.private.Reading.{◌>>=◌, line_at, body_at}

-- whether a function is `main`
abbrev pub is_main : List ℕ → Bool
is_main name = bytes_eq name (codes "main")

-- whether a loop may stand in a function: the task in `main` alone, and once
abbrev pub may_stand : Bool → Bool → Rank → Bool
may_stand main tasked Task = main && not tasked
may_stand main tasked _ = true

-- whether there was a task, after a loop of this rank
abbrev pub tasked_after : Bool → Rank → Bool
tasked_after tasked Task = true
tasked_after tasked _ = tasked

-- what was seen, after a loop of this rank
abbrev pub seen_after : Seen → Rank → Seen
seen_after seen rank = record seen { tasked = tasked_after seen.tasked rank }

-- nothing was seen but the version
abbrev pub seen_first : Bool → Seen
seen_first sealed = record { sealed = sealed; tasked = false }

-- after the first line of a loop
abbrev pub step_loop : Bool → Seen → ℕ → ℕ → Rank → Option Next
step_loop main seen deepest depth rank =
    if nat_le depth deepest && may_stand main seen.tasked rank then Some (Loop main (seen_after seen rank) (depth + 1) 0) else None

-- after the first line of a function: its digest, in version 2, or its parameters
abbrev pub step_func : Seen → List ℕ → Next
step_func seen name = if seen.sealed then Digest (is_main name) seen else Param (is_main name) seen

-- after the bounds, which come before any digest in version 1 alone
abbrev pub step_total : Seen → Option Next
step_total seen = if seen.sealed then None else Some Last

-- after the digest of the words outside bodies, which version 2 has
abbrev pub step_outside : Seen → Option Next
step_outside seen = if seen.sealed then Some Total else None

-- what may come after a line, where it may come itself
unfoldable pub step : Next → Line → Option Next
step First FirstLine = Some (Func (seen_first false))
step First SealedLine = Some (Func (seen_first true))
step (Func seen) (FuncLine f) = Some (step_func seen f.name)
step (Func seen) (TotalLine b) = step_total seen
step (Func seen) (OutsideLine d) = step_outside seen
step (Digest main seen) (DigestLine d) = Some (Param main seen)
step (Param main seen) (ParamLine v) = Some (Param main seen)
step (Param main seen) (ResultLine v) = Some (Loop main seen 0 (2 ^ 32))
step (Loop main seen deepest least) (LoopLine l) = step_loop main seen deepest l.depth l.rank
step (Loop main seen deepest least) (VarLine v) = if nat_le least v.var then Some (Loop main seen deepest (v.var + 1)) else None
step (Loop main seen deepest least) (FuncLine f) = Some (step_func seen f.name)
step (Loop main seen deepest least) (TotalLine b) = step_total seen
step (Loop main seen deepest least) (OutsideLine d) = step_outside seen
step Total (TotalLine b) = Some (Section [] 0)
step (Section since zero) (SectionLine s) = if is_before since s.name then Some (Section s.name s.count) else None
step (Section since zero) LastLine = Some Over
step (Section since (suc left)) (BodyLine bytes) = Some (Section since left)
step Last LastLine = Some Over
step _ _ = None

-- what may come after lines
abbrev pub run : Next → List Line → Option Next
run next [] = Some next
run next (line ∷ lines) = step next line >>= λ after. run after lines

-- a line, where a line of a section has to come or another
unfoldable pub line_in : Next → List ℕ → Option (Line × List ℕ)
line_in next text = if is_free next then body_at text else line_at text

-- a line that may come next, what may come after it, and what stands after it
unfoldable pub step_at : Next → List ℕ → Option (Line × Next × List ℕ)
step_at next text = line_in next text >>= λ (line, rest). step next line >>= λ after. Some (line, after, rest)
