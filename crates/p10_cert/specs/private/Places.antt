-- Places between the lines of a text, and what stands between two of them.
use Rattle.std.specs.Prelude.{◌≡◌, ◌≢◌, ℕ, zero, suc, ◌+◌, ◌≤◌, Bool, true, false, if◌then◌else◌, List, [], ◌∷◌, ◌++◌, length, Option, Some, None}
use Rattle.std.specs.List.{AllByRecursion}
use Rattle.p10_cert.specs.declared.state.Seen.{Seen}
use Rattle.p10_cert.specs.Claims.{Value, Var, Loop, Address}
use Rattle.p10_cert.specs.Lines.{FuncHead, Line, FirstLine, FuncLine, ParamLine, ResultLine, LoopLine, VarLine, TotalLine, LastLine, SealedLine, DigestLine, OutsideLine, SectionLine, BodyLine, text_of, IsLine}
use Rattle.p10_cert.specs.Statements.{Entry, Ending, first_line, ending_lines}
use Rattle.p10_cert.specs.private.Reading.{◌>>=◌, or_else}
use Rattle.p10_cert.specs.private.States.{Next}
use Rattle.p10_cert.specs.private.States as next
use Rattle.p10_cert.specs.private.Steps.{run, step_at}

-- lines that stand in a text, each where it may come
pub record Reads (from : Next) (text : List ℕ) (lines : List Line) (to : Next) (rest : List ℕ) : Type 0 where
  pub good : AllByRecursion IsLine lines
  pub runs : run from lines ≡ Some to
  pub parts : text ≡ text_of lines ++ rest

-- whether a line stands in a function and isn't its first
abbrev pub IsInner : Line → Type 0
IsInner FirstLine = ⊥
IsInner (FuncLine f) = ⊥
IsInner (ParamLine v) = Unit {0}
IsInner (ResultLine v) = Unit {0}
IsInner (LoopLine l) = Unit {0}
IsInner (VarLine v) = Unit {0}
IsInner (TotalLine b) = ⊥
IsInner LastLine = ⊥
IsInner SealedLine = ⊥
IsInner (DigestLine d) = Unit {0}
IsInner (OutsideLine d) = ⊥
IsInner (SectionLine s) = ⊥
IsInner (BodyLine b) = ⊥

-- whether a loop may come next
abbrev pub is_loop : Next → Bool
is_loop (next.Loop main seen deepest least) = true
is_loop _ = false

-- whether a parameter may come next
abbrev pub is_param : Next → Bool
is_param (next.Param main seen) = true
is_param _ = false

-- whether a function's digest has to come next, or a parameter may
abbrev pub is_begun : Next → Bool
is_begun (next.Digest main seen) = true
is_begun (next.Param main seen) = true
is_begun _ = false

-- whether the bounds came before
abbrev pub is_past : Next → Bool
is_past (next.Section since left) = true
is_past next.Last = true
is_past next.Over = true
is_past _ = false

-- whether the bounds came before, and no line of a section has to come
abbrev pub is_closing : Next → Bool
is_closing (next.Section since zero) = true
is_closing next.Last = true
is_closing _ = false

-- the next line of a function whose loops may come next, where it is one of the function's
unfoldable pub further_at : Next → List ℕ → Option (Line × Next × List ℕ)
further_at here text = step_at here text >>= λ (line, after, rest). if is_loop after then Some (line, after, rest) else None

-- the next line of a function whose parameters may come next, where it is a parameter
unfoldable pub parameter_at : Next → List ℕ → Option (Line × Next × List ℕ)
parameter_at here text = step_at here text >>= λ (line, after, rest). if is_param after then Some (line, after, rest) else None

-- what may come after `count` lines of a text, and what stands after them
unfoldable pub after_lines : ℕ → Next → List ℕ → Option (Next × List ℕ)
after_lines zero here text = Some (here, text)
after_lines (suc count) here text = step_at here text >>= λ (line, after, rest). after_lines count after rest

-- the first `count` lines of a text
unfoldable pub lines_in : ℕ → Next → List ℕ → List Line
lines_in zero here text = []
lines_in (suc count) here text = or_else (step_at here text) (λ (line, after, rest). line ∷ lines_in count after rest) []

-- ## the functions of lines

-- what lines make: functions, and before them what belongs to the function and the loop that began before the lines
pub record Gathered : Type 0 where
  pub vars : List Var
  pub loops : List Loop
  pub result : Value
  pub params : List Value
  pub digest : Option (List ℕ)
  pub entries : List Entry

-- no lines
abbrev pub nothing : Gathered
nothing = record { vars = []; loops = []; result = Address; params = []; digest = None; entries = [] }

-- a line before others
abbrev pub gather_line : Line → Gathered → Gathered
gather_line (FuncLine h) g = record nothing {
  entries = record {
    func = record {
      name = h.name;
      rank = h.rank;
      steps = h.steps;
      calls = h.calls;
      bytes = h.bytes;
      alloc = h.alloc;
      params = g.params;
      result = g.result;
      loops = g.loops;
    };
    digest = g.digest;
  } ∷ g.entries;
}
gather_line (ParamLine v) g = record g { params = v ∷ g.params }
gather_line (ResultLine v) g = record g { result = v; params = [] }
gather_line (LoopLine h) g = record g { loops = record { depth = h.depth; rank = h.rank; turns = h.turns; vars = g.vars } ∷ g.loops; vars = [] }
gather_line (VarLine v) g = record g { vars = v ∷ g.vars }
gather_line (DigestLine d) g = record g { digest = Some d }
gather_line FirstLine g = g
gather_line SealedLine g = g
gather_line (TotalLine b) g = nothing
gather_line LastLine g = nothing
gather_line (OutsideLine d) g = nothing
gather_line (SectionLine s) g = nothing
gather_line (BodyLine b) g = nothing

unfoldable pub gather : List Line → Gathered
gather [] = nothing
gather (line ∷ lines) = gather_line line (gather lines)

-- the functions among the first lines of a text
unfoldable pub entries_in : ℕ → List ℕ → List Entry
entries_in count text = (gather (lines_in count next.First text)).entries

-- ## what is found at a place

-- a place: what may come next, what stands after it, and how many lines stand before it
pub record Place : Type 0 where
  pub here : Next
  pub rest : List ℕ
  pub lines : ℕ

-- the place after a line, or none where there is no such line
abbrev pub Goes : Option (Line × Next × List ℕ) → Place → Option Place → Type 0
Goes found from None = found ≡ None
Goes found from (Some to) = ((line : Line) × (found ≡ Some (line, to.here, to.rest))) × (to.lines ≡ from.lines + 1)

-- lines that lead from one place to another
pub record Follows (from to : Place) : Type 0 where
  pub lines : List Line
  pub reads : Reads from.here from.rest lines to.here to.rest
  pub number : to.lines ≡ from.lines + length lines

-- lines of a function that lead from one place to another
pub record Leads (from to : Place) : Type 0 where
  pub inner : List Line
  pub reads : Reads from.here from.rest inner to.here to.rest
  pub all : AllByRecursion IsInner inner
  pub number : to.lines ≡ from.lines + length inner

-- a place between two functions, where this was seen
abbrev pub IsBetween : Seen → Next → Type 0
IsBetween seen (next.Func here) = here ≡ seen
IsBetween seen (next.Loop main here deepest least) = here ≡ seen
IsBetween seen _ = ⊥

-- the first line of the text, at the beginning
abbrev pub opening : Bool → Next → List Line
opening sealed next.First = first_line sealed ∷ []
opening sealed _ = []

-- a place, and the place after the first line of the text, if it was the beginning
pub record Opens (from to : Place) : Type 0 where
  pub sealed : Bool
  pub reads : Reads from.here from.rest (opening sealed from.here) to.here to.rest
  pub number : to.lines ≡ from.lines + length (opening sealed from.here)
  pub seen : Seen
  pub between : IsBetween seen to.here
  pub stops : further_at to.here to.rest ≡ None

-- the next function: its text, the number of its first line, and the place after it
pub record HasFunction (from : Place) (part : List ℕ) (line : ℕ) (to : Place) : Type 0 where
  pub head : FuncHead
  pub inner : List Line
  pub reads : Reads from.here from.rest (FuncLine head ∷ inner) to.here to.rest
  pub all : AllByRecursion IsInner inner
  pub loop : is_loop to.here ≡ true
  pub stops : further_at to.here to.rest ≡ None
  pub exact : part ≡ text_of (FuncLine head ∷ inner)
  pub first : line ≡ from.lines + 1
  pub number : to.lines ≡ from.lines + length (FuncLine head ∷ inner)

-- the end of the text
pub record HasEnd (from : Place) (ending : Ending) : Type 0 where
  pub reads : Reads from.here from.rest (ending_lines ending) next.Over []

-- how many of these lines claim a result
abbrev pub results : List Line → ℕ
results [] = 0
results (ResultLine v ∷ lines) = suc (results lines)
results (line ∷ lines) = results lines

-- a line that may not come, with the lines before it, which are no whole function
pub record FindsWrong (from : Place) (line : ℕ) : Type 0 where
  pub lines : List Line
  pub to : Next
  pub rest : List ℕ
  pub reads : Reads from.here from.rest lines to rest
  pub none : step_at to rest ≡ None
  pub over : to ≡ next.Over → rest ≢ []
  pub early : results lines ≡ 0
  pub number : line ≡ from.lines + length lines + 1

-- ## where a reader of records stands

-- whether a function may begin, or nothing was read
abbrev pub is_start : Next → Bool
is_start next.First = true
is_start (next.Func seen) = true
is_start (next.Loop main seen deepest least) = true
is_start _ = false

-- a place of a text after a number of lines, where no further line of a function comes next
pub record IsPlace (text : List ℕ) (here : Next) (rest : List ℕ) (lines : ℕ) : Type 0 where
  pub reads : after_lines lines next.First text ≡ Some (here, rest)
  pub start : is_start here ≡ true
  pub stops : further_at here rest ≡ None
  pub few : lines + length rest ≤ length text
