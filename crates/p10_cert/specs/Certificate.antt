-- What a certificate may claim, and its text.
use Rattle.std.specs.Prelude.{◌≡◌, ℕ, ◌+◌, ◌<◌, ◌≤◌, List, [], ◌∷◌, ◌++◌, map, flat_map, codes}
use Rattle.std.specs.List.{AllByRecursion}
use Rattle.p10_cert.specs.declared.claims.Rank.{Rank}
use Rattle.p10_cert.specs.declared.claims.Rank.TheVariants.{Task}
use Rattle.p10_cert.specs.Claims.{Var, Loop, Func, Claims}
use Rattle.p10_cert.specs.Lines.{FuncHead, LoopHead, Line, FirstLine, FuncLine, ParamLine, ResultLine, LoopLine, VarLine, TotalLine, LastLine, text_of, IsFuncHead, IsParam, IsResult, IsLoopHead, IsVar, IsTotal}

-- ## the lines of a certificate

abbrev pub loop_head : Loop → LoopHead
loop_head l = record { depth = l.depth; rank = l.rank; turns = l.turns }

-- the lines of a loop: its own, and then one for each of its variables
abbrev pub loop_lines : Loop → List Line
loop_lines l = LoopLine (loop_head l) ∷ map VarLine l.vars

abbrev pub func_head : Func → FuncHead
func_head f = record { name = f.name; rank = f.rank; steps = f.steps; calls = f.calls; bytes = f.bytes; alloc = f.alloc }

-- the lines of a function: its own, its parameters, its result and its loops
abbrev pub func_lines : Func → List Line
func_lines f = FuncLine (func_head f) ∷ (map ParamLine f.params ++ (ResultLine f.result ∷ flat_map loop_lines f.loops))

-- the lines of a certificate: the first, those of its functions, the total and the last
abbrev pub claims_lines : Claims → List Line
claims_lines c = FirstLine ∷ (flat_map func_lines c.funcs ++ (TotalLine c.total ∷ LastLine ∷ []))

-- the text of a certificate
unfoldable pub certificate_text : Claims → List ℕ
certificate_text c = text_of (claims_lines c)

-- the text of what is claimed of one function
unfoldable pub func_text : Func → List ℕ
func_text f = text_of (func_lines f)

-- ## what a certificate may claim

-- the numbers of variables rise, from one that is at least `least`
abbrev pub RiseFrom : ℕ → List Var → Type 0
RiseFrom least [] = Unit {0}
RiseFrom least (v ∷ vars) = (least ≤ v.var) × RiseFrom (v.var + 1) vars

-- loops nest: the first has a depth of at most `most`, and each other one is at most one deeper than the loop before it
abbrev pub NestFrom : ℕ → List Loop → Type 0
NestFrom most [] = Unit {0}
NestFrom most (l ∷ loops) = (l.depth ≤ most) × NestFrom (l.depth + 1) loops

-- what a loop may claim
pub record IsLoop (l : Loop) : Type 0 where
  pub head : IsLoopHead (loop_head l)
  pub vars : AllByRecursion IsVar l.vars
  pub rise : RiseFrom 0 l.vars

-- 1 for the task, else 0
abbrev pub task_number : Rank → ℕ
task_number Task = 1
task_number _ = 0

-- how many of these loops are tasks
abbrev pub loop_tasks : List Loop → ℕ
loop_tasks [] = 0
loop_tasks (l ∷ loops) = task_number l.rank + loop_tasks loops

-- what may be claimed of a function
pub record IsFunc (f : Func) : Type 0 where
  pub head : IsFuncHead (func_head f)
  pub params : AllByRecursion IsParam f.params
  pub result : IsResult f.result
  pub loops : AllByRecursion IsLoop f.loops
  pub nest : NestFrom 0 f.loops
  -- a task stands in `main` alone
  pub task : 0 < loop_tasks f.loops → f.name ≡ codes "main"

-- how many tasks these functions have
abbrev pub func_tasks : List Func → ℕ
func_tasks [] = 0
func_tasks (f ∷ funcs) = loop_tasks f.loops + func_tasks funcs

-- functions of a certificate: what is claimed of each may be claimed, and there is one task at most
pub record AreFuncs (funcs : List Func) : Type 0 where
  pub all : AllByRecursion IsFunc funcs
  pub one_task : func_tasks funcs ≤ 1

-- what a certificate may claim
pub record IsCertificate (c : Claims) : Type 0 where
  pub funcs : AreFuncs c.funcs
  pub total : IsTotal c.total
