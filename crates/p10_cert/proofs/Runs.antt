-- The lines of a certificate come one after the other, each where it may come.
use Rattle.std.proofs.Common.{◌≡◌, ℕ, ◌+◌, ◌^◌, ◌<◌, ◌≤◌, Bool, true, false, cond, List, [], ◌∷◌, ◌++◌, length, map, codes, Option, Some, None, refl, sym, ap, subst, ◌∙◌, arith, le-leb, append_assoc}
use Rattle.std.proofs.lemmas.Slice.Eq.{bytes_eq-Decides}
use Rattle.std.specs.List.{AllByRecursion, flat_map}
use Rattle.p10_cert.specs.declared.claims.Rank.{Rank}
use Rattle.p10_cert.specs.declared.claims.Rank.TheVariants.{Up, Down, One, Task}
use Rattle.p10_cert.specs.private.States.{Next}
use Rattle.p10_cert.specs.private.States as next
use Rattle.p10_cert.specs.declared.state.Seen.{Seen}
use Rattle.p10_cert.specs.Claims.{Value, Var, Loop, Func}
use Rattle.p10_cert.specs.Lines.{FuncHead, Line, FuncLine, ParamLine, ResultLine, VarLine, TotalLine, LastLine, BodyLine, flag_number, IsParam, IsVar, IsBody, IsLine}
use Rattle.p10_cert.specs.Certificate.{loop_lines, func_head, RiseFrom, NestFrom, IsLoop, task_number, loop_tasks}
use Rattle.p10_cert.specs.Statements.{Entry, Section, Ending, Statement, first_line, digest_lines, inner_lines, entry_lines, section_lines, outside_lines, ending_lines, statement_lines, is_there, IsSeal, IsEntry, entry_tasks, RisesFrom, IsSection, MayHave, IsEnding, IsStatement}
use Rattle.p10_cert.specs.private.Steps.{is_main, may_stand, tasked_after, seen_after, seen_first, step_loop, step_func, step, run}
use Rattle.p10_cert.specs.private.Places.{IsBetween}
use Rattle.p10_cert.proofs.Steps.{bind_is}

-- ---- the lines of a loop

pub vars_run : (m : Bool) (t : Seen) (d least : ℕ) (vars : List Var) (rest : List Line) → RiseFrom least vars
    → (after : ℕ) × (run (next.Loop m t d least) (map VarLine vars ++ rest) ≡ run (next.Loop m t d after) rest)
unfolding step
vars_run m t d least [] rest rise = (least, refl)
vars_run m t d least (v ∷ vars) rest rise =
    let others = vars_run m t d (v.var + 1) vars rest rise.1 in
    (others.0, rw (le-leb least v.var rise.0) others.1)

-- a loop that may come where the task may
rank_stands : (m t : Bool) (rank : Rank) → (0 < task_number rank → m ≡ true) → flag_number t + task_number rank ≤ 1 → may_stand m t rank ≡ true
rank_stands m t (Up var bound) main once = refl
rank_stands m t (Down var bound) main once = refl
rank_stands m t One main once = refl
rank_stands m true Task main once = absurd (omega (arith, once))
rank_stands m false Task main once = rw (main (omega arith)) refl

pub tasked_count : (m t : Bool) (rank : Rank) → may_stand m t rank ≡ true → flag_number (tasked_after t rank) ≡ flag_number t + task_number rank
tasked_count m t (Up var bound) stands = omega arith
tasked_count m t (Down var bound) stands = omega arith
tasked_count m t One stands = omega arith
tasked_count true true Task stands = absurd cc
tasked_count false true Task stands = absurd cc
tasked_count m false Task stands = omega arith

pub loop_step : (m : Bool) (t : Seen) (d depth : ℕ) (rank : Rank) → depth ≤ d → may_stand m t.tasked rank ≡ true → step_loop m t d depth rank ≡ Some (next.Loop m (seen_after t rank) (depth + 1) 0)
loop_step m t d depth rank deep stands = rw (le-leb depth d deep, stands) refl

-- ---- the lines of loops and functions

-- lines that lead from a state to the loops of a function with as many tasks, in a text of this version
pub record LeadTo (from : Next) (lines rest : List Line) (main sealed : Bool) (tasks : ℕ) : Type 0 where
  pub seen : Seen
  pub deepest : ℕ
  pub least : ℕ
  pub runs : run from (lines ++ rest) ≡ run (next.Loop main seen deepest least) rest
  pub count : flag_number seen.tasked ≡ tasks
  pub same : seen.sealed ≡ sealed

loop_run : (m : Bool) (t : Seen) (d least : ℕ) (l : Loop) (more rest : List Line) → l.depth ≤ d → may_stand m t.tasked l.rank ≡ true → RiseFrom 0 l.vars
    → (after : ℕ) × (run (next.Loop m t d least) ((loop_lines l ++ more) ++ rest) ≡ run (next.Loop m (seen_after t l.rank) (l.depth + 1) after) (more ++ rest))
unfolding step
loop_run m t d least l more rest deep stands rise =
    let others = vars_run m (seen_after t l.rank) (l.depth + 1) 0 l.vars (more ++ rest) rise in
    (others.0, rw (loop_step m t d l.depth l.rank deep stands, append_assoc (map VarLine l.vars) more rest) others.1)

pub loops_run : (m : Bool) (t : Seen) (d least : ℕ) (loops : List Loop) (rest : List Line) → NestFrom d loops → AllByRecursion IsLoop loops
    → (0 < loop_tasks loops → m ≡ true) → flag_number t.tasked + loop_tasks loops ≤ 1
    → LeadTo (next.Loop m t d least) (flat_map loop_lines loops) rest m t.sealed (flag_number t.tasked + loop_tasks loops)
loops_run m t d least [] rest nest good main once = record { seen = t; deepest = d; least = least; runs = refl; count = omega arith; same = refl }
loops_run m t d least (l ∷ loops) rest nest good main once =
    let stands = rank_stands m t.tasked l.rank (λ some. main (omega (arith, some))) (omega (arith, once)) in
    let count = tasked_count m t.tasked l.rank stands in
    let here = loop_run m t d least l (flat_map loop_lines loops) rest nest.0 stands good.0.rise in
    let others = loops_run m (seen_after t l.rank) (l.depth + 1) here.0 loops rest nest.1 good.1 (λ some. main (omega (arith, some))) (omega (arith, once, count)) in
    record { seen = others.seen; deepest = others.deepest; least = others.least; runs = here.1 ∙ others.runs; count = others.count ∙ omega (arith, count); same = others.same }

params_run : (m : Bool) (t : Seen) (params : List Value) (rest : List Line) → run (next.Param m t) (map ParamLine params ++ rest) ≡ run (next.Param m t) rest
unfolding step
params_run m t [] rest = refl
params_run m t (v ∷ params) rest = params_run m t params rest

pub between_func : (t : Seen) (s : Next) (f : FuncHead) → IsBetween t s → step s (FuncLine f) ≡ Some (step_func t f.name)
unfolding step
between_func t (next.Func u) f between = rw between refl
between_func t (next.Loop m u d least) f between = rw between refl
between_func t next.First f between = absurd between
between_func t (next.Digest m u) f between = absurd between
between_func t (next.Param m u) f between = absurd between
between_func t next.Total f between = absurd between
between_func t (next.Section since left) f between = absurd between
between_func t next.Last f between = absurd between
between_func t next.Over f between = absurd between

main_is : (name : List ℕ) → name ≡ codes "main" → is_main name ≡ true
main_is name e = (bytes_eq-Decides name (codes "main")).1 e

-- a digest comes where it has to
digest_run : (t : Seen) (name : List ℕ) (digest : Option (List ℕ)) (rest : List Line) → IsSeal t.sealed digest
    → run (step_func t name) (digest_lines digest ++ rest) ≡ run (next.Param (is_main name) t) rest
unfolding step
digest_run t name digest rest seal = by_version t.sealed digest seal
  where
    by_version : (b : Bool) (digest : Option (List ℕ)) → IsSeal b digest
        → run (cond b (next.Digest (is_main name) t) (next.Param (is_main name) t)) (digest_lines digest ++ rest) ≡ run (next.Param (is_main name) t) rest
    by_version true (Some d) seal = refl
    by_version false None seal = refl
    by_version true None seal = absurd seal
    by_version false (Some d) seal = absurd seal

entry_start : (t : Seen) (s : Next) (e : Entry) (rest : List Line) → IsBetween t s → IsSeal t.sealed e.digest
    → run s (entry_lines e ++ rest) ≡ run (next.Loop (is_main e.func.name) t 0 (2 ^ 32)) (flat_map loop_lines e.func.loops ++ rest)
unfolding step
entry_start t s e rest between seal =
    let f : Func = e.func in
    let m : Bool = is_main f.name in
    bind_is (step s (FuncLine (func_head f))) (step_func t f.name) (λ a. run a ((digest_lines e.digest ++ inner_lines f) ++ rest)) _ (between_func t s (func_head f) between)
    (ap (run (step_func t f.name)) (append_assoc (digest_lines e.digest) (inner_lines f) rest)
    ∙ digest_run t f.name e.digest (inner_lines f ++ rest) seal
    ∙ ap (run (next.Param m t)) (append_assoc (map ParamLine f.params) (ResultLine f.result ∷ flat_map loop_lines f.loops) rest)
    ∙ params_run m t f.params (ResultLine f.result ∷ (flat_map loop_lines f.loops ++ rest)))

pub entry_run : (t : Seen) (s : Next) (e : Entry) (rest : List Line) → IsBetween t s → IsEntry t.sealed e → flag_number t.tasked + loop_tasks e.func.loops ≤ 1
    → LeadTo s (entry_lines e) rest (is_main e.func.name) t.sealed (flag_number t.tasked + loop_tasks e.func.loops)
entry_run t s e rest between good once =
    let f : Func = e.func in
    let loops = loops_run (is_main f.name) t 0 (2 ^ 32) f.loops rest good.func.nest good.func.loops (λ some. main_is f.name (good.func.task some)) once in
    record { seen = loops.seen; deepest = loops.deepest; least = loops.least; runs = entry_start t s e rest between good.seal ∙ loops.runs; count = loops.count; same = loops.same }

-- what comes of lines of functions
pub record LeadBetween (from : Next) (lines rest : List Line) (sealed : Bool) (tasks : ℕ) : Type 0 where
  pub to : Next
  pub seen : Seen
  pub runs : run from (lines ++ rest) ≡ run to rest
  pub between : IsBetween seen to
  pub count : flag_number seen.tasked ≡ tasks
  pub same : seen.sealed ≡ sealed

pub entries_run : (t : Seen) (s : Next) (entries : List Entry) (rest : List Line) → IsBetween t s → AllByRecursion (IsEntry t.sealed) entries → flag_number t.tasked + entry_tasks entries ≤ 1
    → LeadBetween s (flat_map entry_lines entries) rest t.sealed (flag_number t.tasked + entry_tasks entries)
entries_run t s [] rest between good once = record { to = s; seen = t; runs = refl; between = between; count = omega arith; same = refl }
entries_run t s (e ∷ entries) rest between good once =
    let here = entry_run t s e (flat_map entry_lines entries ++ rest) between good.0 (omega (arith, once)) in
    let P : Bool → Type 0 = λ b. AllByRecursion (IsEntry b) entries in
    let others = entries_run here.seen (next.Loop (is_main e.func.name) here.seen here.deepest here.least) entries rest refl (subst P (sym here.same) good.1) (omega (arith, once, here.count)) in
    record {
      to = others.to;
      seen = others.seen;
      runs = ap (run s) (append_assoc (entry_lines e) (flat_map entry_lines entries) rest) ∙ here.runs ∙ others.runs;
      between = others.between;
      count = others.count ∙ omega (arith, here.count);
      same = others.same ∙ here.same;
    }

-- ---- what stands after the functions

bodies_run : (since : List ℕ) (lines : List (List ℕ)) (rest : List Line) → run (next.Section since (length lines)) (map BodyLine lines ++ rest) ≡ run (next.Section since 0) rest
unfolding step
bodies_run since [] rest = refl
bodies_run since (b ∷ lines) rest = bodies_run since lines rest

sections_run : (since : List ℕ) (sections : List Section) → RisesFrom since sections → run (next.Section since 0) (flat_map section_lines sections ++ LastLine ∷ []) ≡ Some next.Over
unfolding step
sections_run since [] rise = refl
sections_run since (s ∷ sections) rise =
    rw (rise.0, append_assoc (map BodyLine s.lines) (flat_map section_lines sections) (LastLine ∷ []))
    (bodies_run s.name s.lines (flat_map section_lines sections ++ LastLine ∷ []) ∙ sections_run s.name sections rise.1)

-- what stands after the functions, from where a function may begin
from_func : (t : Seen) (e : Ending) → IsEnding t.sealed e → run (next.Func t) (ending_lines e) ≡ Some next.Over
unfolding step
from_func t e good = by_version t.sealed e.outside e.sections good.seal good.sections
  where
    by_version : (b : Bool) (outside : Option (List ℕ)) (sections : List Section) → IsSeal b outside → MayHave b sections → run (next.Func (record t { sealed = b })) (ending_lines (record { outside = outside; total = e.total; sections = sections })) ≡ Some next.Over
    by_version true (Some d) sections seal may = sections_run [] sections may.rise
    by_version false None [] seal may = refl
    by_version false None (s ∷ sections) seal may = absurd may
    by_version true None sections seal may = absurd seal
    by_version false (Some d) sections seal may = absurd seal

pub ending_run : (t : Seen) (s : Next) (e : Ending) → IsBetween t s → IsEnding t.sealed e → run s (ending_lines e) ≡ Some next.Over
unfolding step
ending_run t (next.Func u) e between good = ap (λ u. run (next.Func u) (ending_lines e)) between ∙ from_func t e good
ending_run t (next.Loop m u d least) e between good =
    ap (λ u. run (next.Loop m u d least) (ending_lines e)) between ∙ by_outside e.outside e.sections ∙ from_func t e good
  where
    by_outside : (outside : Option (List ℕ)) (sections : List Section) → run (next.Loop m t d least) (ending_lines (record { outside = outside; total = e.total; sections = sections })) ≡ run (next.Func t) (ending_lines (record { outside = outside; total = e.total; sections = sections }))
    by_outside None sections = refl
    by_outside (Some d) sections = refl
ending_run t next.First e between good = absurd between
ending_run t (next.Digest m u) e between good = absurd between
ending_run t (next.Param m u) e between good = absurd between
ending_run t next.Total e between good = absurd between
ending_run t (next.Section since left) e between good = absurd between
ending_run t next.Last e between good = absurd between
ending_run t next.Over e between good = absurd between

-- ---- the lines of a certificate

pub first_run : (sealed : Bool) (lines : List Line) → run next.First (first_line sealed ∷ lines) ≡ run (next.Func (seen_first sealed)) lines
unfolding step
first_run true lines = refl
first_run false lines = refl

-- the lines of a certificate lead to its end
pub statement_run : (s : Statement) → IsStatement s → run next.First (statement_lines s) ≡ Some next.Over
statement_run s good =
    let sealed : Bool = is_there s.ending.outside in
    let entries = entries_run (seen_first sealed) (next.Func (seen_first sealed)) s.entries (ending_lines s.ending) refl good.entries.all (omega (arith, good.entries.one_task)) in
    let P : Bool → Type 0 = λ b. IsEnding b s.ending in
    first_run sealed _ ∙ entries.runs ∙ ending_run entries.seen entries.to s.ending entries.between (subst P (sym entries.same) good.ending)

-- ---- each line of a certificate may be

pub all_append : {A : Type 0} (P : A → Type 0) (xs ys : List A) → AllByRecursion P xs → AllByRecursion P ys → AllByRecursion P (xs ++ ys)
all_append P [] ys left right = right
all_append P (x ∷ xs) ys left right = (left.0, all_append P xs ys left.1 right)

vars_good : (vars : List Var) → AllByRecursion IsVar vars → AllByRecursion IsLine (map VarLine vars)
vars_good [] good = tt
vars_good (v ∷ vars) good = (good.0, vars_good vars good.1)

params_good : (params : List Value) → AllByRecursion IsParam params → AllByRecursion IsLine (map ParamLine params)
params_good [] good = tt
params_good (v ∷ params) good = (good.0, params_good params good.1)

loops_good : (loops : List Loop) → AllByRecursion IsLoop loops → AllByRecursion IsLine (flat_map loop_lines loops)
loops_good [] good = tt
loops_good (l ∷ loops) good = (good.0.head, all_append IsLine (map VarLine l.vars) (flat_map loop_lines loops) (vars_good l.vars good.0.vars) (loops_good loops good.1))

seal_good : (sealed : Bool) (digest : Option (List ℕ)) → IsSeal sealed digest → AllByRecursion IsLine (digest_lines digest) × AllByRecursion IsLine (outside_lines digest)
seal_good sealed None seal = (tt, tt)
seal_good true (Some d) seal = ((seal, tt), (seal, tt))
seal_good false (Some d) seal = absurd seal

pub entry_good : (sealed : Bool) (e : Entry) → IsEntry sealed e → AllByRecursion IsLine (entry_lines e)
entry_good sealed e good =
    let f : Func = e.func in (
      good.func.head,
      all_append IsLine (digest_lines e.digest) (inner_lines f) (seal_good sealed e.digest good.seal).0
          (all_append IsLine (map ParamLine f.params) (ResultLine f.result ∷ flat_map loop_lines f.loops) (params_good f.params good.func.params) (good.func.result, loops_good f.loops good.func.loops)),
    )

pub entries_good : (sealed : Bool) (entries : List Entry) → AllByRecursion (IsEntry sealed) entries → AllByRecursion IsLine (flat_map entry_lines entries)
entries_good sealed [] good = tt
entries_good sealed (e ∷ entries) good = all_append IsLine (entry_lines e) (flat_map entry_lines entries) (entry_good sealed e good.0) (entries_good sealed entries good.1)

bodies_good : (lines : List (List ℕ)) → AllByRecursion IsBody lines → AllByRecursion IsLine (map BodyLine lines)
bodies_good [] good = tt
bodies_good (b ∷ lines) good = (good.0, bodies_good lines good.1)

sections_good : (sections : List Section) → AllByRecursion IsSection sections → AllByRecursion IsLine (flat_map section_lines sections)
sections_good [] good = tt
sections_good (s ∷ sections) good = (good.0.head, all_append IsLine (map BodyLine s.lines) (flat_map section_lines sections) (bodies_good s.lines good.0.lines) (sections_good sections good.1))

may_have : (sealed : Bool) (sections : List Section) → MayHave sealed sections → AllByRecursion IsSection sections
may_have true sections may = may.all
may_have false [] may = tt
may_have false (s ∷ sections) may = absurd may

pub ending_good : (sealed : Bool) (e : Ending) → IsEnding sealed e → AllByRecursion IsLine (ending_lines e)
ending_good sealed e good =
    all_append IsLine (outside_lines e.outside) (TotalLine e.total ∷ (flat_map section_lines e.sections ++ LastLine ∷ [])) (seal_good sealed e.outside good.seal).1
    (good.total, all_append IsLine (flat_map section_lines e.sections) (LastLine ∷ []) (sections_good e.sections (may_have sealed e.sections good.sections)) (tt, tt))

pub first_good : (sealed : Bool) → IsLine (first_line sealed)
first_good true = tt
first_good false = tt

pub statement_good : (s : Statement) → IsStatement s → AllByRecursion IsLine (statement_lines s)
statement_good s good =
    let sealed : Bool = is_there s.ending.outside in
    (first_good sealed, all_append IsLine (flat_map entry_lines s.entries) (ending_lines s.ending) (entries_good sealed s.entries good.entries.all) (ending_good sealed s.ending good.ending))
