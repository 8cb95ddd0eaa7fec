-- What is found at a place of a text is the next record, the end or the first wrong line.
use Rattle.std.proofs.Common.{◌≡◌, ℕ, zero, suc, ◌+◌, ◌≤◌, inl, inr, Bool, true, false, cond, List, [], ◌∷◌, ◌++◌, length, map, Option, Some, None, refl, sym, ap, subst, ◌∙◌, arith, append_assoc, append-nil, length-append}
use Rattle.std.proofs.lemmas.List.Concat.{flat_map-append}
use Rattle.std.proofs.lemmas.Option.{cond_some, same_Some, none-some}
use Rattle.std.specs.List.{AllByRecursion, flat_map}
use Rattle.p10_cert.specs.declared.state.Seen.{Seen}
use Rattle.p10_cert.specs.Claims.{Value, Var, Loop, Func}
use Rattle.p10_cert.specs.Lines.{FuncHead, Line, FirstLine, FuncLine, ParamLine, ResultLine, LoopLine, VarLine, TotalLine, LastLine, SealedLine, DigestLine, OutsideLine, SectionLine, BodyLine, line_then, text_of, flag_number, IsLine}
use Rattle.p10_cert.specs.Certificate.{loop_lines, loop_tasks}
use Rattle.p10_cert.specs.Statements.{Entry, Ending, first_line, digest_lines, inner_lines, entry_lines, entry_text, ending_lines, statement_lines, statement_text, is_before, IsEntry, entry_tasks, IsStatement}
use Rattle.p10_cert.specs.WrongLines.{IsFirstWrong}
use Rattle.p10_cert.specs.Records.{IsNextRecord, statement_from}
use Rattle.p10_cert.specs.private.States.{Next}
use Rattle.p10_cert.specs.private.States as next
use Rattle.p10_cert.specs.private.Steps.{is_main, seen_first, step_func, step_total, step_outside, step, run, step_at}
use Rattle.p10_cert.specs.private.Places.{Reads, IsInner, IsPlace, after_lines, lines_in, gather, entries_in, is_loop, is_start, further_at, Place, IsBetween, opening, Opens, HasFunction, HasEnd, results, FindsWrong}
use Rattle.p10_cert.proofs.Steps.{then_some, bind_is}
use Rattle.p10_cert.proofs.LineLaws.{flag_small}
use Rattle.p10_cert.proofs.LineTexts.{text_of-append}
use Rattle.p10_cert.proofs.Runs.{all_append, between_func, entry_run, entries_run, entry_good, entries_good, first_good, first_run}
use Rattle.p10_cert.proofs.Parts.{AfterFunc, after_run}
use Rattle.p10_cert.proofs.ReadLines.{run_join, step_at_again, reads_join, reads_shorter, reads_from, reads_to, compare}
use Rattle.p10_cert.proofs.Completing.{wrong_line, statement_from_lines}
use Rattle.p10_cert.proofs.Further.{further_some, total_is_last, outside_is_total}
use Rattle.p10_cert.proofs.AtPlaces.{first_stops, loop_leads, var_leads, inner_loop, results-append}
use Rattle.p10_cert.proofs.Gathering.{gather_entries, gather_first}
use Rattle.p10_cert.proofs.StatementLaws.{lines_tell_statement}

-- ---- the beginning

pub at_first : (text : List ℕ) (s : Next) (rest : List ℕ) (lines : ℕ) → s ≡ next.First → rest ≡ text → lines ≡ 0 → IsPlace text s rest lines
unfolding after_lines
at_first text s rest lines first whole none =
    let P : Next → Type 0 = λ s. IsPlace text s rest lines in
    let Q : List ℕ → Type 0 = λ rest. IsPlace text next.First rest lines in
    let R : ℕ → Type 0 = λ lines. IsPlace text next.First text lines in
    subst P (sym first) (subst Q (sym whole) (subst R (sym none) (record { reads = refl; start = refl; stops = first_stops text; few = omega arith })))

func_not_first : (t : Seen) (name : List ℕ) → step_func t name ≡ next.First → ⊥
func_not_first t name e = by_version t.sealed e
  where
    by_version : (b : Bool) → cond b (next.Digest (is_main name) t) (next.Param (is_main name) t) ≡ next.First → ⊥
    by_version true e = cc
    by_version false e = cc

total_not_first : (t : Seen) → step_total t ≡ Some next.First → ⊥
total_not_first t e = let last : next.First ≡ next.Last = (total_is_last t next.First e).1 in cc

outside_not_first : (t : Seen) → step_outside t ≡ Some next.First → ⊥
outside_not_first t e = let total : next.First ≡ next.Total = (outside_is_total t next.First e).1 in cc

section_not_first : (since : List ℕ) (left : ℕ) (l : Line) → step (next.Section since left) l ≡ Some next.First → ⊥
unfolding step
section_not_first since zero (SectionLine h) e = let found : next.Section h.name h.count ≡ next.First = (cond_some (is_before since h.name) (next.Section h.name h.count) next.First e).1 in cc
section_not_first since zero LastLine e = cc
section_not_first since (suc left) (BodyLine b) e = cc
section_not_first since left l e = none-some next.First e

never_first : (s : Next) (l : Line) → step s l ≡ Some next.First → ⊥
unfolding step
never_first next.First FirstLine e = absurd cc
never_first next.First SealedLine e = absurd cc
never_first (next.Func t) (FuncLine h) e = func_not_first t h.name (same_Some _ next.First e)
never_first (next.Func t) (TotalLine b) e = total_not_first t e
never_first (next.Func t) (OutsideLine d) e = outside_not_first t e
never_first (next.Digest m t) (DigestLine d) e = absurd cc
never_first (next.Param m t) (ParamLine v) e = absurd cc
never_first (next.Param m t) (ResultLine v) e = absurd cc
never_first (next.Loop m t d least) (LoopLine h) e = absurd (let loop = loop_leads m t d least next.First h e in cc)
never_first (next.Loop m t d least) (VarLine x) e = absurd (let loop = var_leads m t d least next.First x e in cc)
never_first (next.Loop m t d least) (FuncLine h) e = func_not_first t h.name (same_Some _ next.First e)
never_first (next.Loop m t d least) (TotalLine b) e = total_not_first t e
never_first (next.Loop m t d least) (OutsideLine o) e = outside_not_first t e
never_first next.Total (TotalLine b) e = absurd cc
never_first (next.Section since left) l e = section_not_first since left l e
never_first next.Last LastLine e = absurd cc
never_first s l e = none-some next.First e

-- only no lines lead to the beginning
first_none : (lines : List Line) (s : Next) → run s lines ≡ Some next.First → (s ≡ next.First) × (lines ≡ [])
first_none [] s e = (same_Some s next.First e, refl)
first_none (l ∷ lines) s e = then_some (step s l) (λ a. run a lines) next.First e (λ a e0 f0.
    let others = first_none lines a f0 in
    absurd (never_first s l (e0 ∙ ap (λ a. Some a) others.0)))

-- ---- the functions before a place

-- the lines of a text before a place between two functions are those of the functions that were given
pub record IsGiven (text : List ℕ) (start : Place) (given : List Entry) : Type 0 where
  seen : Seen
  between : IsBetween seen start.here
  reads : Reads next.First text (first_line seen.sealed ∷ flat_map entry_lines given) start.here start.rest
  good : AllByRecursion (IsEntry seen.sealed) given
  count : entry_tasks given ≡ flag_number seen.tasked
  number : start.lines ≡ length (first_line seen.sealed ∷ flat_map entry_lines given)

gather_opening : (sealed : Bool) (lines : List Line) (s : Next) → run next.First lines ≡ Some s → (gather (lines ++ opening sealed s)).entries ≡ (gather lines).entries
unfolding gather
gather_opening sealed lines next.First e =
    let none = (first_none lines next.First e).1 in
    ap (λ ls. (gather (ls ++ (first_line sealed ∷ []))).entries) none ∙ ap (λ g. g.entries) (gather_first sealed []) ∙ ap (λ ls. (gather ls).entries) (sym none)
gather_opening sealed lines (next.Func t) e = ap (λ ls. (gather ls).entries) (append-nil lines)
gather_opening sealed lines (next.Digest m t) e = ap (λ ls. (gather ls).entries) (append-nil lines)
gather_opening sealed lines (next.Param m t) e = ap (λ ls. (gather ls).entries) (append-nil lines)
gather_opening sealed lines (next.Loop m t d least) e = ap (λ ls. (gather ls).entries) (append-nil lines)
gather_opening sealed lines next.Total e = ap (λ ls. (gather ls).entries) (append-nil lines)
gather_opening sealed lines (next.Section since left) e = ap (λ ls. (gather ls).entries) (append-nil lines)
gather_opening sealed lines next.Last e = ap (λ ls. (gather ls).entries) (append-nil lines)
gather_opening sealed lines next.Over e = ap (λ ls. (gather ls).entries) (append-nil lines)

-- lines of functions, from the beginning to a place between two of them
given_lines : (text : List ℕ) (start : Place) (before : List Line) (seen : Seen) → IsBetween seen start.here → Reads next.First text before start.here start.rest → start.lines ≡ length before
    → (given : List Entry) × (before ≡ first_line seen.sealed ∷ flat_map entry_lines given) × IsGiven text start given
given_lines text start before seen between whole number =
    let after = after_run next.First start.here seen between before whole.good whole.runs in
    let version : after.sealed ≡ seen.sealed = after.rest.same in
    let is : before ≡ first_line seen.sealed ∷ flat_map entry_lines after.rest.entries = after.first ∙ ap (λ ls. first_line after.sealed ∷ ls) after.rest.parts ∙ ap (λ b. first_line b ∷ flat_map entry_lines after.rest.entries) version in
    let P : List Line → Type 0 = λ ls. Reads next.First text ls start.here start.rest in
    let Q : Bool → Type 0 = λ b. AllByRecursion (IsEntry b) after.rest.entries in (
      after.rest.entries,
      is,
      record {
        seen = seen;
        between = between;
        reads = subst P is whole;
        good = subst Q version after.rest.good;
        count = omega (arith, after.rest.count);
        number = omega (arith, number, ap length is);
      },
    )

pub is_given : (text : List ℕ) (from start : Place) → IsPlace text from.here from.rest from.lines → Opens from start → IsGiven text start (entries_in from.lines text)
unfolding entries_in
is_given text from start place opens =
    let (lines, count, reads) = reads_from from.lines next.First text (from.here, from.rest) place.reads in
    let first : List Line = opening opens.sealed from.here in
    let whole = reads_join next.First from.here start.here text from.rest start.rest lines first reads opens.reads in
    let (given, is, now) = given_lines text start (lines ++ first) opens.seen opens.between whole (omega (arith, opens.number, count, length-append lines first)) in
    let read : lines_in from.lines next.First text ≡ lines = ap (λ n. lines_in n next.First text) (sym count) ∙ (reads_to lines next.First from.here text from.rest reads).1 in
    let entries : given ≡ (gather (lines_in from.lines next.First text)).entries =
    sym (gather_entries given) ∙ ap (λ g. g.entries) (sym (gather_first opens.seen.sealed (flat_map entry_lines given)))
    ∙ ap (λ ls. (gather ls).entries) (sym is) ∙ gather_opening opens.sealed lines from.here reads.runs ∙ ap (λ ls. (gather ls).entries) (sym read) in
    let Q : List Entry → Type 0 = IsGiven text start in
    subst Q entries now

-- ---- one function more

loop_between : (s : Next) → is_loop s ≡ true → (v : Seen) × IsBetween v s
loop_between (next.Loop m t d least) e = (t, refl)
loop_between next.First e = absurd cc
loop_between (next.Func t) e = absurd cc
loop_between (next.Digest m t) e = absurd cc
loop_between (next.Param m t) e = absurd cc
loop_between next.Total e = absurd cc
loop_between (next.Section since left) e = absurd cc
loop_between next.Last e = absurd cc
loop_between next.Over e = absurd cc

loop_start : (s : Next) → is_loop s ≡ true → is_start s ≡ true
loop_start (next.Loop m t d least) e = refl
loop_start next.First e = absurd cc
loop_start (next.Func t) e = absurd cc
loop_start (next.Digest m t) e = absurd cc
loop_start (next.Param m t) e = absurd cc
loop_start next.Total e = absurd cc
loop_start (next.Section since left) e = absurd cc
loop_start next.Last e = absurd cc
loop_start next.Over e = absurd cc

-- a function begins alike at each place between two functions
run_between : (t : Seen) (s : Next) (h : FuncHead) (lines : List Line) → IsBetween t s → run s (FuncLine h ∷ lines) ≡ run (next.Func t) (FuncLine h ∷ lines)
run_between t s h lines between =
    bind_is (step s (FuncLine h)) (step_func t h.name) (λ a. run a lines) _ (between_func t s h between)
    (sym (bind_is (step (next.Func t) (FuncLine h)) (step_func t h.name) (λ a. run a lines) _ (between_func t (next.Func t) h refl) refl))

all_inner_after : (xs ys : List Line) → AllByRecursion IsInner (xs ++ ys) → AllByRecursion IsInner ys
all_inner_after [] ys good = good
all_inner_after (x ∷ xs) ys good = all_inner_after xs ys good.1

-- lines of functions, of which one alone begins a function
one_entry : (h : FuncHead) (inner : List Line) (entries : List Entry) → AllByRecursion IsInner inner → FuncLine h ∷ inner ≡ flat_map entry_lines entries → (e : Entry) × (entries ≡ e ∷ []) × (entry_lines e ≡ FuncLine h ∷ inner)
one_entry h inner [] all e = absurd cc
one_entry h inner (x ∷ []) all e = (x, refl, sym (append-nil (entry_lines x)) ∙ sym e)
one_entry h inner (x ∷ y ∷ entries) all e =
    let tail : List Line = digest_lines x.digest ++ inner_lines x.func in
    let same : inner ≡ tail ++ flat_map entry_lines (y ∷ entries) = cc in
    absurd (all_inner_after tail (flat_map entry_lines (y ∷ entries)) (subst (AllByRecursion IsInner) same all)).0

tasks-append : (xs ys : List Entry) → entry_tasks (xs ++ ys) ≡ entry_tasks xs + entry_tasks ys
tasks-append [] ys = omega arith
tasks-append (x ∷ xs) ys = omega (arith, tasks-append xs ys)

-- the lines of a function after its first
func_inner : (e : Entry) → AllByRecursion IsInner (digest_lines e.digest ++ inner_lines e.func)
func_inner e =
    let f : Func = e.func in
    all_append IsInner (digest_lines e.digest) (inner_lines f) (digest_inner e.digest)
    (all_append IsInner (map ParamLine f.params) (ResultLine f.result ∷ flat_map loop_lines f.loops) (params_inner f.params) (tt, loops_inner f.loops))
  where
    digest_inner : (digest : Option (List ℕ)) → AllByRecursion IsInner (digest_lines digest)
    digest_inner None = tt
    digest_inner (Some d) = (tt, tt)

    params_inner : (params : List Value) → AllByRecursion IsInner (map ParamLine params)
    params_inner [] = tt
    params_inner (v ∷ params) = (tt, params_inner params)

    vars_inner : (vars : List Var) → AllByRecursion IsInner (map VarLine vars)
    vars_inner [] = tt
    vars_inner (v ∷ vars) = (tt, vars_inner vars)

    loops_inner : (loops : List Loop) → AllByRecursion IsInner (flat_map loop_lines loops)
    loops_inner [] = tt
    loops_inner (l ∷ loops) = (tt, all_append IsInner (map VarLine l.vars) (flat_map loop_lines loops) (vars_inner l.vars) (loops_inner loops))

-- the run of a function that may stand where one begins
run_of_entry : (t : Seen) (g : Entry) → IsEntry t.sealed g → flag_number t.tasked + loop_tasks g.func.loops ≤ 1 → (end : Next) × (run (next.Func t) (entry_lines g) ≡ Some end)
run_of_entry t g good once =
    let whole = entry_run t (next.Func t) g [] refl good once in
    let end : Next = next.Loop (is_main g.func.name) whole.seen whole.deepest whole.least in
    (end, ap (run (next.Func t)) (sym (append-nil (entry_lines g))) ∙ whole.runs)

-- no function that may stand there goes on after lines where no further line comes
no_longer : (t : Seen) (g : Entry) (h : FuncHead) (inner others : List Line) (l : Line) (to : Next) (rest after : List ℕ) → IsEntry t.sealed g → flag_number t.tasked + loop_tasks g.func.loops ≤ 1
    → entry_lines g ≡ (FuncLine h ∷ inner) ++ (l ∷ others) → run (next.Func t) (FuncLine h ∷ inner) ≡ Some to → is_loop to ≡ true → IsLine l → rest ≡ line_then l after → further_at to rest ≡ None → ⊥
no_longer t g h inner others l to rest after good once parts runs loop line here stops =
    let (end, whole) = run_of_entry t g good once in
    let leads : run to (l ∷ others) ≡ Some end = sym (run_join (FuncLine h ∷ inner) (l ∷ others) (next.Func t) to runs) ∙ ap (run (next.Func t)) (sym parts) ∙ whole in
    let tail : List Line = digest_lines g.digest ++ inner_lines g.func in
    let same : tail ≡ inner ++ (l ∷ others) = cc in
    let is_inner : IsInner l = (all_inner_after inner (l ∷ others) (subst (AllByRecursion IsInner) same (func_inner g))).0 in
    then_some (step to l) (λ a. run a others) end leads (λ a e0 f0.
    let found = step_at_again to a l after line e0 in
    none-some (l, a, after) (sym stops ∙ further_some to a rest after l (sym (ap (step_at to) here ∙ found)) (inner_loop to a l loop is_inner e0)))

-- no text of a function that may stand there is longer
longest_here : (t : Seen) (start to : Place) (part : List ℕ) (line : ℕ) (g : Entry) (more : List ℕ) → (has : HasFunction start part line to) → run (next.Func t) (FuncLine has.head ∷ has.inner) ≡ Some to.here
    → IsEntry t.sealed g → flag_number t.tasked + loop_tasks g.func.loops ≤ 1 → part ++ to.rest ≡ entry_text g ++ more → length (entry_text g) ≤ length part
unfolding entry_text
longest_here t start to part line g more has runs good once e =
    let mine : List Line = FuncLine has.head ∷ has.inner in
    let (end, whole) = run_of_entry t g good once in
    elim (compare (entry_lines g) mine more to.rest (next.Func t) end to.here whole runs (entry_good t.sealed g good) has.reads.good (sym e ∙ ap (λ t. t ++ to.rest) has.exact)) [
      | inl within ↦ omega (arith, ap length has.exact, ap length (ap text_of within.parts ∙ text_of-append (entry_lines g) within.others), length-append (text_of (entry_lines g)) (text_of within.others))
      | inr on ↦ absurd (no_longer t g has.head has.inner on.others on.line to.here to.rest _ good once on.parts runs has.loop on.good on.here has.stops)
    ]

-- what comes of a function that is found
pub record IsFound (text : List ℕ) (given : List Entry) (part : List ℕ) (line : ℕ) (to : Place) : Type 0 where
  pub entry : Entry
  pub next_record : IsNextRecord text given entry part line
  pub place : IsPlace text to.here to.rest to.lines
  pub now_given : entries_in to.lines text ≡ given ++ entry ∷ []

pub func_found : (text : List ℕ) (start to : Place) (given : List Entry) (part : List ℕ) (line : ℕ) → IsGiven text start given → HasFunction start part line to → IsFound text given part line to
unfolding entry_text entries_in
func_found text start to given part line before has =
    let t : Seen = before.seen in
    let mine : List Line = FuncLine has.head ∷ has.inner in
    let runs : run (next.Func t) mine ≡ Some to.here = sym (run_between t start.here has.head has.inner before.between) ∙ has.reads.runs in
    let (v, between) = loop_between to.here has.loop in
    let after : AfterFunc t v mine = after_run (next.Func t) to.here v between mine has.reads.good runs in
    let (e, one, lines) = one_entry has.head has.inner after.entries has.all after.parts in
    let good : AllByRecursion (IsEntry t.sealed) (e ∷ []) = subst (AllByRecursion (IsEntry t.sealed)) one after.good in
    let tasks : flag_number t.tasked + entry_tasks (e ∷ []) ≡ flag_number v.tasked = ap (λ es. flag_number t.tasked + entry_tasks es) (sym one) ∙ after.count in
    let first : List Line = first_line t.sealed ∷ flat_map entry_lines given in
    let whole = reads_join next.First start.here to.here text start.rest to.rest first mine before.reads has.reads in
    let again = reads_to (first ++ mine) next.First to.here text to.rest whole in
    let count : length (first ++ mine) ≡ to.lines = omega (arith, has.number, before.number, length-append first mine) in
    let all : first ++ mine ≡ first_line t.sealed ∷ flat_map entry_lines (given ++ e ∷ []) =
    ap (λ ls. first ++ ls) (sym lines ∙ sym (append-nil (entry_lines e))) ∙ ap (λ ls. first_line t.sealed ∷ ls) (sym (flat_map-append entry_lines given (e ∷ []))) in
    let P : ℕ → Type 0 = λ n. after_lines n next.First text ≡ Some (to.here, to.rest) in
    record {
      entry = e;
      next_record = record {
        sealed = t.sealed;
        rest = to.rest;
        parts = before.reads.parts ∙ ap (λ t. text_of first ++ t) (has.reads.parts ∙ ap (λ t. t ++ to.rest) (sym has.exact));
        exact = has.exact ∙ ap text_of (sym lines);
        good = record {
          all = all_append (IsEntry t.sealed) given (e ∷ []) before.good good;
          one_task = omega (arith, tasks-append given (e ∷ []), before.count, tasks, flag_small v.tasked);
        };
        longest = λ g more fits e.
            let fit : AllByRecursion (IsEntry t.sealed) (g ∷ []) = all_entries_after t.sealed given (g ∷ []) fits.all in
            longest_here t start to part line g more has runs fit.0 (omega (arith, tasks-append given (g ∷ []), before.count, fits.one_task)) e;
        number = omega (arith, has.first, before.number);
      };
      place = record {
        reads = subst P count again.0;
        start = loop_start to.here has.loop;
        stops = has.stops;
        few = omega (arith, reads_shorter next.First to.here text to.rest (first ++ mine) whole, count);
      };
      now_given = ap (λ n. (gather (lines_in n next.First text)).entries) (sym count) ∙ ap (λ ls. (gather ls).entries) (again.1 ∙ all) ∙ ap (λ g. g.entries) (gather_first t.sealed (flat_map entry_lines (given ++ e ∷ []))) ∙ gather_entries (given ++ e ∷ []);
    }
  where
    all_entries_after : (sealed : Bool) (xs ys : List Entry) → AllByRecursion (IsEntry sealed) (xs ++ ys) → AllByRecursion (IsEntry sealed) ys
    all_entries_after sealed [] ys good = good
    all_entries_after sealed (x ∷ xs) ys good = all_entries_after sealed xs ys good.1

-- ---- the end of the text

pub end_found : (text : List ℕ) (start : Place) (given : List Entry) (ending : Ending) → IsGiven text start given → HasEnd start ending
    → IsStatement (statement_from given ending) × (text ≡ statement_text (statement_from given ending))
unfolding statement_text
end_found text start given ending before has =
    let first : List Line = first_line before.seen.sealed ∷ flat_map entry_lines given in
    let whole = reads_join next.First start.here next.Over text start.rest [] first (ending_lines ending) before.reads has.reads in
    let (s, good, is) = statement_from_lines (first ++ ending_lines ending) whole.good whole.runs in
    let same : s ≡ statement_from given ending = lines_tell_statement s given ending before.seen.sealed is in
    let text_is : text ≡ text_of (statement_lines s) = whole.parts ∙ append-nil (text_of (first ++ ending_lines ending)) ∙ ap text_of (sym is) in
    (subst IsStatement same good, text_is ∙ ap (λ s. text_of (statement_lines s)) same)

-- ---- a line that may not come

results_params : (params : List Value) → results (map ParamLine params) ≡ 0
results_params [] = refl
results_params (v ∷ params) = results_params params

results_vars : (vars : List Var) → results (map VarLine vars) ≡ 0
results_vars [] = refl
results_vars (v ∷ vars) = results_vars vars

results_loops : (loops : List Loop) → results (flat_map loop_lines loops) ≡ 0
results_loops [] = refl
results_loops (l ∷ loops) = omega (arith, results-append (map VarLine l.vars) (flat_map loop_lines loops), results_vars l.vars, results_loops loops)

results_digest : (digest : Option (List ℕ)) → results (digest_lines digest) ≡ 0
results_digest None = refl
results_digest (Some d) = refl

-- a function tells one result
results_entry : (e : Entry) → results (entry_lines e) ≡ 1
results_entry e =
    let f : Func = e.func in
    omega (arith, results-append (digest_lines e.digest) (inner_lines f), results_digest e.digest, results-append (map ParamLine f.params) (ResultLine f.result ∷ flat_map loop_lines f.loops), results_params f.params, results_loops f.loops)

results_entries : (entries : List Entry) → results (flat_map entry_lines entries) ≡ length entries
results_entries [] = refl
results_entries (e ∷ entries) = omega (arith, results-append (entry_lines e) (flat_map entry_lines entries), results_entry e, results_entries entries)

results_first : (sealed : Bool) (lines : List Line) → results (first_line sealed ∷ lines) ≡ results lines
results_first true lines = refl
results_first false lines = refl

-- before a place there are no more results than functions that were given
whole_results : (lines : List Line) (s : Next) (t : Seen) → IsBetween t s → AllByRecursion IsLine lines → run next.First lines ≡ Some s → results lines ≤ length (gather lines).entries
whole_results lines s t between good e =
    let after = after_run next.First s t between lines good e in
    let is : lines ≡ first_line after.sealed ∷ flat_map entry_lines after.rest.entries = after.first ∙ ap (λ ls. first_line after.sealed ∷ ls) after.rest.parts in
    let entries : (gather lines).entries ≡ after.rest.entries = ap (λ ls. (gather ls).entries) is ∙ ap (λ g. g.entries) (gather_first after.sealed (flat_map entry_lines after.rest.entries)) ∙ gather_entries after.rest.entries in
    omega (arith, ap length entries, ap results is, results_first after.sealed (flat_map entry_lines after.rest.entries), results_entries after.rest.entries)

few_results : (lines : List Line) (s : Next) → is_start s ≡ true → AllByRecursion IsLine lines → run next.First lines ≡ Some s → results lines ≤ length (gather lines).entries
few_results lines next.First start good e = omega (arith, ap results (first_none lines next.First e).1)
few_results lines (next.Func t) start good e = whole_results lines (next.Func t) t refl good e
few_results lines (next.Loop m t d least) start good e = whole_results lines (next.Loop m t d least) t refl good e
few_results lines (next.Digest m t) start good e = absurd cc
few_results lines (next.Param m t) start good e = absurd cc
few_results lines next.Total start good e = absurd cc
few_results lines (next.Section since left) start good e = absurd cc
few_results lines next.Last start good e = absurd cc
few_results lines next.Over start good e = absurd cc

-- where a line may not come before a function has ended, no record comes next
no_record : (text rest : List ℕ) (lines : List Line) (to : Next) (given : List Entry) → Reads next.First text lines to rest → step_at to rest ≡ None → results lines ≤ length given
    → (e : Entry) (part : List ℕ) (line : ℕ) → IsNextRecord text given e part line → ⊥
unfolding entry_text
no_record text rest lines to given reads none few e part line next_record =
    let fits = next_record.good in
    let sealed : Bool = next_record.sealed in
    let mine : List Line = first_line sealed ∷ flat_map entry_lines (given ++ e ∷ []) in
    let first : List Line = first_line sealed ∷ flat_map entry_lines given in
    let all : mine ≡ first ++ entry_lines e = ap (λ ls. first_line sealed ∷ ls) (flat_map-append entry_lines given (e ∷ [])) ∙ ap (λ ls. first ++ ls) (append-nil (entry_lines e)) in
    let here : text_of mine ++ next_record.rest ≡ text =
    ap (λ t. t ++ next_record.rest) (ap text_of all ∙ text_of-append first (entry_lines e)) ∙ append_assoc (text_of first) (text_of (entry_lines e)) next_record.rest
    ∙ ap (λ t. text_of first ++ (t ++ next_record.rest)) (sym next_record.exact) ∙ sym next_record.parts in
    let lead = entries_run (seen_first sealed) (next.Func (seen_first sealed)) (given ++ e ∷ []) [] refl fits.all (omega (arith, fits.one_task)) in
    let runs : run next.First mine ≡ Some lead.to = first_run sealed (flat_map entry_lines (given ++ e ∷ [])) ∙ ap (run (next.Func (seen_first sealed))) (sym (append-nil (flat_map entry_lines (given ++ e ∷ [])))) ∙ lead.runs in
    let count : results mine ≡ length given + 1 = results_first sealed (flat_map entry_lines (given ++ e ∷ [])) ∙ results_entries (given ++ e ∷ []) ∙ length-append given (e ∷ []) in
    elim (compare mine lines next_record.rest rest next.First lead.to to runs reads.runs (first_good sealed, entries_good sealed (given ++ e ∷ []) fits.all) reads.good (here ∙ reads.parts)) [
      | inl within ↦ omega (arith, ap results within.parts, results-append mine within.others, count, few)
      | inr on ↦ goes_on lines to rest on.line on.others mine lead.to _ reads.runs none on.good on.here on.parts runs
    ]
  where
    goes_on : (lines : List Line) (to : Next) (rest : List ℕ) (l : Line) (others mine : List Line) (end : Next) (after : List ℕ) → run next.First lines ≡ Some to → step_at to rest ≡ None → IsLine l → rest ≡ line_then l after → mine ≡ lines ++ (l ∷ others) → run next.First mine ≡ Some end → ⊥
    goes_on lines to rest l others mine end after leads none line here parts runs =
        let more : run to (l ∷ others) ≡ Some end = sym (run_join lines (l ∷ others) next.First to leads) ∙ ap (run next.First) (sym parts) ∙ runs in
        then_some (step to l) (λ a. run a others) end more (λ a e0 f0. none-some (l, a, after) (sym none ∙ ap (step_at to) here ∙ step_at_again to a l after line e0))

pub wrong_found : (text : List ℕ) (from : Place) (line : ℕ) → IsPlace text from.here from.rest from.lines → FindsWrong from line
    → IsFirstWrong text line × ((e : Entry) (part : List ℕ) (n : ℕ) → IsNextRecord text (entries_in from.lines text) e part n → ⊥)
unfolding entries_in
wrong_found text from line place wrong =
    let (lines, count, reads) = reads_from from.lines next.First text (from.here, from.rest) place.reads in
    let whole = reads_join next.First from.here wrong.to text from.rest wrong.rest lines wrong.lines reads wrong.reads in
    let number : suc (length (lines ++ wrong.lines)) ≡ line = omega (arith, wrong.number, count, length-append lines wrong.lines) in
    let read : lines_in from.lines next.First text ≡ lines = ap (λ n. lines_in n next.First text) (sym count) ∙ (reads_to lines next.First from.here text from.rest reads).1 in
    let few = few_results lines from.here place.start reads.good reads.runs in (
      subst (IsFirstWrong text) number (wrong_line text wrong.rest (lines ++ wrong.lines) wrong.to whole wrong.none wrong.over),
      no_record text wrong.rest (lines ++ wrong.lines) wrong.to (gather (lines_in from.lines next.First text)).entries whole wrong.none
          (omega (arith, few, results-append lines wrong.lines, wrong.early, ap (λ ls. length (gather ls).entries) read)),
    )
