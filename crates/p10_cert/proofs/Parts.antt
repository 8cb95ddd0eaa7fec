-- Lines of which each may come where it stands are the lines of functions.
use Rattle.std.proofs.Common.{◌≡◌, ℕ, zero, suc, ◌+◌, ◌^◌, ◌<◌, ◌≤◌, Bool, true, false, not, ◌&&◌, nat_le, cond, List, [], ◌∷◌, ◌++◌, map, codes, Option, Some, None, refl, sym, ap, subst, ◌∙◌, arith, append_assoc}
use Rattle.std.proofs.lemmas.Bool.Decides.{nat_tests}
use Rattle.std.proofs.lemmas.Option.{cond_some, same_Some, none-some}
use Rattle.std.proofs.lemmas.Slice.Eq.{bytes_eq-Decides}
use Rattle.std.specs.List.{AllByRecursion, flat_map}
use Rattle.p10_cert.specs.declared.claims.Rank.{Rank}
use Rattle.p10_cert.specs.declared.claims.Rank.TheVariants.{Up, Down, One, Task}
use Rattle.p10_cert.specs.private.States.{Next}
use Rattle.p10_cert.specs.private.States as next
use Rattle.p10_cert.specs.declared.state.Seen.{Seen}
use Rattle.p10_cert.specs.Claims.{Value, Var, Loop, Func}
use Rattle.p10_cert.specs.Lines.{FuncHead, LoopHead, Line, FirstLine, FuncLine, ParamLine, ResultLine, LoopLine, VarLine, TotalLine, LastLine, SealedLine, DigestLine, OutsideLine, SectionLine, BodyLine, flag_number, IsDigest, IsFuncHead, IsLoopHead, IsParam, IsResult, IsVar, IsLine}
use Rattle.p10_cert.specs.Certificate.{loop_lines, RiseFrom, NestFrom, IsLoop, task_number, loop_tasks}
use Rattle.p10_cert.specs.Statements.{Entry, first_line, digest_lines, inner_lines, entry_lines, IsSeal, IsEntry, entry_tasks, is_before}
use Rattle.p10_cert.specs.private.Steps.{is_main, may_stand, seen_after, seen_first, step_loop, step_func, step_total, step_outside, step, run}
use Rattle.p10_cert.specs.private.Places.{IsBetween}
use Rattle.p10_cert.proofs.Steps.{then_some, both_true}
use Rattle.p10_cert.proofs.Runs.{tasked_count}

-- ---- what lines are, by the state in which they come; v: a task was seen in the end

-- loops, and then functions
pub record LoopsThen (m : Bool) (t : Seen) (d : ℕ) (v : Seen) (loops : List Loop) (entries : List Entry) : Type 0 where
  good : AllByRecursion IsLoop loops
  nest : NestFrom d loops
  main : 0 < loop_tasks loops → m ≡ true
  others : AllByRecursion (IsEntry t.sealed) entries
  count : flag_number t.tasked + (loop_tasks loops + entry_tasks entries) ≡ flag_number v.tasked
  same : t.sealed ≡ v.sealed

pub record AfterLoop (m : Bool) (t : Seen) (d least : ℕ) (v : Seen) (lines : List Line) : Type 0 where
  vars : List Var
  loops : List Loop
  entries : List Entry
  parts : lines ≡ map VarLine vars ++ (flat_map loop_lines loops ++ flat_map entry_lines entries)
  good : AllByRecursion IsVar vars
  rise : RiseFrom least vars
  rest : LoopsThen m t d v loops entries

pub record AfterParam (m : Bool) (t v : Seen) (lines : List Line) : Type 0 where
  params : List Value
  result : Value
  loops : List Loop
  entries : List Entry
  parts : lines ≡ map ParamLine params ++ (ResultLine result ∷ (flat_map loop_lines loops ++ flat_map entry_lines entries))
  good : AllByRecursion IsParam params
  good_result : IsResult result
  rest : LoopsThen m t 0 v loops entries

pub record AfterDigest (m : Bool) (t v : Seen) (lines : List Line) : Type 0 where
  digest : List ℕ
  others : List Line
  first : lines ≡ DigestLine digest ∷ others
  good : IsDigest digest
  rest : AfterParam m t v others

pub record AfterFunc (t v : Seen) (lines : List Line) : Type 0 where
  pub entries : List Entry
  pub parts : lines ≡ flat_map entry_lines entries
  pub good : AllByRecursion (IsEntry t.sealed) entries
  pub count : flag_number t.tasked + entry_tasks entries ≡ flag_number v.tasked
  pub same : t.sealed ≡ v.sealed

pub record AfterFirst (v : Seen) (lines : List Line) : Type 0 where
  pub sealed : Bool
  pub others : List Line
  pub first : lines ≡ first_line sealed ∷ others
  pub rest : AfterFunc (seen_first sealed) v others

abbrev pub After : Next → Seen → List Line → Type 0
After next.First v lines = AfterFirst v lines
After (next.Func t) v lines = AfterFunc t v lines
After (next.Digest m t) v lines = AfterDigest m t v lines
After (next.Param m t) v lines = AfterParam m t v lines
After (next.Loop m t d least) v lines = AfterLoop m t d least v lines
After next.Total v lines = ⊥
After (next.Section since left) v lines = ⊥
After next.Last v lines = ⊥
After next.Over v lines = ⊥

-- no lines

no_tasks : (t v : Seen) → t ≡ v → flag_number t.tasked + 0 ≡ flag_number v.tasked
no_tasks t v e = omega (arith, ap (λ (s : Seen). flag_number s.tasked) e)

same_version : (t v : Seen) → t ≡ v → t.sealed ≡ v.sealed
same_version t v e = ap (λ (s : Seen). s.sealed) e

no_loops : (m : Bool) (t v : Seen) (d : ℕ) → t ≡ v → LoopsThen m t d v [] []
no_loops m t v d e = record { good = tt; nest = tt; main = λ some. absurd (omega (arith, some)); others = tt; count = omega (arith, no_tasks t v e); same = same_version t v e }

after_none : (s : Next) (v : Seen) → IsBetween v s → After s v []
after_none next.First v between = absurd between
after_none (next.Func t) v between = record { entries = []; parts = refl; good = tt; count = no_tasks t v between; same = same_version t v between }
after_none (next.Digest m t) v between = absurd between
after_none (next.Param m t) v between = absurd between
after_none (next.Loop m t d least) v between = record { vars = []; loops = []; entries = []; parts = refl; good = tt; rise = tt; rest = no_loops m t v d between }
after_none next.Total v between = absurd between
after_none (next.Section since left) v between = absurd between
after_none next.Last v between = absurd between
after_none next.Over v between = absurd between

-- a function, from its first line and what comes after it

func_from : FuncHead → List Value → Value → List Loop → Func
func_from h params result loops = record {
  name = h.name;
  rank = h.rank;
  steps = h.steps;
  calls = h.calls;
  bytes = h.bytes;
  alloc = h.alloc;
  params = params;
  result = result;
  loops = loops;
}

entry_after : (h : FuncHead) (t v : Seen) (digest : Option (List ℕ)) (lines others : List Line) → IsFuncHead h → IsSeal t.sealed digest → lines ≡ digest_lines digest ++ others → AfterParam (is_main h.name) t v others
    → AfterFunc t v (FuncLine h ∷ lines)
unfolding func_from
entry_after h t v digest lines others good seal first after =
    let f : Func = func_from h after.params after.result after.loops in
    let more : List Line = flat_map entry_lines after.entries in
    record {
      entries = record { func = f; digest = digest } ∷ after.entries;
      parts = ap (λ ls. FuncLine h ∷ ls) (
          first
          ∙ ap (λ ls. digest_lines digest ++ ls) (after.parts ∙ sym (append_assoc (map ParamLine after.params) (ResultLine after.result ∷ flat_map loop_lines after.loops) more))
          ∙ sym (append_assoc (digest_lines digest) (inner_lines f) more));
      good = (
        record {
          func = record {
            head = good;
            params = after.good;
            result = after.good_result;
            loops = after.rest.good;
            nest = after.rest.nest;
            task = λ some. (bytes_eq-Decides h.name (codes "main")).0 (after.rest.main some);
          };
          seal = seal;
        },
        after.rest.others,
      );
      count = after.rest.count;
      same = after.rest.same;
    }

func_after : (h : FuncHead) (t v : Seen) (lines : List Line) → IsFuncHead h → After (step_func t h.name) v lines → AfterFunc t v (FuncLine h ∷ lines)
func_after h t v lines good after = by_version t.sealed refl after
  where
    sealed : (b : Bool) → t.sealed ≡ b → (digest : Option (List ℕ)) → IsSeal b digest → IsSeal t.sealed digest
    sealed b e digest seal = subst (λ b. IsSeal b digest) (sym e) seal

    by_version : (b : Bool) → t.sealed ≡ b → After (cond b (next.Digest (is_main h.name) t) (next.Param (is_main h.name) t)) v lines → AfterFunc t v (FuncLine h ∷ lines)
    by_version true e after = entry_after h t v (Some after.digest) lines after.others good (sealed true e (Some after.digest) after.good) after.first after.rest
    by_version false e after = entry_after h t v None lines lines good (sealed false e None tt) refl after

-- a loop, from its first line and what comes after it

loop_main : (m t : Bool) (rank : Rank) (tasks : ℕ) → may_stand m t rank ≡ true → (0 < tasks → m ≡ true) → 0 < task_number rank + tasks → m ≡ true
loop_main m t (Up var bound) tasks stands main some = main (omega (arith, some))
loop_main m t (Down var bound) tasks stands main some = main (omega (arith, some))
loop_main m t One tasks stands main some = main (omega (arith, some))
loop_main m t Task tasks stands main some = (both_true m (not t) stands).0

loop_after : (m : Bool) (t : Seen) (d least : ℕ) (h : LoopHead) (v : Seen) (lines : List Line) → IsLoopHead h → h.depth ≤ d → may_stand m t.tasked h.rank ≡ true
    → AfterLoop m (seen_after t h.rank) (h.depth + 1) 0 v lines → AfterLoop m t d least v (LoopLine h ∷ lines)
loop_after m t d least h v lines good deep stands after =
    let l : Loop = record { depth = h.depth; rank = h.rank; turns = h.turns; vars = after.vars } in
    record {
      vars = [];
      loops = l ∷ after.loops;
      entries = after.entries;
      parts = ap (λ ls. LoopLine h ∷ ls) (
          after.parts
          ∙ sym (append_assoc (map VarLine after.vars) (flat_map loop_lines after.loops) (flat_map entry_lines after.entries)));
      good = tt;
      rise = tt;
      rest = record {
        good = (record { head = good; vars = after.good; rise = after.rise }, after.rest.good);
        nest = (deep, after.rest.nest);
        main = loop_main m t.tasked h.rank (loop_tasks after.loops) stands after.rest.main;
        others = after.rest.others;
        count = omega (arith, after.rest.count, tasked_count m t.tasked h.rank stands);
        same = after.rest.same;
      };
    }

-- before the first loop no variable comes
no_vars : (vars : List Var) → RiseFrom (2 ^ 32) vars → AllByRecursion IsVar vars → vars ≡ []
no_vars [] rise good = refl
no_vars (v ∷ vars) rise good = absurd (omega (arith, rise.0, good.0.var.small))

result_after : (m : Bool) (t v : Seen) (r : Value) (lines : List Line) → IsResult r → AfterLoop m t 0 (2 ^ 32) v lines → AfterParam m t v (ResultLine r ∷ lines)
result_after m t v r lines good after = record {
  params = [];
  result = r;
  loops = after.loops;
  entries = after.entries;
  parts = ap (λ ls. ResultLine r ∷ ls) (after.parts ∙ ap (λ vars. map VarLine vars ++ (flat_map loop_lines after.loops ++ flat_map entry_lines after.entries)) (no_vars after.vars after.rise after.good));
  good = tt;
  good_result = good;
  rest = after.rest;
}

param_after : (m : Bool) (t v : Seen) (p : Value) (lines : List Line) → IsParam p → AfterParam m t v lines → AfterParam m t v (ParamLine p ∷ lines)
param_after m t v p lines good after = record {
  params = p ∷ after.params;
  result = after.result;
  loops = after.loops;
  entries = after.entries;
  parts = ap (λ ls. ParamLine p ∷ ls) after.parts;
  good = (good, after.good);
  good_result = after.good_result;
  rest = after.rest;
}

var_after : (m : Bool) (t : Seen) (d least : ℕ) (x : Var) (v : Seen) (lines : List Line) → IsVar x → least ≤ x.var → AfterLoop m t d (x.var + 1) v lines → AfterLoop m t d least v (VarLine x ∷ lines)
var_after m t d least x v lines good high after = record {
  vars = x ∷ after.vars;
  loops = after.loops;
  entries = after.entries;
  parts = ap (λ ls. VarLine x ∷ ls) after.parts;
  good = (good, after.good);
  rise = (high, after.rise);
  rest = after.rest;
}

other_after : (m : Bool) (t : Seen) (d least : ℕ) (v : Seen) (lines : List Line) → AfterFunc t v lines → AfterLoop m t d least v lines
other_after m t d least v lines after = record {
  vars = [];
  loops = [];
  entries = after.entries;
  parts = after.parts;
  good = tt;
  rise = tt;
  rest = record { good = tt; nest = tt; main = λ some. absurd (omega (arith, some)); others = after.good; count = omega (arith, after.count); same = after.same };
}

-- ---- one line more

-- a line of a loop, which came where it may
pub loop_stepped : (m : Bool) (t : Seen) (d depth : ℕ) (rank : Rank) (a : Next) → step_loop m t d depth rank ≡ Some a
    → (depth ≤ d) × (may_stand m t.tasked rank ≡ true) × (next.Loop m (seen_after t rank) (depth + 1) 0 ≡ a)
loop_stepped m t d depth rank a e =
    let found = cond_some (nat_le depth d && may_stand m t.tasked rank) (next.Loop m (seen_after t rank) (depth + 1) 0) a e in
    let both = both_true (nat_le depth d) (may_stand m t.tasked rank) found.0 in
    let deep : nat_le depth d ≡ true = both.0 in
    (grind (arith, nat_tests), both.1, found.1)

after_loop_line : (m : Bool) (t : Seen) (d least : ℕ) (h : LoopHead) (a : Next) (v : Seen) (lines : List Line) → IsLoopHead h → step_loop m t d h.depth h.rank ≡ Some a → After a v lines
    → AfterLoop m t d least v (LoopLine h ∷ lines)
after_loop_line m t d least h a v lines good e after =
    let stepped = loop_stepped m t d h.depth h.rank a e in
    loop_after m t d least h v lines good stepped.0 stepped.1 (subst (λ s. After s v lines) (sym stepped.2) after)

after_var_line : (m : Bool) (t : Seen) (d least : ℕ) (x : Var) (a : Next) (v : Seen) (lines : List Line) → IsVar x → cond (nat_le least x.var) (Some (next.Loop m t d (x.var + 1))) None ≡ Some a → After a v lines
    → AfterLoop m t d least v (VarLine x ∷ lines)
after_var_line m t d least x a v lines good e after =
    let found = cond_some (nat_le least x.var) (next.Loop m t d (x.var + 1)) a e in
    let high : nat_le least x.var ≡ true = found.0 in
    var_after m t d least x v lines good (grind (arith, nat_tests)) (subst (λ s. After s v lines) (sym found.1) after)

-- what comes of a step that is known
after_known : (b a : Next) (v : Seen) (lines : List Line) → Some b ≡ Some a → After a v lines → After b v lines
after_known b a v lines e after = subst (λ s. After s v lines) (sym (same_Some b a e)) after

-- no function comes after what stands after the functions
none_after_total : (t : Seen) (a : Next) (v : Seen) (lines : List Line) → step_total t ≡ Some a → After a v lines → ⊥
none_after_total t a v lines e after = by_version t.sealed e
  where
    by_version : (b : Bool) → cond b None (Some next.Last) ≡ Some a → ⊥
    by_version true e = none-some a e
    by_version false e = after_known next.Last a v lines e after

none_after_outside : (t : Seen) (a : Next) (v : Seen) (lines : List Line) → step_outside t ≡ Some a → After a v lines → ⊥
none_after_outside t a v lines e after = by_version t.sealed e
  where
    by_version : (b : Bool) → cond b (Some next.Total) None ≡ Some a → ⊥
    by_version true e = after_known next.Total a v lines e after
    by_version false e = none-some a e

none_in_sections : (since : List ℕ) (left : ℕ) (l : Line) (a : Next) (v : Seen) (lines : List Line) → step (next.Section since left) l ≡ Some a → After a v lines → ⊥
unfolding step
none_in_sections since zero (SectionLine s) a v lines e after =
    let found = cond_some (is_before since s.name) (next.Section s.name s.count) a e in
    subst (λ s. After s v lines) (sym found.1) after
none_in_sections since zero LastLine a v lines e after = after_known next.Over a v lines e after
none_in_sections since (suc left) (BodyLine b) a v lines e after = after_known (next.Section since left) a v lines e after
none_in_sections since left l a v lines e after = none-some a e

after_line : (s : Next) (l : Line) (a : Next) (v : Seen) (lines : List Line) → IsLine l → step s l ≡ Some a → After a v lines → After s v (l ∷ lines)
unfolding step
after_line next.First FirstLine a v lines good e after = record { sealed = false; others = lines; first = refl; rest = after_known (next.Func (seen_first false)) a v lines e after }
after_line next.First SealedLine a v lines good e after = record { sealed = true; others = lines; first = refl; rest = after_known (next.Func (seen_first true)) a v lines e after }
after_line (next.Func t) (FuncLine h) a v lines good e after = func_after h t v lines good (after_known (step_func t h.name) a v lines e after)
after_line (next.Func t) (TotalLine b) a v lines good e after = absurd (none_after_total t a v lines e after)
after_line (next.Func t) (OutsideLine d) a v lines good e after = absurd (none_after_outside t a v lines e after)
after_line (next.Digest m t) (DigestLine d) a v lines good e after = record { digest = d; others = lines; first = refl; good = good; rest = after_known (next.Param m t) a v lines e after }
after_line (next.Param m t) (ParamLine p) a v lines good e after = param_after m t v p lines good (after_known (next.Param m t) a v lines e after)
after_line (next.Param m t) (ResultLine r) a v lines good e after = result_after m t v r lines good (after_known (next.Loop m t 0 (2 ^ 32)) a v lines e after)
after_line (next.Loop m t d least) (LoopLine h) a v lines good e after = after_loop_line m t d least h a v lines good e after
after_line (next.Loop m t d least) (VarLine x) a v lines good e after = after_var_line m t d least x a v lines good e after
after_line (next.Loop m t d least) (FuncLine h) a v lines good e after = other_after m t d least v (FuncLine h ∷ lines) (func_after h t v lines good (after_known (step_func t h.name) a v lines e after))
after_line (next.Loop m t d least) (TotalLine b) a v lines good e after = absurd (none_after_total t a v lines e after)
after_line (next.Loop m t d least) (OutsideLine o) a v lines good e after = absurd (none_after_outside t a v lines e after)
after_line next.Total (TotalLine b) a v lines good e after = absurd (after_known (next.Section [] 0) a v lines e after)
after_line (next.Section since left) l a v lines good e after = absurd (none_in_sections since left l a v lines e after)
after_line next.Last LastLine a v lines good e after = absurd (after_known next.Over a v lines e after)
after_line s l a v lines good e after = absurd (none-some a e)

-- lines that lead from a state to one in which a function may begin
pub after_run : (s u : Next) (v : Seen) → IsBetween v u → (lines : List Line) → AllByRecursion IsLine lines → run s lines ≡ Some u → After s v lines
after_run s u v between [] good e = after_none s v (subst (IsBetween v) (sym (same_Some s u e)) between)
after_run s u v between (l ∷ lines) good e =
    then_some (step s l) (λ a. run a lines) u e (λ a stepped others. after_line s l a v lines good.0 stepped (after_run a u v between lines good.1 others))
