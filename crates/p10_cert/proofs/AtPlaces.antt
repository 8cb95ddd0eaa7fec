-- What is found at a place: each step of the search for the next function.
use Rattle.std.proofs.Common.{◌≡◌, ◌≢◌, ℕ, zero, suc, ◌+◌, ◌-◌, ◌≤◌, Bool, true, false, cond, nat_le, ◌==◌, List, [], ◌∷◌, ◌++◌, length, get_or, take, codes, Option, Some, None, Result, Ok, Err, refl, sym, ap, subst, ◌∙◌, arith, length-append}
use Rattle.std.proofs.Math.Seq.{take-append_seam}
use Rattle.std.proofs.lemmas.Bool.Decides.{nat_tests}
use Rattle.std.proofs.lemmas.Option.{cond_some, same_Some, none-some}
use Rattle.std.specs.List.{AllByRecursion}
use Rattle.p10_base.specs.declared.digest.Digest.{Digest}
use Rattle.p10_base.specs.declared.report.Bounds.{Bounds}
use Rattle.p10_cert.specs.declared.claims.Rank.{Rank}
use Rattle.p10_cert.specs.declared.claims.Rank.TheVariants.{Up, Down, One, Task}
use Rattle.p10_cert.specs.declared.cursor.Found.{Found}
use Rattle.p10_cert.specs.declared.line.Head.{Head}
use Rattle.p10_cert.specs.declared.line.Row.{Row}
use Rattle.p10_cert.specs.declared.line.Row.TheVariants as row
use Rattle.p10_cert.specs.declared.record.BadLine.{BadLine}
use Rattle.p10_cert.specs.declared.state.Next.{Next as CodeNext}
use Rattle.p10_cert.specs.declared.state.Next.TheVariants as code
use Rattle.p10_cert.specs.declared.state.Seen.{Seen}
use Rattle.p10_cert.specs.Claims.{Var}
use Rattle.p10_cert.specs.Lines.{FuncHead, LoopHead, Line, FirstLine, FuncLine, ParamLine, ResultLine, LoopLine, VarLine, TotalLine, LastLine, SealedLine, DigestLine, OutsideLine, SectionLine, BodyLine, loop_then, line_then, text_of}
use Rattle.p10_cert.specs.Statements.{first_line}
use Rattle.p10_cert.specs.private.Plain.{plain_line}
use Rattle.p10_cert.specs.private.States.{Next, next_of, is_over}
use Rattle.p10_cert.specs.private.States as next
use Rattle.p10_cert.specs.private.Steps.{is_main, seen_first, step_func, step, run, step_at}
use Rattle.p10_cert.specs.private.Places.{Reads, IsInner, is_loop, is_param, is_begun, is_start, further_at, parameter_at, Place, Goes, Leads, IsBetween, opening, Opens, HasFunction, results, FindsWrong}
use Rattle.p10_cert.specs.private.Found.{Has, Finds}
use Rattle.p10_cert.specs.private.Reading.{after_front}
use Rattle.p10_cert.proofs.Steps.{then_some, after_front_takes}
use Rattle.p10_cert.proofs.Parts.{loop_stepped}
use Rattle.p10_cert.proofs.ReadLines.{step_at_takes, reads_none, reads_step, reads_join, reads_shorter}
use Rattle.p10_cert.proofs.Further.{further_some, further_takes, parameter_some, stays_inner, inside_param, leads_one, leads_join, between_no_loop, section_no_loop, digest_step}

-- ---- where no further line comes

first_no_loop : (u : Next) (l : Line) → step next.First l ≡ Some u → is_loop u ≡ true → ⊥
unfolding step
first_no_loop u FirstLine e loop = absurd cc
first_no_loop u SealedLine e loop = absurd cc
first_no_loop u l e loop = none-some u e

is_none : {A : Type 0} (o : Option A) → ((x : A) → o ≡ Some x → ⊥) → o ≡ None
is_none None never = refl
is_none (Some x) never = absurd (never x refl)

-- where no step leads to loops, no further line of a function comes next
no_further : (s : Next) (text : List ℕ) → ((u : Next) (l : Line) → step s l ≡ Some u → is_loop u ≡ true → ⊥) → further_at s text ≡ None
no_further s text never = is_none (further_at s text) (λ r e.
    let took = further_takes s text r e in
    never r.1 r.0 (step_at_takes s text r took.0).2 took.1)

pub first_stops : (text : List ℕ) → further_at next.First text ≡ None
first_stops text = no_further next.First text first_no_loop

func_stops : (t : Seen) (text : List ℕ) → further_at (next.Func t) text ≡ None
func_stops t text = no_further (next.Func t) text (between_no_loop t)

-- ---- where the next function begins

-- what leads to loops is a line of a function but its first
to_loop : (s u : Next) (l : Line) → step s l ≡ Some u → is_loop u ≡ true → IsInner l
unfolding step
to_loop next.First u l e loop = absurd (first_no_loop u l e loop)
to_loop (next.Func t) u l e loop = absurd (between_no_loop t u l e loop)
to_loop (next.Digest m t) u l e loop = (digest_step m t u l e).0
to_loop (next.Param m t) u l e loop = stays_inner (next.Param m t) u l refl e loop
to_loop (next.Loop m t d least) u l e loop = stays_inner (next.Loop m t d least) u l refl e loop
to_loop next.Total u (TotalLine b) e loop = let section : is_loop (next.Section [] 0) ≡ true = ap is_loop (same_Some _ u e) ∙ loop in absurd cc
to_loop (next.Section since left) u l e loop = absurd (section_no_loop since left u l e loop)
to_loop next.Last u LastLine e loop = let over : is_loop next.Over ≡ true = ap is_loop (same_Some _ u e) ∙ loop in absurd cc
to_loop s u l e loop = absurd (none-some u e)

-- such a line has another text
no_inner : (l : Line) (after rest : List ℕ) → codes "func " ++ rest ≡ line_then l after → IsInner l → ⊥
unfolding line_then
no_inner (ParamLine v) after rest e inner = omega (arith, ap (λ t. get_or t 0 0) e)
no_inner (ResultLine v) after rest e inner = omega (arith, ap (λ t. get_or t 0 0) e)
no_inner (LoopLine h) after rest e inner = by_rank h.rank e
  where
    by_rank : (rank : Rank) → codes "func " ++ rest ≡ loop_then h.depth rank h.turns (codes "\n" ++ after) → ⊥
    by_rank (Up var bound) e = omega (arith, ap (λ t. get_or t 0 0) e)
    by_rank (Down var bound) e = omega (arith, ap (λ t. get_or t 0 0) e)
    by_rank One e = omega (arith, ap (λ t. get_or t 0 0) e)
    by_rank Task e = omega (arith, ap (λ t. get_or t 0 0) e)
no_inner (VarLine v) after rest e inner = omega (arith, ap (λ t. get_or t 0 0) e)
no_inner (DigestLine d) after rest e inner = omega (arith, ap (λ t. get_or t 0 0) e)
no_inner l after rest e inner = inner

pub function_ends : (s : Next) (text rest : List ℕ) → Some rest ≡ after_front (codes "func ") text → further_at s text ≡ None
function_ends s text rest e = is_none (further_at s text) (λ r found.
    let took = further_takes s text r found in
    let stepped = step_at_takes s text r took.0 in
    let parts : text ≡ codes "func " ++ rest = after_front_takes (codes "func ") text rest (sym e) in
    no_inner r.0 r.2 rest (sym parts ∙ stepped.0) (to_loop s r.1 r.0 stepped.2 took.1))

-- ---- a line that may not come

pub wrong_here : (from : Place) (line : ℕ) → None ≡ step_at from.here from.rest → (from.here ≡ next.Over → ⊥) → line ≡ from.lines + 1 → FindsWrong from line
wrong_here from line none over number = record {
  lines = [];
  to = from.here;
  rest = from.rest;
  reads = reads_none from.here from.rest;
  none = sym none;
  over = λ e. absurd (over e);
  early = refl;
  number = omega (arith, number);
}

pub results-append : (xs ys : List Line) → results (xs ++ ys) ≡ results xs + results ys
results-append [] ys = omega arith
results-append (FirstLine ∷ xs) ys = results-append xs ys
results-append (FuncLine h ∷ xs) ys = results-append xs ys
results-append (ParamLine v ∷ xs) ys = results-append xs ys
results-append (ResultLine v ∷ xs) ys = omega (arith, results-append xs ys)
results-append (LoopLine l ∷ xs) ys = results-append xs ys
results-append (VarLine v ∷ xs) ys = results-append xs ys
results-append (TotalLine b ∷ xs) ys = results-append xs ys
results-append (LastLine ∷ xs) ys = results-append xs ys
results-append (SealedLine ∷ xs) ys = results-append xs ys
results-append (DigestLine d ∷ xs) ys = results-append xs ys
results-append (OutsideLine d ∷ xs) ys = results-append xs ys
results-append (SectionLine h ∷ xs) ys = results-append xs ys
results-append (BodyLine b ∷ xs) ys = results-append xs ys

-- lines before a line that may not come
pub wrong_after : (from to : Place) (lines : List Line) (line : ℕ) → Reads from.here from.rest lines to.here to.rest → to.lines ≡ from.lines + length lines → results lines ≡ 0 → FindsWrong to line → FindsWrong from line
wrong_after from to lines line reads count early wrong = record {
  lines = lines ++ wrong.lines;
  to = wrong.to;
  rest = wrong.rest;
  reads = reads_join from.here to.here wrong.to from.rest to.rest wrong.rest lines wrong.lines reads wrong.reads;
  none = wrong.none;
  over = wrong.over;
  early = omega (arith, results-append lines wrong.lines, early, wrong.early);
  number = omega (arith, wrong.number, count, length-append lines wrong.lines);
}

pub one_line : (from to : Place) (l : Line) → step_at from.here from.rest ≡ Some (l, to.here, to.rest) → Reads from.here from.rest (l ∷ []) to.here to.rest
one_line from to l e = reads_step from.here to.here to.here from.rest to.rest to.rest l [] e (reads_none to.here to.rest)

-- ---- the beginning

pub opened_first : (from to : Place) (l : Line) → from.here ≡ next.First → Some (l, to.here, to.rest) ≡ step_at from.here from.rest → to.lines ≡ from.lines + 1 → Opens from to
unfolding step
opened_first from to l is e number =
    let took = step_at_takes from.here from.rest (l, to.here, to.rest) (sym e) in
    let first = first_step to.here l (ap (λ s. step s l) (sym is) ∙ took.2) in
    let lines : opening first.0 from.here ≡ l ∷ [] = ap (opening first.0) is ∙ ap (λ l. l ∷ []) (sym first.1) in
    let P : Next → Type 0 = λ s. (t : Seen) × IsBetween t s × (further_at s to.rest ≡ None) in
    let (t, between, stops) = subst P (sym first.2) (seen_first first.0, refl, func_stops (seen_first first.0) to.rest) in
    record {
      sealed = first.0;
      reads = subst (λ lines. Reads from.here from.rest lines to.here to.rest) (sym lines) (one_line from to l (sym e));
      number = omega (arith, number, ap length lines);
      seen = t;
      between = between;
      stops = stops;
    }
  where
    first_step : (u : Next) (l : Line) → step next.First l ≡ Some u → (sealed : Bool) × (l ≡ first_line sealed) × (u ≡ next.Func (seen_first sealed))
    first_step u FirstLine e = (false, refl, sym (same_Some (next.Func (seen_first false)) u e))
    first_step u SealedLine e = (true, refl, sym (same_Some (next.Func (seen_first true)) u e))
    first_step u l e = absurd (none-some u e)

opened_here : (s : Next) (rest : List ℕ) (lines : ℕ) → is_start s ≡ true → (s ≡ next.First → ⊥) → further_at s rest ≡ None
    → Opens (record { here = s; rest = rest; lines = lines }) (record { here = s; rest = rest; lines = lines })
opened_here next.First rest lines start later stops = absurd (later refl)
opened_here (next.Func t) rest lines start later stops = record { sealed = false; reads = reads_none (next.Func t) rest; number = omega arith; seen = t; between = refl; stops = stops }
opened_here (next.Digest m t) rest lines start later stops = absurd cc
opened_here (next.Param m t) rest lines start later stops = absurd cc
opened_here (next.Loop m t d least) rest lines start later stops = record { sealed = false; reads = reads_none (next.Loop m t d least) rest; number = omega arith; seen = t; between = refl; stops = stops }
opened_here next.Total rest lines start later stops = absurd cc
opened_here (next.Section since left) rest lines start later stops = absurd cc
opened_here next.Last rest lines start later stops = absurd cc
opened_here next.Over rest lines start later stops = absurd cc

pub opened_later : (from : Place) → is_start from.here ≡ true → (from.here ≡ next.First → ⊥) → further_at from.here from.rest ≡ None → Opens from from
opened_later from start later stops = opened_here from.here from.rest from.lines start later stops

-- ---- a function

-- a line of a function that has loops leads to one of its places
pub loop_leads : (m : Bool) (t : Seen) (d least : ℕ) (u : Next) (h : LoopHead) → step (next.Loop m t d least) (LoopLine h) ≡ Some u → is_loop u ≡ true
unfolding step
loop_leads m t d least u h e = ap is_loop (sym (loop_stepped m t d h.depth h.rank u e).2)

pub var_leads : (m : Bool) (t : Seen) (d least : ℕ) (u : Next) (x : Var) → step (next.Loop m t d least) (VarLine x) ≡ Some u → is_loop u ≡ true
unfolding step
var_leads m t d least u x e = ap is_loop (sym (cond_some (nat_le least x.var) (next.Loop m t d (x.var + 1)) u e).1)

pub inner_loop : (s u : Next) (l : Line) → is_loop s ≡ true → IsInner l → step s l ≡ Some u → is_loop u ≡ true
unfolding step
inner_loop (next.Loop m t d least) u (LoopLine h) loop inner e = loop_leads m t d least u h e
inner_loop (next.Loop m t d least) u (VarLine x) loop inner e = var_leads m t d least u x e
inner_loop (next.Loop m t d least) u (FuncLine h) loop inner e = absurd inner
inner_loop (next.Loop m t d least) u (TotalLine b) loop inner e = absurd inner
inner_loop (next.Loop m t d least) u (OutsideLine o) loop inner e = absurd inner
inner_loop next.First u l loop inner e = absurd cc
inner_loop (next.Func t) u l loop inner e = absurd cc
inner_loop (next.Digest m t) u l loop inner e = absurd cc
inner_loop (next.Param m t) u l loop inner e = absurd cc
inner_loop next.Total u l loop inner e = absurd cc
inner_loop (next.Section since left) u l loop inner e = absurd cc
inner_loop next.Last u l loop inner e = absurd cc
inner_loop next.Over u l loop inner e = absurd cc
inner_loop s u l loop inner e = absurd (none-some u e)

loops_stay : (lines : List Line) (s u : Next) → is_loop s ≡ true → AllByRecursion IsInner lines → run s lines ≡ Some u → is_loop u ≡ true
loops_stay [] s u loop all e = ap is_loop (sym (same_Some s u e)) ∙ loop
loops_stay (l ∷ lines) s u loop all e = then_some (step s l) (λ a. run a lines) u e (λ a e0 f0. loops_stay lines a u (inner_loop s a l loop all.0 e0) all.1 f0)

param_not_loop : (u : Next) → is_param u ≡ true → is_loop u ≡ true → ⊥
param_not_loop (next.Param m t) param loop = absurd cc
param_not_loop (next.Loop m t d least) param loop = absurd cc
param_not_loop next.First param loop = absurd cc
param_not_loop (next.Func t) param loop = absurd cc
param_not_loop (next.Digest m t) param loop = absurd cc
param_not_loop next.Total param loop = absurd cc
param_not_loop (next.Section since left) param loop = absurd cc
param_not_loop next.Last param loop = absurd cc
param_not_loop next.Over param loop = absurd cc

-- from the beginning of a function to its parameters no result comes
no_results : (lines : List Line) (s u : Next) → is_begun s ≡ true → AllByRecursion IsInner lines → run s lines ≡ Some u → is_param u ≡ true → results lines ≡ 0
unfolding step
no_results [] s u begun all e stays = refl
no_results (l ∷ lines) s u begun all e stays =
    then_some (step s l) (λ a. run a lines) u e (λ a e0 f0. no_result_line s a u l lines begun all.0 e0 stays f0 all.1 (λ still. no_results lines a u still all.1 f0 stays))
  where
    no_result_line : (s a u : Next) (l : Line) (lines : List Line) → is_begun s ≡ true → IsInner l → step s l ≡ Some a → is_param u ≡ true → run a lines ≡ Some u → AllByRecursion IsInner lines → (is_begun a ≡ true → results lines ≡ 0) → results (l ∷ lines) ≡ 0
    no_result_line (next.Digest m t) a u (DigestLine d) lines param inner e stays f all go = go (ap is_begun (sym (same_Some _ a e)))
    no_result_line (next.Param m t) a u (ParamLine v) lines param inner e stays f all go = go (ap is_begun (sym (same_Some _ a e)))
    no_result_line (next.Param m t) a u (ResultLine v) lines param inner e stays f all go =
        absurd (param_not_loop u stays (loops_stay lines a u (ap is_loop (sym (same_Some _ a e))) all f))
    no_result_line (next.Loop m t d least) a u l lines param inner e stays f all go = absurd cc
    no_result_line next.First a u l lines param inner e stays f all go = absurd cc
    no_result_line next.Total a u l lines param inner e stays f all go = absurd cc
    no_result_line (next.Section since left) a u l lines param inner e stays f all go = absurd cc
    no_result_line (next.Func t) a u l lines param inner e stays f all go = absurd cc
    no_result_line next.Last a u l lines param inner e stays f all go = absurd cc
    no_result_line next.Over a u l lines param inner e stays f all go = absurd cc
    no_result_line s a u l lines param inner e stays f all go = absurd (none-some a e)

func_begun : (t : Seen) (name : List ℕ) (u : Next) → Some (step_func t name) ≡ Some u → is_begun u ≡ true
func_begun t name u e = by_version t.sealed (ap is_begun (sym (same_Some _ u e)))
  where
    by_version : (b : Bool) → is_begun u ≡ is_begun (cond b (next.Digest (is_main name) t) (next.Param (is_main name) t)) → is_begun u ≡ true
    by_version true e = e
    by_version false e = e

func_leads : (s u : Next) (h : FuncHead) → step s (FuncLine h) ≡ Some u → is_begun u ≡ true
unfolding step
func_leads (next.Func t) u h e = func_begun t h.name u e
func_leads (next.Loop m t d least) u h e = func_begun t h.name u e
func_leads next.First u h e = absurd (none-some u e)
func_leads (next.Digest m t) u h e = absurd (none-some u e)
func_leads (next.Param m t) u h e = absurd (none-some u e)
func_leads next.Total u h e = absurd (none-some u e)
func_leads (next.Section since zero) u h e = absurd (none-some u e)
func_leads (next.Section since (suc left)) u h e = absurd (none-some u e)
func_leads next.Last u h e = absurd (none-some u e)
func_leads next.Over u h e = absurd (none-some u e)

-- a function begins
pub begins : (from inside : Place) (h : FuncHead) → step_at from.here from.rest ≡ Some (FuncLine h, inside.here, inside.rest) → is_begun inside.here ≡ true
begins from inside h e = func_leads from.here inside.here h (step_at_takes from.here from.rest (FuncLine h, inside.here, inside.rest) e).2

-- the digest of the function, where one has to come
pub digest_leads : (from to : Place) (l : Line) (m : Bool) (t : Seen) → from.here ≡ next.Digest m t → Some (l, to.here, to.rest) ≡ step_at from.here from.rest → to.lines ≡ from.lines + 1 → Leads from to × (is_param to.here ≡ true)
digest_leads from to l m t is e number =
    let took = step_at_takes from.here from.rest (l, to.here, to.rest) (sym e) in
    let one = digest_step m t to.here l (ap (λ s. step s l) (sym is) ∙ took.2) in
    (leads_one from to l (sym e) one.0 number, ap is_param one.1)

-- where no digest has to come, a parameter may
pub begun_here : (s : CodeNext) → is_begun (next_of s) ≡ true → ((m : Bool) (t : Seen) → s ≡ code.Digest m t → ⊥) → is_param (next_of s) ≡ true
begun_here (code.Param m t) begun never = refl
begun_here (code.Digest m t) begun never = absurd (never m t refl)
begun_here code.First begun never = absurd cc
begun_here (code.Func t) begun never = absurd cc
begun_here (code.Loop m t d least) begun never = absurd cc
begun_here code.Total begun never = absurd cc
begun_here (code.Section since left) begun never = absurd cc
begun_here code.Last begun never = absurd cc
begun_here code.Over begun never = absurd cc

-- a state of the code that isn't the first
pub not_first : (s : CodeNext) → (s ≡ code.First → ⊥) → next_of s ≡ next.First → ⊥
not_first code.First later e = later refl
not_first (code.Func t) later e = cc
not_first (code.Digest m t) later e = cc
not_first (code.Param m t) later e = cc
not_first (code.Loop m t d least) later e = cc
not_first code.Total later e = cc
not_first (code.Section since left) later e = cc
not_first code.Last later e = cc
not_first code.Over later e = cc

pub digest_is_not_over : (s : Next) (m : Bool) (t : Seen) → s ≡ next.Digest m t → s ≡ next.Over → ⊥
digest_is_not_over s m t digest over = let e : next.Digest m t ≡ next.Over = sym digest ∙ over in cc

-- where the digest doesn't come
pub no_digest : (from inside : Place) (h : FuncHead) (line : ℕ) → step_at from.here from.rest ≡ Some (FuncLine h, inside.here, inside.rest) → inside.lines ≡ from.lines + 1 → FindsWrong inside line → FindsWrong from line
no_digest from inside h line e count wrong = wrong_after from inside (FuncLine h ∷ []) line (one_line from inside (FuncLine h) e) (omega (arith, count)) refl wrong

-- after parameters comes a parameter, or what comes after the result
param_step : (s u : Next) (l : Line) → is_param s ≡ true → step s l ≡ Some u → (is_param u ≡ false) → is_loop u ≡ true
unfolding step
param_step (next.Param m t) u (ParamLine v) param e other = absurd (cc (ap is_param (same_Some _ u e)))
param_step (next.Param m t) u (ResultLine v) param e other = ap is_loop (sym (same_Some _ u e))
param_step (next.Loop m t d least) u l param e other = absurd cc
param_step next.First u l param e other = absurd cc
param_step (next.Func t) u l param e other = absurd cc
param_step (next.Digest m t) u l param e other = absurd cc
param_step next.Total u l param e other = absurd cc
param_step (next.Section since left) u l param e other = absurd cc
param_step next.Last u l param e other = absurd cc
param_step next.Over u l param e other = absurd cc
param_step s u l param e other = absurd (none-some u e)

-- where neither a parameter nor another line of the function comes, no line may come
no_result : (s : Next) (rest : List ℕ) → is_param s ≡ true → parameter_at s rest ≡ None → further_at s rest ≡ None → step_at s rest ≡ None
no_result s rest param none never = is_none (step_at s rest) (λ r e.
    let took = step_at_takes s rest r e in
    by_kind s rest param none never r e took.2 (is_param r.1) refl)
  where
    by_kind : (s : Next) (rest : List ℕ) → is_param s ≡ true → parameter_at s rest ≡ None → further_at s rest ≡ None → (r : Line × Next × List ℕ) → step_at s rest ≡ Some r → step s r.0 ≡ Some r.1 → (b : Bool) → is_param r.1 ≡ b → ⊥
    by_kind s rest param none never r e stepped true kind = none-some _ (sym none ∙ parameter_some s r.1 rest r.2 r.0 (sym e) kind)
    by_kind s rest param none never r e stepped false kind = none-some _ (sym never ∙ further_some s r.1 rest r.2 r.0 (sym e) (param_step s r.1 r.0 param stepped kind))

not_over : (s : Next) → is_param s ≡ true → s ≡ next.Over → ⊥
not_over s param is = absurd (cc (ap is_param is))

-- a function without a result
pub no_function : (from inside params result : Place) (h : FuncHead) (line : ℕ) → step_at from.here from.rest ≡ Some (FuncLine h, inside.here, inside.rest) → inside.lines ≡ from.lines + 1
    → is_begun inside.here ≡ true → Leads inside params → Leads params result → is_param result.here ≡ true → parameter_at result.here result.rest ≡ None → Goes (further_at result.here result.rest) result None → line ≡ result.lines + 1 → FindsWrong from line
no_function from inside params result h line e count begun digest more param none never number =
    let leads = leads_join inside params result digest more in
    wrong_after from inside (FuncLine h ∷ []) line (one_line from inside (FuncLine h) e) (omega (arith, count)) refl
    (wrong_after inside result leads.inner line leads.reads leads.number (no_results leads.inner inside.here result.here begun leads.all leads.reads.runs param)
    (wrong_here result line (sym (no_result result.here result.rest param none never)) (not_over result.here param) number))

-- what comes after the result
pub result_leads : (result first : Place) → is_param result.here ≡ true → Goes (further_at result.here result.rest) result (Some first) → (is_loop first.here ≡ true) × Leads result first
result_leads result first param goes =
    let took = further_takes result.here result.rest (goes.0.0, first.here, first.rest) goes.0.1 in
    let l : Line = goes.0.0 in
    let one = step_at_takes result.here result.rest (l, first.here, first.rest) took.0 in
    (took.1, leads_one result first l took.0 (stays_inner result.here first.here l (inside_param result.here param) one.2 took.1) goes.1)

-- a whole function
pub has_function : (from inside to : Place) (h : FuncHead) → step_at from.here from.rest ≡ Some (FuncLine h, inside.here, inside.rest) → inside.lines ≡ from.lines + 1
    → Leads inside to → is_loop to.here ≡ true → further_at to.here to.rest ≡ None
    → HasFunction from (take (length from.rest - length to.rest) from.rest) (from.lines + 1) to
has_function from inside to h e count leads loop stops =
    let reads = reads_step from.here inside.here to.here from.rest inside.rest to.rest (FuncLine h) leads.inner e leads.reads in
    let text : List ℕ = text_of (FuncLine h ∷ leads.inner) in
    let size : length from.rest - length to.rest ≡ length text = omega (arith, ap length reads.parts, length-append text to.rest) in
    let part : take (length from.rest - length to.rest) from.rest ≡ text = ap (λ t. take (length from.rest - length to.rest) t) reads.parts ∙ ap (λ n. take n (text ++ to.rest)) size ∙ take-append_seam text to.rest in
    record {
      head = h;
      inner = leads.inner;
      reads = reads;
      all = leads.all;
      loop = loop;
      stops = stops;
      exact = part;
      first = refl;
      number = omega (arith, leads.number, count);
    }

-- the lines of a function after its first
pub function_leads : (inside params result first to : Place) → Leads inside params → Leads params result → Leads result first → Leads first to → Leads inside to
function_leads inside params result first to digest more one loops =
    leads_join inside params to digest (leads_join params result to more (leads_join result first to one loops))

pub function_shorter : (from inside to : Place) (h : FuncHead) → step_at from.here from.rest ≡ Some (FuncLine h, inside.here, inside.rest) → Leads inside to → length to.rest ≤ length from.rest
function_shorter from inside to h e leads =
    omega (arith, reads_shorter from.here to.here from.rest to.rest (FuncLine h ∷ leads.inner) (reads_step from.here inside.here to.here from.rest inside.rest to.rest (FuncLine h) leads.inner e leads.reads))

-- ---- what a line leads to

-- between two functions a line begins a function or what stands after the functions
abbrev pub IsOuter : Line → Type 0
IsOuter (FuncLine h) = Unit {0}
IsOuter (TotalLine b) = Unit {0}
IsOuter (OutsideLine d) = Unit {0}
IsOuter _ = ⊥

outer_step : (s u : Next) (l : Line) (t : Seen) → IsBetween t s → (is_loop u ≡ true → ⊥) → step s l ≡ Some u → IsOuter l
unfolding step
outer_step (next.Func t) u (FuncLine h) v between never e = tt
outer_step (next.Func t) u (TotalLine b) v between never e = tt
outer_step (next.Func t) u (OutsideLine o) v between never e = tt
outer_step (next.Loop m t d least) u (FuncLine h) v between never e = tt
outer_step (next.Loop m t d least) u (TotalLine b) v between never e = tt
outer_step (next.Loop m t d least) u (OutsideLine o) v between never e = tt
outer_step (next.Loop m t d least) u (LoopLine h) v between never e = never (loop_leads m t d least u h e)
outer_step (next.Loop m t d least) u (VarLine x) v between never e = never (var_leads m t d least u x e)
outer_step next.First u l v between never e = absurd between
outer_step (next.Digest m t) u l v between never e = absurd between
outer_step (next.Param m t) u l v between never e = absurd between
outer_step next.Total u l v between never e = absurd between
outer_step (next.Section since left) u l v between never e = absurd between
outer_step next.Last u l v between never e = absurd between
outer_step next.Over u l v between never e = absurd between
outer_step s u l v between never e = absurd (none-some u e)

-- no other line comes between two functions
pub no_other : (from after : Place) (line : Row) (t : Seen) → IsBetween t from.here → further_at from.here from.rest ≡ None → step_at from.here from.rest ≡ Some (plain_line line, after.here, after.rest) → IsOuter (plain_line line)
no_other from after line t between stops e =
    outer_step from.here after.here (plain_line line) t between
    (λ loop. none-some _ (sym stops ∙ further_some from.here after.here from.rest after.rest (plain_line line) (sym e) loop))
    (step_at_takes from.here from.rest (plain_line line, after.here, after.rest) e).2

opening_results : (sealed : Bool) (s : Next) → results (opening sealed s) ≡ 0
opening_results true next.First = refl
opening_results false next.First = refl
opening_results sealed (next.Func t) = refl
opening_results sealed (next.Digest m t) = refl
opening_results sealed (next.Param m t) = refl
opening_results sealed (next.Loop m t d least) = refl
opening_results sealed next.Total = refl
opening_results sealed (next.Section since left) = refl
opening_results sealed next.Last = refl
opening_results sealed next.Over = refl

-- what is found after the first line of the text
pub finds_from : (from start : Place) (result : Result Found BadLine) → Opens from start → Has start result → Finds from result
finds_from from start (Ok found) opens has = (start, opens, has)
finds_from from start (Err bad) opens has = wrong_after from start (opening opens.sealed from.here) bad.line opens.reads opens.number (opening_results opens.sealed from.here) has

-- ---- small facts

pub is_nothing : (text : List ℕ) → (length text == 0) ≡ true → text ≡ []
is_nothing [] e = refl
is_nothing (x ∷ xs) e = absurd (grind (arith, nat_tests))

pub is_something : (text : List ℕ) → (length text == 0) ≡ false → text ≢ []
is_something text e none = absurd (cc (ap (λ t. length t == 0) none))

pub total_is_not_over : (s : Next) → s ≡ next.Total → s ≡ next.Over → ⊥
total_is_not_over s total over = let e : next.Total ≡ next.Over = sym total ∙ over in absurd cc

-- where nothing may come, or something stands
pub not_both : (s : Next) (text : List ℕ) → is_over s ≡ false → s ≡ next.Over → text ≢ []
not_both s text e over = absurd (let one : is_over s ≡ true = ap is_over over in cc)

pub first_is_not_over : (s : Next) → s ≡ next.First → s ≡ next.Over → ⊥
first_is_not_over s first over = let e : next.First ≡ next.Over = sym first ∙ over in absurd cc

-- a line that begins neither a function nor what stands after them is none between two functions
pub only_outer : (line : Row) → IsOuter (plain_line line) → ((h : Head) → line ≡ row.Func h → ⊥) → ((b : Bounds) → line ≡ row.Total b → ⊥) → ((d : Digest) → line ≡ row.Outside d → ⊥) → ⊥
only_outer (row.Func h) outer func total outside = func h refl
only_outer (row.Total b) outer func total outside = total b refl
only_outer (row.Outside d) outer func total outside = outside d refl
only_outer row.First outer func total outside = outer
only_outer (row.Param v) outer func total outside = outer
only_outer (row.Result v) outer func total outside = outer
only_outer (row.Loop l) outer func total outside = outer
only_outer (row.Var v) outer func total outside = outer
only_outer row.Last outer func total outside = outer
only_outer row.Sealed outer func total outside = outer
only_outer (row.Digest d) outer func total outside = outer
only_outer (row.Section s) outer func total outside = outer
only_outer (row.Body b) outer func total outside = outer
