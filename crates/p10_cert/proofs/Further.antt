-- The lines of a function that has begun.
use Rattle.std.proofs.Common.{◌≡◌, ℕ, zero, suc, ◌+◌, ◌<◌, ◌≤◌, Bool, cond, None, true, false, List, [], ◌∷◌, ◌++◌, length, Some, refl, sym, ap, ◌∙◌, arith, length-append}
use Rattle.std.proofs.lemmas.Option.{cond_some, same_Some, none-some}
use Rattle.p10_cert.specs.private.States.{Next}
use Rattle.p10_cert.specs.private.States as next
use Rattle.p10_cert.specs.Lines.{Line, FuncLine, ParamLine, ResultLine, LoopLine, VarLine, TotalLine, LastLine, DigestLine, OutsideLine, SectionLine, BodyLine}
use Rattle.p10_cert.specs.declared.state.Seen.{Seen}
use Rattle.p10_cert.specs.Statements.{is_before}
use Rattle.p10_cert.specs.private.Steps.{is_main, step_func, step_total, step_outside, step, step_at}
use Rattle.p10_cert.specs.private.Places.{IsInner, is_loop, is_param, further_at, parameter_at, Place, Goes, Leads}
use Rattle.p10_cert.proofs.Steps.{then_some, bind_is}
use Rattle.p10_cert.proofs.Runs.{all_append}
use Rattle.p10_cert.proofs.ReadLines.{step_at_takes, step_shorter, reads_none, reads_step, reads_join, reads_shorter}

-- ---- one line

pub further_some : (s u : Next) (text rest : List ℕ) (l : Line) → Some (l, u, rest) ≡ step_at s text → is_loop u ≡ true → further_at s text ≡ Some (l, u, rest)
unfolding further_at
further_some s u text rest l e loop = bind_is (step_at s text) (l, u, rest) _ (Some (l, u, rest)) (sym e) (rw loop refl)

pub parameter_some : (s u : Next) (text rest : List ℕ) (l : Line) → Some (l, u, rest) ≡ step_at s text → is_param u ≡ true → parameter_at s text ≡ Some (l, u, rest)
unfolding parameter_at
parameter_some s u text rest l e loop = bind_is (step_at s text) (l, u, rest) _ (Some (l, u, rest)) (sym e) (rw loop refl)

pub further_takes : (s : Next) (text : List ℕ) (r : Line × Next × List ℕ) → further_at s text ≡ Some r → (step_at s text ≡ Some r) × (is_loop r.1 ≡ true)
unfolding further_at
further_takes s text r e = then_some (step_at s text) _ r e (λ x e0 f0.
    let found = cond_some (is_loop x.1) (x.0, x.1, x.2) r f0 in
    (e0 ∙ ap (λ r. Some r) found.1, ap (λ (r : Line × Next × List ℕ). is_loop r.1) (sym found.1) ∙ found.0))

pub parameter_takes : (s : Next) (text : List ℕ) (r : Line × Next × List ℕ) → parameter_at s text ≡ Some r → (step_at s text ≡ Some r) × (is_param r.1 ≡ true)
unfolding parameter_at
parameter_takes s text r e = then_some (step_at s text) _ r e (λ x e0 f0.
    let found = cond_some (is_param x.1) (x.0, x.1, x.2) r f0 in
    (e0 ∙ ap (λ r. Some r) found.1, ap (λ (r : Line × Next × List ℕ). is_param r.1) (sym found.1) ∙ found.0))

-- ---- a line of a function leads to a state of the function

-- whether a state is inside a function
abbrev pub is_inside : Next → Bool
is_inside (next.Digest m t) = true
is_inside (next.Param m t) = true
is_inside (next.Loop m t d least) = true
is_inside _ = false

-- no loop may come after the first line of a function, the bounds or the digest of the words outside bodies
pub func_no_loop : (t : Seen) (name : List ℕ) (u : Next) → Some (step_func t name) ≡ Some u → is_loop u ≡ true → ⊥
func_no_loop t name u e loop = by_version t.sealed (ap is_loop (same_Some _ u e) ∙ loop)
  where
    by_version : (b : Bool) → is_loop (cond b (next.Digest (is_main name) t) (next.Param (is_main name) t)) ≡ true → ⊥
    by_version true loop = cc
    by_version false loop = cc

pub total_is_last : (t : Seen) (u : Next) → step_total t ≡ Some u → (t.sealed ≡ false) × (u ≡ next.Last)
total_is_last t u e = by_version t.sealed e
  where
    by_version : (b : Bool) → cond b None (Some next.Last) ≡ Some u → (b ≡ false) × (u ≡ next.Last)
    by_version true e = absurd (none-some u e)
    by_version false e = (refl, sym (same_Some next.Last u e))

pub outside_is_total : (t : Seen) (u : Next) → step_outside t ≡ Some u → (t.sealed ≡ true) × (u ≡ next.Total)
outside_is_total t u e = by_version t.sealed e
  where
    by_version : (b : Bool) → cond b (Some next.Total) None ≡ Some u → (b ≡ true) × (u ≡ next.Total)
    by_version true e = (refl, sym (same_Some next.Total u e))
    by_version false e = absurd (none-some u e)

total_no_loop : (t : Seen) (u : Next) → step_total t ≡ Some u → is_loop u ≡ true → ⊥
total_no_loop t u e loop = let last : is_loop next.Last ≡ true = ap is_loop (sym (total_is_last t u e).1) ∙ loop in cc

outside_no_loop : (t : Seen) (u : Next) → step_outside t ≡ Some u → is_loop u ≡ true → ⊥
outside_no_loop t u e loop = let total : is_loop next.Total ≡ true = ap is_loop (sym (outside_is_total t u e).1) ∙ loop in cc

-- what comes among sections is no loop
pub section_no_loop : (since : List ℕ) (left : ℕ) (u : Next) (l : Line) → step (next.Section since left) l ≡ Some u → is_loop u ≡ true → ⊥
unfolding step
section_no_loop since zero u (SectionLine h) e loop =
    let found = cond_some (is_before since h.name) (next.Section h.name h.count) u e in
    let inside : is_loop (next.Section h.name h.count) ≡ true = ap is_loop found.1 ∙ loop in
    cc
section_no_loop since zero u LastLine e loop = let over : is_loop next.Over ≡ true = ap is_loop (same_Some next.Over u e) ∙ loop in cc
section_no_loop since (suc left) u (BodyLine b) e loop = let inside : is_loop (next.Section since left) ≡ true = ap is_loop (same_Some _ u e) ∙ loop in cc
section_no_loop since left u l e loop = none-some u e

-- from between two functions no line but those of a loop leads to loops
pub between_no_loop : (t : Seen) (u : Next) (l : Line) → step (next.Func t) l ≡ Some u → is_loop u ≡ true → ⊥
unfolding step
between_no_loop t u (FuncLine h) e loop = func_no_loop t h.name u e loop
between_no_loop t u (TotalLine b) e loop = total_no_loop t u e loop
between_no_loop t u (OutsideLine d) e loop = outside_no_loop t u e loop
between_no_loop t u l e loop = none-some u e

-- from inside a function, a step that stays there was by one of its lines
pub stays_inner : (s u : Next) (l : Line) → is_inside s ≡ true → step s l ≡ Some u → is_loop u ≡ true → IsInner l
unfolding step
stays_inner (next.Digest m t) u (DigestLine d) inside e loop = tt
stays_inner (next.Param m t) u (ParamLine v) inside e loop = tt
stays_inner (next.Param m t) u (ResultLine v) inside e loop = tt
stays_inner (next.Loop m t d least) u (LoopLine h) inside e loop = tt
stays_inner (next.Loop m t d least) u (VarLine x) inside e loop = tt
stays_inner (next.Loop m t d least) u (FuncLine h) inside e loop = absurd (func_no_loop t h.name u e loop)
stays_inner (next.Loop m t d least) u (TotalLine b) inside e loop = absurd (total_no_loop t u e loop)
stays_inner (next.Loop m t d least) u (OutsideLine o) inside e loop = absurd (outside_no_loop t u e loop)
stays_inner next.First u l inside e loop = absurd cc
stays_inner (next.Func t) u l inside e loop = absurd cc
stays_inner next.Total u l inside e loop = absurd cc
stays_inner (next.Section since left) u l inside e loop = absurd cc
stays_inner next.Last u l inside e loop = absurd cc
stays_inner next.Over u l inside e loop = absurd cc
stays_inner s u l inside e loop = absurd (none-some u e)

stays_parameter : (s u : Next) (l : Line) → is_param s ≡ true → step s l ≡ Some u → is_param u ≡ true → IsInner l
unfolding step
stays_parameter (next.Param m t) u (ParamLine v) param e stays = tt
stays_parameter (next.Param m t) u (ResultLine v) param e stays = absurd cc
stays_parameter (next.Digest m t) u l param e stays = absurd cc
stays_parameter (next.Loop m t d least) u l param e stays = absurd cc
stays_parameter next.First u l param e stays = absurd cc
stays_parameter (next.Func t) u l param e stays = absurd cc
stays_parameter next.Total u l param e stays = absurd cc
stays_parameter (next.Section since left) u l param e stays = absurd cc
stays_parameter next.Last u l param e stays = absurd cc
stays_parameter next.Over u l param e stays = absurd cc
stays_parameter s u l param e stays = absurd (none-some u e)

-- a digest that has to come leads to the parameters
pub digest_step : (m : Bool) (t : Seen) (u : Next) (l : Line) → step (next.Digest m t) l ≡ Some u → IsInner l × (u ≡ next.Param m t)
unfolding step
digest_step m t u (DigestLine d) e = (tt, sym (same_Some _ u e))
digest_step m t u l e = absurd (none-some u e)

-- ---- several lines

pub leads_none : (from : Place) → Leads from from
leads_none from = record { inner = []; reads = reads_none from.here from.rest; all = tt; number = omega arith }

pub leads_join : (from middle to : Place) → Leads from middle → Leads middle to → Leads from to
leads_join from middle to first second = record {
  inner = first.inner ++ second.inner;
  reads = reads_join from.here middle.here to.here from.rest middle.rest to.rest first.inner second.inner first.reads second.reads;
  all = all_append IsInner first.inner second.inner first.all second.all;
  number = omega (arith, first.number, second.number, length-append first.inner second.inner);
}

pub leads_one : (from to : Place) (l : Line) → step_at from.here from.rest ≡ Some (l, to.here, to.rest) → IsInner l → to.lines ≡ from.lines + 1 → Leads from to
leads_one from to l e inner number = record {
  inner = l ∷ [];
  reads = reads_step from.here to.here to.here from.rest to.rest to.rest l [] e (reads_none to.here to.rest);
  all = (inner, tt);
  number = omega (arith, number);
}

-- a parameter more
pub leads_parameter : (from middle to : Place) → Leads from middle → is_param middle.here ≡ true → Goes (parameter_at middle.here middle.rest) middle (Some to) → Leads from to × (is_param to.here ≡ true)
leads_parameter from middle to leads param goes =
    let l : Line = goes.0.0 in
    let took = parameter_takes middle.here middle.rest (l, to.here, to.rest) goes.0.1 in
    let one = step_at_takes middle.here middle.rest (l, to.here, to.rest) took.0 in
    (leads_join from middle to leads (leads_one middle to l took.0 (stays_parameter middle.here to.here l param one.2 took.1) goes.1), took.1)

-- a further line more
pub leads_further : (from middle to : Place) → Leads from middle → is_inside middle.here ≡ true → Goes (further_at middle.here middle.rest) middle (Some to) → Leads from to × (is_loop to.here ≡ true)
leads_further from middle to leads inside goes =
    let l : Line = goes.0.0 in
    let took = further_takes middle.here middle.rest (l, to.here, to.rest) goes.0.1 in
    let one = step_at_takes middle.here middle.rest (l, to.here, to.rest) took.0 in
    (leads_join from middle to leads (leads_one middle to l took.0 (stays_inner middle.here to.here l inside one.2 took.1) goes.1), took.1)

pub inside_loop : (s : Next) → is_loop s ≡ true → is_inside s ≡ true
inside_loop (next.Loop m t d least) e = refl
inside_loop (next.Digest m t) e = absurd cc
inside_loop (next.Param m t) e = refl
inside_loop next.First e = absurd cc
inside_loop (next.Func t) e = absurd cc
inside_loop next.Total e = absurd cc
inside_loop (next.Section since left) e = absurd cc
inside_loop next.Last e = absurd cc
inside_loop next.Over e = absurd cc

pub inside_param : (s : Next) → is_param s ≡ true → is_inside s ≡ true
inside_param (next.Loop m t d least) e = refl
inside_param (next.Digest m t) e = absurd cc
inside_param (next.Param m t) e = refl
inside_param next.First e = absurd cc
inside_param (next.Func t) e = absurd cc
inside_param next.Total e = absurd cc
inside_param (next.Section since left) e = absurd cc
inside_param next.Last e = absurd cc
inside_param next.Over e = absurd cc

-- each line has a byte at least
pub leads_few : (from to : Place) → Leads from to → to.lines + length to.rest ≤ from.lines + length from.rest
leads_few from to leads = omega (arith, leads.number, reads_shorter from.here to.here from.rest to.rest leads.inner leads.reads)

-- what goes on is shorter
pub goes_shorter : (s : Next) (text : List ℕ) (from to : Place) → Goes (further_at s text) from (Some to) → length to.rest < length text
goes_shorter s text from to goes = step_shorter s to.here text goes.0.0 to.rest (sym (further_takes s text (goes.0.0, to.here, to.rest) goes.0.1).0)

pub goes_shorter_parameter : (s : Next) (text : List ℕ) (from to : Place) → Goes (parameter_at s text) from (Some to) → length to.rest < length text
goes_shorter_parameter s text from to goes = step_shorter s to.here text goes.0.0 to.rest (sym (parameter_takes s text (goes.0.0, to.here, to.rest) goes.0.1).0)
