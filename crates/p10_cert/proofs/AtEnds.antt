-- What is found at a place where the text may end.
use Rattle.std.proofs.Common.{◌≡◌, ◌≢◌, ℕ, zero, suc, ◌+◌, true, List, [], ◌∷◌, ◌++◌, map, Option, Some, None, option_map, Result, Ok, Err, IfOk, IfErr, refl, sym, ap, subst, ◌∙◌, arith, append-nil, length-append}
use Rattle.std.proofs.lemmas.Option.{cond_some, same_Some, none-some}
use Rattle.std.specs.List.{AllByRecursion}
use Rattle.p10_base.specs.declared.digest.Digest.{Digest}
use Rattle.p10_base.specs.declared.report.Bounds.{Bounds}
use Rattle.p10_cert.specs.declared.cursor.Found.{Found}
use Rattle.p10_cert.specs.declared.cursor.Found.TheVariants.{Function, End}
use Rattle.p10_cert.specs.declared.line.Row.{Row}
use Rattle.p10_cert.specs.declared.line.Row.TheVariants as row
use Rattle.p10_cert.specs.declared.record.BadLine.{BadLine}
use Rattle.p10_cert.specs.declared.state.Seen.{Seen}
use Rattle.p10_cert.specs.Lines.{Line, TotalLine, LastLine, OutsideLine, SectionLine, BodyLine, text_of}
use Rattle.p10_cert.specs.Sealed.{bytes_of}
use Rattle.p10_cert.specs.Statements.{Section, Ending, is_before, IsSection}
use Rattle.p10_cert.specs.private.Plain.{plain_line}
use Rattle.p10_cert.specs.private.States.{Next, is_over}
use Rattle.p10_cert.specs.private.States as next
use Rattle.p10_cert.specs.private.Sections.{sections_in}
use Rattle.p10_cert.specs.private.Steps.{step, run, step_at}
use Rattle.p10_cert.specs.private.Places.{Reads, is_past, is_closing, Place, Follows, IsBetween, HasEnd, results, FindsWrong}
use Rattle.p10_cert.specs.private.Found.{HasNext, Has, closing_lines, EndsAt, BoundsAt}
use Rattle.p10_cert.proofs.Steps.{then_some}
use Rattle.p10_cert.proofs.ReadLines.{step_at_takes, reads_none, reads_step, reads_more}
use Rattle.p10_cert.proofs.Completing.{Ends, ends_run, no_bodies}
use Rattle.p10_cert.proofs.SectionReads.{sections_are}
use Rattle.p10_cert.proofs.Further.{total_is_last, outside_is_total}
use Rattle.p10_cert.proofs.AtPlaces.{results-append, wrong_after, one_line}

-- ---- the end of the text

-- once the bounds came, no result does
past_step : (s u : Next) (l : Line) → is_past s ≡ true → step s l ≡ Some u → (is_past u ≡ true) × (results (l ∷ []) ≡ 0)
unfolding step
past_step (next.Section since zero) u (SectionLine h) past e =
    let found = cond_some (is_before since h.name) (next.Section h.name h.count) u e in
    (ap is_past (sym found.1), refl)
past_step (next.Section since zero) u LastLine past e = (ap is_past (sym (same_Some next.Over u e)), refl)
past_step (next.Section since (suc left)) u (BodyLine b) past e = (ap is_past (sym (same_Some (next.Section since left) u e)), refl)
past_step next.Last u LastLine past e = (ap is_past (sym (same_Some next.Over u e)), refl)
past_step next.First u l past e = absurd cc
past_step (next.Func t) u l past e = absurd cc
past_step (next.Digest m t) u l past e = absurd cc
past_step (next.Param m t) u l past e = absurd cc
past_step (next.Loop m t d least) u l past e = absurd cc
past_step next.Total u l past e = absurd cc
past_step s u l past e = absurd (none-some u e)

past_results : (lines : List Line) (s u : Next) → is_past s ≡ true → run s lines ≡ Some u → results lines ≡ 0
past_results [] s u past e = refl
past_results (l ∷ lines) s u past e =
    then_some (step s l) (λ a. run a lines) u e (λ a e0 f0.
    let one = past_step s a l past e0 in
    omega (arith, results-append (l ∷ []) lines, one.1, past_results lines a u one.0 f0))

closing_past : (s : Next) → is_closing s ≡ true → is_past s ≡ true
closing_past (next.Section since left) closing = refl
closing_past next.Last closing = refl
closing_past next.First closing = absurd cc
closing_past (next.Func t) closing = absurd cc
closing_past (next.Digest m t) closing = absurd cc
closing_past (next.Param m t) closing = absurd cc
closing_past (next.Loop m t d least) closing = absurd cc
closing_past next.Total closing = absurd cc
closing_past next.Over closing = absurd cc

-- lines after the bounds
pub follows_none : (from : Place) → Follows from from
follows_none from = record { lines = []; reads = reads_none from.here from.rest; number = omega arith }

pub follows_more : (from middle to : Place) (l : Line) → Follows from middle → Some (l, to.here, to.rest) ≡ step_at middle.here middle.rest → to.lines ≡ middle.lines + 1 → Follows from to
follows_more from middle to l follows e number = record {
  lines = follows.lines ++ l ∷ [];
  reads = reads_more from.here middle.here to.here from.rest middle.rest to.rest follows.lines l follows.reads (sym e);
  number = omega (arith, follows.number, number, length-append follows.lines (l ∷ []));
}

-- the text ends where nothing may come and nothing stands
pub wrong_end : (from to : Place) (line : ℕ) → is_closing from.here ≡ true → Follows from to → step_at to.here to.rest ≡ None → (to.here ≡ next.Over → to.rest ≢ []) → line ≡ to.lines + 1 → FindsWrong from line
wrong_end from to line closing follows stops over number = record {
  lines = follows.lines;
  to = to.here;
  rest = to.rest;
  reads = follows.reads;
  none = stops;
  over = over;
  early = past_results follows.lines from.here to.here (closing_past from.here closing) follows.reads.runs;
  number = omega (arith, number, follows.number);
}

is_over_here : (s : Next) → is_over s ≡ true → s ≡ next.Over
is_over_here next.Over e = refl
is_over_here next.First e = absurd cc
is_over_here (next.Func t) e = absurd cc
is_over_here (next.Digest m t) e = absurd cc
is_over_here (next.Param m t) e = absurd cc
is_over_here (next.Loop m t d least) e = absurd cc
is_over_here next.Total e = absurd cc
is_over_here (next.Section since left) e = absurd cc
is_over_here next.Last e = absurd cc

-- the lines to the end are those of the sections that are read, and the last
closed_by : (s : Next) (text : List ℕ) (lines : List Line) (sections : List Section) → Reads s text lines next.Over [] → AllByRecursion IsSection sections → lines ≡ closing_lines sections → Reads s text (closing_lines (sections_in text)) next.Over []
closed_by s text lines sections reads all e =
    let text_is : text ≡ text_of (closing_lines sections) = reads.parts ∙ append-nil (text_of lines) ∙ ap text_of e in
    let P : List Line → Type 0 = λ ls. Reads s text ls next.Over [] in
    subst P (e ∙ ap closing_lines (sym (sections_are text sections all text_is))) reads

closed_lines : (s : Next) (text : List ℕ) (lines : List Line) → is_closing s ≡ true → Reads s text lines next.Over [] → Ends s lines → Reads s text (closing_lines (sections_in text)) next.Over []
closed_lines (next.Section since zero) text lines closing reads ends =
    closed_by (next.Section since zero) text lines ends.sections reads ends.all
    (ends.parts ∙ ap (λ bodies. map BodyLine bodies ++ closing_lines ends.sections) (no_bodies ends.bodies ends.size))
closed_lines (next.Section since (suc left)) text lines closing reads ends = absurd cc
closed_lines next.Last text lines closing reads ends = closed_by next.Last text lines [] reads tt ends
closed_lines next.Over text lines closing reads ends = absurd cc
closed_lines next.First text lines closing reads ends = absurd cc
closed_lines (next.Func t) text lines closing reads ends = absurd cc
closed_lines (next.Digest m t) text lines closing reads ends = absurd cc
closed_lines (next.Param m t) text lines closing reads ends = absurd cc
closed_lines (next.Loop m t d least) text lines closing reads ends = absurd cc
closed_lines next.Total text lines closing reads ends = absurd cc

-- the end that was found from after the bounds
pub right_end : (from to : Place) → is_closing from.here ≡ true → Follows from to → is_over to.here ≡ true → to.rest ≡ [] → Reads from.here from.rest (closing_lines (sections_in from.rest)) next.Over []
right_end from to closing follows over none =
    let P : Next → Type 0 = λ s. Reads from.here from.rest follows.lines s to.rest in
    let Q : List ℕ → Type 0 = λ rest. Reads from.here from.rest follows.lines next.Over rest in
    let reads : Reads from.here from.rest follows.lines next.Over [] = subst Q none (subst P (is_over_here to.here over) follows.reads) in
    closed_lines from.here from.rest follows.lines closing reads (ends_run follows.lines from.here reads.good reads.runs)

-- ---- what stands after the functions

-- the bounds between two functions
total_step : (s u : Next) (t : Seen) (b : Bounds) → IsBetween t s → step s (TotalLine b) ≡ Some u → u ≡ next.Last
unfolding step
total_step (next.Func t) u v b between e = (total_is_last t u e).1
total_step (next.Loop m t d least) u v b between e = (total_is_last t u e).1
total_step next.First u v b between e = absurd between
total_step (next.Digest m t) u v b between e = absurd between
total_step (next.Param m t) u v b between e = absurd between
total_step next.Total u v b between e = absurd between
total_step (next.Section since left) u v b between e = absurd between
total_step next.Last u v b between e = absurd between
total_step next.Over u v b between e = absurd between

-- the digest of the words outside bodies
outside_step : (s u : Next) (d : List ℕ) → step s (OutsideLine d) ≡ Some u → u ≡ next.Total
unfolding step
outside_step (next.Func t) u d e = (outside_is_total t u e).1
outside_step (next.Loop m t depth least) u d e = (outside_is_total t u e).1
outside_step next.First u d e = absurd (none-some u e)
outside_step (next.Digest m t) u d e = absurd (none-some u e)
outside_step (next.Param m t) u d e = absurd (none-some u e)
outside_step next.Total u d e = absurd (none-some u e)
outside_step (next.Section since zero) u d e = absurd (none-some u e)
outside_step (next.Section since (suc left)) u d e = absurd (none-some u e)
outside_step next.Last u d e = absurd (none-some u e)
outside_step next.Over u d e = absurd (none-some u e)

-- what comes after the digest of the words outside bodies
bounds_step : (s u : Next) (l : Line) → s ≡ next.Total → step s l ≡ Some u → (b : Bounds) × (l ≡ TotalLine b) × (u ≡ next.Section [] 0)
unfolding step
bounds_step s u l is e = after_outside u l (ap (λ s. step s l) (sym is) ∙ e)
  where
    after_outside : (u : Next) (l : Line) → step next.Total l ≡ Some u → (b : Bounds) × (l ≡ TotalLine b) × (u ≡ next.Section [] 0)
    after_outside u (TotalLine b) e = (b, refl, sym (same_Some (next.Section [] 0) u e))
    after_outside u l e = absurd (none-some u e)

stepped : (from after : Place) (l m : Line) → step_at from.here from.rest ≡ Some (l, after.here, after.rest) → l ≡ m → step from.here m ≡ Some after.here
stepped from after l m e is = ap (step from.here) (sym is) ∙ (step_at_takes from.here from.rest (l, after.here, after.rest) e).2

-- the bounds come where the text of version 1 ends
pub total_last : (from after : Place) (line : Row) (b : Bounds) (t : Seen) → IsBetween t from.here → step_at from.here from.rest ≡ Some (plain_line line, after.here, after.rest) → line ≡ row.Total b → is_closing after.here ≡ true
total_last from after line b t between e is = ap is_closing (total_step from.here after.here t b between (stepped from after (plain_line line) (TotalLine b) e (ap plain_line is)))

-- and after the digest of the words outside bodies
pub bounds_closing : (from after : Place) (line : Row) (b : Bounds) → from.here ≡ next.Total → step_at from.here from.rest ≡ Some (plain_line line, after.here, after.rest) → line ≡ row.Total b → is_closing after.here ≡ true
bounds_closing from after line b here e is =
    ap is_closing (bounds_step from.here after.here (TotalLine b) here (stepped from after (plain_line line) (TotalLine b) e (ap plain_line is))).2

pub outside_total : (from after : Place) (line : Row) (d : Digest) → step_at from.here from.rest ≡ Some (plain_line line, after.here, after.rest) → line ≡ row.Outside d → after.here ≡ next.Total
outside_total from after line d e is = outside_step from.here after.here (bytes_of d) (stepped from after (plain_line line) (OutsideLine (bytes_of d)) e (ap plain_line is))

-- no other line than that of the bounds comes there
pub only_bounds : (from after : Place) (line : Row) → from.here ≡ next.Total → step_at from.here from.rest ≡ Some (plain_line line, after.here, after.rest) → ((b : Bounds) → line ≡ row.Total b → ⊥) → ⊥
only_bounds from after line here e never =
    let found = bounds_step from.here after.here (plain_line line) here (step_at_takes from.here from.rest (plain_line line, after.here, after.rest) e).2 in
    is_total line found.0 found.1 never
  where
    is_total : (line : Row) (b : Bounds) → plain_line line ≡ TotalLine b → ((b : Bounds) → line ≡ row.Total b → ⊥) → ⊥
    is_total (row.Total b) c e never = never b refl
    is_total row.First c e never = cc
    is_total (row.Func h) c e never = cc
    is_total (row.Param v) c e never = cc
    is_total (row.Result v) c e never = cc
    is_total (row.Loop l) c e never = cc
    is_total (row.Var v) c e never = cc
    is_total row.Last c e never = cc
    is_total row.Sealed c e never = cc
    is_total (row.Digest d) c e never = cc
    is_total (row.Outside d) c e never = cc
    is_total (row.Section s) c e never = cc
    is_total (row.Body b) c e never = cc

ending_with : Option (List ℕ) → Bounds → List Section → Ending
ending_with outside total sections = record { outside = outside; total = total; sections = sections }

-- the end after the bounds, in version 1
has_end : (from after : Place) (b : Bounds) (found : Found) → step_at from.here from.rest ≡ Some (TotalLine b, after.here, after.rest) → EndsAt after None b found → HasNext from found
unfolding ending_with
has_end from after b (Function r to) e ends = absurd ends
has_end from after b (End end) e ends =
    let P : Ending → Type 0 = HasEnd from in
    let outside : option_map bytes_of end.outside ≡ None = ap (option_map bytes_of) ends.0 in
    let sections : List Section = sections_in end.sections.now in
    subst P (ap (λ o. ending_with o b sections) (sym outside) ∙ ap (λ b. ending_with (option_map bytes_of end.outside) b sections) (sym ends.1))
    (record { reads = reads_step from.here after.here next.Over from.rest after.rest [] (TotalLine b) (closing_lines sections) e ends.2 })

pub has_total : (from after : Place) (line : Row) (b : Bounds) (result : Result Found BadLine) → step_at from.here from.rest ≡ Some (plain_line line, after.here, after.rest) → line ≡ row.Total b → after.lines ≡ from.lines + 1
    → IfOk result (λ found. EndsAt after None b found) → IfErr result (λ bad. FindsWrong after bad.line) → Has from result
has_total from after line b result e is number ok wrong =
    let here : step_at from.here from.rest ≡ Some (TotalLine b, after.here, after.rest) = e ∙ ap (λ l. Some (l, after.here, after.rest)) (ap plain_line is) in
    by_result result here ok wrong
  where
    by_result : (result : Result Found BadLine) → step_at from.here from.rest ≡ Some (TotalLine b, after.here, after.rest) → IfOk result (λ found. EndsAt after None b found) → IfErr result (λ bad. FindsWrong after bad.line) → Has from result
    by_result (Ok found) here ok wrong = has_end from after b found here ok
    by_result (Err bad) here ok wrong = wrong_after from after (TotalLine b ∷ []) bad.line (one_line from after (TotalLine b) here) (omega (arith, number)) refl wrong

-- the end after the bounds, in version 2
bounds_end : (from after : Place) (d : Digest) (b : Bounds) (found : Found) → step_at from.here from.rest ≡ Some (TotalLine b, after.here, after.rest) → EndsAt after (Some d) b found → BoundsAt from d found
bounds_end from after d b (Function r to) e ends = absurd ends
bounds_end from after d b (End end) e ends =
    let P : Bounds → Type 0 = λ b. Reads from.here from.rest (TotalLine b ∷ closing_lines (sections_in end.sections.now)) next.Over [] in
    (ends.0, subst P (sym ends.1) (reads_step from.here after.here next.Over from.rest after.rest [] (TotalLine b) (closing_lines (sections_in end.sections.now)) e ends.2))

pub has_bounds : (from after : Place) (line : Row) (d : Digest) (b : Bounds) (result : Result Found BadLine) → step_at from.here from.rest ≡ Some (plain_line line, after.here, after.rest) → line ≡ row.Total b → after.lines ≡ from.lines + 1
    → IfOk result (λ found. EndsAt after (Some d) b found) → IfErr result (λ bad. FindsWrong after bad.line) → IfOk result (λ found. BoundsAt from d found) × IfErr result (λ bad. FindsWrong from bad.line)
has_bounds from after line d b result e is number ok wrong =
    let here : step_at from.here from.rest ≡ Some (TotalLine b, after.here, after.rest) = e ∙ ap (λ l. Some (l, after.here, after.rest)) (ap plain_line is) in
    by_result result here ok wrong
  where
    by_result : (result : Result Found BadLine) → step_at from.here from.rest ≡ Some (TotalLine b, after.here, after.rest) → IfOk result (λ found. EndsAt after (Some d) b found) → IfErr result (λ bad. FindsWrong after bad.line)
        → IfOk result (λ found. BoundsAt from d found) × IfErr result (λ bad. FindsWrong from bad.line)
    by_result (Ok found) here ok wrong = (bounds_end from after d b found here ok, tt)
    by_result (Err bad) here ok wrong = (tt, wrong_after from after (TotalLine b ∷ []) bad.line (one_line from after (TotalLine b) here) (omega (arith, number)) refl wrong)

sealed_end : (from after : Place) (d : Digest) (found : Found) → step_at from.here from.rest ≡ Some (OutsideLine (bytes_of d), after.here, after.rest) → BoundsAt after d found → HasNext from found
unfolding ending_with
sealed_end from after d (Function r to) e ends = absurd ends
sealed_end from after d (End end) e ends =
    let P : Ending → Type 0 = HasEnd from in
    let sections : List Section = sections_in end.sections.now in
    subst P (ap (λ o. ending_with (option_map bytes_of o) end.total sections) (sym ends.0))
    (record { reads = reads_step from.here after.here next.Over from.rest after.rest [] (OutsideLine (bytes_of d)) (TotalLine end.total ∷ closing_lines sections) e ends.1 })

pub has_outside : (from after : Place) (line : Row) (d : Digest) (result : Result Found BadLine) → step_at from.here from.rest ≡ Some (plain_line line, after.here, after.rest) → line ≡ row.Outside d → after.lines ≡ from.lines + 1
    → IfOk result (λ found. BoundsAt after d found) → IfErr result (λ bad. FindsWrong after bad.line) → Has from result
has_outside from after line d result e is number ok wrong =
    let here : step_at from.here from.rest ≡ Some (OutsideLine (bytes_of d), after.here, after.rest) = e ∙ ap (λ l. Some (l, after.here, after.rest)) (ap plain_line is) in
    by_result result here ok wrong
  where
    by_result : (result : Result Found BadLine) → step_at from.here from.rest ≡ Some (OutsideLine (bytes_of d), after.here, after.rest) → IfOk result (λ found. BoundsAt after d found) → IfErr result (λ bad. FindsWrong after bad.line) → Has from result
    by_result (Ok found) here ok wrong = sealed_end from after d found here ok
    by_result (Err bad) here ok wrong = wrong_after from after (OutsideLine (bytes_of d) ∷ []) bad.line (one_line from after (OutsideLine (bytes_of d)) here) (omega (arith, number)) refl wrong
