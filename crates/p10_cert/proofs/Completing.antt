-- Lines that may come are the first lines of a certificate, and where no line may come next, no certificate goes on.
use Rattle.std.proofs.Common.{◌≡◌, ◌≢◌, ℕ, zero, suc, ◌+◌, ◌-◌, ◌^◌, Bool, true, false, cond, nat_le, List, [], ◌∷◌, ◌++◌, length, map, flat_map, Option, Some, None, refl, sym, ap, subst, ◌∙◌, arith, append_assoc}
use Rattle.std.proofs.lemmas.Option.{cond_some, same_Some, none-some}
use Rattle.std.specs.List.{AllByRecursion}
use Rattle.p10_base.specs.declared.report.Bounds.{Bounds}
use Rattle.p10_cert.specs.declared.state.Seen.{Seen}
use Rattle.p10_cert.specs.Claims.{Nothing, Var}
use Rattle.p10_cert.specs.Lines.{LoopHead, SectionHead, Line, FirstLine, FuncLine, ParamLine, ResultLine, LoopLine, VarLine, TotalLine, LastLine, SealedLine, DigestLine, OutsideLine, SectionLine, BodyLine, line_then, text_of, IsByte, IsDigest, IsLoopHead, IsSectionHead, IsVar, IsBody, IsTotal, IsLine}
use Rattle.p10_cert.specs.Statements.{Section, Ending, Statement, entry_lines, section_lines, ending_lines, statement_lines, statement_text, first_line, is_there, is_before, IsSeal, IsEntry, RisesFrom, IsSection, AreSections, IsEnding, IsStatement}
use Rattle.p10_cert.specs.WrongLines.{first_lines, IsFirstWrong}
use Rattle.p10_cert.specs.private.States.{Next}
use Rattle.p10_cert.specs.private.States as next
use Rattle.p10_cert.specs.private.Steps.{is_main, seen_after, seen_first, step_func, step_total, step_outside, step, run, step_at}
use Rattle.p10_cert.specs.private.Places.{Reads, IsBetween}
use Rattle.p10_cert.proofs.Steps.{then_some}
use Rattle.p10_cert.proofs.Runs.{all_append, statement_run, statement_good}
use Rattle.p10_cert.proofs.Parts.{loop_stepped, after_run}
use Rattle.p10_cert.proofs.LineTexts.{line_then-append, text_then, text_none, text_of-append, line_then-some, line_then-injective, line_first, first_none, first_front, no_first}
use Rattle.p10_cert.proofs.LineLaws.{flag_small}
use Rattle.p10_cert.proofs.ReadLines.{alike, run_join, step_at_again}

-- ---- lines that lead to the end are those of a certificate

-- sections, and the last line
pub record EndsWithSections (since : List ℕ) (left : ℕ) (lines : List Line) : Type 0 where
  pub bodies : List (List ℕ)
  pub sections : List Section
  pub parts : lines ≡ map BodyLine bodies ++ (flat_map section_lines sections ++ LastLine ∷ [])
  pub size : length bodies ≡ left
  pub good : AllByRecursion IsBody bodies
  pub all : AllByRecursion IsSection sections
  pub rise : RisesFrom since sections

-- the bounds, sections and the last line
pub record EndsWithBounds (lines : List Line) : Type 0 where
  total : Bounds
  sections : List Section
  parts : lines ≡ TotalLine total ∷ (flat_map section_lines sections ++ LastLine ∷ [])
  good : IsTotal total
  have : AreSections sections

-- lines that end with what stands after functions
pub record EndsWithEnding (s : Next) (lines : List Line) : Type 0 where
  before : List Line
  ending : Ending
  to : Next
  seen : Seen
  parts : lines ≡ before ++ ending_lines ending
  runs : run s before ≡ Some to
  between : IsBetween seen to
  good : AllByRecursion IsLine before
  good_ending : IsEnding seen.sealed ending

abbrev pub Ends : Next → List Line → Type 0
Ends next.Total lines = EndsWithBounds lines
Ends (next.Section since left) lines = EndsWithSections since left lines
Ends next.Last lines = lines ≡ LastLine ∷ []
Ends next.Over lines = lines ≡ []
Ends s lines = EndsWithEnding s lines

ends_none : (s : Next) → s ≡ next.Over → Ends s []
ends_none s e = subst (λ s. Ends s []) (sym e) refl

ends_more : (s a : Next) (l : Line) (lines : List Line) → IsLine l → step s l ≡ Some a → EndsWithEnding a lines → EndsWithEnding s (l ∷ lines)
ends_more s a l lines good e ends = record {
  before = l ∷ ends.before;
  ending = ends.ending;
  to = ends.to;
  seen = ends.seen;
  parts = ap (λ ls. l ∷ ls) ends.parts;
  runs = rw e ends.runs;
  between = ends.between;
  good = (good, ends.good);
  good_ending = ends.good_ending;
}

-- what comes of a step that is known
ends_known : (b a : Next) (lines : List Line) → Some b ≡ Some a → Ends a lines → Ends b lines
ends_known b a lines e ends = subst (λ s. Ends s lines) (sym (same_Some b a e)) ends

ends_here : (s : Next) (t : Seen) (ending : Ending) (lines : List Line) → IsBetween t s → IsEnding t.sealed ending → lines ≡ ending_lines ending → EndsWithEnding s lines
ends_here s t ending lines between good e = record {
  before = [];
  ending = ending;
  to = s;
  seen = t;
  parts = e;
  runs = refl;
  between = between;
  good = tt;
  good_ending = good;
}

plain_ending : Bounds → Ending
plain_ending b = record { outside = None; total = b; sections = [] }

-- the bounds of version 1
ends_total : (s : Next) (t : Seen) (b : Bounds) (a : Next) (lines : List Line) → IsBetween t s → IsTotal b → step_total t ≡ Some a → Ends a lines → EndsWithEnding s (TotalLine b ∷ lines)
unfolding plain_ending
ends_total s t b a lines between good e ends = by_version t.sealed refl e
  where
    by_version : (sealed : Bool) → t.sealed ≡ sealed → cond sealed None (Some next.Last) ≡ Some a → EndsWithEnding s (TotalLine b ∷ lines)
    by_version true is e = absurd (none-some a e)
    by_version false is e =
        let P : Bool → Type 0 = λ sealed. IsEnding sealed (plain_ending b) in
        ends_here s t (plain_ending b) (TotalLine b ∷ lines) between (subst P (sym is) (record { seal = tt; total = good; sections = tt })) (ap (λ ls. TotalLine b ∷ ls) (ends_known next.Last a lines e ends))

-- what stands after the functions in version 2
ends_outside : (s : Next) (t : Seen) (d : List ℕ) (a : Next) (lines : List Line) → IsBetween t s → IsDigest d → step_outside t ≡ Some a → Ends a lines → EndsWithEnding s (OutsideLine d ∷ lines)
ends_outside s t d a lines between good e ends = by_version t.sealed refl e
  where
    by_version : (sealed : Bool) → t.sealed ≡ sealed → cond sealed (Some next.Total) None ≡ Some a → EndsWithEnding s (OutsideLine d ∷ lines)
    by_version true is e =
        let bounds : EndsWithBounds lines = ends_known next.Total a lines e ends in
        let ending : Ending = record { outside = Some d; total = bounds.total; sections = bounds.sections } in
        let P : Bool → Type 0 = λ sealed. IsEnding sealed ending in
        ends_here s t ending (OutsideLine d ∷ lines) between (subst P (sym is) (record { seal = good; total = bounds.good; sections = bounds.have })) (ap (λ ls. OutsideLine d ∷ ls) bounds.parts)
    by_version false is e = absurd (none-some a e)

pub no_bodies : (bodies : List (List ℕ)) → length bodies ≡ 0 → bodies ≡ []
no_bodies [] e = refl
no_bodies (b ∷ bodies) e = absurd (omega (arith, e))

ends_bounds : (b : Bounds) (lines : List Line) → IsTotal b → (ends : EndsWithSections [] 0 lines) → EndsWithBounds (TotalLine b ∷ lines)
ends_bounds b lines good ends = record {
  total = b;
  sections = ends.sections;
  parts = ap (λ ls. TotalLine b ∷ ls) (ends.parts ∙ ap (λ bodies. map BodyLine bodies ++ (flat_map section_lines ends.sections ++ LastLine ∷ [])) (no_bodies ends.bodies ends.size));
  good = good;
  have = record { all = ends.all; rise = ends.rise };
}

section_with : List ℕ → ℕ → SectionHead
section_with name count = record { name = name; count = count }

ends_section : (since : List ℕ) (h : SectionHead) (a : Next) (lines : List Line) → IsSectionHead h → cond (is_before since h.name) (Some (next.Section h.name h.count)) None ≡ Some a → Ends a lines
    → EndsWithSections since 0 (SectionLine h ∷ lines)
unfolding section_with
ends_section since h a lines good e ends =
    let found = cond_some (is_before since h.name) (next.Section h.name h.count) a e in
    let inside : EndsWithSections h.name h.count lines = subst (λ s. Ends s lines) (sym found.1) ends in
    let s : Section = record { name = h.name; lines = inside.bodies } in
    record {
      bodies = [];
      sections = s ∷ inside.sections;
      parts =
          ap (λ ls. SectionLine h ∷ ls) (inside.parts ∙ sym (append_assoc (map BodyLine inside.bodies) (flat_map section_lines inside.sections) (LastLine ∷ [])))
          ∙ ap (λ n. SectionLine (section_with h.name n) ∷ ((map BodyLine inside.bodies ++ flat_map section_lines inside.sections) ++ LastLine ∷ [])) (sym inside.size);
      size = refl;
      good = tt;
      all = (record { head = subst (λ n. IsSectionHead (section_with h.name n)) (sym inside.size) good; lines = inside.good }, inside.all);
      rise = (found.0, inside.rise);
    }

ends_body : (since : List ℕ) (left : ℕ) (b : List ℕ) (lines : List Line) → IsBody b → (ends : EndsWithSections since left lines) → EndsWithSections since (suc left) (BodyLine b ∷ lines)
ends_body since left b lines good ends = record {
  bodies = b ∷ ends.bodies;
  sections = ends.sections;
  parts = ap (λ ls. BodyLine b ∷ ls) ends.parts;
  size = omega (arith, ends.size);
  good = (good, ends.good);
  all = ends.all;
  rise = ends.rise;
}

ends_last : (since : List ℕ) (lines : List Line) → lines ≡ [] → EndsWithSections since 0 (LastLine ∷ lines)
ends_last since lines e = record { bodies = []; sections = []; parts = ap (λ ls. LastLine ∷ ls) e; size = refl; good = tt; all = tt; rise = tt }

ends_loop : (m : Bool) (t : Seen) (d least : ℕ) (h : LoopHead) (a : Next) (lines : List Line) → IsLoopHead h → step (next.Loop m t d least) (LoopLine h) ≡ Some a → Ends a lines → EndsWithEnding (next.Loop m t d least) (LoopLine h ∷ lines)
unfolding step
ends_loop m t d least h a lines good e ends =
    let stepped = loop_stepped m t d h.depth h.rank a e in
    let after : Next = next.Loop m (seen_after t h.rank) (h.depth + 1) 0 in
    ends_more (next.Loop m t d least) after (LoopLine h) lines good (e ∙ ap (λ a. Some a) (sym stepped.2)) (subst (λ s. Ends s lines) (sym stepped.2) ends)

ends_var : (m : Bool) (t : Seen) (d least : ℕ) (x : Var) (a : Next) (lines : List Line) → IsVar x → step (next.Loop m t d least) (VarLine x) ≡ Some a → Ends a lines → EndsWithEnding (next.Loop m t d least) (VarLine x ∷ lines)
unfolding step
ends_var m t d least x a lines good e ends =
    let after : Next = next.Loop m t d (x.var + 1) in
    let found = cond_some (nat_le least x.var) after a e in
    ends_more (next.Loop m t d least) after (VarLine x) lines good (e ∙ ap (λ a. Some a) (sym found.1)) (subst (λ s. Ends s lines) (sym found.1) ends)

-- what comes of the first line of a function
ends_func : (t : Seen) (name : List ℕ) (a : Next) (lines : List Line) → Some (step_func t name) ≡ Some a → Ends a lines → EndsWithEnding (step_func t name) lines
ends_func t name a lines e ends = by_version t.sealed (ends_known (step_func t name) a lines e ends)
  where
    by_version : (b : Bool) → Ends (cond b (next.Digest (is_main name) t) (next.Param (is_main name) t)) lines → EndsWithEnding (cond b (next.Digest (is_main name) t) (next.Param (is_main name) t)) lines
    by_version true ends = ends
    by_version false ends = ends

ends_line : (s : Next) (l : Line) (a : Next) (lines : List Line) → IsLine l → step s l ≡ Some a → Ends a lines → Ends s (l ∷ lines)
unfolding step
ends_line next.First FirstLine a lines good e ends = ends_more next.First (next.Func (seen_first false)) FirstLine lines tt refl (ends_known (next.Func (seen_first false)) a lines e ends)
ends_line next.First SealedLine a lines good e ends = ends_more next.First (next.Func (seen_first true)) SealedLine lines tt refl (ends_known (next.Func (seen_first true)) a lines e ends)
ends_line (next.Func t) (FuncLine h) a lines good e ends = ends_more (next.Func t) (step_func t h.name) (FuncLine h) lines good refl (ends_func t h.name a lines e ends)
ends_line (next.Func t) (TotalLine b) a lines good e ends = ends_total (next.Func t) t b a lines refl good e ends
ends_line (next.Func t) (OutsideLine o) a lines good e ends = ends_outside (next.Func t) t o a lines refl good e ends
ends_line (next.Digest m t) (DigestLine o) a lines good e ends = ends_more (next.Digest m t) (next.Param m t) (DigestLine o) lines good refl (ends_known (next.Param m t) a lines e ends)
ends_line (next.Param m t) (ParamLine p) a lines good e ends = ends_more (next.Param m t) (next.Param m t) (ParamLine p) lines good refl (ends_known (next.Param m t) a lines e ends)
ends_line (next.Param m t) (ResultLine r) a lines good e ends = ends_more (next.Param m t) _ (ResultLine r) lines good refl (ends_known _ a lines e ends)
ends_line (next.Loop m t d least) (LoopLine h) a lines good e ends = ends_loop m t d least h a lines good e ends
ends_line (next.Loop m t d least) (VarLine x) a lines good e ends = ends_var m t d least x a lines good e ends
ends_line (next.Loop m t d least) (FuncLine h) a lines good e ends = ends_more (next.Loop m t d least) (step_func t h.name) (FuncLine h) lines good refl (ends_func t h.name a lines e ends)
ends_line (next.Loop m t d least) (TotalLine b) a lines good e ends = ends_total (next.Loop m t d least) t b a lines refl good e ends
ends_line (next.Loop m t d least) (OutsideLine o) a lines good e ends = ends_outside (next.Loop m t d least) t o a lines refl good e ends
ends_line next.Total (TotalLine b) a lines good e ends = ends_bounds b lines good (ends_known (next.Section [] 0) a lines e ends)
ends_line (next.Section since zero) (SectionLine h) a lines good e ends = ends_section since h a lines good e ends
ends_line (next.Section since zero) LastLine a lines good e ends = ends_last since lines (ends_known next.Over a lines e ends)
ends_line (next.Section since (suc left)) (BodyLine b) a lines good e ends = ends_body since left b lines good (ends_known (next.Section since left) a lines e ends)
ends_line next.Last LastLine a lines good e ends = ap (λ ls. LastLine ∷ ls) (ends_known next.Over a lines e ends)
ends_line s l a lines good e ends = absurd (none-some a e)

pub ends_run : (lines : List Line) (s : Next) → AllByRecursion IsLine lines → run s lines ≡ Some next.Over → Ends s lines
ends_run [] s good e = ends_none s (same_Some s next.Over e)
ends_run (l ∷ lines) s good e = then_some (step s l) (λ a. run a lines) next.Over e (λ a e0 f0. ends_line s l a lines good.0 e0 (ends_run lines a good.1 f0))

-- a digest is there as in this version
seal_there : (sealed : Bool) (digest : Option (List ℕ)) → IsSeal sealed digest → sealed ≡ is_there digest
seal_there true (Some d) seal = refl
seal_there false None seal = refl
seal_there true None seal = absurd seal
seal_there false (Some d) seal = absurd seal

-- lines that lead from the beginning to the end are those of a certificate
pub statement_from_lines : (lines : List Line) → AllByRecursion IsLine lines → run next.First lines ≡ Some next.Over → (s : Statement) × IsStatement s × (statement_lines s ≡ lines)
statement_from_lines lines good e =
    let ends = ends_run lines next.First good e in
    let after = after_run next.First ends.to ends.seen ends.between ends.before ends.good ends.runs in
    let s : Statement = record { entries = after.rest.entries; ending = ends.ending } in
    let there : ends.seen.sealed ≡ is_there ends.ending.outside = seal_there ends.seen.sealed ends.ending.outside ends.good_ending.seal in
    let version : after.sealed ≡ is_there ends.ending.outside = after.rest.same ∙ there in
    let P : Bool → Type 0 = λ b. AllByRecursion (IsEntry b) after.rest.entries in
    let Q : Bool → Type 0 = λ b. IsEnding b ends.ending in (
      s,
      record {
        entries = record { all = subst P version after.rest.good; one_task = omega (arith, after.rest.count, flag_small ends.seen.tasked) };
        ending = subst Q there ends.good_ending;
      },
      sym (ends.parts ∙ ap (λ ls. ls ++ ending_lines ends.ending) (after.first ∙ ap (λ ls. first_line after.sealed ∷ ls) after.rest.parts ∙ ap (λ b. first_line b ∷ flat_map entry_lines after.rest.entries) version)),
    )

-- ---- lines that lead on to the end

no_bounds : Bounds
no_bounds = record { prefix = 0; turn = 0; calls = 0; bytes = 0 }

no_bounds_good : IsTotal no_bounds
unfolding no_bounds
no_bounds_good = record {
  prefix = record { small = omega arith };
  turn = record { small = omega arith };
  calls = record { small = omega arith };
  bytes = record { small = omega arith };
}

zeros : ℕ → List ℕ
zeros zero = []
zeros (suc n) = 0 ∷ zeros n

zeros_size : (n : ℕ) → length (zeros n) ≡ n
unfolding zeros
zeros_size zero = refl
zeros_size (suc n) = omega (arith, zeros_size n)

zeros_bytes : (n : ℕ) → AllByRecursion IsByte (zeros n)
unfolding zeros
zeros_bytes zero = tt
zeros_bytes (suc n) = (record { small = omega arith }, zeros_bytes n)

no_digest_good : IsDigest (zeros 32)
no_digest_good = record { size = zeros_size 32; bytes = zeros_bytes 32 }

-- what may stand after the functions
to_end : Bool → List Line
to_end true = OutsideLine (zeros 32) ∷ TotalLine no_bounds ∷ LastLine ∷ []
to_end false = TotalLine no_bounds ∷ LastLine ∷ []

-- so many empty lines of a section, and the last line
bodies_end : ℕ → List Line
bodies_end zero = LastLine ∷ []
bodies_end (suc left) = BodyLine [] ∷ bodies_end left

-- some lines with which a certificate may end
ending : Next → List Line
ending next.First = FirstLine ∷ to_end false
ending (next.Func t) = to_end t.sealed
ending (next.Digest m t) = DigestLine (zeros 32) ∷ ResultLine Nothing ∷ to_end t.sealed
ending (next.Param m t) = ResultLine Nothing ∷ to_end t.sealed
ending (next.Loop m t d least) = to_end t.sealed
ending next.Total = TotalLine no_bounds ∷ LastLine ∷ []
ending (next.Section since left) = bodies_end left
ending next.Last = LastLine ∷ []
ending next.Over = []

bodies_end_runs : (since : List ℕ) (left : ℕ) → run (next.Section since left) (bodies_end left) ≡ Some next.Over
unfolding bodies_end step
bodies_end_runs since zero = refl
bodies_end_runs since (suc left) = bodies_end_runs since left

func_ends : (t : Seen) → run (next.Func t) (to_end t.sealed) ≡ Some next.Over
unfolding to_end step
func_ends t = by_version t.sealed
  where
    by_version : (b : Bool) → run (next.Func (record t { sealed = b })) (to_end b) ≡ Some next.Over
    by_version true = refl
    by_version false = refl

loop_ends : (m : Bool) (t : Seen) (d least : ℕ) → run (next.Loop m t d least) (to_end t.sealed) ≡ Some next.Over
unfolding to_end step
loop_ends m t d least = by_version t.sealed
  where
    by_version : (b : Bool) → run (next.Loop m (record t { sealed = b }) d least) (to_end b) ≡ Some next.Over
    by_version true = refl
    by_version false = refl

ending_runs : (s : Next) → run s (ending s) ≡ Some next.Over
unfolding ending step
ending_runs next.First = func_ends (seen_first false)
ending_runs (next.Func t) = func_ends t
ending_runs (next.Digest m t) = loop_ends m t 0 (2 ^ 32)
ending_runs (next.Param m t) = loop_ends m t 0 (2 ^ 32)
ending_runs (next.Loop m t d least) = loop_ends m t d least
ending_runs next.Total = refl
ending_runs (next.Section since left) = bodies_end_runs since left
ending_runs next.Last = refl
ending_runs next.Over = refl

to_end_good : (b : Bool) → AllByRecursion IsLine (to_end b)
unfolding to_end
to_end_good true = (no_digest_good, (no_bounds_good, (tt, tt)))
to_end_good false = (no_bounds_good, (tt, tt))

bodies_end_good : (left : ℕ) → AllByRecursion IsLine (bodies_end left)
unfolding bodies_end
bodies_end_good zero = (tt, tt)
bodies_end_good (suc left) = (record { visible = refl }, bodies_end_good left)

ending_good : (s : Next) → AllByRecursion IsLine (ending s)
unfolding ending
ending_good next.First = (tt, to_end_good false)
ending_good (next.Func t) = to_end_good t.sealed
ending_good (next.Digest m t) = (no_digest_good, (tt, to_end_good t.sealed))
ending_good (next.Param m t) = (tt, to_end_good t.sealed)
ending_good (next.Loop m t d least) = to_end_good t.sealed
ending_good next.Total = (no_bounds_good, (tt, tt))
ending_good (next.Section since left) = bodies_end_good left
ending_good next.Last = (tt, tt)
ending_good next.Over = tt

pub all_after : (xs ys : List Line) → AllByRecursion IsLine (xs ++ ys) → AllByRecursion IsLine ys
all_after [] ys good = good
all_after (x ∷ xs) ys good = all_after xs ys good.1

-- ---- the lines before the wrong one

first_of : (lines : List Line) (rest : List ℕ) → AllByRecursion IsLine lines → first_lines (text_of lines ++ rest) (length lines) ≡ text_of lines
unfolding text_of
first_of [] rest good = first_none rest
first_of (l ∷ lines) rest good = ap (λ t. first_lines t (suc (length lines))) (text_then l lines rest) ∙ line_first l (text_of lines ++ rest) (length lines) good.0 ∙ ap (line_then l) (first_of lines rest good.1)

-- a text of whose first lines each may come
pub shared : (text rest : List ℕ) (lines : List Line) (u : Next) → Reads next.First text lines u rest
    → (c : Statement) × IsStatement c × (first_lines text (length lines) ≡ first_lines (statement_text c) (length lines))
unfolding statement_text
shared text rest lines u reads =
    let whole : List Line = lines ++ ending u in
    let good = all_append IsLine lines (ending u) reads.good (ending_good u) in
    let (c, fits, is) = statement_from_lines whole good (run_join lines (ending u) next.First u reads.runs ∙ ending_runs u) in
    let here : first_lines text (length lines) ≡ text_of lines = ap (λ t. first_lines t (length lines)) reads.parts ∙ first_of lines rest reads.good in
    let there : first_lines (text_of (statement_lines c)) (length lines) ≡ text_of lines =
    ap (λ t. first_lines t (length lines)) (ap text_of is ∙ text_of-append lines (ending u)) ∙ first_of lines (text_of (ending u)) reads.good in
    (c, fits, here ∙ sym there)

-- ---- no certificate has the wrong line

-- lines that begin as others do, and one line more of the text
agree : (xs ys : List Line) (rest : List ℕ) (s u v : Next) → run s xs ≡ Some u → run s ys ≡ Some v → AllByRecursion IsLine xs → AllByRecursion IsLine ys
    → first_lines (text_of xs ++ rest) (suc (length xs)) ≡ first_lines (text_of ys) (suc (length xs))
    → (others : List Line) × (ys ≡ xs ++ others) × (first_lines rest 1 ≡ first_lines (text_of others) 1)
unfolding text_of first_lines
agree [] ys rest s u v first second left right e = (ys, refl, ap (λ t. first_lines t 1) (sym (text_none rest)) ∙ e)
agree (l ∷ xs) ys rest s u v first second left right e =
    let n : ℕ = suc (length xs) in
    let mine : first_lines (text_of (l ∷ xs) ++ rest) (suc n) ≡ line_then l (first_lines (text_of xs ++ rest) n) =
    ap (λ t. first_lines t (suc n)) (text_then l xs rest) ∙ line_first l (text_of xs ++ rest) n left.0 in
    then_some (step s l) (λ a. run a xs) u first (λ a e0 f0.
    agree_line l xs ys rest n s a v e0 second left.0 right (sym mine ∙ e) (λ others goes good same. agree xs others rest a u v f0 goes left.1 good same))
  where
    agree_line : (l : Line) (xs ys : List Line) (rest : List ℕ) (n : ℕ) (s a v : Next) → step s l ≡ Some a → run s ys ≡ Some v → IsLine l → AllByRecursion IsLine ys → line_then l (first_lines (text_of xs ++ rest) n) ≡ first_lines (text_of ys) (suc n)
        → ((others : List Line) → run a others ≡ Some v → AllByRecursion IsLine others → first_lines (text_of xs ++ rest) n ≡ first_lines (text_of others) n → (more : List Line) × (others ≡ xs ++ more) × (first_lines rest 1 ≡ first_lines (text_of more) 1))
        → (more : List Line) × (ys ≡ (l ∷ xs) ++ more) × (first_lines rest 1 ≡ first_lines (text_of more) 1)
    agree_line l xs [] rest n s a v first second good right e go = absurd (line_then-some l (first_lines (text_of xs ++ rest) n) good e)
    agree_line l xs (m ∷ ys) rest n s a v first second good right e go =
        then_some (step s m) (λ b. run b ys) v second (λ b e1 f1.
        let yours : first_lines (text_of (m ∷ ys)) (suc n) ≡ line_then m (first_lines (text_of ys) n) = line_first m (text_of ys) n right.0 in
        let same = line_then-injective l m (first_lines (text_of xs ++ rest) n) (first_lines (text_of ys) n) (alike s a b l m first e1) good right.0 (e ∙ yours) in
        let one : b ≡ a = same_Some b a (sym e1 ∙ ap (step s) (sym same.0) ∙ first) in
        let (more, parts, last) = go ys (ap (λ b. run b ys) (sym one) ∙ f1) right.1 same.1 in
        (more, ap (λ m. m ∷ ys) (sym same.0) ∙ ap (λ ls. l ∷ ls) parts, last))

-- what comes of the lines of a certificate after those that were read
no_more : (rest : List ℕ) (u : Next) (others : List Line) → AllByRecursion IsLine others → run u others ≡ Some next.Over → first_lines rest 1 ≡ first_lines (text_of others) 1
    → step_at u rest ≡ None → (u ≡ next.Over → rest ≢ []) → ⊥
unfolding text_of first_lines
no_more rest u [] good runs same none over = over (same_Some u next.Over runs) (no_first rest same)
no_more rest u (l ∷ others) good runs same none over =
    then_some (step u l) (λ a. run a others) next.Over runs (λ a e0 f0.
    let (after, front) = first_front rest 1 in
    let here : rest ≡ line_then l after = sym front ∙ ap (λ t. t ++ after) (same ∙ line_first l (text_of others) 0 good.0 ∙ ap (line_then l) (first_none (text_of others))) ∙ line_then-append l [] after in
    none-some (l, a, after) (sym none ∙ ap (step_at u) here ∙ step_at_again u a l after good.0 e0))

pub wrong_line : (text rest : List ℕ) (lines : List Line) (u : Next) → Reads next.First text lines u rest → step_at u rest ≡ None → (u ≡ next.Over → rest ≢ []) → IsFirstWrong text (suc (length lines))
unfolding statement_text
wrong_line text rest lines u reads none over = record {
  before = let P : ℕ → Type 0 = λ n. (c : Statement) × IsStatement c × (first_lines text n ≡ first_lines (statement_text c) n) in
      let same : length lines ≡ suc (length lines) - 1 = omega arith in
      subst P same (shared text rest lines u reads);
  wrong = λ c fits e. wrong_for text rest lines u reads none over c fits e;
}
  where
    wrong_for : (text rest : List ℕ) (lines : List Line) (u : Next) → Reads next.First text lines u rest → step_at u rest ≡ None → (u ≡ next.Over → rest ≢ [])
        → (c : Statement) → IsStatement c → first_lines text (suc (length lines)) ≡ first_lines (statement_text c) (suc (length lines)) → ⊥
    wrong_for text rest lines u reads none over c fits e =
        let same : first_lines (text_of lines ++ rest) (suc (length lines)) ≡ first_lines (text_of (statement_lines c)) (suc (length lines)) = ap (λ t. first_lines t (suc (length lines))) (sym reads.parts) ∙ e in
        let (others, parts, first) = agree lines (statement_lines c) rest next.First u next.Over reads.runs (statement_run c fits) reads.good (statement_good c fits) same in
        let good = all_after lines others (subst (AllByRecursion IsLine) parts (statement_good c fits)) in
        no_more rest u others good (sym (run_join lines others next.First u reads.runs) ∙ ap (run next.First) (sym parts) ∙ statement_run c fits) first none over
