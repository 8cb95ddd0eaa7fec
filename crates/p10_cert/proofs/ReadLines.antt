-- Lines that are read one after the other.
use Rattle.std.proofs.Common.{◌≡◌, ℕ, zero, suc, ◌+◌, ◌<◌, ◌≤◌, ◌⊎◌, inl, inr, Bool, true, false, cond, List, [], ◌∷◌, ◌++◌, length, Some, refl, sym, ap, subst, ◌∙◌, arith, append_assoc}
use Rattle.std.proofs.lemmas.Option.{same_Some, none-some}
use Rattle.std.specs.List.{AllByRecursion}
use Rattle.p10_cert.specs.private.States.{Next, is_free}
use Rattle.p10_cert.specs.private.States as next
use Rattle.p10_cert.specs.Lines.{Line, FirstLine, FuncLine, ParamLine, ResultLine, LoopLine, VarLine, TotalLine, LastLine, SealedLine, DigestLine, OutsideLine, SectionLine, BodyLine, line_then, text_of, IsLine}
use Rattle.p10_cert.specs.private.Reading.{line_at, body_at}
use Rattle.p10_cert.specs.private.Steps.{step, run, line_in, step_at}
use Rattle.p10_cert.specs.private.Places.{Reads, after_lines, lines_in}
use Rattle.p10_cert.proofs.Steps.{then_some, bind_is}
use Rattle.p10_cert.proofs.LineLaws.{line_takes, body_line_takes}
use Rattle.p10_cert.proofs.LineAgain.{is_body, line_again, body_line_again}
use Rattle.p10_cert.proofs.LineTexts.{text_then, text_none, text_of-append, line_then-longer, line_then-injective}
use Rattle.p10_cert.proofs.Runs.{all_append}

-- ---- one line

-- a line of a section comes where one has to, and no other
pub body_step : (s u : Next) (l : Line) → step s l ≡ Some u → is_body l ≡ is_free s
unfolding step
body_step next.First u FirstLine e = refl
body_step next.First u SealedLine e = refl
body_step (next.Func t) u (FuncLine h) e = refl
body_step (next.Func t) u (TotalLine b) e = refl
body_step (next.Func t) u (OutsideLine d) e = refl
body_step (next.Digest m t) u (DigestLine d) e = refl
body_step (next.Param m t) u (ParamLine v) e = refl
body_step (next.Param m t) u (ResultLine v) e = refl
body_step (next.Loop m t d least) u (LoopLine h) e = refl
body_step (next.Loop m t d least) u (VarLine x) e = refl
body_step (next.Loop m t d least) u (FuncLine h) e = refl
body_step (next.Loop m t d least) u (TotalLine b) e = refl
body_step (next.Loop m t d least) u (OutsideLine o) e = refl
body_step next.Total u (TotalLine b) e = refl
body_step (next.Section since zero) u (SectionLine h) e = refl
body_step (next.Section since zero) u LastLine e = refl
body_step (next.Section since (suc left)) u (BodyLine b) e = refl
body_step next.Last u LastLine e = refl
body_step s u l e = absurd (none-some u e)

-- two lines that may come at one place are both of a section, or none is
pub alike : (s u v : Next) (l m : Line) → step s l ≡ Some u → step s m ≡ Some v → is_body l ≡ is_body m
alike s u v l m e f = body_step s u l e ∙ sym (body_step s v m f)

line_in_takes : (s : Next) (text : List ℕ) (r : Line × List ℕ) → line_in s text ≡ Some r → (text ≡ line_then r.0 r.1) × IsLine r.0
unfolding line_in
line_in_takes s text r e = by_kind (is_free s) e
  where
    by_kind : (b : Bool) → cond b (body_at text) (line_at text) ≡ Some r → (text ≡ line_then r.0 r.1) × IsLine r.0
    by_kind true e = body_line_takes text r e
    by_kind false e = line_takes text r e

line_in_again : (s u : Next) (l : Line) (rest : List ℕ) → IsLine l → step s l ≡ Some u → line_in s (line_then l rest) ≡ Some (l, rest)
unfolding line_in
line_in_again s u l rest good e = by_kind (is_free s) (body_step s u l e)
  where
    by_kind : (b : Bool) → is_body l ≡ b → cond b (body_at (line_then l rest)) (line_at (line_then l rest)) ≡ Some (l, rest)
    by_kind true body = body_line_again l rest good body
    by_kind false plain = line_again l rest good plain

pub step_at_takes : (s : Next) (text : List ℕ) (r : Line × Next × List ℕ) → step_at s text ≡ Some r → (text ≡ line_then r.0 r.2) × IsLine r.0 × (step s r.0 ≡ Some r.1)
unfolding step_at
step_at_takes s text r e =
    then_some (line_in s text) _ r e (λ found e0 f0. then_some (step s found.0) _ r f0 (λ u e1 f1.
    let took = line_in_takes s text found e0 in
    let P : Line × Next × List ℕ → Type 0 = λ r. (text ≡ line_then r.0 r.2) × IsLine r.0 × (step s r.0 ≡ Some r.1) in
    subst P (same_Some _ _ f1) (took.0, took.1, e1)))

-- what stands after a line is shorter than the text
pub line_shorter : (text : List ℕ) (l : Line) (rest : List ℕ) → Some (l, rest) ≡ line_at text → length rest < length text
line_shorter text l rest e =
    let took = line_takes text (l, rest) (sym e) in
    omega (arith, line_then-longer l rest took.1, ap length took.0)

pub line_in_shorter : (s : Next) (text : List ℕ) (l : Line) (rest : List ℕ) → Some (l, rest) ≡ line_in s text → length rest < length text
line_in_shorter s text l rest e =
    let took = line_in_takes s text (l, rest) (sym e) in
    omega (arith, line_then-longer l rest took.1, ap length took.0)

pub step_shorter : (s u : Next) (text : List ℕ) (l : Line) (rest : List ℕ) → Some (l, u, rest) ≡ step_at s text → length rest < length text
step_shorter s u text l rest e =
    let took = step_at_takes s text (l, u, rest) (sym e) in
    omega (arith, line_then-longer l rest took.1, ap length took.0)

pub step_at_again : (s u : Next) (l : Line) (rest : List ℕ) → IsLine l → step s l ≡ Some u → step_at s (line_then l rest) ≡ Some (l, u, rest)
unfolding step_at
step_at_again s u l rest good e = bind_is (line_in s (line_then l rest)) (l, rest) _ _ (line_in_again s u l rest good e) (bind_is (step s l) u _ _ e refl)

-- ---- lines

pub run_join : (xs ys : List Line) (s u : Next) → run s xs ≡ Some u → run s (xs ++ ys) ≡ run u ys
run_join [] ys s u e = ap (λ s. run s ys) (same_Some s u e)
run_join (l ∷ xs) ys s u e = then_some (step s l) (λ a. run a xs) u e (λ a e0 f0. bind_is (step s l) a (λ a. run a (xs ++ ys)) (run u ys) e0 (run_join xs ys a u f0))

pub reads_none : (s : Next) (text : List ℕ) → Reads s text [] s text
reads_none s text = record { good = tt; runs = refl; parts = sym (text_none text) }

pub reads_step : (s u v : Next) (text middle rest : List ℕ) (l : Line) (lines : List Line) → step_at s text ≡ Some (l, u, middle) → Reads u middle lines v rest → Reads s text (l ∷ lines) v rest
reads_step s u v text middle rest l lines e reads =
    let took = step_at_takes s text (l, u, middle) e in
    record {
      good = (took.1, reads.good);
      runs = bind_is (step s l) u (λ u. run u lines) (Some v) took.2 reads.runs;
      parts = took.0 ∙ ap (line_then l) reads.parts ∙ sym (text_then l lines rest);
    }

pub reads_join : (s u v : Next) (text middle rest : List ℕ) (xs ys : List Line) → Reads s text xs u middle → Reads u middle ys v rest → Reads s text (xs ++ ys) v rest
reads_join s u v text middle rest xs ys first second = record {
  good = all_append IsLine xs ys first.good second.good;
  runs = run_join xs ys s u first.runs ∙ second.runs;
  parts = first.parts ∙ ap (λ t. text_of xs ++ t) second.parts ∙ sym (append_assoc (text_of xs) (text_of ys) rest) ∙ ap (λ t. t ++ rest) (sym (text_of-append xs ys));
}

-- one line at the end
pub reads_more : (s u v : Next) (text middle rest : List ℕ) (lines : List Line) (l : Line) → Reads s text lines u middle → step_at u middle ≡ Some (l, v, rest) → Reads s text (lines ++ l ∷ []) v rest
reads_more s u v text middle rest lines l reads e = reads_join s u v text middle rest lines (l ∷ []) reads (reads_step u v v middle rest rest l [] e (reads_none v rest))

-- each line has a byte at least
pub reads_shorter : (s v : Next) (text rest : List ℕ) (lines : List Line) → Reads s text lines v rest → length lines + length rest ≤ length text
reads_shorter s v text rest lines reads = omega (arith, shorter lines rest reads.good, ap length reads.parts)
  where
    shorter : (lines : List Line) (rest : List ℕ) → AllByRecursion IsLine lines → length lines + length rest ≤ length (text_of lines ++ rest)
    shorter [] rest good = omega (arith, ap length (text_none rest))
    shorter (l ∷ lines) rest good = omega (arith, shorter lines rest good.1, line_then-longer l (text_of lines ++ rest) good.0, ap length (text_then l lines rest))

-- ---- by their number

pub reads_from : (n : ℕ) (s : Next) (text : List ℕ) (r : Next × List ℕ) → after_lines n s text ≡ Some r → (lines : List Line) × (length lines ≡ n) × Reads s text lines r.0 r.1
unfolding after_lines
reads_from zero s text r e =
    let P : Next × List ℕ → Type 0 = λ r. (lines : List Line) × (length lines ≡ 0) × Reads s text lines r.0 r.1 in
    subst P (same_Some (s, text) r e) ([], refl, reads_none s text)
reads_from (suc n) s text r e =
    then_some (step_at s text) _ r e (λ x e0 f0.
    let (lines, count, reads) = reads_from n x.1 x.2 r f0 in
    (x.0 ∷ lines, ap suc count, reads_step s x.1 r.0 text x.2 r.1 x.0 lines e0 reads))

pub reads_to : (lines : List Line) (s u : Next) (text rest : List ℕ) → Reads s text lines u rest → (after_lines (length lines) s text ≡ Some (u, rest)) × (lines_in (length lines) s text ≡ lines)
unfolding after_lines lines_in
reads_to [] s u text rest reads =
    let same : text ≡ rest = reads.parts ∙ text_none rest in
    (rw (same_Some s u reads.runs, same) refl, refl)
reads_to (l ∷ lines) s u text rest reads =
    let here : text ≡ line_then l (text_of lines ++ rest) = reads.parts ∙ text_then l lines rest in
    then_some (step s l) (λ a. run a lines) u reads.runs (λ a e0 f0.
    let others = reads_to lines a u (text_of lines ++ rest) rest (record { good = reads.good.1; runs = f0; parts = refl }) in
    let found = step_at_again s a l (text_of lines ++ rest) reads.good.0 e0 in
    (rw (here, found) others.0, rw (here, found) (ap (λ ls. l ∷ ls) others.1)))

-- ---- two readings of one text

-- the first lines are among the second
pub record Within (xs ys : List Line) : Type 0 where
  pub others : List Line
  pub parts : ys ≡ xs ++ others

-- the first lines go on where the second end
pub record GoesOn (xs ys : List Line) (more rest : List ℕ) : Type 0 where
  pub line : Line
  pub others : List Line
  pub parts : xs ≡ ys ++ (line ∷ others)
  pub here : rest ≡ line_then line (text_of others ++ more)
  pub good : IsLine line

goes_on : (l : Line) (xs ys : List Line) (more rest : List ℕ) → GoesOn xs ys more rest → GoesOn (l ∷ xs) (l ∷ ys) more rest
goes_on l xs ys more rest on = record { line = on.line; others = on.others; parts = ap (λ ls. l ∷ ls) on.parts; here = on.here; good = on.good }

pub compare : (xs ys : List Line) (more rest : List ℕ) (s u v : Next) → run s xs ≡ Some u → run s ys ≡ Some v → AllByRecursion IsLine xs → AllByRecursion IsLine ys → text_of xs ++ more ≡ text_of ys ++ rest
    → Within xs ys ⊎ GoesOn xs ys more rest
compare [] ys more rest s u v first second left right e = inl (record { others = ys; parts = refl })
compare (l ∷ xs) [] more rest s u v first second left right e = inr (record {
  line = l;
  others = xs;
  parts = refl;
  here = sym (text_none rest) ∙ sym e ∙ text_then l xs more;
  good = left.0;
})
compare (l ∷ xs) (m ∷ ys) more rest s u v first second left right e =
    then_some (step s l) (λ a. run a xs) u first (λ a e0 f0. then_some (step s m) (λ b. run b ys) v second (λ b e1 f1.
    let same = line_then-injective l m (text_of xs ++ more) (text_of ys ++ rest) (alike s a b l m e0 e1) left.0 right.0 (sym (text_then l xs more) ∙ e ∙ text_then m ys rest) in
    let one : b ≡ a = same_Some b a (sym e1 ∙ ap (step s) (sym same.0) ∙ e0) in
    elim (compare xs ys more rest a u v f0 (ap (λ b. run b ys) (sym one) ∙ f1) left.1 right.1 same.1) [
      | inl within ↦ inl (record { others = within.others; parts = ap (λ m. m ∷ ys) (sym same.0) ∙ ap (λ ls. l ∷ ls) within.parts })
      | inr on ↦ inr (let P : Line → Type 0 = λ m. GoesOn (l ∷ xs) (m ∷ ys) more rest in subst P same.0 (goes_on l xs ys more rest on))
    ]))
