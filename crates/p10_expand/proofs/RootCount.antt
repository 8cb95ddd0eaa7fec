-- How many roots there are, and what a fault says.
use Rattle.std.proofs.Common.{◌≡◌, ℕ, zero, suc, ◌+◌, ◌<◌, ◌≤◌, Bool, true, false, cond, List, [], ◌∷◌, ◌++◌, length, map, refl, ap, sym, ◌∙◌, subst, inl, inr, arith, length-append}
use Rattle.std.specs.Prelude.{nat_le, is_some}
use Rattle.std.proofs.Math.Seq.{get_or-append_seam}
use Rattle.p10_base.specs.declared.report.Refusal.{Refusal}
use Rattle.p10_base.specs.declared.sources.SourceFile.{SourceFile}
use Rattle.p10_base.specs.Gathered.{Gathered, count_of, root_count, text_of, no_file, candidate_of, with_file, with_link, LiesIn}
use Rattle.p10_lex.specs.declared.fault.LexFault.TheVariants as lexing
use Rattle.p10_lex.proofs.SliceLaws.{answer_place}
use Rattle.p10_expand.specs.declared.fault.GatherFault.TheVariants as gathering
use Rattle.p10_expand.specs.declared.place.Include.{Include}
use Rattle.p10_expand.specs.declared.gathering.Known.{Known}
use Rattle.p10_expand.specs.Finding.{name_at, is_header_place}
use Rattle.p10_expand.specs.Gathering.{Setting, Request, Root, Line, Moment, lines_of, noted, found, Answered, Reached, Gathers, FailsBy}

-- how many of the requests are for roots
abbrev asked_roots : List Request → ℕ
asked_roots [] = 0
asked_roots (Root name ∷ rest) = suc (asked_roots rest)
asked_roots (Line from depth include ∷ rest) = asked_roots rest

asked_append : (first second : List Request) → asked_roots (first ++ second) ≡ asked_roots first + asked_roots second
asked_append [] second = omega arith
asked_append (Root name ∷ rest) second = omega (arith, asked_append rest second)
asked_append (Line from depth include ∷ rest) second = asked_append rest second

no_root : (from depth : ℕ) (includes : List Include) → asked_roots (map (Line from depth) includes) ≡ 0
no_root from depth [] = refl
no_root from depth (include ∷ includes) = no_root from depth includes

lines_by : (b : Bool) (number depth : ℕ) (includes : List Include) → asked_roots (cond b (map (Line number depth) includes) []) ≡ 0
lines_by true number depth includes = no_root number depth includes
lines_by false number depth includes = refl

names_asked : (names : List (List ℕ)) → asked_roots (map Root names) ≡ length names
names_asked [] = refl
names_asked (name ∷ names) = ap suc (names_asked names)

linked_by : (b : Bool) (g : Gathered) (from : ℕ) (include : Include) (number : ℕ) → root_count (cond b g (with_link g from include.name include.angle number)) ≡ root_count g
linked_by true g from include number = refl
linked_by false g from include number = refl

noted_roots : (request : Request) (rest : List Request) (number : ℕ) (g : Gathered) → root_count (noted request number g) + asked_roots rest ≡ root_count g + asked_roots (request ∷ rest)
noted_roots (Root name) rest number g = omega (arith, length-append g.roots (number ∷ []))
noted_roots (Line from depth include) rest number g = ap (λ n. n + asked_roots rest) (linked_by (is_some (candidate_of g from include.name include.angle)) g from include number)

moment_roots : Moment → ℕ
moment_roots m = root_count m.sources + asked_roots m.ahead

answered_roots : (s : Setting) (before after : Moment) → Answered s before after → moment_roots after ≡ moment_roots before
unfolding moment_roots
answered_roots s before after (inl passes) =
    ap (λ (m : Moment). root_count m.sources + asked_roots m.ahead) passes.becomes ∙ ap (λ ls. root_count before.sources + asked_roots ls) (sym passes.asked)
answered_roots s before after (inr (inl meets)) =
    ap (λ (m : Moment). root_count m.sources + asked_roots m.ahead) meets.becomes
    ∙ (noted_roots meets.request meets.rest meets.number before.sources ∙ ap (λ ls. root_count before.sources + asked_roots ls) (sym meets.finds.asked))
answered_roots s before after (inr (inr adds)) =
    let k : Known = found adds.request adds.place adds.includes in
    let number : ℕ = count_of before.sources in
    let g : Gathered = with_file before.sources (name_at adds.place) adds.text (is_header_place adds.place) adds.words in
    let ahead : asked_roots (adds.rest ++ lines_of number k) ≡ asked_roots adds.rest = omega (arith, asked_append adds.rest (lines_of number k), lines_by (nat_le k.depth 64) number (k.depth + 1) k.includes) in
    let here : root_count g ≡ root_count before.sources = refl in
    ap (λ (m : Moment). root_count m.sources + asked_roots m.ahead) adds.becomes
    ∙ (ap (λ n. root_count (noted adds.request number g) + n) ahead
    ∙ (noted_roots adds.request adds.rest number g
    ∙ (ap (λ n. n + asked_roots (adds.request ∷ adds.rest)) here ∙ ap (λ ls. root_count before.sources + asked_roots ls) (sym adds.finds.asked))))

reached_roots : (s : Setting) (n : ℕ) (m : Moment) → Reached s n m → moment_roots m ≡ length s.roots
unfolding moment_roots
reached_roots s zero m is = ap (λ (x : Moment). root_count x.sources + asked_roots x.ahead) is ∙ omega (arith, names_asked s.roots)
reached_roots s (suc n) m (before, reached, answered) = answered_roots s before m answered ∙ reached_roots s n before reached

-- there are as many roots as names
pub gathers_roots : (s : Setting) (g : Gathered) → Gathers s g → root_count g ≡ length s.roots
unfolding moment_roots
gathers_roots s g gathers =
    ap root_count gathers.sources ∙ (omega (arith, ap asked_roots gathers.done) ∙ reached_roots s gathers.answered gathers.last gathers.reached)

-- ## What a fault says

-- an absent root is one of the roots
pub absent_below : (s : Setting) (place : ℕ) → FailsBy s (gathering.RootAbsent place) → place < length s.roots
unfolding moment_roots
absent_below s place fails =
    let many = reached_roots s fails.answered fails.last fails.reached in
    omega (arith, many, fails.ends.next, ap asked_roots fails.ends.asked)

-- the place of a refusal lies in the last file
pub refused_placed : (s : Setting) (refusal : Refusal) (g : Gathered) → FailsBy s (gathering.Refused refusal g) → LiesIn g refusal.span
refused_placed s refusal g fails =
    let next = fails.ends in
    let number : ℕ = count_of fails.last.sources in
    let file : SourceFile = record { name = name_at next.place; text = next.text; built_in = is_header_place next.place; words = []; links = [] } in
    let last : text_of g number ≡ next.text =
    ap (λ x. text_of x number) next.sources ∙ ap (λ (f : SourceFile). f.text) (get_or-append_seam fails.last.sources.files file [] no_file) in
    let placed = answer_place number next.text (lexing.Refused refusal) next.refused in
    record {
      held = omega (arith, placed.0, ap count_of next.sources, length-append fails.last.sources.files (file ∷ []));
      within = subst (λ n. refusal.span.start ≤ length (text_of g n)) (sym placed.0) (omega (arith, placed.1, ap length last));
    }
