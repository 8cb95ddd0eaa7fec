-- The sections of a text are read from it.
use Rattle.std.proofs.Common.{◌≡◌, ℕ, zero, suc, ◌<◌, ◌≤◌, List, [], ◌∷◌, ◌++◌, length, map, codes, Some, None, refl, ap, ◌∙◌, arith, append_assoc, length-append}
use Rattle.std.specs.List.{AllByRecursion, flat_map}
use Rattle.p10_cert.specs.Lines.{SectionHead, Line, LastLine, SectionLine, BodyLine, line_then, text_of, IsSectionHead, IsBody}
use Rattle.p10_cert.specs.Statements.{Section, section_head, section_lines, IsSection}
use Rattle.p10_cert.specs.private.Reading.{after_front, body_text_at}
use Rattle.p10_cert.specs.private.Sections.{named_at, bodies_in, sections_from, sections_in}
use Rattle.p10_cert.proofs.Steps.{bind_is, after_front_again}
use Rattle.p10_cert.proofs.SectionLaws.{start_again, body_again}
use Rattle.p10_cert.proofs.LineTexts.{text_then, text_none, text_of-append, line_then-longer}

-- ---- lines of a section

body_line : (b rest : List ℕ) → line_then (BodyLine b) rest ≡ b ++ (codes "\n" ++ rest)
unfolding line_then
body_line b rest = refl

bodies_step : (n : ℕ) (text b after : List ℕ) → body_text_at text ≡ Some (b, after) → bodies_in (suc n) text ≡ (b ∷ (bodies_in n after).0, (bodies_in n after).1)
unfolding bodies_in
bodies_step n text b after e = rw e refl

bodies_read : (lines : List (List ℕ)) (rest : List ℕ) → AllByRecursion IsBody lines
    → ((bodies_in (length lines) (text_of (map BodyLine lines) ++ rest)).0 ≡ lines) × ((bodies_in (length lines) (text_of (map BodyLine lines) ++ rest)).1 ≡ rest)
unfolding bodies_in
bodies_read [] rest good = (refl, text_none rest)
bodies_read (b ∷ lines) rest good =
    let others = bodies_read lines rest good.1 in
    let after : List ℕ = text_of (map BodyLine lines) ++ rest in
    let here : text_of (BodyLine b ∷ map BodyLine lines) ++ rest ≡ b ++ (codes "\n" ++ after) = text_then (BodyLine b) (map BodyLine lines) rest ∙ body_line b after in
    let step = bodies_step (length lines) (text_of (BodyLine b ∷ map BodyLine lines) ++ rest) b after (ap body_text_at here ∙ body_again b after good.0) in
    (ap (λ (r : List (List ℕ) × List ℕ). r.0) step ∙ ap (λ ls. b ∷ ls) others.0, ap (λ (r : List (List ℕ) × List ℕ). r.1) step ∙ others.1)

-- ---- the first line of a section

named_read : (h : SectionHead) (rest : List ℕ) → IsSectionHead h → named_at (line_then (SectionLine h) rest) ≡ Some (h, rest)
unfolding named_at line_then
named_read h rest good = bind_is _ _ _ _ (after_front_again (codes "section ") _) (start_again h rest good)

last_not_named : (rest : List ℕ) → named_at (line_then LastLine rest) ≡ None
unfolding named_at line_then after_front
last_not_named rest = refl

pub no_sections : (n : ℕ) (text : List ℕ) → named_at text ≡ None → sections_from n text ≡ []
unfolding sections_from
no_sections zero text e = refl
no_sections (suc n) text e = rw e refl

-- ---- sections

section_with : List ℕ → List (List ℕ) → Section
section_with name lines = record { name = name; lines = lines }

sections_step : (n : ℕ) (text : List ℕ) (h : SectionHead) (after : List ℕ) → named_at text ≡ Some (h, after) → sections_from (suc n) text ≡ section_with h.name (bodies_in h.count after).0 ∷ sections_from n (bodies_in h.count after).1
unfolding sections_from section_with
sections_step n text h after e = rw e refl

all_sections : (n : ℕ) (sections : List Section) → AllByRecursion IsSection sections → length (text_of (flat_map section_lines sections ++ LastLine ∷ [])) ≤ n
    → sections_from n (text_of (flat_map section_lines sections ++ LastLine ∷ [])) ≡ sections
unfolding sections_from section_with text_of
all_sections n [] all few = no_sections n _ (last_not_named [])
all_sections zero (s ∷ sections) all few = absurd (omega (arith, few, line_then-longer (SectionLine (section_head s)) (text_of ((map BodyLine s.lines ++ flat_map section_lines sections) ++ LastLine ∷ [])) all.0.head))
all_sections (suc n) (s ∷ sections) all few =
    let others : List Line = flat_map section_lines sections ++ LastLine ∷ [] in
    let more : List ℕ = text_of others in
    let after : List ℕ = text_of (map BodyLine s.lines) ++ more in
    let rest : text_of ((map BodyLine s.lines ++ flat_map section_lines sections) ++ LastLine ∷ []) ≡ after =
    ap text_of (append_assoc (map BodyLine s.lines) (flat_map section_lines sections) (LastLine ∷ [])) ∙ text_of-append (map BodyLine s.lines) others in
    let longer : length after < length (line_then (SectionLine (section_head s)) after) = line_then-longer (SectionLine (section_head s)) after all.0.head in
    let size : length (line_then (SectionLine (section_head s)) after) ≤ suc n = omega (arith, few, ap (λ t. length (line_then (SectionLine (section_head s)) t)) rest) in
    let bodies = bodies_read s.lines more all.0.lines in
    ap (λ t. sections_from (suc n) (line_then (SectionLine (section_head s)) t)) rest
    ∙ sections_step n (line_then (SectionLine (section_head s)) after) (section_head s) after (named_read (section_head s) after all.0.head)
    ∙ ap (λ ls. section_with s.name ls ∷ sections_from n (bodies_in (length s.lines) after).1) bodies.0
    ∙ ap (λ t. s ∷ sections_from n t) bodies.1
    ∙ ap (λ ss. s ∷ ss) (all_sections n sections all.1 (omega (arith, size, longer, length-append (text_of (map BodyLine s.lines)) more)))

-- the sections of a text are those whose lines it has
pub sections_are : (text : List ℕ) (sections : List Section) → AllByRecursion IsSection sections → text ≡ text_of (flat_map section_lines sections ++ LastLine ∷ []) → sections_in text ≡ sections
unfolding sections_in
sections_are text sections all e = ap (λ t. sections_from (length t) t) e ∙ all_sections _ sections all (omega arith)

-- no section is read where the last line stands
pub none_are : (text : List ℕ) → text ≡ text_of (LastLine ∷ []) → sections_in text ≡ []
none_are text e = sections_are text [] tt e
