-- The lines of a certificate tell what it says.
use Rattle.std.proofs.Common.{◌≡◌, ℕ, Bool, List, [], ◌∷◌, ◌++◌, map, Option, Some, None, refl, sym, ap, ◌∙◌, append_assoc}
use Rattle.std.specs.List.{flat_map}
use Rattle.p10_base.specs.declared.report.Bounds.{Bounds}
use Rattle.p10_cert.specs.Lines.{Line, TotalLine, LastLine, SectionLine, BodyLine}
use Rattle.p10_cert.specs.Records.{statement_from}
use Rattle.p10_cert.specs.Statements.{Entry, Section, Ending, Statement, first_line, entry_lines, section_head, section_lines, ending_lines, statement_lines, is_there}
use Rattle.p10_cert.specs.private.Places.{gather}
use Rattle.p10_cert.proofs.Gathering.{gather_before, gather_first, gather_ending}

-- ---- sections

-- what lines make: sections, and before them lines of the section that began before
record Got : Type 0 where
  bodies : List (List ℕ)
  sections : List Section

got_line : Line → Got → Got
got_line (SectionLine h) g = record { bodies = []; sections = record { name = h.name; lines = g.bodies } ∷ g.sections }
got_line (BodyLine b) g = record { bodies = b ∷ g.bodies; sections = g.sections }
got_line _ g = record { bodies = []; sections = [] }

got : List Line → Got
got [] = record { bodies = []; sections = [] }
got (l ∷ lines) = got_line l (got lines)

got_with : List (List ℕ) → List Section → Got
got_with bodies sections = record { bodies = bodies; sections = sections }

got_bodies : (bodies : List (List ℕ)) (sections : List Section) (rest : List Line) → got rest ≡ got_with [] sections → got (map BodyLine bodies ++ rest) ≡ got_with bodies sections
unfolding got got_line got_with
got_bodies [] sections rest e = e
got_bodies (b ∷ bodies) sections rest e = ap (got_line (BodyLine b)) (got_bodies bodies sections rest e)

got_sections : (sections : List Section) → got (flat_map section_lines sections ++ LastLine ∷ []) ≡ got_with [] sections
unfolding got got_line got_with
got_sections [] = refl
got_sections (s ∷ sections) =
    let more : List Line = flat_map section_lines sections ++ LastLine ∷ [] in
    ap (got_line (SectionLine (section_head s)))
    (ap got (append_assoc (map BodyLine s.lines) (flat_map section_lines sections) (LastLine ∷ [])) ∙ got_bodies s.lines sections more (got_sections sections))

sections_same : (xs ys : List Section) → flat_map section_lines xs ++ LastLine ∷ [] ≡ flat_map section_lines ys ++ LastLine ∷ [] → xs ≡ ys
unfolding got_with
sections_same xs ys e = ap (λ (g : Got). g.sections) (sym (got_sections xs) ∙ ap got e ∙ got_sections ys)

-- ---- what stands after the functions

ending_with : Option (List ℕ) → Bounds → List Section → Ending
ending_with outside total sections = record { outside = outside; total = total; sections = sections }

bounds_same : (outside : Option (List ℕ)) (s t : Bounds) (xs ys : List Section) → TotalLine s ∷ (flat_map section_lines xs ++ LastLine ∷ []) ≡ TotalLine t ∷ (flat_map section_lines ys ++ LastLine ∷ []) → ending_with outside s xs ≡ ending_with outside t ys
bounds_same outside s t xs ys e =
    let total : s ≡ t = cc in
    let tails : flat_map section_lines xs ++ LastLine ∷ [] ≡ flat_map section_lines ys ++ LastLine ∷ [] = cc in
    ap (λ t. ending_with outside t xs) total ∙ ap (ending_with outside t) (sections_same xs ys tails)

endings_same : (a b : Option (List ℕ)) (s t : Bounds) (xs ys : List Section) → ending_lines (ending_with a s xs) ≡ ending_lines (ending_with b t ys) → ending_with a s xs ≡ ending_with b t ys
unfolding ending_with
endings_same None None s t xs ys e = bounds_same None s t xs ys e
endings_same (Some d) (Some c) s t xs ys e =
    let digest : d ≡ c = cc in
    let tails : TotalLine s ∷ (flat_map section_lines xs ++ LastLine ∷ []) ≡ TotalLine t ∷ (flat_map section_lines ys ++ LastLine ∷ []) = cc in
    bounds_same (Some d) s t xs ys tails ∙ ap (λ d. ending_with (Some d) t ys) digest
endings_same None (Some c) s t xs ys e = absurd cc
endings_same (Some d) None s t xs ys e = absurd cc

-- ---- the whole

rest_of : List Line → List Line
rest_of [] = []
rest_of (l ∷ ls) = ls

cancel : {A : Type 0} (xs ys zs : List A) → xs ++ ys ≡ xs ++ zs → ys ≡ zs
cancel [] ys zs e = e
cancel (x ∷ xs) ys zs e = cancel xs ys zs cc

entries_told : (sealed : Bool) (entries : List Entry) (ending : Ending) → (gather (first_line sealed ∷ (flat_map entry_lines entries ++ ending_lines ending))).entries ≡ entries
entries_told sealed entries ending = ap (λ g. g.entries) (gather_first sealed (flat_map entry_lines entries ++ ending_lines ending)) ∙ gather_before entries (ending_lines ending) (gather_ending ending)

-- whatever the first line is, the lines tell the functions and what stands after them
pub lines_tell_statement : (s : Statement) (given : List Entry) (ending : Ending) (sealed : Bool) → statement_lines s ≡ first_line sealed ∷ (flat_map entry_lines given ++ ending_lines ending) → s ≡ statement_from given ending
unfolding ending_with rest_of
lines_tell_statement s given ending sealed e =
    let entries : s.entries ≡ given = sym (entries_told (is_there s.ending.outside) s.entries s.ending) ∙ ap (λ ls. (gather ls).entries) e ∙ entries_told sealed given ending in
    let tails : flat_map entry_lines s.entries ++ ending_lines s.ending ≡ flat_map entry_lines given ++ ending_lines ending = ap rest_of e in
    let last : ending_lines s.ending ≡ ending_lines ending = cancel (flat_map entry_lines given) (ending_lines s.ending) (ending_lines ending) (ap (λ es. flat_map entry_lines es ++ ending_lines s.ending) (sym entries) ∙ tails) in
    ap (λ es. statement_from es s.ending) entries
    ∙ ap (statement_from given) (endings_same s.ending.outside ending.outside s.ending.total ending.total s.ending.sections ending.sections last)
