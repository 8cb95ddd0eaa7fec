-- Where the section of ranks stands among the lines of a certificate.
use Rattle.std.proofs.Common.{◌≡◌, ℕ, zero, suc, ◌+◌, ◌-◌, ◌<◌, ◌≤◌, inl, inr, Bool, true, false, List, [], ◌∷◌, ◌++◌, map, take, drop, length, slice_get, get_or, Option, Some, None, option_map, Err, refl, sym, ap, subst, ◌∙◌, arith, length-append}
use Rattle.std.specs.Prelude.{bytes_eq, codes, if◌then◌else◌}
use Rattle.std.specs.List.{flat_map}
use Rattle.std.proofs.lemmas.Bool.{cases_lt}
use Rattle.std.proofs.lemmas.List.{length-map, length-drop, take_all}
use Rattle.std.proofs.lemmas.Option.{same_Some, none-some}
use Rattle.p10_cert.specs.Lines.{Line, BodyLine, LastLine, TotalLine}
use Rattle.p10_cert.specs.Records.{Progress, statement_from}
use Rattle.p10_cert.specs.Statements.{Ending, Section, lines_named, Statement, IsStatement, is_there, MayHave, first_line, entry_lines, outside_lines, section_lines, statement_lines, statement_text}
use Rattle.p10_cert.specs.declared.sealed.Section.{Section as CodeSection}
use Rattle.p10_cert.specs.Sealed.{section_of}
use Rattle.p10_cert.specs.Reading.{version_of}
use Rattle.p10_cert.proofs.Collecting.{version_of_text}
use Rattle.p10_cert.proofs.TextLaws.{text_tells_statement}
use Rattle.p10_cert.proofs.VersionLaws.{versions}
use Rattle.p10_diff_evidence.specs.declared.evidence.DiffEvidence.{DiffEvidence}
use Rattle.p10_diff_evidence.specs.declared.fault.DiffFault.{DiffFault}
use Rattle.p10_diff_evidence.specs.declared.fault.DiffFault.TheVariants.{Line as OtherLine}
use Rattle.p10_diff_evidence.specs.Reading.{ranks_in, ReadsSection}
use Rattle.p10_diff_evidence.specs.Sections.{IsSection, IsFirstOther}
use Rattle.p10_diff_evidence.specs.Placing.{lines_to, lines_before, IsBad, no_rank}
use Rattle.p10_diff_evidence.specs.Standing.{diff_lines, AreRanks}
use Rattle.p10_judge.specs.private.Ranks.{line_count, lines_of_sections, lines_from, place_of_diff, IsOver, HasSectionAt}
use Rattle.p10_judge.specs.Ranks.{HasSections, SayRanks}
use Rattle.p10_judge.proofs.LineCounts.{statement_counts}

-- ## The section

-- the section that was found has the lines
pub there : (sections : List Section) (place : ℕ) (d : Section) → place_of_diff sections ≡ Some place → slice_get sections place ≡ Some d → lines_named (codes "diff") sections ≡ Some d.lines
there [] place d found at = absurd (none-some place found)
there (s ∷ sections) place d found at = of (bytes_eq s.name (codes "diff")) refl (place_of_diff sections) refl (λ n more rest. there sections n d more rest) found
  where
    of : (b : Bool) → bytes_eq s.name (codes "diff") ≡ b → (o : Option ℕ) → place_of_diff sections ≡ o → ((n : ℕ) → place_of_diff sections ≡ Some n → slice_get sections n ≡ Some d → lines_named (codes "diff") sections ≡ Some d.lines)
        → (if b then Some 0 else option_map (λ n. n + 1) o) ≡ Some place → (if b then Some s.lines else lines_named (codes "diff") sections) ≡ Some d.lines
    of true is o more again found =
        let first : 0 ≡ place = same_Some 0 place found in
        let same : Some s ≡ Some d = ap (slice_get (s ∷ sections)) first ∙ at in
        ap (λ (x : Section). Some x.lines) (same_Some s d same)
    of false is None more again found = absurd (none-some place found)
    of false is (Some n) more again found =
        let next : n + 1 ≡ place = same_Some (n + 1) place found in
        let rest : slice_get sections n ≡ Some d = ap (slice_get (s ∷ sections)) (let e : suc n ≡ place = omega (arith, next) in e) ∙ at in
        again n more rest

pub not_there : (sections : List Section) → place_of_diff sections ≡ None → lines_named (codes "diff") sections ≡ None
not_there [] none = refl
not_there (s ∷ sections) none = of (bytes_eq s.name (codes "diff")) (place_of_diff sections) refl (λ more. not_there sections more) none
  where
    of : (b : Bool) (o : Option ℕ) → place_of_diff sections ≡ o → (place_of_diff sections ≡ None → lines_named (codes "diff") sections ≡ None) → (if b then Some 0 else option_map (λ n. n + 1) o) ≡ None → (if b then Some s.lines else lines_named (codes "diff") sections) ≡ None
    of true o more again none = absurd cc
    of false None more again none = again more
    of false (Some n) more again none = absurd cc

-- places among those that are left
pub place_start : (o : Option ℕ) → o ≡ option_map (λ n. 0 + n) o
place_start None = refl
place_start (Some n) = let same : n ≡ 0 + n = omega arith in ap Some same

pub place_here : (place : ℕ) (s : Section) (rest : List Section) → bytes_eq s.name (codes "diff") ≡ true → option_map (λ n. place + n) (place_of_diff (s ∷ rest)) ≡ Some place
place_here place s rest is = let none : place + 0 ≡ place = omega arith in rw is (ap Some none)

pub place_on : (place : ℕ) (s : Section) (rest : List Section) → bytes_eq s.name (codes "diff") ≡ false → option_map (λ n. place + n) (place_of_diff (s ∷ rest)) ≡ option_map (λ n. (place + 1) + n) (place_of_diff rest)
place_on place s rest is = rw is (of (place_of_diff rest))
  where
    of : (o : Option ℕ) → option_map (λ n. place + n) (option_map (λ n. n + 1) o) ≡ option_map (λ n. (place + 1) + n) o
    of None = refl
    of (Some n) = let more : place + (n + 1) ≡ (place + 1) + n = omega arith in ap Some more

pub place_within : (sections : List Section) (place : ℕ) → place_of_diff sections ≡ Some place → place < length sections
place_within [] place found = absurd (none-some place found)
place_within (s ∷ sections) place found = of (bytes_eq s.name (codes "diff")) (place_of_diff sections) refl (λ n more. place_within sections n more) found
  where
    of : (b : Bool) (o : Option ℕ) → place_of_diff sections ≡ o → ((n : ℕ) → place_of_diff sections ≡ Some n → n < length sections) → (if b then Some 0 else option_map (λ n. n + 1) o) ≡ Some place → place < length (s ∷ sections)
    of true o more again found = omega (arith, same_Some 0 place found)
    of false None more again found = absurd (none-some place found)
    of false (Some n) more again found = omega (arith, same_Some (n + 1) place found, again n more)

-- ## Its lines

-- the lines of the section are among those from it on
own_lines : (sections : List Section) (place : ℕ) (d : Section) → slice_get sections place ≡ Some d → 1 + length d.lines ≤ lines_from sections place
own_lines [] zero d at = absurd cc
own_lines [] (suc n) d at = absurd cc
own_lines (s ∷ sections) zero d at = omega (arith, ap (λ (x : Section). length x.lines) (same_Some s d at))
own_lines (s ∷ sections) (suc n) d at = own_lines sections n d at

section_length : (s : Section) → length (section_lines s) ≡ 1 + length s.lines
section_length s = ap suc (length-map s.lines BodyLine) ∙ (omega arith)

sections_length : (sections : List Section) → length (flat_map section_lines sections) ≡ lines_of_sections sections
sections_length [] = refl
sections_length (s ∷ sections) = omega (arith, length-append (section_lines s) (flat_map section_lines sections), section_length s, sections_length sections)

-- the lines before those of the section, and those from its first line on but one
lines_split : (sections : List Section) (place : ℕ) → place_of_diff sections ≡ Some place → length (lines_to (codes "diff") sections) + lines_from sections place ≡ lines_of_sections sections + 1
lines_split [] place found = absurd (none-some place found)
lines_split (s ∷ sections) place found = of (bytes_eq s.name (codes "diff")) refl (place_of_diff sections) refl (λ n more. lines_split sections n more) found
  where
    of : (b : Bool) → bytes_eq s.name (codes "diff") ≡ b → (o : Option ℕ) → place_of_diff sections ≡ o → ((n : ℕ) → place_of_diff sections ≡ Some n → length (lines_to (codes "diff") sections) + lines_from sections n ≡ lines_of_sections sections + 1)
        → (if b then Some 0 else option_map (λ n. n + 1) o) ≡ Some place
        → length (lines_to (codes "diff") (s ∷ sections)) + lines_from (s ∷ sections) place ≡ lines_of_sections (s ∷ sections) + 1
    of true is o more again found =
        let first : 0 ≡ place = same_Some 0 place found in
        let from : lines_from (s ∷ sections) place ≡ lines_of_sections (s ∷ sections) = ap (λ n. lines_from (s ∷ sections) n) (sym first) in
        rw is (omega (arith, from))
    of false is None more again found = absurd (none-some place found)
    of false is (Some n) more again found =
        let next : suc n ≡ place = let e = same_Some (n + 1) place found in omega (arith, e) in
        let from : lines_from (s ∷ sections) place ≡ lines_from sections n = ap (λ k. lines_from (s ∷ sections) k) (sym next) in
        let rest = again n more in
        let long = length-append (section_lines s) (lines_to (codes "diff") sections) in
        rw is (omega (arith, from, rest, long, section_length s))

-- the number of the line before those of the section
pub number_before : (s : Statement) (place : ℕ) → IsStatement s → place_of_diff s.ending.sections ≡ Some place → length (lines_before s) + lines_from s.ending.sections place ≡ line_count (statement_text s)
number_before s place good found =
    let sections = s.ending.sections in
    let outside = outside_lines s.ending.outside in
    let entries = flat_map entry_lines s.entries in
    let to = lines_to (codes "diff") sections in
    let split = lines_split sections place found in
    let before = length-append entries (outside ++ (TotalLine s.ending.total ∷ to)) in
    let before_outside = length-append outside (TotalLine s.ending.total ∷ to) in
    let whole = length-append entries (outside ++ (TotalLine s.ending.total ∷ (flat_map section_lines sections ++ LastLine ∷ []))) in
    let whole_outside = length-append outside (TotalLine s.ending.total ∷ (flat_map section_lines sections ++ LastLine ∷ [])) in
    let last = length-append (flat_map section_lines sections) (LastLine ∷ []) in
    omega (arith, split, before, before_outside, whole, whole_outside, last, sections_length sections, statement_counts s good)

-- those of the sections from a place on
dropped : (sections : List CodeSection) (place : ℕ) → map section_of (drop place sections) ≡ drop place (map section_of sections)
dropped sections zero = refl
dropped [] (suc n) = refl
dropped (s ∷ sections) (suc n) = dropped sections n

pub from_place : (sections : List CodeSection) (place : ℕ) → lines_of_sections (map section_of (take (length sections - place) (drop place sections))) ≡ lines_from (map section_of sections) place
from_place sections place =
    ap (λ (ss : List CodeSection). lines_of_sections (map section_of ss)) (take_all (length sections - place) (drop place sections) (omega (arith, length-drop place sections)))
    ∙ ap lines_of_sections (dropped sections place)

-- ## What is found

-- an element of the code's sections
pub code_section_at : (sections : List CodeSection) (place : ℕ) (d : CodeSection) → place < length sections → d ≡ get_or sections place d → slice_get (map section_of sections) place ≡ Some (section_of d)
code_section_at [] place d below at = absurd (omega (arith, below))
code_section_at (s ∷ sections) zero d below at = ap (λ (x : CodeSection). Some (section_of x)) (sym at)
code_section_at (s ∷ sections) (suc n) d below at = code_section_at sections n d (omega (arith, below)) at

-- what a section's reader gives as a fault is its first line of another form
pub other_read : (read lines : List (List ℕ)) (fault : DiffFault) (number : ℕ) → read ≡ lines → fault ≡ OtherLine number → ReadsSection read (Err fault) → IsFirstOther lines number
other_read read lines fault number same is other = subst (λ ls. IsFirstOther ls number) same (subst (λ (f : DiffFault). ReadsSection read (Err f)) is other)

-- bytes whose section gives evidence, or has a line of another form
pub ranks_listed : (bytes : List ℕ) (sections : List Section) (place : ℕ) (d : Section) (e : DiffEvidence) → HasSectionAt bytes sections place → slice_get sections place ≡ Some d → IsSection d.lines (ranks_in e) → SayRanks bytes (Some (ranks_in e))
ranks_listed bytes sections place d e has at is = λ t good exact.
    let same : t ≡ has.text.statement = text_tells_statement t has.text.statement good has.text.good (sym exact ∙ has.text.exact) in
    let lines : diff_lines t ≡ Some d.lines = ap diff_lines same ∙ (ap (lines_named (codes "diff")) (sym has.text.are) ∙ there sections place d has.found at) in
    subst (λ (ls : Option (List (List ℕ))). AreRanks ls (Some (ranks_in e))) (sym lines) is

pub ranks_bad : (bytes : List ℕ) (sections : List Section) (place number line : ℕ) (d : Section) → HasSectionAt bytes sections place → slice_get sections place ≡ Some d → IsFirstOther d.lines number → line + lines_from sections place ≡ line_count bytes + number → IsBad bytes line
ranks_bad bytes sections place number line d has at other sum =
    let found : place_of_diff has.text.statement.ending.sections ≡ Some place = ap place_of_diff (sym has.text.are) ∙ has.found in
    let before = number_before has.text.statement place has.text.good found in
    let from : lines_from sections place ≡ lines_from has.text.statement.ending.sections place = ap (λ ss. lines_from ss place) has.text.are in
    let count : line_count bytes ≡ line_count (statement_text has.text.statement) = ap line_count has.text.exact in
    no_rank has.text.statement has.text.good has.text.exact (record {
      lines = d.lines;
      there = ap (lines_named (codes "diff")) (sym has.text.are) ∙ there sections place d has.found at;
      number = number;
      other = other;
      is = omega (arith, before, from, count, sum);
    })

-- the first line of another form is one of the lines
other_within : (lines : List (List ℕ)) (n : ℕ) → IsFirstOther lines n → n ≤ length lines
other_within lines n other =
    elim (cases_lt (length lines) n) [
      | inl beyond ↦
          absurd (
          other.other other.before.0
          (subst (λ ls. IsSection ls other.before.0) (take_all (n - 1) lines (omega (arith, beyond)) ∙ sym (take_all n lines (omega (arith, beyond)))) other.before.1))
      | inr within ↦ omega (arith, within)
    ]

-- numbers of lines are within those of the text
pub record AreWithin (bytes : List ℕ) (from number : ℕ) : Type 0 where
  pub inside : from ≤ line_count bytes
  pub below : number ≤ from

pub few_lines : (bytes : List ℕ) (sections : List Section) (place : ℕ) → HasSectionAt bytes sections place → lines_from sections place ≤ line_count bytes
few_lines bytes sections place has =
    let found : place_of_diff has.text.statement.ending.sections ≡ Some place = ap place_of_diff (sym has.text.are) ∙ has.found in
    let before = number_before has.text.statement place has.text.good found in
    let from : lines_from sections place ≡ lines_from has.text.statement.ending.sections place = ap (λ ss. lines_from ss place) has.text.are in
    let count : line_count bytes ≡ line_count (statement_text has.text.statement) = ap line_count has.text.exact in
    omega (arith, before, from, count)

pub lines_within : (bytes : List ℕ) (sections : List Section) (place number : ℕ) (d : Section) → HasSectionAt bytes sections place → slice_get sections place ≡ Some d → IsFirstOther d.lines number → AreWithin bytes (lines_from sections place) number
lines_within bytes sections place number d has at other =
    record { inside = few_lines bytes sections place has; below = omega (arith, own_lines sections place d at, other_within d.lines number other) }

pub ranks_absent : (bytes : List ℕ) (sections : List Section) (s : Statement) → IsStatement s → bytes ≡ statement_text s → sections ≡ s.ending.sections → place_of_diff sections ≡ None → SayRanks bytes None
ranks_absent bytes sections s good exact are none = λ t also same.
    let is : t ≡ s = text_tells_statement t s also good (sym same ∙ exact) in
    let lines : diff_lines t ≡ None = ap diff_lines is ∙ (ap (lines_named (codes "diff")) (sym are) ∙ not_there sections none) in
    subst (λ (ls : Option (List (List ℕ))). AreRanks ls None) (sym lines) tt

-- a certificate of version 1 has no sections
pub first_absent : (bytes : List ℕ) → version_of bytes ≡ Some 1 → SayRanks bytes None
first_absent bytes first = λ s good exact.
    let plain : is_there s.ending.outside ≡ false = version_of_text false bytes s ((versions bytes).0 first) exact in
    let none : diff_lines s ≡ None = no_sections s.ending.sections (subst (λ b. MayHave b s.ending.sections) plain good.ending.sections) in
    subst (λ (ls : Option (List (List ℕ))). AreRanks ls None) (sym none) tt
  where
    no_sections : (sections : List Section) → MayHave false sections → lines_named (codes "diff") sections ≡ None
    no_sections [] may = refl
    no_sections (s ∷ sections) may = absurd may

-- ## Among the sections of a text

pub section_found : (bytes : List ℕ) (list : List CodeSection) (place : ℕ) (result : Option ℕ) → HasSections bytes (map section_of list) → result ≡ place_of_diff (map section_of list) → result ≡ Some place → HasSectionAt bytes (map section_of list) place
section_found bytes list place result has places at = record { text = has; found = sym places ∙ at }

pub section_inside : (list : List CodeSection) (place : ℕ) (result : Option ℕ) → result ≡ place_of_diff (map section_of list) → result ≡ Some place → place < length list
section_inside list place result places at = omega (arith, place_within (map section_of list) place (sym places ∙ at), length-map list section_of)

pub section_absent : (bytes : List ℕ) (list : List CodeSection) (result : Option ℕ) → HasSections bytes (map section_of list) → result ≡ place_of_diff (map section_of list) → result ≡ None → SayRanks bytes None
section_absent bytes list result has places none = ranks_absent bytes (map section_of list) has.statement has.good has.exact has.are (sym places ∙ none)

-- ## At the end of a text

pub sections_are : (p : Progress) (bytes : List ℕ) (found : Option (List CodeSection)) (sections list : List CodeSection) → IsOver p bytes → option_map (map section_of) found ≡ option_map (λ (e : Ending). e.sections) p.ending → found ≡ Some sections → list ≡ sections → HasSections bytes (map section_of list)
sections_are p bytes found sections list end told is same =
    let some : Some (map section_of sections) ≡ Some end.ending.sections =
    ap (option_map (map section_of)) (sym is) ∙ (told ∙ ap (option_map (λ (e : Ending). e.sections)) end.over) in
    record {
      statement = statement_from p.given end.ending;
      good = end.good;
      exact = end.exact;
      are = ap (map section_of) same ∙ same_Some (map section_of sections) end.ending.sections some;
    }
