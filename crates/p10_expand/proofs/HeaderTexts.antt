-- A built-in header that is found for a name has the text of that one.
use Rattle.std.proofs.Common.{◌≡◌, Bool, true, false, cond, List, [], ◌∷◌, ◌++◌, Option, Some, sym, ◌∙◌, ap, subst, refl}
use Rattle.std.proofs.lemmas.Bool.{both_ways}
use Rattle.p10_base.specs.Gathered.{file_of, name_of}
use Rattle.p10_base.specs.Words.{Text}
use Rattle.p10_world.specs.Files.{Named}
use Rattle.p10_expand.specs.declared.place.Include.{Include}
use Rattle.p10_expand.specs.declared.place.Place.{Place}
use Rattle.p10_expand.specs.declared.place.Place.TheVariants.{File, Header}
use Rattle.p10_expand.specs.Candidates.{in_directories, is_no_name, is_absolute, relative_places, candidates_of}
use Rattle.p10_expand.specs.Finding.{is_header_place, HasText}
use Rattle.p10_expand.specs.Headers.{header_of}
use Rattle.p10_expand.specs.Gathering.{known_at}
use Rattle.p10_expand.specs.Gathered.{HeadersHaveTheirTexts}
use Rattle.p10_expand.proofs.Known.{files_are_known}

-- the built-in headers among some places have this name
abbrev HaveName : Text → List Place → Type 0
HaveName name [] = Unit {0}
HaveName name (File other ∷ places) = HaveName name places
HaveName name (Header other ∷ places) = (other ≡ name) × HaveName name places

name_at_seam : (name other : Text) (front back : List Place) → HaveName name (front ++ Header other ∷ back) → other ≡ name
name_at_seam name other [] back have = have.0
name_at_seam name other (File next ∷ front) back have = name_at_seam name other front back have
name_at_seam name other (Header next ∷ front) back have = name_at_seam name other front back have.1

directories_have : (name : Text) (dirs : List Text) → HaveName name (in_directories dirs name)
directories_have name [] = tt
directories_have name (dir ∷ dirs) = directories_have name dirs

directories_then : (name : Text) (dirs : List Text) (places : List Place) → HaveName name places → HaveName name (in_directories dirs name ++ places)
directories_then name [] places have = have
directories_then name (dir ∷ dirs) places have = directories_then name dirs places have

have_if : (name : Text) (b : Bool) (these those : List Place) → HaveName name these → HaveName name those → HaveName name (cond b these those)
have_if name true these those have others = have
have_if name false these those have others = others

relative_have : (dirs : List Text) (from name : Text) (angle : Bool) → HaveName name (relative_places dirs from name angle)
relative_have dirs from name true = (refl, directories_have name dirs)
relative_have dirs from name false = directories_then name dirs (Header name ∷ []) (refl, tt)

candidates_have : (dirs : List Text) (from : Text) (include : Include) → HaveName include.name (candidates_of dirs from include)
candidates_have dirs from include =
    have_if include.name (is_no_name include.name) [] _ tt
    (have_if include.name (is_absolute include.name) (File include.name ∷ []) (relative_places dirs from include.name include.angle) tt (relative_have dirs from include.name include.angle))

-- the text at the place of a header that is among the candidates of a name
text_at : (held : Option (List Named)) (name : Text) (places front back : List Place) (place : Place) (text : Text) →
    HaveName name places → places ≡ front ++ place ∷ back → HasText held place text → is_header_place place ≡ true → header_of name ≡ Some text
text_at held name places front back (File other) text have parts is header = absurd (both_ways false refl header)
text_at held name places front back (Header other) text have parts is header =
    ap header_of (sym (name_at_seam name other front back (subst (λ (ps : List Place). HaveName name ps) parts have))) ∙ is

pub headers_have_their_texts : HeadersHaveTheirTexts
headers_have_their_texts s told g gathers from include number found built_in =
    let (known, are) = files_are_known s told g gathers in
    let link = are.links from include number found in
    let file = are.gathered number link.held in
    text_at s.held include.name (candidates_of s.dirs (name_of g from) include) link.first.front link.first.back (known_at known number).place (file_of g number).text
    (candidates_have s.dirs (name_of g from) include) link.first.parts file.text (sym file.marked ∙ built_in)
