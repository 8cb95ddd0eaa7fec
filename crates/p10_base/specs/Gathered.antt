-- What contracts see of the gathered source files.
use Rattle.std.specs.Prelude.{ℕ, ◌<◌, ◌≤◌, ◌&&◌, Bool, false, List, [], ◌∷◌, ◌++◌, All, Option, option_map, length, slice_index_or, slice_set}
use Rattle.std.specs.List.{find}
use Rattle.std.specs.Str.{bytes_eq}
use Rattle.std.specs.Bool.{beq}
use Rattle.p10_base.specs.declared.sources.Link.{Link}
use Rattle.p10_base.specs.declared.sources.SourceFile.{SourceFile}
use Rattle.p10_base.specs.declared.span.Span.{Span}
use Rattle.p10_base.specs.declared.word.WordPlace.{WordPlace}
use Rattle.p10_base.specs.Words.{Text, PlainWord, words_at}

-- the source files of a program in the order of their numbers, and the numbers of its roots in order
pub record Gathered : Type 0 where
  pub files : List SourceFile
  pub roots : List ℕ

-- no files and no roots
abbrev pub nothing_gathered : Gathered
nothing_gathered = record { files = []; roots = [] }

-- a file without name, text, words and links, which stands where a number names no file
abbrev pub no_file : SourceFile
no_file = record { name = []; text = []; built_in = false; words = []; links = [] }

-- how many files there are; their numbers lie below
abbrev pub count_of : Gathered → ℕ
count_of g = length g.files

-- how many roots there are
abbrev pub root_count : Gathered → ℕ
root_count g = length g.roots

-- the file with a number
abbrev pub file_of : Gathered → ℕ → SourceFile
file_of g number = slice_index_or g.files number no_file

-- the name of a file
abbrev pub name_of : Gathered → ℕ → Text
name_of g number = (file_of g number).name

-- the bytes of a file
abbrev pub text_of : Gathered → ℕ → Text
text_of g number = (file_of g number).text

-- the places of a file's words
abbrev pub word_places_of : Gathered → ℕ → List WordPlace
word_places_of g number = (file_of g number).words

-- the words of a file
abbrev pub words_of_file : Gathered → ℕ → List PlainWord
words_of_file g number = words_at number (text_of g number) (word_places_of g number)

-- whether a file was gathered as a built-in header
abbrev pub is_built_in : Gathered → ℕ → Bool
is_built_in g number = (file_of g number).built_in

-- a place lies in the files: its file is one of them, and it begins within that file's text
pub record LiesIn (g : Gathered) (at : Span) : Type 0 where
  pub held : at.file < count_of g
  pub within : at.start ≤ length (text_of g at.file)

-- the number of the file that is a root, by its place among the roots
abbrev pub root_of : Gathered → ℕ → ℕ
root_of g place = slice_index_or g.roots place 0

-- whether a link is that of the include of a name between angle brackets, or between quotes
abbrev pub is_link_of : Text → Bool → Link → Bool
is_link_of name angle link = bytes_eq link.name name && beq link.angle angle

-- the file to which an include is linked, among the links of a file
abbrev pub target_of : Text → Bool → List Link → Option ℕ
target_of name angle links = option_map (λ link. link.to) (find (is_link_of name angle) links)

-- the gathered file for which an include in a file stands (C99 6.10.2), if it was linked
abbrev pub candidate_of : Gathered → ℕ → Text → Bool → Option ℕ
candidate_of g from name angle = target_of name angle (file_of g from).links

-- the files with one more at the end, a built-in header or not, with words at these places, which has no links yet
abbrev pub with_file : Gathered → Text → Text → Bool → List WordPlace → Gathered
with_file g name text built_in words =
    record g { files = g.files ++ (record { name = name; text = text; built_in = built_in; words = words; links = [] }) ∷ [] }

-- the files with one more root at the end
abbrev pub with_root : Gathered → ℕ → Gathered
with_root g file = record g { roots = g.roots ++ file ∷ [] }

-- a file with one more link at the end
abbrev pub add_link : SourceFile → Link → SourceFile
add_link file link = record file { links = file.links ++ link ∷ [] }

-- the files where an include in a file is linked to a file
abbrev pub with_link : Gathered → ℕ → Text → Bool → ℕ → Gathered
with_link g from name angle to =
    record g { files = slice_set g.files from (add_link (file_of g from) (record { name = name; angle = angle; to = to })) }

-- every link of a file leads to one of the first `count` files
abbrev pub LinksBelow : ℕ → SourceFile → Type 0
LinksBelow count file = All (λ link. link.to < count) file.links

-- every number names one of the files, and the numbers of files and roots fit 32 bits
pub record IsWhole (g : Gathered) : Type 0 where
  pub few_files : count_of g < 4294967296
  pub few_roots : root_count g < 4294967296
  pub roots_held : All (λ file. file < count_of g) g.roots
  pub links_held : All (LinksBelow (count_of g)) g.files
