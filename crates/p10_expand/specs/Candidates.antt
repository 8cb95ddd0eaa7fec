-- Where an included file is looked for (C99 6.10.2).
use Rattle.std.specs.Prelude.{ℕ, ◌-◌, ◌==◌, ◌||◌, Bool, true, false, not, List, [], ◌∷◌, ◌++◌, length, take, map, if◌then◌else◌}
use Rattle.std.specs.List.{after_last, list_any}
use Rattle.std.specs.Str.{is_utf8}
use Rattle.p10_expand.specs.declared.place.Include.{Include}
use Rattle.p10_expand.specs.declared.place.Place.{Place}
use Rattle.p10_expand.specs.declared.place.Place.TheVariants.{File, Header}
use Rattle.p10_base.specs.Words.{Text}

-- whether a byte is `/`
abbrev pub is_slash : ℕ → Bool
is_slash byte = byte == 47

-- the directory of a file: its name up to and including the last `/`, or nothing where there is none
abbrev pub directory_of : List ℕ → List ℕ
directory_of name = take (length name - length (after_last is_slash name)) name

-- the files with this name in the directories, each joined to it by `/`
abbrev pub in_directories : List Text → List ℕ → List Place
in_directories dirs name = map (λ dir. File (dir ++ 47 ∷ [] ++ name)) dirs

-- a name that no place has: it is empty, has a byte 0 or isn't UTF-8
abbrev pub is_no_name : List ℕ → Bool
is_no_name [] = true
is_no_name name = list_any (λ byte. byte == 0) name || not (is_utf8 name)

-- whether a name begins with `/`
abbrev pub is_absolute : List ℕ → Bool
is_absolute [] = false
is_absolute (byte ∷ bytes) = is_slash byte

-- the places of a relative name: between angle brackets the built-in header and then the directories, between quotes the
-- directory of the including file, the directories and then the built-in header
abbrev pub relative_places : List Text → List ℕ → List ℕ → Bool → List Place
relative_places dirs from name true = Header name ∷ in_directories dirs name
relative_places dirs from name false = File (directory_of from ++ name) ∷ in_directories dirs name ++ Header name ∷ []

-- the candidates of an include line of the file `from`, in the order in which they are looked for
abbrev pub candidates_of : List Text → List ℕ → Include → List Place
candidates_of dirs from include =
    if is_no_name include.name then []
    else if is_absolute include.name then File include.name ∷ []
    else relative_places dirs from include.name include.angle
