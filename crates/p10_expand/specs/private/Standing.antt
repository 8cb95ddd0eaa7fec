-- What stands between two steps of the code that gathers.
use Rattle.std.specs.Prelude.{ℕ, ◌≡◌, ◌+◌, ◌≤◌, ◌⊎◌, List, [], ◌∷◌, ◌++◌, All, length, take, drop, Option, Some, None, IfSome, IsSomeAnd, Err}
use Rattle.p10_base.specs.Gathered.{Gathered, count_of, with_file}
use Rattle.p10_world.specs.Files.{Named, Lacks}
use Rattle.p10_world.specs.Files as world
use Rattle.p10_lex.specs.declared.fault.LexFault.TheVariants as lexing
use Rattle.p10_lex.specs.Lexes.{Answers}
use Rattle.p10_expand.specs.declared.place.Include.{Include}
use Rattle.p10_expand.specs.declared.place.Place.{Place}
use Rattle.p10_expand.specs.declared.place.Place.TheVariants.{File, Header}
use Rattle.p10_expand.specs.declared.gathering.Known.{Known}
use Rattle.p10_expand.specs.declared.gathering.Gathering.{Gathering}
use Rattle.p10_expand.specs.declared.fault.GatherFault.{GatherFault}
use Rattle.p10_expand.specs.declared.fault.GatherFault.TheVariants as gathering
use Rattle.p10_expand.specs.declared.fault.Trouble.{Trouble}
use Rattle.p10_expand.specs.declared.fault.Trouble.TheVariants.{Read, Refused, Over, Memory}
use Rattle.p10_expand.specs.Headers.{header_of}
use Rattle.p10_expand.specs.Includes.{HasIncludes}
use Rattle.p10_expand.specs.Finding.{name_at, is_header_place, HasText, IsThere, IsAbsent, IsFirst}
use Rattle.p10_expand.specs.Gathered.{AreGathered}
use Rattle.p10_expand.specs.Gathering.{Setting, Request, Moment, lines_of, IsAt, IsNew, HasRoom, present, linked, Reached, Answered, RefusesNext, PassesLimit, IsOneTooMany, IsFault}
use Rattle.p10_base.specs.declared.report.TheConstants.Limit.{FILES, MOST_FILES, MOST_FILE_BYTES}
use Rattle.p10_expand.specs.Setting.{setting}
use Rattle.p10_base.specs.declared.word.WordPlace.{WordPlace}
use Rattle.p10_base.specs.Words.{Text}

-- the text is all of the file at a place, or the first 1,048,577 bytes of a longer one
abbrev pub HasFront : Option (List Named) → Place → List ℕ → Type 0
HasFront held (File name) text = IfSome held (λ files. IsSomeAnd (world.file_of name files) (λ whole. text ≡ take (1 + MOST_FILE_BYTES) whole))
HasFront held (Header name) text = header_of name ≡ Some text

-- what holds between two steps: each file is known, and stands at its place; the names that were found absent are
pub record Stands (held : Option (List Named)) (s : Gathering) : Type 0 where
  pub known : length s.known.items ≡ count_of s.sources
  pub gathered : AreGathered held s.known.items s.sources
  pub absent : All (Lacks held) s.absent

-- what was gathered stays as it is
pub record Keeps (old new : Gathering) : Type 0 where
  pub sources : new.sources ≡ old.sources
  pub known : new.known.items ≡ old.known.items

-- files were added after those that there were
pub record Grows (old new : Gathering) : Type 0 where
  pub behind : List Known
  pub known : new.known.items ≡ old.known.items ++ behind

-- a file was put after the others, at this place
pub record AddsFile (old new : Gathering) (place : Place) (depth : ℕ) (text : List ℕ) (number : ℕ) : Type 0 where
  pub words : List WordPlace
  pub includes : List Include
  pub next : number ≡ count_of old.sources
  pub sources : new.sources ≡ with_file old.sources (name_at place) text (is_header_place place) words
  pub lexed : HasIncludes number text words includes
  pub known : new.known.items ≡ old.known.items ++ (record { place = place; depth = depth; includes = includes }) ∷ []

-- why the text of the file with this number can't be read
abbrev pub FailsToRead : ℕ → Text → Trouble → Type 0
FailsToRead number text (Refused refusal) = Answers number text (Err (lexing.Refused refusal))
FailsToRead number text (Over limit) = Answers number text (Err (lexing.Over limit))
FailsToRead number text Read = ⊥
FailsToRead number text Memory = Unit {0}

-- why a file with this text isn't added; a refused one was put after the others
abbrev pub FailsToAdd : Gathering → Gathering → Place → List ℕ → Trouble → Type 0
FailsToAdd old new place text (Refused refusal) = Answers (count_of old.sources) text (Err (lexing.Refused refusal)) × (new.sources ≡ with_file old.sources (name_at place) text (is_header_place place) [])
FailsToAdd old new place text trouble = FailsToRead (count_of old.sources) text trouble

-- a file that isn't gathered yet is found, and there is room for it; it has this text
pub record IsFresh (held : Option (List Named)) (s : Gathering) (place : Place) (text : List ℕ) : Type 0 where
  pub new : IsNew s.known.items place
  pub room : HasRoom s.known.items place
  pub text_is : HasText held place text

-- the number is that of the file at a place, which was gathered before, or is now
pub record IsLocated (held : Option (List Named)) (old new : Gathering) (place : Place) (depth number : ℕ) : Type 0 where
  pub there : IsThere held place
  pub how : (IsAt old.known.items place number × Keeps old new) ⊎ ((text : List ℕ) × IsFresh held old place text × AddsFile old new place depth text number)

-- what is found at a place
abbrev pub IsFound : Option (List Named) → Gathering → Gathering → Place → ℕ → Option ℕ → Type 0
IsFound held old new place depth None = IsAbsent held place × Keeps old new
IsFound held old new place depth (Some number) = IsLocated held old new place depth number

-- there are 256 files already
pub record IsFull (held : Option (List Named)) (s : Gathering) (place : Place) : Type 0 where
  pub name : List ℕ
  pub place_is : place ≡ File name
  pub new : IsNew s.known.items place
  pub full : MOST_FILES ≤ present s.known.items
  pub there : IsThere held place

-- why the file at a place isn't gathered
abbrev pub Fails : Option (List Named) → Gathering → Gathering → Place → Trouble → Type 0
Fails held old new place (Refused refusal) = (text : List ℕ) × IsFresh held old place text × FailsToAdd old new place text (Refused refusal)
Fails held old new place (Over limit) =
    ((text : List ℕ) × IsFresh held old place text × FailsToAdd old new place text (Over limit))
    ⊎ ((limit ≡ FILES) × IsFull held old place)
Fails held old new place trouble = Unit {0}

-- what is found at these places
abbrev pub FindsFirst : Option (List Named) → Gathering → Gathering → List Place → ℕ → Option ℕ → Type 0
FindsFirst held old new places depth None = All (IsAbsent held) places × Keeps old new
FindsFirst held old new places depth (Some number) = (place : Place) × IsFirst held places place × IsLocated held old new place depth number

-- why the first file at these places isn't gathered
abbrev pub FailsFirst : Option (List Named) → Gathering → Gathering → List Place → Trouble → Type 0
FailsFirst held old new places (Refused refusal) = (place : Place) × IsFirst held places place × Fails held old new place (Refused refusal)
FailsFirst held old new places (Over limit) = (place : Place) × IsFirst held places place × Fails held old new place (Over limit)
FailsFirst held old new places trouble = Unit {0}

-- an include of a file was linked
pub record Links (old new : Gathering) (from : ℕ) (include : Include) (to : ℕ) : Type 0 where
  pub sources : new.sources ≡ linked from include to old.sources
  pub known : new.known.items ≡ old.known.items
  pub absent : new.absent ≡ old.absent

-- ## The code's steps as those of the definition

-- the moment at which these requests are still to be answered
abbrev pub moment : Gathering → List Request → Moment
moment s ahead = record { known = s.known.items; sources = s.sources; ahead = ahead }

-- the include lines of these files, which have the numbers from the first on
abbrev pub lines_from : ℕ → List Known → List Request
lines_from number [] = []
lines_from number (known ∷ more) = lines_of number known ++ lines_from (number + 1) more

-- the include lines of the files that were added
abbrev pub new_lines : Gathering → Gathering → List Request
new_lines old new = lines_from (length old.known.items) (drop (length old.known.items) new.known.items)

-- the next request was answered
abbrev pub Steps : Option (List Named) → List Text → Gathering → Gathering → Request → Type 0
Steps held dirs old new request =
    (roots : List Text) (rest : List Request) → Answered (setting held roots dirs) (moment old (request ∷ rest)) (moment new (rest ++ new_lines old new))

-- why the next request isn't answered
abbrev pub StopsAt : Setting → Moment → Gathered → Trouble → Type 0
StopsAt s m g (Refused refusal) = RefusesNext s m refusal g
StopsAt s m g (Over limit) = PassesLimit s m limit ⊎ IsOneTooMany s m limit
StopsAt s m g trouble = Unit {0}

-- the gathering stops at this request, whatever its roots are and whatever is asked for after it
abbrev pub Stops : Option (List Named) → List Text → Gathering → Gathering → Request → Trouble → Type 0
Stops held dirs old new request trouble =
    (roots : List Text) (rest : List Request) → StopsAt (setting held roots dirs) (moment old (request ∷ rest)) new.sources trouble

-- this is how things stand after some requests were answered
pub record Comes (s : Setting) (state : Gathering) (ahead : List Request) : Type 0 where
  pub answered : ℕ
  pub reached : Reached s answered (moment state ahead)

-- the fault that a trouble is, where these files were gathered
abbrev pub fault_with : Trouble → Gathering → GatherFault
fault_with Read s = gathering.Read
fault_with (Refused refusal) s = gathering.Refused refusal s.sources
fault_with (Over limit) s = gathering.Over limit
fault_with Memory s = gathering.Memory

-- the include lines of the files from this one on are still to be followed
abbrev pub ComesTo : Setting → Gathering → ℕ → Type 0
ComesTo s state file = Comes s state (lines_from file (drop file state.known.items))

-- the include lines of a file were followed
pub record Follows (held : Option (List Named)) (dirs : List Text) (old new : Gathering) (file : ℕ) : Type 0 where
  pub grows : Grows old new
  pub comes : (roots : List Text) → ComesTo (setting held roots dirs) old file → ComesTo (setting held roots dirs) new (file + 1)

-- why the include lines of a file aren't all followed
abbrev pub StopsFollowing : Option (List Named) → List Text → Gathering → Gathering → ℕ → Trouble → Type 0
StopsFollowing held dirs old new file trouble =
    (roots : List Text) → ComesTo (setting held roots dirs) old file → IsFault (setting held roots dirs) (fault_with trouble new)
