-- How the files of a program are gathered. Requests are answered in the order in which they were made: first the roots, and
-- then, for each gathered file in order, its include lines, also those of skipped groups.
use Rattle.std.specs.Prelude.{ℕ, ◌≡◌, zero, suc, ◌+◌, ◌<◌, ◌≤◌, ◌⊎◌, not, List, [], ◌∷◌, ◌++◌, All, length, map, nat_le, slice_index_or, Option, is_some, IsSome, if◌then◌else◌, Result, Ok, Err}
use Rattle.std.specs.List.{filter}
use Rattle.p10_base.specs.declared.report.Refusal.{Refusal}
use Rattle.p10_base.specs.declared.report.Limit.{Limit}
use Rattle.p10_base.specs.Gathered.{Gathered, nothing_gathered, count_of, root_count, name_of, text_of, words_of_file, candidate_of, with_file, with_root, with_link}
use Rattle.p10_world.specs.Files.{Named}
use Rattle.p10_lex.specs.declared.fault.LexFault.TheVariants as lexing
use Rattle.p10_base.specs.declared.word.WordPlace.{WordPlace}
use Rattle.p10_base.specs.Words.{Text}
use Rattle.p10_lex.specs.Lexes.{Answers}
use Rattle.p10_expand.specs.declared.place.Include.{Include}
use Rattle.p10_expand.specs.declared.place.Place.{Place}
use Rattle.p10_expand.specs.declared.place.Place.TheVariants.{File, Header}
use Rattle.p10_expand.specs.declared.gathering.Known.{Known}
use Rattle.p10_expand.specs.declared.fault.GatherFault.{GatherFault}
use Rattle.p10_expand.specs.declared.fault.GatherFault.TheVariants.{RootAbsent, Read, Refused, Over, Memory}
use Rattle.p10_expand.specs.Candidates.{candidates_of}
use Rattle.p10_expand.specs.Finding.{name_at, is_header_place, HasText, IsAbsent, IsFirst}
use Rattle.p10_expand.specs.Includes.{HasIncludes}
use Rattle.p10_base.specs.declared.report.TheConstants.Limit.{FILES, MOST_FILES, MOST_NESTED_INCLUDES}

-- ## What is asked for

-- what the files are gathered from: the held files, where they are told, the names of the roots, and the directories of included files
pub record Setting : Type 0 where
  pub held : Option (List Named)
  pub roots : List Text
  pub dirs : List Text

-- a root by its name, or an include line of the file with this number, at the end of a chain of includes of this length
pub data Request : Type 0 where
  Root : List ℕ → Request
  Line : ℕ → ℕ → Include → Request

-- the number of includes in the chain that leads from a root to what is asked for
abbrev pub depth_of : Request → ℕ
depth_of (Root name) = 0
depth_of (Line from depth include) = depth

-- where it is looked for, in this order
abbrev pub sought_places : List Text → Gathered → Request → List Place
sought_places dirs g (Root name) = File name ∷ []
sought_places dirs g (Line from depth include) = candidates_of dirs (name_of g from) include

-- the include lines of a file that are followed: all of them where the chain that led to the file has at most 64 includes. Files
-- are found breadth first, so that chain is the shortest
abbrev pub lines_of : ℕ → Known → List Request
lines_of number known = if nat_le known.depth MOST_NESTED_INCLUDES then map (Line number (known.depth + 1)) known.includes else []

-- ## The moments of gathering

-- the files gathered so far, and the requests that are still to be answered, in order
pub record Moment : Type 0 where
  pub known : List Known
  pub sources : Gathered
  pub ahead : List Request

-- the moment before the first request: nothing is gathered, and the roots are asked for
abbrev pub beginning : Setting → Moment
beginning s = record { known = []; sources = nothing_gathered; ahead = map Root s.roots }

-- what is known where a number names no file
abbrev pub no_known : Known
no_known = record { place = Header []; depth = 0; includes = [] }

-- what is known of the file with a number
abbrev pub known_at : List Known → ℕ → Known
known_at known number = slice_index_or known number no_known

-- the number of the file at a place
pub record IsAt (known : List Known) (place : Place) (number : ℕ) : Type 0 where
  pub held : number < length known
  pub place_of : (known_at known number).place ≡ place

-- no file at this place was gathered yet
abbrev pub IsNew : List Known → Place → Type 0
IsNew known place = (number : ℕ) → IsAt known place number → ⊥

-- how many of the files are no built-in headers
abbrev pub present : List Known → ℕ
present known = length (filter (λ file. not (is_header_place file.place)) known)

-- limit M7 allows 256 files; built-in headers aren't counted
abbrev pub HasRoom : List Known → Place → Type 0
HasRoom known (File name) = present known < MOST_FILES
HasRoom known (Header name) = Unit {0}

-- an include of the file `from` is linked to the file with this number, unless it was linked before
abbrev pub linked : ℕ → Include → ℕ → Gathered → Gathered
linked from include number g = if is_some (candidate_of g from include.name include.angle) then g else with_link g from include.name include.angle number

-- the request stands for the file with this number
abbrev pub noted : Request → ℕ → Gathered → Gathered
noted (Root name) number g = with_root g number
noted (Line from depth include) number g = linked from include number g

-- the next request, with the others after it, and the first of its places at which there is a file
pub record Finds (s : Setting) (m : Moment) (request : Request) (rest : List Request) (place : Place) : Type 0 where
  pub asked : m.ahead ≡ request ∷ rest
  pub first : IsFirst s.held (sought_places s.dirs m.sources request) place

-- ## How the next request is answered

-- an include line stands for nothing, since there is a file at none of its places
pub record Passes (s : Setting) (before after : Moment) : Type 0 where
  pub from : ℕ
  pub depth : ℕ
  pub include : Include
  pub rest : List Request
  pub asked : before.ahead ≡ Line from depth include ∷ rest
  pub none : All (IsAbsent s.held) (sought_places s.dirs before.sources (Line from depth include))
  pub becomes : after ≡ record { known = before.known; sources = before.sources; ahead = rest }

-- the request stands for a file that was gathered before
pub record Meets (s : Setting) (before after : Moment) : Type 0 where
  pub request : Request
  pub rest : List Request
  pub place : Place
  pub number : ℕ
  pub finds : Finds s before request rest place
  pub at : IsAt before.known place number
  pub becomes : after ≡ record { known = before.known; sources = noted request number before.sources; ahead = rest }

-- what is known of a file that a request found
abbrev pub found : Request → Place → List Include → Known
found request place includes = record { place = place; depth = depth_of request; includes = includes }

-- a file is put after the others with its words, marked where it is a built-in header, and its include lines after the other requests
abbrev pub added : Request → List Request → Known → Text → List WordPlace → Moment → Moment
added request rest known text words before = record {
  known = before.known ++ known ∷ [];
  sources = noted request (count_of before.sources) (with_file before.sources (name_at known.place) text (is_header_place known.place) words);
  ahead = rest ++ lines_of (count_of before.sources) known;
}

-- the request stands for a file that is gathered now
pub record Adds (s : Setting) (before after : Moment) : Type 0 where
  pub request : Request
  pub rest : List Request
  pub place : Place
  pub text : List ℕ
  pub words : List WordPlace
  pub includes : List Include
  pub finds : Finds s before request rest place
  pub new : IsNew before.known place
  pub room : HasRoom before.known place
  pub text_is : HasText s.held place text
  pub lexed : HasIncludes (count_of before.sources) text words includes
  pub becomes : after ≡ added request rest (found request place includes) text words before

-- the next request was answered: it met a file that is gathered, found none, or added one
abbrev pub Answered : Setting → Moment → Moment → Type 0
Answered s before after = Passes s before after ⊎ Meets s before after ⊎ Adds s before after

-- this is how things stand after this many requests were answered
abbrev pub Reached : Setting → ℕ → Moment → Type 0
Reached s zero m = m ≡ beginning s
Reached s (suc answered) m = (before : Moment) × Reached s answered before × Answered s before m

-- ## Why the next request isn't answered

-- a root is absent, by its place among the roots
pub record LacksRoot (s : Setting) (m : Moment) (place : ℕ) : Type 0 where
  pub rest : List Request
  pub asked : m.ahead ≡ Root (slice_index_or s.roots place []) ∷ rest
  pub next : root_count m.sources ≡ place
  pub absent : IsAbsent s.held (File (slice_index_or s.roots place []))

-- a file is found that isn't gathered yet, and there is room for it; it has this text
pub record IsNext (s : Setting) (m : Moment) (place : Place) (text : List ℕ) : Type 0 where
  pub request : Request
  pub rest : List Request
  pub finds : Finds s m request rest place
  pub new : IsNew m.known place
  pub room : HasRoom m.known place
  pub text_is : HasText s.held place text

-- the next file is refused by one of X1 to X6; these are the files gathered so far, the refused one last, without words
pub record RefusesNext (s : Setting) (m : Moment) (refusal : Refusal) (g : Gathered) : Type 0 where
  pub place : Place
  pub text : List ℕ
  pub next : IsNext s m place text
  pub refused : Answers (count_of m.sources) text (Err (lexing.Refused refusal))
  pub sources : g ≡ with_file m.sources (name_at place) text (is_header_place place) []

-- the next file exceeds M1 or M2
pub record PassesLimit (s : Setting) (m : Moment) (limit : Limit) : Type 0 where
  pub place : Place
  pub text : List ℕ
  pub next : IsNext s m place text
  pub over : Answers (count_of m.sources) text (Err (lexing.Over limit))

-- the next file is the 257th that is no built-in header (M7)
pub record IsOneTooMany (s : Setting) (m : Moment) (limit : Limit) : Type 0 where
  pub request : Request
  pub rest : List Request
  pub name : List ℕ
  pub finds : Finds s m request rest (File name)
  pub new : IsNew m.known (File name)
  pub full : MOST_FILES ≤ present m.known
  pub limit_is : limit ≡ FILES

-- why gathering ends at this moment
abbrev pub EndsAt : Setting → Moment → GatherFault → Type 0
EndsAt s m (RootAbsent place) = LacksRoot s m place
EndsAt s m (Refused refusal g) = RefusesNext s m refusal g
EndsAt s m (Over limit) = PassesLimit s m limit ⊎ IsOneTooMany s m limit
EndsAt s m Read = ⊥
EndsAt s m Memory = ⊥

-- ## What is gathered

-- the gathered files of a program: all requests were answered
pub record Gathers (s : Setting) (g : Gathered) : Type 0 where
  pub answered : ℕ
  pub last : Moment
  pub reached : Reached s answered last
  pub done : last.ahead ≡ []
  pub sources : g ≡ last.sources

-- why the files of a program aren't gathered: a request can't be answered
pub record FailsBy (s : Setting) (fault : GatherFault) : Type 0 where
  pub answered : ℕ
  pub last : Moment
  pub reached : Reached s answered last
  pub ends : EndsAt s last fault

-- a fault of reading and running out of memory have no cause in the files
abbrev pub IsFault : Setting → GatherFault → Type 0
IsFault s Read = Unit {0}
IsFault s Memory = Unit {0}
IsFault s fault = FailsBy s fault

-- what gathering may end in
abbrev pub IsEnding : Setting → Result Gathered GatherFault → Type 0
IsEnding s (Ok g) = Gathers s g
IsEnding s (Err fault) = FailsBy s fault

-- the words of each file are those of its text
abbrev pub HaveWords : Gathered → Type 0
HaveWords g = (number : ℕ) → number < count_of g → Answers number (text_of g number) (Ok (words_of_file g number))

-- where files are told, it ends in one way only
abbrev pub EndsOnce : Type 0
EndsOnce = (s : Setting) → IsSome s.held → (these those : Result Gathered GatherFault) → IsEnding s these → IsEnding s those → these ≡ those
