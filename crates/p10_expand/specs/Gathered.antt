-- What the gathered files of a program are: laws of the way in which they are gathered.
use Rattle.std.specs.Prelude.{◌+◌, ℕ, ◌≡◌, zero, suc, ◌<◌, ◌≤◌, true, List, [], All, Contains, length, slice_index_or, Option, Some, None, IsSome}
use Rattle.p10_base.specs.declared.sources.SourceFile.{SourceFile}
use Rattle.p10_base.specs.Gathered.{Gathered, count_of, root_count, file_of, name_of, text_of, is_built_in, root_of, candidate_of}
use Rattle.p10_world.specs.Files.{Named}
use Rattle.p10_expand.specs.declared.place.Include.{Include}
use Rattle.p10_expand.specs.declared.place.Place.TheVariants.{File}
use Rattle.p10_expand.specs.declared.gathering.Known.{Known}
use Rattle.p10_expand.specs.Candidates.{candidates_of}
use Rattle.p10_expand.specs.Finding.{name_at, is_header_place, HasText, IsAbsent, IsFirst}
use Rattle.p10_expand.specs.Headers.{header_of}
use Rattle.p10_expand.specs.Includes.{HasIncludes}
use Rattle.p10_expand.specs.Gathering.{Setting, known_at, IsAt, Gathers}
use Rattle.p10_base.specs.declared.report.TheConstants.Limit.{MOST_NESTED_INCLUDES}

-- ## The roots

-- there is a root for each name, in order, and its file has that name
pub record AreRoots (s : Setting) (g : Gathered) : Type 0 where
  pub many : root_count g ≡ length s.roots
  pub named : (place : ℕ) → place < length s.roots → name_of g (root_of g place) ≡ slice_index_or s.roots place []

-- the roots of what is gathered have their names
abbrev pub RootsAreNamed : Type 0
RootsAreNamed = (s : Setting) (g : Gathered) → Gathers s g → AreRoots s g

-- ## The files

-- a gathered file: it stands at its place, with the name and the text of that place; it is marked where a built-in header stands there,
-- and nowhere else; its words are known, and its include lines
pub record IsGathered (held : Option (List Named)) (number : ℕ) (known : Known) (file : SourceFile) : Type 0 where
  pub named : file.name ≡ name_at known.place
  pub text : HasText held known.place file.text
  pub marked : file.built_in ≡ is_header_place known.place
  pub lexed : HasIncludes number file.text file.words known.includes

-- each file is gathered, with what is known of it
abbrev pub AreGathered : Option (List Named) → List Known → Gathered → Type 0
AreGathered held known g = (number : ℕ) → number < count_of g → IsGathered held number (known_at known number) (file_of g number)

-- an include of the file `from` stands for the file with this number: the include is one of that file's lines, these are followed, and
-- the file with this number stands at the first of the line's candidates at which there is one (C99 6.10.2)
pub record IsLink (s : Setting) (g : Gathered) (known : List Known) (from : ℕ) (include : Include) (number : ℕ) : Type 0 where
  pub from_held : from < count_of g
  pub held : number < count_of g
  pub line : Contains (known_at known from).includes include
  pub followed : (known_at known from).depth ≤ MOST_NESTED_INCLUDES
  pub first : IsFirst s.held (candidates_of s.dirs (name_of g from) include) (known_at known number).place

-- what an include line of the file `from` stands for: a file, or none, where there is a file at none of its candidates
abbrev pub IsLed : Setting → Gathered → List Known → ℕ → Include → Option ℕ → Type 0
IsLed s g known from include (Some number) = IsLink s g known from include number
IsLed s g known from include None = All (IsAbsent s.held) (candidates_of s.dirs (name_of g from) include)

-- a chain of this many includes leads from a root to the file with this number
abbrev pub EndsChain : Gathered → ℕ → ℕ → Type 0
EndsChain g zero number = Contains g.roots number
EndsChain g (suc n) number = (from : ℕ) × (include : Include) × EndsChain g n from × (candidate_of g from include.name include.angle ≡ Some number)

-- what is known of the gathered files, of each its place, the length of the shortest chain of includes that leads to it, and its
-- include lines. No two stand at one place
pub record AreKnown (s : Setting) (g : Gathered) (known : List Known) : Type 0 where
  pub many : length known ≡ count_of g
  pub gathered : AreGathered s.held known g
  pub apart : (number other : ℕ) → number < count_of g → other < count_of g → (known_at known number).place ≡ (known_at known other).place → number ≡ other
  -- a root's file stands at the place with the root's name
  pub roots : (place : ℕ) → place < length s.roots → IsAt known (File (slice_index_or s.roots place [])) (root_of g place)
  -- the files have no other links than those of their include lines
  pub links : (from : ℕ) (include : Include) (number : ℕ) → candidate_of g from include.name include.angle ≡ Some number → IsLink s g known from include number
  -- the include lines of a file are followed where it ends a chain of at most 64 includes
  pub lines : (from : ℕ) → from < count_of g → (known_at known from).depth ≤ MOST_NESTED_INCLUDES →
      All (λ include. IsLed s g known from include (candidate_of g from include.name include.angle)) (known_at known from).includes
  -- each file is a root's or ends a chain of at most 65 includes, and no shorter one leads to it
  pub chain : (number : ℕ) → number < count_of g → ((known_at known number).depth ≤ 1 + MOST_NESTED_INCLUDES) × EndsChain g (known_at known number).depth number
  pub shortest : (number n : ℕ) → EndsChain g n number → (known_at known number).depth ≤ n

-- where files are told, that much is known of the files of a program
abbrev pub FilesAreKnown : Type 0
FilesAreKnown = (s : Setting) → IsSome s.held → (g : Gathered) → Gathers s g → (known : List Known) × AreKnown s g known

-- where files are told, a built-in header for which an include stands has the text of the one that the include names
abbrev pub HeadersHaveTheirTexts : Type 0
HeadersHaveTheirTexts =
    (s : Setting) → IsSome s.held → (g : Gathered) → Gathers s g → (from : ℕ) (include : Include) (number : ℕ) →
    candidate_of g from include.name include.angle ≡ Some number → is_built_in g number ≡ true → header_of include.name ≡ Some (text_of g number)
