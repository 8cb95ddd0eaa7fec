-- At which names the files of a program are looked for.
use Rattle.std.specs.Prelude.{ℕ, ◌≡◌, ◌<◌, ◌⊎◌, List, [], ◌∷◌, Contains, Option, Some}
use Rattle.p10_base.specs.Gathered.{Gathered, count_of, name_of, text_of, word_places_of}
use Rattle.p10_base.specs.Words.{Text}
use Rattle.p10_world.specs.Files.{Named, file_of}
use Rattle.p10_expand.specs.declared.place.Include.{Include}
use Rattle.p10_expand.specs.declared.place.Place.{Place}
use Rattle.p10_expand.specs.declared.place.Place.TheVariants.{File}
use Rattle.p10_expand.specs.Candidates.{candidates_of}
use Rattle.p10_expand.specs.Finding.{IsAbsent}
use Rattle.p10_expand.specs.Includes.{HasIncludes}
use Rattle.p10_expand.specs.Gathering.{Setting, Request, Moment, sought_places, Reached}
use Rattle.p10_expand.specs.Setting.{setting}

-- of these places, at which a file is sought in order until there is one, this is one
abbrev pub IsSoughtAt : Option (List Named) → List Place → Place → Type 0
IsSoughtAt held [] place = ⊥
IsSoughtAt held (next ∷ places) place = (next ≡ place) ⊎ (IsAbsent held next × IsSoughtAt held places place)

-- a file is looked for at this place when those of a program are gathered: for a root, or for an include line of a gathered file
pub record IsLookedFor (s : Setting) (place : Place) : Type 0 where
  pub answered : ℕ
  pub moment : Moment
  pub reached : Reached s answered moment
  pub request : Request
  pub rest : List Request
  pub asked : moment.ahead ≡ request ∷ rest
  pub sought : IsSoughtAt s.held (sought_places s.dirs moment.sources request) place

-- a place is the one of a root's name, or a candidate of an include line of a gathered file (C99 6.10.2)
pub data IsCandidate (s : Setting) (g : Gathered) (place : Place) : Type 0 where
  of_root : (name : Text) → Contains s.roots name → place ≡ File name → IsCandidate s g place
  of_line : (from : ℕ) (includes : List Include) (include : Include) → from < count_of g → HasIncludes from (text_of g from) (word_places_of g from) includes → Contains includes include
      → Contains (candidates_of s.dirs (name_of g from) include) place → IsCandidate s g place

-- at each name at which the files of these sources are looked for, the later files hold what the earlier ones hold
abbrev pub AreAsBefore : List Text → List Text → List Named → List Named → Type 0
AreAsBefore sources directories files later = (name : Text) → IsLookedFor (setting (Some files) sources directories) (File name) → file_of name later ≡ file_of name files
