-- Roots that are parted at their bodies, and the lines of what stands outside of these.
use Rattle.std.specs.Prelude.{◌≡◌, ℕ, ◌+◌, ◌<◌, List, [], ◌∷◌, ◌++◌, length, codes}
use Rattle.p10_base.specs.declared.at.At.{At}
use Rattle.p10_base.specs.Words.{Text, PlainWord}
use Rattle.p10_digests.specs.Lines.{hashed_lines}
use Rattle.p10_digests.specs.Bare.{BareWord, bare_words, AreProgramWords}

-- words before a body, its own, and where it stands
pub record Stretch : Type 0 where
  pub before : List PlainWord
  pub body : List PlainWord
  pub at : At

-- a root parted at its bodies, and the words after the last of these
pub record PartedRoot : Type 0 where
  pub stretches : List Stretch
  pub after : List PlainWord

-- ## Where bodies stand

-- the words of stretches
abbrev pub stretch_words : List Stretch → List PlainWord
stretch_words [] = []
stretch_words (s ∷ stretches) = s.before ++ (s.body ++ stretch_words stretches)

-- the words of a root
abbrev pub root_words : PartedRoot → List PlainWord
root_words root = stretch_words root.stretches ++ root.after

-- the bodies of stretches
abbrev pub stretch_bodies : List Stretch → List At
stretch_bodies [] = []
stretch_bodies (s ∷ stretches) = s.at ∷ stretch_bodies stretches

-- the bodies of roots
abbrev pub root_bodies : List PartedRoot → List At
root_bodies [] = []
root_bodies (root ∷ roots) = stretch_bodies root.stretches ++ root_bodies roots

-- each body has a word, and stands where its words do, which are numbered from this on
abbrev pub StandFrom : ℕ → List Stretch → Type 0
StandFrom number [] = Unit {0}
StandFrom number (s ∷ stretches) =
    (0 < length s.body) × (s.at.first ≡ number + length s.before) × (s.at.past ≡ s.at.first + length s.body) × StandFrom s.at.past stretches

-- the same for the bodies of roots, whose words are numbered through all of them
abbrev pub RootsStandFrom : ℕ → List PartedRoot → Type 0
RootsStandFrom number [] = Unit {0}
RootsStandFrom number (root ∷ roots) = StandFrom number root.stretches × RootsStandFrom (number + length (root_words root)) roots

-- ## Lines

-- the lines of stretches: those of the words before each body, and `@` for the body
abbrev pub stretch_lines : List Stretch → Text
stretch_lines [] = []
stretch_lines (s ∷ stretches) = hashed_lines s.before ++ (codes "@\n" ++ stretch_lines stretches)

-- the lines of a root: `@@`, those of its stretches, and those of the words after the last body
abbrev pub root_lines : PartedRoot → Text
root_lines root = codes "@@\n" ++ (stretch_lines root.stretches ++ hashed_lines root.after)

-- ## Words outside bodies

-- the runs of words outside bodies, without their places
abbrev pub runs_from : List Stretch → List PlainWord → List (List BareWord)
runs_from [] after = bare_words after ∷ []
runs_from (s ∷ stretches) after = bare_words s.before ∷ runs_from stretches after

-- the runs of a root: one more than it has bodies
abbrev pub runs_of : PartedRoot → List (List BareWord)
runs_of root = runs_from root.stretches root.after

-- the words before bodies are as programs have them
abbrev pub HaveProgramWords : List Stretch → Type 0
HaveProgramWords [] = Unit {0}
HaveProgramWords (s ∷ stretches) = AreProgramWords s.before × HaveProgramWords stretches

-- the words outside bodies are as programs have them
abbrev pub OutsideAreProgramWords : List PartedRoot → Type 0
OutsideAreProgramWords [] = Unit {0}
OutsideAreProgramWords (root ∷ roots) = HaveProgramWords root.stretches × AreProgramWords root.after × OutsideAreProgramWords roots
