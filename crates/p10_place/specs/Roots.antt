-- The words of a root of the code as the definitions see them.
use Rattle.std.specs.Prelude.{ℕ, ◌+◌, List, [], ◌∷◌}
use Rattle.p10_base.specs.Words.{plain_words}
use Rattle.p10_syn.specs.Trees.{Bare, External}
use Rattle.p10_syn.specs.Counts.{count_external}
use Rattle.p10_syn.specs.Places.{Source}
use Rattle.p10_place.specs.declared.root.Root.{Root}

-- the words of a root, and how many words the roots before it have
abbrev pub source_of : Root → Source
source_of r = record { words = plain_words r.words.now; before = r.before }

-- the words of declarations and functions one after the other
abbrev pub count_externals : List (External Bare) → ℕ
count_externals [] = 0
count_externals (e ∷ es) = count_external e + count_externals es
