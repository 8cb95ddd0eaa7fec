-- Laws of places.
use Rattle.std.specs.Prelude.{◌≡◌, ℕ, length, List, []}
use Rattle.p10_base.specs.Words.{Text, PlainWord}
use Rattle.p10_base.specs.declared.at.At.{At}
use Rattle.p10_syn.specs.Trees.{Bare, Expression, External}
use Rattle.p10_syn.specs.Bare.{bare, bare_external}
use Rattle.p10_syn.specs.Counts.{count, count_external}
use Rattle.p10_syn.specs.Spelling.{spell, spell_external}
use Rattle.p10_syn.specs.Spells.{SpellsExpression, SpellsRoot}
use Rattle.p10_syn.specs.Places.{Source, locate, locate_external}
use Rattle.p10_place.specs.Standing.{Stands}
use Rattle.p10_place.specs.StatementStanding.{ExternalsStand}

-- a tree in its place is the same tree
pub record PlacesAdd : Type 0 where
  pub expression : (s : Source) (n : ℕ) (t : Expression Bare) → bare (locate s n t) ≡ t
  pub external : (s : Source) (n : ℕ) (e : External Bare) → bare_external (locate_external s n e) ≡ e

-- a tree spells as many words as are counted
pub record WordsAreCounted : Type 0 where
  pub expression : (t : Expression Bare) → length (spell t []) ≡ count t
  pub external : (e : External Bare) → length (spell_external e []) ≡ count_external e

-- each part of a tree stands on the words that it spells
pub record PartsStand : Type 0 where
  pub expression : (types : List Text) (words : List PlainWord) (t : Expression At) → SpellsExpression types words t → Stands (record { words = words; before = 0 }) t []
  pub root : (before : ℕ) (words : List PlainWord) (trees : List (External At)) → SpellsRoot before words trees → ExternalsStand (record { words = words; before = before }) trees []
