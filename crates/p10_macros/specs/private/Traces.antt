-- Words that are kept with numbers of sets of macros.
use Rattle.std.specs.Prelude.{◌≡◌, ◌≤◌, List, [], ◌∷◌, map, Vec}
use Rattle.std.specs.Global.{Global}
use Rattle.p10_base.specs.Words.{Text, plain_word}
use Rattle.p10_macros.specs.declared.origin.Origins.{Origins}
use Rattle.p10_macros.specs.declared.pending.Traced.{Traced}
use Rattle.p10_macros.specs.Uses.{Sourced}
use Rattle.p10_macros.specs.private.Origins.{count_of, has_macro}

-- a word that is kept with the number of a set of macros
pub record IsTraced (origins : Origins) (traced : Traced) (sourced : Sourced) : Type 0 where
  pub word : plain_word traced.word ≡ sourced.word
  pub known : traced.from ≤ count_of origins
  pub from : (name : Text) → has_macro origins traced.from name ≡ sourced.from name

-- kept words, one after the other
abbrev pub AreTraced : Origins → List Traced → List Sourced → Type 0
AreTraced origins [] [] = Unit {0}
AreTraced origins (traced ∷ those) (sourced ∷ these) = IsTraced origins traced sourced × AreTraced origins those these
AreTraced origins _ _ = ⊥

-- kept values of arguments, one after the other
abbrev pub AreValues : Origins → List (List Traced) → List (List Sourced) → Type 0
AreValues origins [] [] = Unit {0}
AreValues origins (traced ∷ those) (sourced ∷ these) = AreTraced origins traced sourced × AreValues origins those these
AreValues origins _ _ = ⊥

-- values of parameters, as they are kept, as lists
abbrev pub lists_of : List (Vec Traced Global) → List (List Traced)
lists_of values = map (λ (value : Vec Traced Global). value.items) values
