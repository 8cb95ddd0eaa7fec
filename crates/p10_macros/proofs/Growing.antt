-- What is kept with sets of macros stays right where more macros and sets come.
use Rattle.std.proofs.Common.{List, [], ◌∷◌, ◌∙◌, ℕ}
use Rattle.p10_base.specs.Words.{Text}
use Rattle.p10_macros.specs.declared.origin.Origins.{Origins}
use Rattle.p10_macros.specs.declared.pending.Traced.{Traced}
use Rattle.p10_macros.specs.Uses.{Sourced}
use Rattle.p10_macros.specs.private.Origins.{Extends}
use Rattle.p10_macros.specs.private.Traces.{IsTraced, AreTraced, AreValues}
use Rattle.p10_macros.specs.private.Putting.{IsBase}
use Rattle.p10_macros.proofs.SetsOfMacros.{still_has, longer}

pub traced_more : (old new : Origins) → Extends old new → (traced : Traced) (sourced : Sourced) → IsTraced old traced sourced → IsTraced new traced sourced
traced_more old new grown traced sourced is = record {
  word = is.word;
  known = longer old new grown traced.from is.known;
  from = λ name. still_has old new grown traced.from name is.known ∙ is.from name;
}

pub all_traced_more : (old new : Origins) → Extends old new → (those : List Traced) (these : List Sourced) → AreTraced old those these → AreTraced new those these
all_traced_more old new grown [] [] are = tt
all_traced_more old new grown (traced ∷ those) (sourced ∷ these) (is, are) = (traced_more old new grown traced sourced is, all_traced_more old new grown those these are)
all_traced_more old new grown [] (sourced ∷ these) are = absurd are
all_traced_more old new grown (traced ∷ those) [] are = absurd are

pub values_more : (old new : Origins) → Extends old new → (those : List (List Traced)) (these : List (List Sourced)) → AreValues old those these → AreValues new those these
values_more old new grown [] [] are = tt
values_more old new grown (traced ∷ those) (sourced ∷ these) (is, are) = (all_traced_more old new grown traced sourced is, values_more old new grown those these are)
values_more old new grown [] (sourced ∷ these) are = absurd are
values_more old new grown (traced ∷ those) [] are = absurd are

pub base_more : (old new : Origins) → Extends old new → (from : ℕ) (macro' : Text) (name : Sourced) → IsBase old from macro' name → IsBase new from macro' name
base_more old new grown from macro' name is = record {
  known = longer old new grown from is.known;
  base = λ other. still_has old new grown from other is.known ∙ is.base other;
}
