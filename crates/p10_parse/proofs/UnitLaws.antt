-- The answer for all roots is one.
use Rattle.std.proofs.Common.{◌≡◌, ◌≢◌, ℕ, ◌+◌, ◌-◌, inl, inr, List, [], ◌∷◌, ◌++◌, length, slice_get, refl, sym, ◌∙◌, ap, arith}
use Rattle.std.proofs.lemmas.Option.{same_Some}
use Rattle.p10_base.specs.declared.at.At.{At}
use Rattle.p10_base.specs.declared.report.Refusal.{Refusal}
use Rattle.p10_base.specs.Words.{PlainWord}
use Rattle.p10_base.specs.Codes.{syntax_refusal}
use Rattle.p10_syn.specs.Symbols.{symbols_of}
use Rattle.p10_syn.specs.Places.{locate_externals}
use Rattle.p10_syn.specs.Spells.{SpellsRoot, SpellsFrom}
use Rattle.p10_syn.specs.Trees.{External}
use Rattle.p10_pexpr.specs.declared.fault.ParseFault.{ParseFault}
use Rattle.p10_pexpr.specs.declared.fault.ParseFault.TheVariants.{Refused, Over, Memory}
use Rattle.p10_parse.specs.Units.{FitNesting, AreSpelled, AreRefused, HasFault, FirstFault, AllFit}
use Rattle.p10_parse.specs.Laws.{UnitsAreOne, SpelledHaveNoFault, FaultsAreOne}
use Rattle.p10_parse.proofs.Roots.{roots_are_unique, longests_are_one}
use Rattle.p10_syn.specs.Bare.{bare_externals}

pub root_spelled : (n : ℕ) (words : List PlainWord) (these : List (External At)) → SpellsRoot n words these → AreSpelled words
root_spelled n words these root = (bare_externals these, root.formed, root.spelled)

root_is_one : (n : ℕ) (words : List PlainWord) (t u : List (External At)) → SpellsRoot n words t → SpellsRoot n words u → t ≡ u
root_is_one n words t u a b = a.placed ∙ ap (locate_externals (record { words = words; before = n }) 0) (roots_are_unique [] _ _ a.formed b.formed (sym a.spelled ∙ b.spelled)) ∙ sym b.placed

from_are_one : (n : ℕ) (roots : List (List PlainWord)) (trees others : List (External At)) → SpellsFrom n roots trees → SpellsFrom n roots others → trees ≡ others
from_are_one n [] trees others a b = a ∙ sym b
from_are_one n (words ∷ roots) trees others a b =
    a.2 ∙ ap (λ x. x ++ a.1) (root_is_one n words a.0 b.0 a.3 b.3) ∙ ap (λ x. b.0 ++ x) (from_are_one (n + length words) roots a.1 b.1 a.4 b.4) ∙ sym b.2

pub units_are_one : UnitsAreOne
units_are_one roots trees others a b = from_are_one 0 roots trees others a b

-- a root that is read has no fault
read_has_none : (words : List PlainWord) (f : ParseFault) → FitNesting words → AreSpelled words → HasFault words f → f ≡ Memory
read_has_none words Memory fits spelled h = refl
read_has_none words (Refused r) fits spelled h = absurd (h.1.unspelled spelled)
read_has_none words (Over limit) fits spelled h = absurd (omega (arith, fits, h.1))

none_from : (n : ℕ) (roots : List (List PlainWord)) (trees : List (External At)) (f : ParseFault) → AllFit roots → SpellsFrom n roots trees → FirstFault roots f → f ≡ Memory
none_from n [] trees f fits spells h = absurd h
none_from n (words ∷ roots) trees f fits spells (inl here) = read_has_none words f fits.0 (root_spelled n words spells.0 spells.3) here
none_from n (words ∷ roots) trees f fits spells (inr later) = none_from (n + length words) roots spells.1 f fits.1 spells.4 later.2

pub spelled_have_no_fault : SpelledHaveNoFault
spelled_have_no_fault roots trees f fits spells h = none_from 0 roots trees f fits spells h

-- the word at which a root is refused is one
refused_once : (words : List PlainWord) (r s : Refusal) → AreRefused words r → AreRefused words s → r ≡ s
refused_once words r s a b =
    let both = longests_are_one [] (symbols_of words) a.trees b.trees a.rest b.rest a.longest b.longest in
    let same : a.word ≡ b.word = same_Some _ _ (sym a.here ∙ ap (λ rest. slice_get words (length words - length rest)) both.1 ∙ b.here) in
    a.placed ∙ ap (λ word. syntax_refusal word.at) same ∙ sym b.placed

root_has_one : (words : List PlainWord) (f g : ParseFault) → f ≢ Memory → g ≢ Memory → HasFault words f → HasFault words g → f ≡ g
root_has_one words Memory g p q a b = absurd (p refl)
root_has_one words (Refused r) Memory p q a b = absurd (q refl)
root_has_one words (Refused r) (Refused s) p q a b = ap Refused (refused_once words r s a.1 b.1)
root_has_one words (Refused r) (Over limit) p q a b = absurd (omega (arith, a.0, b.1))
root_has_one words (Over limit) Memory p q a b = absurd (q refl)
root_has_one words (Over limit) (Refused s) p q a b = absurd (omega (arith, a.1, b.0))
root_has_one words (Over l) (Over m) p q a b = ap Over (a.0 ∙ sym b.0)

pub faults_are_one : FaultsAreOne
faults_are_one [] f g p q a b = absurd a
faults_are_one (words ∷ roots) f g p q (inl a) (inl b) = root_has_one words f g p q a b
faults_are_one (words ∷ roots) f g p q (inl a) (inr b) = absurd (p (read_has_none words f b.0 b.1 a))
faults_are_one (words ∷ roots) f g p q (inr a) (inl b) = absurd (q (read_has_none words g a.0 a.1 b))
faults_are_one (words ∷ roots) f g p q (inr a) (inr b) = faults_are_one roots f g p q a.2 b.2
