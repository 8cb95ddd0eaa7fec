-- Laws of places.
use Rattle.std.proofs.Common.{◌≡◌, ℕ, length, List, [], sym, ◌∙◌, ap, subst, arith}
use Rattle.std.proofs.lemmas.List.{length-map}
use Rattle.p10_base.specs.Words.{Text, PlainWord}
use Rattle.p10_base.specs.declared.at.At.{At}
use Rattle.p10_syn.specs.Symbols.{symbol_of}
use Rattle.p10_syn.specs.Trees.{Expression, External}
use Rattle.p10_syn.specs.Bare.{bare, bare_externals}
use Rattle.p10_syn.specs.Spelling.{spell, spell_externals}
use Rattle.p10_syn.specs.Spells.{SpellsExpression, SpellsRoot}
use Rattle.p10_syn.specs.Places.{Source}
use Rattle.p10_place.specs.Standing.{Stands}
use Rattle.p10_place.specs.StatementStanding.{ExternalsStand}
use Rattle.p10_place.specs.Laws.{PartsStand, PlacesAdd, WordsAreCounted}
use Rattle.p10_place.proofs.Counting.{counts, counts_external}
use Rattle.p10_place.proofs.Same.{same, same_external}
use Rattle.p10_place.proofs.Standings.{stands}
use Rattle.p10_place.proofs.StatementStandings.{externals_stand}

pub places_add : PlacesAdd
places_add = record { expression = λ s n t. same s n t; external = λ s n e. same_external s n e }

pub words_are_counted : WordsAreCounted
words_are_counted = record { expression = λ t. omega (arith, counts t []); external = λ e. omega (arith, counts_external e []) }

expression_stands : (types : List Text) (words : List PlainWord) (t : Expression At) → SpellsExpression types words t → Stands (record { words = words; before = 0 }) t []
expression_stands types words t h =
    let s : Source = record { words = words; before = 0 } in
    let n : length words ≡ length (spell (bare t) []) = sym (length-map words symbol_of) ∙ ap length h.spelled in
    subst (λ (t : Expression At). Stands s t []) (sym h.placed) (stands s 0 (bare t) [] (omega (arith, n)))

root_stands : (before : ℕ) (words : List PlainWord) (trees : List (External At)) → SpellsRoot before words trees → ExternalsStand (record { words = words; before = before }) trees []
root_stands before words trees h =
    let s : Source = record { words = words; before = before } in
    let n : length words ≡ length (spell_externals (bare_externals trees) []) = sym (length-map words symbol_of) ∙ ap length h.spelled in
    subst (λ (ts : List (External At)). ExternalsStand s ts []) (sym h.placed) (externals_stand s 0 (bare_externals trees) [] (omega (arith, n)))

pub parts_stand : PartsStand
parts_stand = record { expression = expression_stands; root = root_stands }
