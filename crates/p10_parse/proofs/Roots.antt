-- Roots have one tree at most, and one longest prefix that is spelled, which is found.
use Rattle.std.proofs.Common.{◌≡◌, ◌<◌, ◌≤◌, List, [], ◌∷◌, length, refl, sym, ◌∙◌, ap, subst, arith}
use Rattle.p10_syn.specs.Symbols.{Symbol}
use Rattle.p10_syn.specs.Scopes.{Scope}
use Rattle.p10_syn.specs.Declaring.{after_external}
use Rattle.p10_syn.specs.Spelling.{spell_externals}
use Rattle.p10_syn.specs.StatementForms.{AreExternals}
use Rattle.p10_syn.specs.Trees.{Bare, External}
use Rattle.p10_parse.specs.Roots.{SpellLongest, externals_from}
use Rattle.p10_parse.specs.Laws.{RootsAreUnique, LongestsAreOne, ReadingIsLongest}
use Rattle.p10_parse.proofs.Lengths.{external_words, external_some}
use Rattle.p10_parse.proofs.Unique.{externals_are_apart}
use Rattle.p10_parse.proofs.RootTakes.{root_takes}

-- what is left after declarations and functions is no longer than all, and shorter where there are some
left_less : (es : List (External Bare)) (names : Scope) (rest : List Symbol) → AreExternals names es → length rest ≤ length (spell_externals es rest)
left_less [] names rest h = omega (arith)
left_less (e ∷ es) names rest h = omega (arith, left_less es (after_external names e) rest h.1, external_words e names (spell_externals es rest) h.0)

some_less : (e : External Bare) (es : List (External Bare)) (names : Scope) (rest : List Symbol) → AreExternals names (e ∷ es) → length rest < length (spell_externals (e ∷ es) rest)
some_less e es names rest h =
    omega (arith, left_less es (after_external names e) rest h.1, external_words e names (spell_externals es rest) h.0, external_some e)

-- two rows that spell the same words before as many words are one
pub rows_are_one : (es fs : List (External Bare)) (names : Scope) (rest more : List Symbol) → AreExternals names es → AreExternals names fs → spell_externals es rest ≡ spell_externals fs more → length rest ≡ length more →
    (es ≡ fs) × (rest ≡ more)
rows_are_one [] [] names rest more a b same left = (refl, same)
rows_are_one [] (f ∷ fs) names rest more a b same left = absurd (omega (arith, some_less f fs names more b, ap length same, left))
rows_are_one (e ∷ es) [] names rest more a b same left = absurd (omega (arith, some_less e es names rest a, ap length same, left))
rows_are_one (e ∷ es) (f ∷ fs) names rest more a b same left =
    let first = externals_are_apart names e f (spell_externals es rest) (spell_externals fs more) a.0 b.0 same in
    let others = rows_are_one es fs (after_external names e) rest more a.1 (subst (λ x. AreExternals (after_external names x) fs) (sym first.0) b.1) first.1 left in
    (ap (λ x. x ∷ es) first.0 ∙ ap (λ xs. f ∷ xs) others.0, others.1)

pub roots_are_unique : RootsAreUnique
roots_are_unique names es fs a b same = (rows_are_one es fs names [] [] a b same refl).0

pub longests_are_one : LongestsAreOne
longests_are_one names symbols es fs rest more a b =
    rows_are_one es fs names rest more a.front.formed b.front.formed (sym a.front.spelled ∙ b.front.spelled)
    (omega (arith, a.longest fs more b.front, b.longest es rest a.front))

pub reading_is_longest : ReadingIsLongest
reading_is_longest names symbols =
    let p = externals_from (length symbols) names [] symbols in
    let k = root_takes (length symbols) names [] symbols (omega (arith)) in
    subst (λ es. SpellLongest names symbols es p.1) (sym k.items) k.longest
