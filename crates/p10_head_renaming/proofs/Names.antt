-- The names that trees declare outside of functions stand one after the other.
use Rattle.std.proofs.Common.{◌≡◌, ℕ, ◌+◌, ◌≤◌, List, [], ◌∷◌, ◌++◌, length, Option, Some, None, refl, sym, ap, ◌∙◌, subst, arith, length-append}
use Rattle.std.proofs.lemmas.List.{length-map}
use Rattle.p10_base.specs.declared.at.At.{At}
use Rattle.p10_base.specs.Words.{PlainWord}
use Rattle.p10_syn.specs.Symbols.{symbol_of}
use Rattle.p10_syn.specs.Spelling.{spell_externals}
use Rattle.p10_syn.specs.Spells.{SpellsFrom}
use Rattle.p10_syn.specs.Bare.{bare_externals}
use Rattle.p10_syn.specs.Counts.{count_specifiers, count_declarator, count_initial, count_init_declarator, count_more_declarators, count_declarators, count_declaration, count_statements, count_head, count_definition, count_external}
use Rattle.p10_syn.specs.Places.{Source, locate_declarator, locate_init_declarator, locate_init_declarators, locate_declaration, locate_definition, locate_external, locate_externals}
use Rattle.p10_syn.specs.Trees.{Bare, Identifier, Declarator, Named, Unnamed, Pointer, Parenthesised, Array, Function, InitDeclarator, Definition, External, Outer, Defines}
use Rattle.p10_place.proofs.Counting.{counts_external}
use Rattle.p10_elabd.specs.declared.site.Storage.{Storage}
use Rattle.p10_elabd.specs.declared.site.Storage.TheVariants as storage_is
use Rattle.p10_elabd.specs.Words.{storage_of}
use Rattle.p10_elabd.specs.Shapes.{name_in}
use Rattle.p10_heads.specs.Heads.{Outline, outline_of, outlines_of, outlines_by, definition_outline, outlines_in, outlines}
use Rattle.p10_digests.specs.Lines.{all_words}
use Rattle.p10_spelling_laws.proofs.Parting.{place_first}
use Rattle.p10_head_renaming.specs.Ascending.{Ascend, numbers_of, name_numbers}
use Rattle.p10_head_renaming.specs.Laws.{NamesAscend}
use Rattle.p10_head_renaming.proofs.Ascending.{lower, raise, one_after}
use Rattle.p10_head_renaming.proofs.Numbers.{numbers_append, outlines_append}

-- ## Declarators

-- a name, if there is one, stands from one number on and before another
abbrev IsWithin : ℕ → Option (Identifier At) → ℕ → Type 0
IsWithin low None high = low ≤ high
IsWithin low (Some x) high = (low ≤ x.place.first) × (x.place.first + 1 ≤ high)

wider : (low high from to : ℕ) (name : Option (Identifier At)) → from ≤ low → high ≤ to → IsWithin low name high → IsWithin from name to
wider low high from to None less more is = omega (arith, less, more, is)
wider low high from to (Some x) less more is = (omega (arith, less, is.0), omega (arith, more, is.1))

declarator_within : (d : Declarator Bare) (s : Source) (n : ℕ) → s.before + (n + count_declarator d) ≤ 4294967295 → IsWithin (s.before + n) (name_in (locate_declarator s n d)) (s.before + (n + count_declarator d))
declarator_within (Named x) s n small = let first = place_first s n 1 (omega (arith, small)) in (omega (arith, first), omega (arith, first))
declarator_within (Unnamed p) s n small = omega arith
declarator_within (Pointer p qs d) s n small =
    wider (s.before + (n + 1 + length qs)) (s.before + (n + 1 + length qs + count_declarator d)) (s.before + n) (s.before + (n + count_declarator (Pointer p qs d))) (name_in (locate_declarator s (n + 1 + length qs) d)) (omega arith) (omega arith) (declarator_within d s (n + 1 + length qs) (omega (arith, small)))
declarator_within (Parenthesised p d) s n small =
    wider (s.before + (n + 1)) (s.before + (n + 1 + count_declarator d)) (s.before + n) (s.before + (n + count_declarator (Parenthesised p d))) (name_in (locate_declarator s (n + 1) d)) (omega arith) (omega arith) (declarator_within d s (n + 1) (omega (arith, small)))
declarator_within (Array p d b size) s n small =
    wider (s.before + n) (s.before + (n + count_declarator d)) (s.before + n) (s.before + (n + count_declarator (Array p d b size))) (name_in (locate_declarator s n d)) (omega arith) (omega arith) (declarator_within d s n (omega (arith, small)))
declarator_within (Function p d b ps dots) s n small =
    wider (s.before + n) (s.before + (n + count_declarator d)) (s.before + n) (s.before + (n + count_declarator (Function p d b ps dots))) (name_in (locate_declarator s n d)) (omega arith) (omega arith) (declarator_within d s n (omega (arith, small)))

outline_ascends : (storage : Storage) (d : InitDeclarator At) (name : Option (Identifier At)) (low high : ℕ) → IsWithin low name high → Ascend low (numbers_of (outline_of storage d name)) high
outline_ascends storage d None low high is = is
outline_ascends storage d (Some x) low high is = is

definition_ascends : (d : Definition At) (name : Option (Identifier At)) (low high : ℕ) → IsWithin low name high → Ascend low (numbers_of (definition_outline d name)) high
definition_ascends d None low high is = is
definition_ascends d (Some x) low high is = is

-- ## Declarations

one_declarator : (storage : Storage) (s : Source) (d : InitDeclarator Bare) (n : ℕ) → s.before + (n + count_init_declarator d) ≤ 4294967295
    → Ascend (s.before + n) (numbers_of (outline_of storage (locate_init_declarator s n d) (name_in (locate_declarator s n d.declarator)))) (s.before + (n + count_init_declarator d))
one_declarator storage s d n small =
    let all : count_init_declarator d ≡ count_declarator d.declarator + count_initial d.initial = refl in
    outline_ascends storage (locate_init_declarator s n d) (name_in (locate_declarator s n d.declarator)) (s.before + n) (s.before + (n + count_init_declarator d))
    (wider (s.before + n) (s.before + (n + count_declarator d.declarator)) (s.before + n) (s.before + (n + count_init_declarator d)) (name_in (locate_declarator s n d.declarator)) (omega arith) (omega (arith, all)) (declarator_within d.declarator s n (omega (arith, small, all))))

declarators_ascend : (storage : Storage) (s : Source) (ds : List (InitDeclarator Bare)) (n : ℕ) → s.before + (n + count_declarators ds) ≤ 4294967295
    → Ascend (s.before + n) (numbers_of (outlines_of storage (locate_init_declarators s n ds))) (s.before + (n + count_declarators ds))
declarators_ascend storage s [] n small = omega arith
declarators_ascend storage s (d ∷ []) n small =
    let one : List Outline = outline_of storage (locate_init_declarator s n d) (name_in (locate_declarator s n d.declarator)) in
    let last : numbers_of (one ++ []) ≡ numbers_of one ++ [] = numbers_append one [] in
    subst (λ numbers. Ascend (s.before + n) numbers (s.before + (n + (count_init_declarator d + 1)))) (sym last)
    (one_after (s.before + n) (numbers_of one) (s.before + (n + count_init_declarator d)) [] (s.before + (n + (count_init_declarator d + 1))) (one_declarator storage s d n (omega (arith, small))) (omega arith))
declarators_ascend storage s (d ∷ (e ∷ ds)) n small =
    let one : List Outline = outline_of storage (locate_init_declarator s n d) (name_in (locate_declarator s n d.declarator)) in
    let next : ℕ = n + count_init_declarator d + 1 in
    let rest : List Outline = outlines_of storage (locate_init_declarators s next (e ∷ ds)) in
    let total : count_declarators (d ∷ (e ∷ ds)) ≡ count_init_declarator d + (1 + count_init_declarator e + count_more_declarators ds) = refl in
    let others : count_declarators (e ∷ ds) ≡ count_init_declarator e + count_more_declarators ds = refl in
    subst (λ numbers. Ascend (s.before + n) numbers (s.before + (n + count_declarators (d ∷ (e ∷ ds))))) (sym (numbers_append one rest))
    (one_after (s.before + n) (numbers_of one) (s.before + (n + count_init_declarator d)) (numbers_of rest) (s.before + (n + count_declarators (d ∷ (e ∷ ds)))) (one_declarator storage s d n (omega (arith, small, total)))
    (lower (s.before + (n + count_init_declarator d)) (s.before + next) (numbers_of rest) (s.before + (n + count_declarators (d ∷ (e ∷ ds)))) (omega arith)
    (raise (s.before + next) (numbers_of rest) (s.before + (next + count_declarators (e ∷ ds))) (s.before + (n + count_declarators (d ∷ (e ∷ ds)))) (omega (arith, total, others)) (declarators_ascend storage s (e ∷ ds) next (omega (arith, small, total, others))))))

by_storage : (storage : Storage) (s : Source) (ds : List (InitDeclarator Bare)) (n : ℕ) → s.before + (n + count_declarators ds) ≤ 4294967295
    → Ascend (s.before + n) (numbers_of (outlines_by storage (locate_init_declarators s n ds))) (s.before + (n + count_declarators ds))
by_storage storage_is.Typedef s ds n small = omega arith
by_storage storage_is.Unnamed s ds n small = declarators_ascend storage_is.Unnamed s ds n small
by_storage storage_is.Extern s ds n small = declarators_ascend storage_is.Extern s ds n small
by_storage storage_is.Static s ds n small = declarators_ascend storage_is.Static s ds n small

-- ## Roots

external_ascends : (e : External Bare) (s : Source) (n : ℕ) → s.before + (n + count_external e) ≤ 4294967295
    → Ascend (s.before + n) (numbers_of (outlines_in (locate_external s n e))) (s.before + (n + count_external e))
external_ascends (Outer p d) s n small =
    let all : count_declaration d ≡ count_specifiers d.specifiers + count_declarators d.declarators = refl in
    let numbers : List ℕ = numbers_of (outlines_by (storage_of (locate_declaration s n d).specifiers) (locate_init_declarators s (n + count_specifiers d.specifiers) d.declarators)) in
    lower (s.before + n) (s.before + (n + count_specifiers d.specifiers)) numbers (s.before + (n + count_declaration d)) (omega arith)
    (raise (s.before + (n + count_specifiers d.specifiers)) numbers (s.before + (n + count_specifiers d.specifiers + count_declarators d.declarators)) (s.before + (n + count_declaration d)) (omega (arith, all))
    (by_storage (storage_of (locate_declaration s n d).specifiers) s d.declarators (n + count_specifiers d.specifiers) (omega (arith, small, all))))
external_ascends (Defines d) s n small =
    let all : count_definition d ≡ count_head d + 1 + count_statements d.body + 1 = refl in
    let head : count_head d ≡ count_specifiers d.specifiers + count_declarator d.declarator = refl in
    definition_ascends (locate_definition s n d) (name_in (locate_declarator s (n + count_specifiers d.specifiers) d.declarator)) (s.before + n) (s.before + (n + count_definition d))
    (wider (s.before + (n + count_specifiers d.specifiers)) (s.before + (n + count_specifiers d.specifiers + count_declarator d.declarator)) (s.before + n) (s.before + (n + count_definition d)) (name_in (locate_declarator s (n + count_specifiers d.specifiers) d.declarator)) (omega arith) (omega (arith, all, head))
    (declarator_within d.declarator s (n + count_specifiers d.specifiers) (omega (arith, small, all, head))))

externals_ascend : (es : List (External Bare)) (s : Source) (n high : ℕ) → length (spell_externals es []) + n ≡ high → s.before + high ≤ 4294967295
    → Ascend (s.before + n) (name_numbers (locate_externals s n es)) (s.before + high)
externals_ascend [] s n high end small = omega (arith, end)
externals_ascend (e ∷ es) s n high end small =
    let count : length (spell_externals (e ∷ es) []) ≡ count_external e + length (spell_externals es []) = counts_external e (spell_externals es []) in
    let one : List Outline = outlines_in (locate_external s n e) in
    let rest : List Outline = outlines (locate_externals s (n + count_external e) es) in
    subst (λ numbers. Ascend (s.before + n) numbers (s.before + high)) (sym (numbers_append one rest))
    (one_after (s.before + n) (numbers_of one) (s.before + (n + count_external e)) (numbers_of rest) (s.before + high) (external_ascends e s n (omega (arith, end, count, small)))
    (externals_ascend es s (n + count_external e) high (omega (arith, end, count)) small))

roots_ascend : (number : ℕ) (roots : List (List PlainWord)) (trees : List (External At)) → SpellsFrom number roots trees → number + length (all_words roots) ≤ 4294967295
    → Ascend number (name_numbers trees) (number + length (all_words roots))
roots_ascend number [] trees spells small = subst (λ (ts : List (External At)). Ascend number (name_numbers ts) (number + 0)) (sym spells) (omega arith)
roots_ascend number (words ∷ roots) trees (these, others, whole, root, more) small =
    let source : Source = record { words = words; before = number } in
    let long : length (spell_externals (bare_externals these) []) ≡ length words = ap length (sym root.spelled) ∙ length-map words symbol_of in
    let all = length-append words (all_words roots) in
    let here = externals_ascend (bare_externals these) source 0 (length words) (omega (arith, long)) (omega (arith, small, all)) in
    let placed = subst (λ (ts : List (External At)). Ascend (number + 0) (name_numbers ts) (number + length words)) (sym root.placed) here in
    let rest = roots_ascend (number + length words) roots others more (omega (arith, small, all)) in
    subst (λ (ts : List (External At)). Ascend number (name_numbers ts) (number + length (words ++ all_words roots))) (sym whole)
    (subst (λ numbers. Ascend number numbers (number + length (words ++ all_words roots))) (sym (ap numbers_of (outlines_append these others) ∙ numbers_append (outlines these) (outlines others)))
    (one_after number (name_numbers these) (number + length words) (name_numbers others) (number + length (words ++ all_words roots)) (lower number (number + 0) (name_numbers these) (number + length words) (omega arith) placed)
    (raise (number + length words) (name_numbers others) (number + length words + length (all_words roots)) (number + length (words ++ all_words roots)) (omega (arith, all)) rest)))

pub names_ascend : NamesAscend
names_ascend roots trees spells small =
    raise 0 (name_numbers trees) (0 + length (all_words roots)) (length (all_words roots)) (omega arith) (roots_ascend 0 roots trees spells (omega (arith, small)))
