-- Trees that spell the words of an expansion define functions by names of C.
use Rattle.std.proofs.Common.{◌≡◌, ℕ, ◌+◌, true, List, [], ◌∷◌, ◌++◌, length, Option, Some, None, refl, sym, subst}
use Rattle.std.specs.Prelude.{All}
use Rattle.std.specs.List.{AllByRecursion}
use Rattle.std.proofs.lemmas.List.Elements.{All-head, All-tail, All-weaker}
use Rattle.p10_base.specs.declared.at.At.{At}
use Rattle.p10_base.specs.declared.word.Kind.{Kind}
use Rattle.p10_base.specs.declared.word.Kind.TheVariants as kind
use Rattle.p10_base.specs.Words.{Text, PlainWord}
use Rattle.p10_syn.specs.declared.sign.Sign.{Sign}
use Rattle.p10_syn.specs.Signs.{keywords, punctuators, sign_among}
use Rattle.p10_syn.specs.Symbols.{Symbol, name_or, punctuator_or, symbol_in, symbol_of, symbols_of}
use Rattle.p10_syn.specs.Symbols as symbol
use Rattle.p10_syn.specs.Trees.{External, Outer, Defines}
use Rattle.p10_syn.specs.Spells.{SpellsFrom}
use Rattle.p10_cert.specs.Lines.{is_name}
use Rattle.p10_expand.proofs.PlainAnswers.{WordComes, words_come}
use Rattle.p10_names.specs.Defining.{HasName}
use Rattle.p10_names.specs.Laws.{DefinitionsHaveNames}
use Rattle.p10_names.proofs.Definitions.{NameIs, names_are}
use Rattle.p10_names.proofs.Words.{NameIsGood, word_named}

-- a symbol that is a name is one of C
abbrev IsGood : Symbol → Type 0
IsGood (symbol.Name text) = is_name text ≡ true
IsGood (symbol.Number text) = Unit {0}
IsGood (symbol.Character text) = Unit {0}
IsGood (symbol.String text) = Unit {0}
IsGood (symbol.Fixed s) = Unit {0}
IsGood (symbol.Pragma text) = Unit {0}
IsGood (symbol.Other text) = Unit {0}

name_good : (text : Text) (o : Option Sign) → is_name text ≡ true → IsGood (name_or text o)
name_good text None h = h
name_good text (Some s) h = tt

sign_good : (text : Text) (o : Option Sign) → IsGood (punctuator_or text o)
sign_good text None = tt
sign_good text (Some s) = tt

kind_good : (k : Kind) (text : Text) → (k ≡ kind.Name → is_name text ≡ true) → IsGood (symbol_in k text)
unfolding symbol_in
kind_good kind.Name text h = name_good text (sign_among keywords text) (h refl)
kind_good kind.Number text h = tt
kind_good kind.Char text h = tt
kind_good kind.Str text h = tt
kind_good kind.Punct text h = sign_good text (sign_among punctuators text)
kind_good kind.Mark text h = tt

symbols_good : (words : List PlainWord) → All NameIsGood words → AllByRecursion IsGood (symbols_of words)
symbols_good [] h = tt
symbols_good (w ∷ words) h = (kind_good w.kind w.text (All-head NameIsGood w words h), symbols_good words (All-tail NameIsGood w words h))

has_name : (e : External At) → NameIs IsGood e → HasName e
has_name (Outer at d) h = tt
has_name (Defines d) h = h

have_names : (trees : List (External At)) → AllByRecursion (NameIs IsGood) trees → AllByRecursion HasName trees
have_names [] h = tt
have_names (e ∷ es) h = (has_name e h.0, have_names es h.1)

both_have : (xs ys : List (External At)) → AllByRecursion HasName xs → AllByRecursion HasName ys → AllByRecursion HasName (xs ++ ys)
both_have [] ys h k = k
both_have (x ∷ xs) ys h k = (h.0, both_have xs ys h.1 k)

-- roots, one after the other
roots_named : (before : ℕ) (roots : List (List PlainWord)) (trees : List (External At)) → All (λ (words : List PlainWord). All NameIsGood words) roots → SpellsFrom before roots trees → AllByRecursion HasName trees
roots_named before [] trees h s = subst (AllByRecursion HasName) (sym s) tt
roots_named before (words ∷ roots) trees h (these, others, parts, root, rest) =
    subst (AllByRecursion HasName) (sym parts)
    (both_have these others (have_names these (names_are IsGood these [] (subst (AllByRecursion IsGood) root.spelled (symbols_good words (All-head (λ (ws : List PlainWord). All NameIsGood ws) words roots h)))))
    (roots_named (before + length words) roots others (All-tail (λ (ws : List PlainWord). All NameIsGood ws) words roots h) rest))

pub definitions_have_names : DefinitionsHaveNames
definitions_have_names g expansion trees to spells =
    roots_named 0 expansion.roots trees
    (All-weaker (λ (words : List PlainWord). All (WordComes g) words) (λ (words : List PlainWord). All NameIsGood words) (λ words. All-weaker (WordComes g) NameIsGood (λ word h. word_named g word h.comes) words) expansion.roots (words_come g expansion to)) spells
