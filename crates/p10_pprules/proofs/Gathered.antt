-- Definitions and their names, one after the other.
use Rattle.std.proofs.Common.{◌≡◌, ℕ, ◌+◌, ◌<◌, ◌≤◌, List, [], ◌∷◌, ◌++◌, length, map, take, get_or, true, false, ◌||◌, bytes_eq, Option, Some, None, refl, sym, ◌∙◌, ap, subst, append-nil, ◌⊎◌, inl, inr}
use Rattle.std.specs.Prelude.{MatchBool}
use Rattle.std.specs.Option.{option_to_list}
use Rattle.std.specs.List.{Contains, list_any}
use Rattle.std.proofs.lemmas.List.{map-append, take_all}
use Rattle.std.proofs.lemmas.List.Folds.{list_any-append}
use Rattle.std.proofs.lemmas.List.Elements.{Contains-append_left, Contains-push, Contains-push_cases}
use Rattle.p10_base.specs.declared.word.Word.{Word}
use Rattle.p10_direct.specs.declared.keyword.Keyword.{Keyword}
use Rattle.p10_direct.specs.declared.keyword.Keyword.TheVariants.{Include, Define, Undef, If, Ifdef, Ifndef, Elif, Else, Endif, Pragma}
use Rattle.p10_direct.specs.declared.form.Definition.{Definition as Borrowed}
use Rattle.p10_direct.specs.Form.{plain_definition}
use Rattle.p10_base.specs.Words.{PlainWord, plain_word, Text, spellings_of}
use Rattle.p10_direct.specs.Directives.{Definition, Defines, IsDefinition}
use Rattle.p10_base.specs.Names.{with_name}
use Rattle.p10_base.proofs.Naming.{has_after}
use Rattle.p10_expand.specs.declared.expanded.Obeyed.{Obeyed}
use Rattle.p10_expand.specs.Obeying.{PlainObeyed}
use Rattle.p10_expand.specs.Answers.{plain_obeyed}
use Rattle.p10_pprules.specs.Lines.{name_of, operands_of}
use Rattle.p10_pprules.specs.private.Gathering.{AreDefined, GathersWords, Gathers, is_define}
use Rattle.p10_pprules.specs.private.Graphs.{HasNames}
use Rattle.p10_pprules.proofs.Booleans.{or_false}
use Rattle.p10_pprules.proofs.Members.{mapped_more}

pub words_gathered : (words : List PlainWord) (old new : List Definition) (found : Option Definition) → IsDefinition words found → new ≡ old ++ option_to_list found → GathersWords words old new
words_gathered words old new found is grown = record { found = found; is = is; grown = grown }

-- a directive that names `define`
is_named : (name : Option Keyword) → is_define name ≡ true → name ≡ Some Define
is_named None e = absurd cc
is_named (Some Include) e = absurd cc
is_named (Some Define) e = refl
is_named (Some Undef) e = absurd cc
is_named (Some If) e = absurd cc
is_named (Some Ifdef) e = absurd cc
is_named (Some Ifndef) e = absurd cc
is_named (Some Elif) e = absurd cc
is_named (Some Else) e = absurd cc
is_named (Some Endif) e = absurd cc
is_named (Some Pragma) e = absurd cc

-- the element of an option
of_option : (old : List Definition) (found : Option Definition) (d : Definition) → Contains (old ++ option_to_list found) d → Contains old d ⊎ (found ≡ Some d)
of_option old None d held = inl (subst (λ l. Contains l d) (append-nil old) held)
of_option old (Some x) d held = elim (Contains-push_cases old x d held) [ inl earlier ↦ inl earlier | inr is ↦ inr (ap Some is) ]

in_option : (old : List Definition) (found : Option Definition) (d : Definition) → found ≡ Some d → Contains (old ++ option_to_list found) d
in_option old found d e = subst (λ o. Contains (old ++ option_to_list o) d) (sym e) (Contains-push old d)

defined_by : (obeyed : List PlainObeyed) (line : PlainObeyed) (old new : List Definition) → AreDefined obeyed old → name_of line.words ≡ Some Define → GathersWords (operands_of line.words) old new → AreDefined (obeyed ++ line ∷ []) new
defined_by obeyed line old new before named gathers = λ d. (
  (λ held. elim (of_option old gathers.found d (subst (λ l. Contains l d) gathers.grown held)) [
    | inl earlier ↦ let h = (before d).0 earlier in record { line = h.line; held = Contains-append_left obeyed (line ∷ []) h.line h.held; named = h.named; defines = h.defines }
    | inr is ↦ record { line = line; held = Contains-push obeyed line; named = named; defines = (gathers.is d).1 is }
  ]),
  (λ h. subst (λ l. Contains l d) (sym gathers.grown) (elim (Contains-push_cases obeyed line h.line h.held) [
    | inl earlier ↦ Contains-append_left old (option_to_list gathers.found) d ((before d).1 (record { line = h.line; held = earlier; named = h.named; defines = h.defines }))
    | inr is ↦ in_option old gathers.found d ((gathers.is d).0 (subst (λ (l : PlainObeyed). Defines d (operands_of l.words)) (sym is) h.defines))
  ])),
)

not_defined : (obeyed : List PlainObeyed) (line : PlainObeyed) (old new : List Definition) → AreDefined obeyed old → (name_of line.words ≡ Some Define → ⊥) → new ≡ old → AreDefined (obeyed ++ line ∷ []) new
not_defined obeyed line old new before other same = λ d. (
  (λ held. let h = (before d).0 (subst (λ l. Contains l d) same held) in record { line = h.line; held = Contains-append_left obeyed (line ∷ []) h.line h.held; named = h.named; defines = h.defines }),
  (λ h. subst (λ l. Contains l d) (sym same) (elim (Contains-push_cases obeyed line h.line h.held) [
    | inl earlier ↦ (before d).1 (record { line = h.line; held = earlier; named = h.named; defines = h.defines })
    | inr is ↦ absurd (other (subst (λ (l : PlainObeyed). name_of l.words ≡ Some Define) (sym is) h.named))
  ])),
)

one_more : (obeyed : List PlainObeyed) (line : PlainObeyed) (old new : List Definition) → AreDefined obeyed old → Gathers line.words old new → AreDefined (obeyed ++ line ∷ []) new
one_more obeyed line old new before gathers =
    elim (is_define (name_of line.words)) as (λ b. is_define (name_of line.words) ≡ b → MatchBool b (GathersWords (operands_of line.words) old new) (new ≡ old) → AreDefined (obeyed ++ line ∷ []) new) [
      | true ↦ λ e gathers. defined_by obeyed line old new before (is_named (name_of line.words) e) gathers
      | false ↦ λ e same. not_defined obeyed line old new before (λ named. let other : is_define (name_of line.words) ≡ true = ap is_define named in absurd cc) same
    ] refl gathers

pub defined_more : (obeyed : List Obeyed) (i : ℕ) (d : Obeyed) (old new : List Definition) → i < length obeyed → AreDefined (map plain_obeyed (take i obeyed)) old → Gathers (map plain_word (get_or obeyed i d).words) old new
    → AreDefined (map plain_obeyed (take (i + 1) obeyed)) new
defined_more obeyed i d old new inside before gathers =
    subst (λ l. AreDefined l new) (sym (mapped_more plain_obeyed obeyed i d inside)) (one_more (map plain_obeyed (take i obeyed)) (plain_obeyed (get_or obeyed i d)) old new before gathers)

pub all_defined : (obeyed : List Obeyed) (i : ℕ) (definitions : List Definition) → length obeyed ≤ i → AreDefined (map plain_obeyed (take i obeyed)) definitions → AreDefined (map plain_obeyed obeyed) definitions
all_defined obeyed i definitions end before = subst (λ l. AreDefined (map plain_obeyed l) definitions) (take_all i obeyed end) before

-- ## Names

names_push : (definitions : List Definition) (definition : Definition) (names next : List Text) → HasNames definitions names → next ≡ with_name names definition.name.text → HasNames (definitions ++ definition ∷ []) next
names_push definitions definition names next before e = λ text.
    ap (list_any (bytes_eq text)) e ∙ has_after text definition.name.text names
    ∙ ap (λ b. b || bytes_eq text definition.name.text) (before text)
    ∙ ap (λ b. list_any (λ (d : Definition). bytes_eq text d.name.text) definitions || b) (sym (or_false (bytes_eq text definition.name.text)))
    ∙ sym (list_any-append (λ (d : Definition). bytes_eq text d.name.text) definitions (definition ∷ []))

pub names_more : (definitions : List Borrowed) (i : ℕ) (item : Borrowed) (names next : List Text) → i < length definitions → item ≡ get_or definitions i item → HasNames (map plain_definition (take i definitions)) names
    → next ≡ with_name names item.name.text.now → HasNames (map plain_definition (take (i + 1) definitions)) next
names_more definitions i item names next inside is before e =
    subst (λ l. HasNames l next) (sym (mapped_more plain_definition definitions i item inside ∙ ap (λ (d : Borrowed). map plain_definition (take i definitions) ++ plain_definition d ∷ []) (sym is)))
    (names_push (map plain_definition (take i definitions)) (plain_definition item) names next before e)

texts_push : (texts : List Text) (text : Text) (names next : List Text) → ((t : Text) → list_any (bytes_eq t) names ≡ list_any (bytes_eq t) texts) → next ≡ with_name names text
    → (t : Text) → list_any (bytes_eq t) next ≡ list_any (bytes_eq t) (texts ++ text ∷ [])
texts_push texts text names next before e t =
    ap (list_any (bytes_eq t)) e ∙ has_after t text names
    ∙ ap (λ b. b || bytes_eq t text) (before t)
    ∙ ap (λ b. list_any (bytes_eq t) texts || b) (sym (or_false (bytes_eq t text)))
    ∙ sym (list_any-append (bytes_eq t) texts (text ∷ []))

pub texts_more : (words : List Word) (i : ℕ) (d : Word) (names next : List Text) → i < length words → ((t : Text) → list_any (bytes_eq t) names ≡ list_any (bytes_eq t) (spellings_of (map plain_word (take i words))))
    → next ≡ with_name names (get_or words i d).text.now → (t : Text) → list_any (bytes_eq t) next ≡ list_any (bytes_eq t) (spellings_of (map plain_word (take (i + 1) words)))
texts_more words i d names next inside before e t =
    let front = map plain_word (take i words) in
    let last = plain_word (get_or words i d) in
    texts_push (spellings_of front) last.text names next before e t
    ∙ ap (list_any (bytes_eq t)) (sym (ap spellings_of (mapped_more plain_word words i d inside) ∙ map-append (λ (word : PlainWord). word.text) front (last ∷ [])))
