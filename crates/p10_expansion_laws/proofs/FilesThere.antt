-- Where files are told, it is decided what is at a place, and each text has words, a refusal or too many bytes or words.
use Rattle.std.proofs.Common.{◌≡◌, ℕ, zero, suc, ◌<◌, ◌≤◌, List, [], ◌∷◌, length, map, Bool, true, false, refl, sym, ◌∙◌, ap, subst, inl, inr, ◌⊎◌, arith, Option, Some, None, Ok, Err}
use Rattle.std.specs.Prelude.{All, IsSome, bytes_eq}
use Rattle.std.proofs.lemmas.Bool.{both_ways, cases_order}
use Rattle.std.proofs.lemmas.Option.{none-some}
use Rattle.std.proofs.lemmas.Slice.Eq.{bytes_eq-Decides}
use Rattle.std.proofs.lemmas.List.Elements.{All-nil, All-cons}
use Rattle.p10_base.specs.declared.report.Refusal.{Refusal}
use Rattle.p10_base.specs.declared.report.Limit.{Limit}
use Rattle.p10_base.specs.declared.report.TheConstants.Limit.{FILE_BYTES, FILE_WORDS, MOST_FILE_BYTES, MOST_FILE_WORDS, MOST_FILES}
use Rattle.p10_base.specs.Words.{PlainWord, place_of_word}
use Rattle.p10_world.specs.Files.{Named}
use Rattle.p10_world.specs.Files as world
use Rattle.p10_lex.specs.declared.fault.LexFault.TheVariants as lexing
use Rattle.p10_lex.specs.Lexes.{HasWordsOrOneRefusal, Answers}
use Rattle.p10_lex.proofs.Uniqueness.{words_or_refusal}
use Rattle.p10_direct.specs.Lines.{Piece, DirectiveLine, TextRun}
use Rattle.p10_direct.specs.Directives.{Include, Outcome, Read, IsOutcome, Spells, OneOutcome}
use Rattle.p10_direct.proofs.Outcomes.{one_outcome}
use Rattle.p10_expand.specs.declared.place.Include.{Include as Wanted}
use Rattle.p10_expand.specs.declared.place.Place.{Place}
use Rattle.p10_expand.specs.declared.place.Place.TheVariants.{File, Header}
use Rattle.p10_expand.specs.declared.gathering.Known.{Known}
use Rattle.p10_expand.specs.Headers.{header_of}
use Rattle.p10_expand.specs.Finding.{HasText, IsThere, IsAbsent, IsFirst}
use Rattle.p10_expand.specs.Includes.{IsNamedBy, NamedIn, HasIncludes}
use Rattle.p10_expand.specs.Gathering.{IsAt, IsNew, present, HasRoom}
use Rattle.p10_expand.proofs.WordPlaces.{words_placed}
use Rattle.p10_expansion_laws.proofs.PartsThere.{cut_there}

-- ## Places

some_or_none : {A : Type 0} (o : Option A) → IsSome o ⊎ (o ≡ None)
some_or_none (Some x) = inl refl
some_or_none None = inr refl

-- a file is at a place, or none is
there_or_absent : (held : Option (List Named)) → IsSome held → (place : Place) → IsThere held place ⊎ IsAbsent held place
there_or_absent held told (Header name) = some_or_none (header_of name)
there_or_absent None told (File name) = absurd (both_ways false refl told)
there_or_absent (Some files) told (File name) = some_or_none (world.file_of name files)

-- the first of places at which there is a file, or there is one at none
pub first_or_none : (held : Option (List Named)) → IsSome held → (places : List Place) → ((place : Place) × IsFirst held places place) ⊎ All (IsAbsent held) places
first_or_none held told [] = inr (All-nil (IsAbsent held))
first_or_none held told (place ∷ places) =
    elim (there_or_absent held told place) [
      | inl there ↦ inl (place, record { front = []; back = places; parts = refl; none = All-nil (IsAbsent held); there = there })
      | inr absent ↦ elim (first_or_none held told places) [
        | inl found ↦ inl (
          found.0,
          record {
            front = place ∷ found.1.front;
            back = found.1.back;
            parts = ap (λ ps. place ∷ ps) found.1.parts;
            none = All-cons (IsAbsent held) place found.1.front absent found.1.none;
            there = found.1.there;
          },
        )
        | inr none ↦ inr (All-cons (IsAbsent held) place places absent none)
      ]
    ]

value_there : {A : Type 0} (o : Option A) → IsSome o → (x : A) × (o ≡ Some x)
value_there (Some x) some = (x, refl)
value_there None some = absurd (both_ways false refl some)

-- what is at a place has a text
pub text_at : (held : Option (List Named)) → IsSome held → (place : Place) → IsThere held place → (text : List ℕ) × HasText held place text
text_at held told (Header name) there = value_there (header_of name) there
text_at None told (File name) there = absurd (both_ways false refl told)
text_at (Some files) told (File name) there = value_there (world.file_of name files) there

-- ## Gathered files

same_bytes : (a b : List ℕ) (equal : Bool) → bytes_eq a b ≡ equal → (a ≡ b) ⊎ (a ≡ b → ⊥)
same_bytes a b true e = inl ((bytes_eq-Decides a b).0 e)
same_bytes a b false e = inr (λ same. both_ways (bytes_eq a b) e ((bytes_eq-Decides a b).1 same))

file_name : Place → List ℕ
file_name (File name) = name
file_name (Header name) = name

same_place : (a b : Place) → (a ≡ b) ⊎ (a ≡ b → ⊥)
unfolding file_name
same_place (File a) (File b) = elim (same_bytes a b (bytes_eq a b) refl) [ inl same ↦ inl (ap File same) | inr apart ↦ inr (λ e. apart (ap file_name e)) ]
same_place (Header a) (Header b) = elim (same_bytes a b (bytes_eq a b) refl) [ inl same ↦ inl (ap Header same) | inr apart ↦ inr (λ e. apart (ap file_name e)) ]
same_place (File a) (Header b) = inr (λ e. absurd cc)
same_place (Header a) (File b) = inr (λ e. absurd cc)

new_more : (first : Known) (known : List Known) (place : Place) → (first.place ≡ place → ⊥) → IsNew known place → IsNew (first ∷ known) place
new_more first known place apart new zero at = apart at.place_of
new_more first known place apart new (suc number) at = new number (record { held = omega (arith, at.held); place_of = at.place_of })

-- a file at a place was gathered, or none was
pub met_or_new : (known : List Known) (place : Place) → ((number : ℕ) × IsAt known place number) ⊎ IsNew known place
met_or_new [] place = inr (λ number at. omega (arith, at.held))
met_or_new (first ∷ known) place =
    elim (same_place first.place place) [
      | inl same ↦ inl (0, record { held = omega arith; place_of = same })
      | inr apart ↦ elim (met_or_new known place) [
        | inl met ↦ inl (suc met.0, record { held = omega (arith, met.1.held); place_of = met.1.place_of })
        | inr new ↦ inr (new_more first known place apart new)
      ]
    ]

-- there is room for a file, or it is one too many
pub room_or_full : (known : List Known) (place : Place) → HasRoom known place ⊎ ((name : List ℕ) × (place ≡ File name) × (MOST_FILES ≤ present known))
room_or_full known (Header name) = inl tt
room_or_full known (File name) =
    elim (cases_order (present known) MOST_FILES) [
      | inl same ↦ inr (name, refl, omega (arith, same))
      | inr apart ↦ elim apart [ inl less ↦ inl less | inr more ↦ inr (name, refl, omega (arith, more)) ]
    ]

-- ## Texts

-- what lexing answers
abbrev pub IsLexed : ℕ → List ℕ → Type 0
IsLexed number text =
    ((words : List PlainWord) × Answers number text (Ok words)) ⊎ ((refusal : Refusal) × Answers number text (Err (lexing.Refused refusal))) ⊎ ((limit : Limit) × Answers number text (Err (lexing.Over limit)))

few_or_many : (count most : ℕ) → (count ≤ most) ⊎ (most < count)
few_or_many count most =
    elim (cases_order count most) [
      | inl same ↦ inl (omega (arith, same))
      | inr apart ↦ elim apart [ inl less ↦ inl (omega (arith, less)) | inr more ↦ inr more ]
    ]

words_lexed : (number : ℕ) (text : List ℕ) → length text ≤ MOST_FILE_BYTES → HasWordsOrOneRefusal number text → IsLexed number text
words_lexed number text short (inl (words, lexes)) =
    elim (few_or_many (length words) MOST_FILE_WORDS) [
      | inl few ↦ inl (words, (short, few, lexes))
      | inr many ↦ inr (inr (FILE_WORDS, inr (refl, short, words, many, inl lexes)))
    ]
words_lexed number text short (inr (refusal, before, refuses, one, none)) =
    elim (few_or_many (length before) MOST_FILE_WORDS) [
      | inl few ↦ inr (inl (refusal, (short, before, few, refuses)))
      | inr many ↦ inr (inr (FILE_WORDS, inr (refl, short, before, many, inr (refusal, refuses))))
    ]

-- each text is lexed
pub lexed_there : (number : ℕ) (text : List ℕ) → IsLexed number text
lexed_there number text =
    elim (few_or_many (length text) MOST_FILE_BYTES) [
      | inl short ↦ words_lexed number text short (words_or_refusal number text)
      | inr long ↦ inr (inr (FILE_BYTES, inl (refl, long)))
    ]

-- ## Include lines

-- what a line includes, by its outcome
wanted_of : Outcome → Option Wanted
wanted_of (Read (Include name angle)) = Some (record { name = name; angle = angle })
wanted_of _ = None

wanted_spelled : (line : List PlainWord) (outcome : Outcome) (wanted : Wanted) → IsOutcome line outcome → wanted_of outcome ≡ Some wanted → Spells (Include wanted.name wanted.angle) line
unfolding wanted_of
wanted_spelled line (Read (Include name angle)) wanted is e =
    let named : name ≡ wanted.name = cc in
    let angled : angle ≡ wanted.angle = cc in
    subst (λ n. Spells (Include n wanted.angle) line) named (subst (λ a. Spells (Include name a) line) angled is)
wanted_spelled line _ wanted is e = absurd (none-some _ e)

none_wanted : (line : List PlainWord) (one : OneOutcome line) → wanted_of one.outcome ≡ None → IsNamedBy line None
unfolding wanted_of
none_wanted line one e name angle spells = none-some _ (sym (ap wanted_of (one.only (Read (Include name angle)) spells) ∙ e))

named_by : (line : List PlainWord) (one : OneOutcome line) (pieces : List Piece) (wanted : Option Wanted) → wanted_of one.outcome ≡ wanted → (includes : List Wanted) × NamedIn pieces includes → (includes : List Wanted) × NamedIn (DirectiveLine line ∷ pieces) includes
named_by line one pieces None e (includes, named) = (includes, inl (none_wanted line one e, named))
named_by line one pieces (Some wanted) e (includes, named) = (wanted ∷ includes, inr (wanted, includes, wanted_spelled line one.outcome wanted one.is_outcome e, refl, named))

named_there : (pieces : List Piece) → (includes : List Wanted) × NamedIn pieces includes
named_there [] = ([], refl)
named_there (TextRun words ∷ pieces) = named_there pieces
named_there (DirectiveLine line ∷ pieces) = named_by line (one_outcome line) pieces (wanted_of (one_outcome line).outcome) refl (named_there pieces)

-- a text that has words has include lines
pub includes_there : (number : ℕ) (text : List ℕ) (words : List PlainWord) → Answers number text (Ok words) → (includes : List Wanted) × HasIncludes number text (map place_of_word words) includes
includes_there number text words lexes =
    let (pieces, cut) = cut_there words in
    let (includes, named) = named_there pieces in
    (includes, words_placed number text words includes lexes (record { pieces = pieces; cut = cut; named = named }))
