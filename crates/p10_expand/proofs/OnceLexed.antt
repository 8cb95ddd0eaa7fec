-- A text has one list of include lines, or one refusal, or exceeds one limit.
use Rattle.std.proofs.Common.{◌≡◌, ◌≢◌, ℕ, List, [], ◌∷◌, Bool, sym, ◌∙◌, ap, subst, inl, inr}
use Rattle.std.specs.Prelude.{Result, Ok, Err}
use Rattle.p10_base.specs.declared.report.Refusal.{Refusal}
use Rattle.p10_base.specs.declared.report.Limit.{Limit}
use Rattle.p10_lex.specs.declared.fault.LexFault.{LexFault}
use Rattle.p10_lex.specs.declared.fault.LexFault.TheVariants.{Refused, Over, Memory}
use Rattle.p10_base.specs.declared.word.WordPlace.{WordPlace}
use Rattle.p10_base.specs.Words.{PlainWord, words_at}
use Rattle.p10_lex.specs.Lexes.{Answers}
use Rattle.p10_lex.proofs.Uniqueness.{same_words, same_answer}
use Rattle.p10_direct.specs.Lines.{Piece, DirectiveLine, TextRun, AreCut}
use Rattle.p10_direct.specs.Directives.{Include, Spells, Read}
use Rattle.p10_direct.proofs.Cuts.{cut_once}
use Rattle.p10_direct.proofs.Outcomes.{one_outcome}
use Rattle.p10_expand.specs.declared.place.Include.{Include as Wanted}
use Rattle.p10_expand.specs.Includes.{NamedIn, HasIncludes}

-- ## Answers of lexing

abbrev Lexed : Type 0
Lexed = Result (List PlainWord) LexFault

abbrev words_are : List PlainWord → Lexed
words_are words = Ok words

abbrev refused_by : Refusal → Lexed
refused_by refusal = Err (Refused refusal)

abbrev passing : Limit → Lexed
passing limit = Err (Over limit)

abbrev wanting : Lexed
wanting = Err Memory

words_there : (words : List PlainWord) → words_are words ≢ wanting
words_there words = λ same. cc

refusal_there : (refusal : Refusal) → refused_by refusal ≢ wanting
refusal_there refusal = λ same. cc

limit_there : (limit : Limit) → passing limit ≢ wanting
limit_there limit = λ same. cc

same_refusal : (r q : Refusal) → refused_by r ≡ refused_by q → r ≡ q
same_refusal r q same = cc

same_limit : (l m : Limit) → passing l ≡ passing m → l ≡ m
same_limit l m same = cc

words_apart : (words : List PlainWord) (refusal : Refusal) → words_are words ≡ refused_by refusal → ⊥
words_apart words refusal same = cc

words_below : (words : List PlainWord) (limit : Limit) → words_are words ≡ passing limit → ⊥
words_below words limit same = cc

refusal_below : (refusal : Refusal) (limit : Limit) → refused_by refusal ≡ passing limit → ⊥
refusal_below refusal limit same = cc

-- a text has one refusal
pub refusal_once : (number : ℕ) (text : List ℕ) (r q : Refusal) → Answers number text (Err (Refused r)) → Answers number text (Err (Refused q)) → r ≡ q
refusal_once number text r q is are =
    same_refusal r q (same_answer number text (refused_by r) (refused_by q) (refusal_there r) (refusal_there q) is are)

-- a text exceeds one limit
pub limit_once : (number : ℕ) (text : List ℕ) (l m : Limit) → Answers number text (Err (Over l)) → Answers number text (Err (Over m)) → l ≡ m
limit_once number text l m is are =
    same_limit l m (same_answer number text (passing l) (passing m) (limit_there l) (limit_there m) is are)

pub refused_or_over : (number : ℕ) (text : List ℕ) (refusal : Refusal) (limit : Limit) → Answers number text (Err (Refused refusal)) → Answers number text (Err (Over limit)) → ⊥
refused_or_over number text refusal limit is are =
    refusal_below refusal limit (same_answer number text (refused_by refusal) (passing limit) (refusal_there refusal) (limit_there limit) is are)

pub included_or_refused : (number : ℕ) (text : List ℕ) (places : List WordPlace) (includes : List Wanted) (refusal : Refusal) → HasIncludes number text places includes → Answers number text (Err (Refused refusal)) → ⊥
included_or_refused number text places includes refusal has are =
    words_apart (words_at number text places) refusal (same_answer number text (words_are (words_at number text places)) (refused_by refusal) (words_there (words_at number text places)) (refusal_there refusal) has.lexes are)

pub included_or_over : (number : ℕ) (text : List ℕ) (places : List WordPlace) (includes : List Wanted) (limit : Limit) → HasIncludes number text places includes → Answers number text (Err (Over limit)) → ⊥
included_or_over number text places includes limit has are =
    words_below (words_at number text places) limit (same_answer number text (words_are (words_at number text places)) (passing limit) (words_there (words_at number text places)) (limit_there limit) has.lexes are)

-- ## Include lines

same_include : (n m : List ℕ) (a b : Bool) → Read (Include n a) ≡ Read (Include m b) → (n ≡ m) × (a ≡ b)
same_include n m a b same = (cc, cc)

-- a line includes one name
included_once : (line : List PlainWord) (include other : Wanted) → Spells (Include include.name include.angle) line → Spells (Include other.name other.angle) line → include ≡ other
included_once line include other is are =
    let outcome = one_outcome line in
    let same = same_include include.name other.name include.angle other.angle
    (outcome.only (Read (Include include.name include.angle)) is ∙ sym (outcome.only (Read (Include other.name other.angle)) are)) in
    λ i. record { name = same.0 i; angle = same.1 i }

named_once : (pieces : List Piece) (includes others : List Wanted) → NamedIn pieces includes → NamedIn pieces others → includes ≡ others
named_once [] includes others is are = is ∙ sym are
named_once (TextRun words ∷ pieces) includes others is are = named_once pieces includes others is are
named_once (DirectiveLine line ∷ pieces) includes others (inl is) (inl are) = named_once pieces includes others is.1 are.1
named_once (DirectiveLine line ∷ pieces) includes others (inl is) (inr (other, rest', spells', parts', named')) = absurd (is.0 other.name other.angle spells')
named_once (DirectiveLine line ∷ pieces) includes others (inr (include, rest, spells, parts, named)) (inl are) = absurd (are.0 include.name include.angle spells)
named_once (DirectiveLine line ∷ pieces) includes others (inr (include, rest, spells, parts, named)) (inr (other, rest', spells', parts', named')) =
    parts
    ∙ (ap (λ i. i ∷ rest) (included_once line include other spells spells')
    ∙ (ap (λ is. other ∷ is) (named_once pieces rest rest' named named') ∙ sym parts'))

-- a text has one list of include lines
pub includes_once : (number : ℕ) (text : List ℕ) (places places' : List WordPlace) (includes others : List Wanted) → HasIncludes number text places includes → HasIncludes number text places' others → includes ≡ others
includes_once number text places places' includes others has have =
    let these : List PlainWord = words_at number text places in
    let those : List PlainWord = words_at number text places' in
    let words : these ≡ those = same_words number text these those has.lexes.2 have.lexes.2 in
    let cut : AreCut those has.named.pieces = subst (λ ws. AreCut ws has.named.pieces) words has.named.cut in
    let pieces : has.named.pieces ≡ have.named.pieces = cut_once those has.named.pieces have.named.pieces cut have.named.cut in
    named_once have.named.pieces includes others (subst (λ ps. NamedIn ps includes) pieces has.named.named) have.named.named
