-- Each line has one outcome, which is read.
use Rattle.std.proofs.Common.{◌≡◌, ℕ, ◌-◌, ◌≤◌, ◌==◌, List, [], ◌∷◌, ◌++◌, length, map, take, drop, get_or, Bool, true, false, cond, ◌&&◌, codes, nat_le, refl, sym, ◌∙◌, ap, subst, arith, Option, Some, None, Result, Ok, Err, IfOk, IfErr, ◌⊎◌, inl, inr}
use Rattle.std.proofs.lemmas.Bool.{both_ways}
use Rattle.p10_base.specs.declared.span.Span.{Span}
use Rattle.p10_base.specs.declared.word.Word.{Word}
use Rattle.p10_direct.specs.declared.form.Directive.{Directive}
use Rattle.p10_direct.specs.declared.form.DirectFault.{DirectFault}
use Rattle.p10_direct.specs.declared.form.DirectFault.TheVariants.{Refused, Memory}
use Rattle.p10_direct.specs.declared.keyword.Keyword.{Keyword}
use Rattle.p10_direct.specs.declared.keyword.Keyword.TheVariants as keyword
use Rattle.p10_base.specs.Words.{PlainWord, plain_word, Text, is_name, is_name_kind, is_punctuator}
use Rattle.p10_direct.specs.Keywords.{keyword_of}
use Rattle.p10_direct.specs.Directives.{PlainDirective, Null, Include, Define, Undef, If, Elif, Ifdef, Ifndef, Else, Endif, Once, InitDone, TaskLoop, OtherPragma, One, IsNamed, is_string_kind, enclosed, IsOther, IsOwn, SpellsNamed, SpellsBehind, Spells, place_of, IsBadNamed, IsBadBehind, IsFunctionLikeBehind, Outcome, Read, BadForm, BadDefinition, IsOutcome, refusal_of, OneOutcome}
use Rattle.p10_lex.specs.Literals.{inside}
use Rattle.p10_direct.specs.Form.{plain, BeginsWithHash, IsFaultOf}
use Rattle.p10_direct.specs.private.Telling.{TellsUnless}
use Rattle.p10_direct.specs.private.Reading.{quoted_or_wrong, include_between, include_of, read_or_wrong, of_name, alone, own_of, is_nil, pragma_of, named_outcome, outcome_behind, definition_of}
use Rattle.p10_direct.proofs.Definitions.{other_name, and_false, Judges, define_takes, good_again, bad_again}
use Rattle.p10_direct.proofs.Cuts.{rest_from}
use Rattle.p10_lex.proofs.Enclosing.{inside_takes, inside_again}

-- ## The name of an include

inside_other : (opening closing byte : ℕ) (text : Text) → (byte == opening) ≡ false → inside opening closing (byte ∷ text) ≡ None
inside_other opening closing byte text differ =
    let last = get_or (byte ∷ text) (length (byte ∷ text) - 1) 0 == closing in
    let name = take (length (byte ∷ text) - 1 - 1) text in
    ap (λ b. cond ((nat_le 2 (length (byte ∷ text)) && b) && last) (Some name) None) differ
    ∙ elim (nat_le 2 (length (byte ∷ text))) as (λ b. cond ((b && false) && last) (Some name) None ≡ None) [ true ↦ refl | false ↦ refl ]

include_again : (angle : Bool) (name : Text) (word : PlainWord) → is_string_kind word.kind ≡ true → word.text ≡ enclosed angle name → include_of (word ∷ []) ≡ Read (Include name angle)
include_again true name word kind text =
    ap (λ b. cond b (include_between (inside 60 62 word.text) word.text) BadForm) kind
    ∙ ap (λ t. include_between (inside 60 62 t) t) text ∙ ap (λ o. include_between o (enclosed true name)) (inside_again 60 62 name)
include_again false name word kind text =
    ap (λ b. cond b (include_between (inside 60 62 word.text) word.text) BadForm) kind
    ∙ ap (λ t. include_between (inside 60 62 t) t) text
    ∙ ap (λ o. include_between o (enclosed false name)) (inside_other 60 62 34 (name ++ 34 ∷ []) refl)
    ∙ ap quoted_or_wrong (inside_again 34 34 name)

-- ## What is spelled is read

name_again : (directive : Text → PlainDirective) (name : Text) (words : List PlainWord) → One (IsNamed name) words → of_name directive words ≡ Read (directive name)
name_again directive name (word ∷ []) (kind, text) = ap (λ b. read_or_wrong directive (cond b (Some word.text) None)) kind ∙ ap (λ t. Read (directive t)) text
name_again directive name [] one = absurd one
name_again directive name (word ∷ next ∷ words) one = absurd one

include_words : (angle : Bool) (name : Text) (words : List PlainWord) → One (λ word. (is_string_kind word.kind ≡ true) × (word.text ≡ enclosed angle name)) words → include_of words ≡ Read (Include name angle)
include_words angle name (word ∷ []) (kind, text) = include_again angle name word kind text
include_words angle name [] one = absurd one
include_words angle name (word ∷ next ∷ words) one = absurd one

once_again : (words : List PlainWord) → One (λ word. is_name (codes "once") word ≡ true) words → pragma_of words ≡ Read Once
once_again (word ∷ []) is =
    ap (λ b. cond b (own_of []) (cond (is_name (codes "once") word && true) (Read Once) (Read OtherPragma))) (other_name (codes "once") (codes "p10") word refl is)
    ∙ ap (λ b. cond (b && true) (Read Once) (Read OtherPragma)) is
once_again [] one = absurd one
once_again (word ∷ next ∷ words) one = absurd one

init_again : (words : List PlainWord) → One (λ last. is_name (codes "init_done") last ≡ true) words → own_of words ≡ Read InitDone
init_again (word ∷ []) is = ap (λ b. cond b (Read InitDone) (cond (is_name (codes "task_loop") word) (Read TaskLoop) BadForm)) is
init_again [] one = absurd one
init_again (word ∷ next ∷ words) one = absurd one

task_again : (words : List PlainWord) → One (λ last. is_name (codes "task_loop") last ≡ true) words → own_of words ≡ Read TaskLoop
task_again (word ∷ []) is =
    ap (λ b. cond b (Read InitDone) (cond (is_name (codes "task_loop") word) (Read TaskLoop) BadForm)) (other_name (codes "task_loop") (codes "init_done") word refl is)
    ∙ ap (λ b. cond b (Read TaskLoop) BadForm) is
task_again [] one = absurd one
task_again (word ∷ next ∷ words) one = absurd one

own_again : (text : Text) (directive : PlainDirective) → ((words : List PlainWord) → One (λ last. is_name text last ≡ true) words → own_of words ≡ Read directive) → (words : List PlainWord) → IsOwn text words → pragma_of words ≡ Read directive
own_again text directive go (word ∷ words) (is, one) = ap (λ b. cond b (own_of words) (cond (is_name (codes "once") word && is_nil words) (Read Once) (Read OtherPragma))) is ∙ go words one
own_again text directive go [] own = absurd own

other_again : (words : List PlainWord) → IsOther words → pragma_of words ≡ Read OtherPragma
other_again [] other = refl
other_again (word ∷ []) (not_own, not_once) =
    ap (λ b. cond b (own_of []) (cond (is_name (codes "once") word && true) (Read Once) (Read OtherPragma))) not_own
    ∙ ap (λ b. cond (b && true) (Read Once) (Read OtherPragma)) not_once
other_again (word ∷ next ∷ words) not_own =
    ap (λ b. cond b (own_of (next ∷ words)) (cond (is_name (codes "once") word && false) (Read Once) (Read OtherPragma))) not_own
    ∙ ap (λ b. cond b (Read Once) (Read OtherPragma)) (and_false (is_name (codes "once") word))

named_again : (whole : Span) (directive : PlainDirective) (name : Option Keyword) (words : List PlainWord) → SpellsNamed directive name words → named_outcome whole name words ≡ Read directive
named_again whole (Include name angle) (Some keyword.Include) words spells = include_words angle name words spells
named_again whole (Define plain) (Some keyword.Define) words (definition, defines, good, same) = good_again whole definition words plain defines good same
named_again whole (Undef name) (Some keyword.Undef) words spells = name_again Undef name words spells
named_again whole (If condition) (Some keyword.If) words spells = ap (λ ws. Read (If ws)) spells
named_again whole (Elif condition) (Some keyword.Elif) words spells = ap (λ ws. Read (Elif ws)) spells
named_again whole (Ifdef name) (Some keyword.Ifdef) words spells = name_again Ifdef name words spells
named_again whole (Ifndef name) (Some keyword.Ifndef) words spells = name_again Ifndef name words spells
named_again whole Else (Some keyword.Else) words spells = ap (alone Else) spells
named_again whole Endif (Some keyword.Endif) words spells = ap (alone Endif) spells
named_again whole Once (Some keyword.Pragma) words spells = once_again words spells
named_again whole InitDone (Some keyword.Pragma) words spells = own_again (codes "init_done") InitDone init_again words spells
named_again whole TaskLoop (Some keyword.Pragma) words spells = own_again (codes "task_loop") TaskLoop task_again words spells
named_again whole OtherPragma (Some keyword.Pragma) words spells = other_again words spells
named_again whole _ _ words spells = absurd spells

behind_read : (whole : Span) (directive : PlainDirective) (words : List PlainWord) → SpellsBehind directive words → outcome_behind whole words ≡ Read directive
behind_read whole Null words none = ap (outcome_behind whole) none
behind_read whole (Include name angle) (word ∷ words) spells = named_again whole (Include name angle) (keyword_of word) words spells
behind_read whole (Define plain) (word ∷ words) spells = named_again whole (Define plain) (keyword_of word) words spells
behind_read whole (Undef name) (word ∷ words) spells = named_again whole (Undef name) (keyword_of word) words spells
behind_read whole (If condition) (word ∷ words) spells = named_again whole (If condition) (keyword_of word) words spells
behind_read whole (Elif condition) (word ∷ words) spells = named_again whole (Elif condition) (keyword_of word) words spells
behind_read whole (Ifdef name) (word ∷ words) spells = named_again whole (Ifdef name) (keyword_of word) words spells
behind_read whole (Ifndef name) (word ∷ words) spells = named_again whole (Ifndef name) (keyword_of word) words spells
behind_read whole Else (word ∷ words) spells = named_again whole Else (keyword_of word) words spells
behind_read whole Endif (word ∷ words) spells = named_again whole Endif (keyword_of word) words spells
behind_read whole Once (word ∷ words) spells = named_again whole Once (keyword_of word) words spells
behind_read whole InitDone (word ∷ words) spells = named_again whole InitDone (keyword_of word) words spells
behind_read whole TaskLoop (word ∷ words) spells = named_again whole TaskLoop (keyword_of word) words spells
behind_read whole OtherPragma (word ∷ words) spells = named_again whole OtherPragma (keyword_of word) words spells
behind_read whole _ [] spells = absurd spells

bad_named_again : (whole at : Span) (name : Option Keyword) (words : List PlainWord) → IsBadNamed whole at name words → named_outcome whole name words ≡ BadDefinition at
bad_named_again whole at (Some keyword.Define) words bad = bad_again whole at words bad
bad_named_again whole at _ words bad = absurd bad

bad_behind_read : (whole at : Span) (words : List PlainWord) → IsBadBehind whole at words → outcome_behind whole words ≡ BadDefinition at
bad_behind_read whole at (word ∷ words) bad = bad_named_again whole at (keyword_of word) words bad
bad_behind_read whole at [] bad = absurd bad

-- ## What is read is spelled

abbrev TookNamed : Span → Option Keyword → List PlainWord → Outcome → Type 0
TookNamed whole name words (Read directive) = SpellsNamed directive name words
TookNamed whole name words (BadDefinition at) = IsBadNamed whole at name words
TookNamed whole name words BadForm = Unit {0}

include_takes : (whole : Span) (words : List PlainWord) → TookNamed whole (Some keyword.Include) words (include_of words)
include_takes whole (word ∷ []) =
    elim (is_string_kind word.kind) as (λ b. is_string_kind word.kind ≡ b → TookNamed whole (Some keyword.Include) (word ∷ []) (cond b (include_between (inside 60 62 word.text) word.text) BadForm)) [
      | true ↦ λ kind. elim (inside 60 62 word.text) as (λ o. inside 60 62 word.text ≡ o → TookNamed whole (Some keyword.Include) (word ∷ []) (include_between o word.text)) [
        | Some name ↦ λ e. (kind, inside_takes 60 62 word.text name e)
        | None ↦ λ e. elim (inside 34 34 word.text) as (λ o. inside 34 34 word.text ≡ o → TookNamed whole (Some keyword.Include) (word ∷ []) (quoted_or_wrong o))
            [ Some name ↦ λ e. (kind, inside_takes 34 34 word.text name e) | None ↦ λ e. tt ] refl
      ] refl
      | false ↦ λ other. tt
    ] refl
include_takes whole [] = tt
include_takes whole (word ∷ next ∷ words) = tt

-- a directive of a name, known from the name of the directive
abbrev OfName : (Text → PlainDirective) → List PlainWord → Outcome → Type 0
OfName directive words outcome = ((name : Text) × One (IsNamed name) words × (outcome ≡ Read (directive name))) ⊎ (outcome ≡ BadForm)

name_takes : (directive : Text → PlainDirective) (words : List PlainWord) → OfName directive words (of_name directive words)
name_takes directive (word ∷ []) =
    elim (is_name_kind word.kind) as (λ b. is_name_kind word.kind ≡ b → OfName directive (word ∷ []) (read_or_wrong directive (cond b (Some word.text) None)))
    [ true ↦ λ kind. inl (word.text, (kind, refl), refl) | false ↦ λ other. inr refl ] refl
name_takes directive [] = inr refl
name_takes directive (word ∷ next ∷ words) = inr refl

took_name : (whole : Span) (name : Option Keyword) (directive : Text → PlainDirective) (words : List PlainWord) (outcome : Outcome) → ((text : Text) → One (IsNamed text) words → SpellsNamed (directive text) name words) → OfName directive words outcome → TookNamed whole name words outcome
took_name whole name directive words outcome go took =
    elim took [ inl (text, one, same) ↦ subst (λ o. TookNamed whole name words o) (sym same) (go text one) | inr wrong ↦ subst (λ o. TookNamed whole name words o) (sym wrong) tt ]

own_takes : (whole : Span) (word : PlainWord) (words : List PlainWord) → is_name (codes "p10") word ≡ true → TookNamed whole (Some keyword.Pragma) (word ∷ words) (own_of words)
own_takes whole word (last ∷ []) own =
    elim (is_name (codes "init_done") last) as (λ b. is_name (codes "init_done") last ≡ b → TookNamed whole (Some keyword.Pragma) (word ∷ last ∷ []) (cond b (Read InitDone) (cond (is_name (codes "task_loop") last) (Read TaskLoop) BadForm))) [
      | true ↦ λ init. (own, init)
      | false ↦ λ other. elim (is_name (codes "task_loop") last) as (λ b. is_name (codes "task_loop") last ≡ b → TookNamed whole (Some keyword.Pragma) (word ∷ last ∷ []) (cond b (Read TaskLoop) BadForm))
          [ true ↦ λ task. (own, task) | false ↦ λ neither. tt ] refl
    ] refl
own_takes whole word [] own = tt
own_takes whole word (last ∷ next ∷ words) own = tt

lone_takes : (whole : Span) (word : PlainWord) (words : List PlainWord) → is_name (codes "p10") word ≡ false → TookNamed whole (Some keyword.Pragma) (word ∷ words) (cond (is_name (codes "once") word && is_nil words) (Read Once) (Read OtherPragma))
lone_takes whole word [] foreign =
    elim (is_name (codes "once") word) as (λ b. is_name (codes "once") word ≡ b → TookNamed whole (Some keyword.Pragma) (word ∷ []) (cond (b && true) (Read Once) (Read OtherPragma)))
    [ true ↦ λ once. once | false ↦ λ other. (foreign, other) ] refl
lone_takes whole word (next ∷ words) foreign =
    elim (is_name (codes "once") word) as (λ b. TookNamed whole (Some keyword.Pragma) (word ∷ next ∷ words) (cond (b && false) (Read Once) (Read OtherPragma)))
    [ true ↦ foreign | false ↦ foreign ]

pragma_takes : (whole : Span) (words : List PlainWord) → TookNamed whole (Some keyword.Pragma) words (pragma_of words)
pragma_takes whole [] = tt
pragma_takes whole (word ∷ words) =
    elim (is_name (codes "p10") word) as (λ b. is_name (codes "p10") word ≡ b → TookNamed whole (Some keyword.Pragma) (word ∷ words) (cond b (own_of words) (cond (is_name (codes "once") word && is_nil words) (Read Once) (Read OtherPragma))))
    [ true ↦ own_takes whole word words | false ↦ lone_takes whole word words ] refl

from_judges : (whole : Span) (words : List PlainWord) (outcome : Outcome) → Judges whole words outcome → TookNamed whole (Some keyword.Define) words outcome
from_judges whole words (Read (Define plain)) judges = judges
from_judges whole words (BadDefinition at) judges = judges
from_judges whole words BadForm judges = tt
from_judges whole words (Read _) judges = absurd judges

named_takes : (whole : Span) (name : Option Keyword) (words : List PlainWord) → TookNamed whole name words (named_outcome whole name words)
named_takes whole None words = tt
named_takes whole (Some keyword.Include) words = include_takes whole words
named_takes whole (Some keyword.Define) words = from_judges whole words (definition_of whole words) (define_takes whole words)
named_takes whole (Some keyword.Undef) words = took_name whole (Some keyword.Undef) Undef words (of_name Undef words) (λ text one. one) (name_takes Undef words)
named_takes whole (Some keyword.If) words = refl
named_takes whole (Some keyword.Elif) words = refl
named_takes whole (Some keyword.Ifdef) words = took_name whole (Some keyword.Ifdef) Ifdef words (of_name Ifdef words) (λ text one. one) (name_takes Ifdef words)
named_takes whole (Some keyword.Ifndef) words = took_name whole (Some keyword.Ifndef) Ifndef words (of_name Ifndef words) (λ text one. one) (name_takes Ifndef words)
named_takes whole (Some keyword.Else) [] = refl
named_takes whole (Some keyword.Else) (word ∷ words) = tt
named_takes whole (Some keyword.Endif) [] = refl
named_takes whole (Some keyword.Endif) (word ∷ words) = tt
named_takes whole (Some keyword.Pragma) words = pragma_takes whole words

abbrev TookBehind : Span → List PlainWord → Outcome → Type 0
TookBehind whole words (Read directive) = SpellsBehind directive words
TookBehind whole words (BadDefinition at) = IsBadBehind whole at words
TookBehind whole words BadForm = Unit {0}

name_no_null : (name : Option Keyword) (words : List PlainWord) → SpellsNamed Null name words → ⊥
name_no_null None words spells = spells
name_no_null (Some _) words spells = spells

from_named : (whole : Span) (word : PlainWord) (words : List PlainWord) (outcome : Outcome) → TookNamed whole (keyword_of word) words outcome → TookBehind whole (word ∷ words) outcome
from_named whole word words BadForm took = tt
from_named whole word words (BadDefinition at) took = took
from_named whole word words (Read Null) took = absurd (name_no_null (keyword_of word) words took)
from_named whole word words (Read _) took = took

behind_takes : (whole : Span) (words : List PlainWord) → TookBehind whole words (outcome_behind whole words)
behind_takes whole [] = refl
behind_takes whole (word ∷ words) = from_named whole word words (named_outcome whole (keyword_of word) words) (named_takes whole (keyword_of word) words)

-- ## The outcome of a line

hash_outcome : (hash : PlainWord) (words : List PlainWord) (outcome : Outcome) → is_punctuator (codes "#") hash ≡ true → outcome_behind (place_of (hash ∷ words)) words ≡ outcome → IsOutcome (hash ∷ words) outcome
hash_outcome hash words (Read directive) is e = (is, subst (λ o. TookBehind (place_of (hash ∷ words)) words o) e (behind_takes (place_of (hash ∷ words)) words))
hash_outcome hash words (BadDefinition at) is e = (is, subst (λ o. TookBehind (place_of (hash ∷ words)) words o) e (behind_takes (place_of (hash ∷ words)) words))
hash_outcome hash words BadForm is e = (
  (λ directive spells. let r = behind_read (place_of (hash ∷ words)) directive words spells.1 in absurd cc),
  (λ at bad. let r = bad_behind_read (place_of (hash ∷ words)) at words bad.1 in absurd cc),
)

hash_only : (hash : PlainWord) (words : List PlainWord) (other : Outcome) → is_punctuator (codes "#") hash ≡ true → IsOutcome (hash ∷ words) other → other ≡ outcome_behind (place_of (hash ∷ words)) words
hash_only hash words (Read directive) is outcome = sym (behind_read (place_of (hash ∷ words)) directive words outcome.1)
hash_only hash words (BadDefinition at) is outcome = sym (bad_behind_read (place_of (hash ∷ words)) at words outcome.1)
hash_only hash words BadForm is (unspelled, good) =
    elim (outcome_behind (place_of (hash ∷ words)) words) as (λ o. outcome_behind (place_of (hash ∷ words)) words ≡ o → BadForm ≡ o) [
      | Read directive ↦ λ e. absurd (unspelled directive (hash_outcome hash words (Read directive) is e))
      | BadForm ↦ λ e. refl
      | BadDefinition at ↦ λ e. absurd (good at (hash_outcome hash words (BadDefinition at) is e))
    ] refl

-- a line that doesn't begin with `#` spells nothing
text_only : (word : PlainWord) (words : List PlainWord) (other : Outcome) → is_punctuator (codes "#") word ≡ false → IsOutcome (word ∷ words) other → other ≡ BadForm
text_only word words (Read directive) no_hash outcome = absurd (both_ways _ no_hash outcome.0)
text_only word words (BadDefinition at) no_hash outcome = absurd (both_ways _ no_hash outcome.0)
text_only word words BadForm no_hash outcome = refl

empty_only : (other : Outcome) → IsOutcome [] other → other ≡ BadForm
empty_only (Read directive) outcome = absurd outcome
empty_only (BadDefinition at) outcome = absurd outcome
empty_only BadForm outcome = refl

pub one_outcome : (line : List PlainWord) → OneOutcome line
one_outcome [] = record { outcome = BadForm; is_outcome = ((λ directive spells. spells), (λ at bad. bad)); only = empty_only }
one_outcome (word ∷ words) =
    elim (is_punctuator (codes "#") word) as (λ b. is_punctuator (codes "#") word ≡ b → OneOutcome (word ∷ words)) [
      | true ↦ λ is. record { outcome = outcome_behind (place_of (word ∷ words)) words; is_outcome = hash_outcome word words (outcome_behind (place_of (word ∷ words)) words) is refl; only = λ other outcome. hash_only word words other is outcome }
      | false ↦ λ no_hash. record { outcome = BadForm; is_outcome = ((λ directive spells. both_ways _ no_hash spells.0), (λ at bad. both_ways _ no_hash bad.0)); only = λ other outcome. text_only word words other no_hash outcome }
    ] refl

-- ## What is answered

pub hash_some : (line : List Word) → BeginsWithHash (map plain_word line) → 1 ≤ length line
hash_some (hash ∷ words) is = omega arith
hash_some [] is = absurd is

-- the words after the first of a line
pub behind_hash : (line : List Word) → BeginsWithHash (map plain_word line) → map plain_word (take (length line - 1) (drop 1 line)) ≡ drop 1 (map plain_word line)
behind_hash (hash ∷ words) is = ap (map plain_word) (rest_from 1 (hash ∷ words) (omega arith))
behind_hash [] is = absurd is

pub read_spells : (line behind : List PlainWord) (whole : Span) (answer : Result Directive DirectFault) → BeginsWithHash line → whole ≡ place_of line → behind ≡ drop 1 line → TellsUnless (IsFunctionLikeBehind behind) whole (outcome_behind whole behind) answer → IfOk answer (λ found. Spells (plain found) line)
read_spells (hash ∷ words) behind whole (Ok directive) is at same e =
    hash_outcome hash words (Read (plain directive)) is (ap (λ w. outcome_behind w words) (sym at) ∙ ap (outcome_behind whole) (sym same) ∙ e)
read_spells (hash ∷ words) behind whole (Err fault) is at same e = tt
read_spells [] behind whole answer is at same e = absurd is

pub read_refuses : (line behind : List PlainWord) (whole : Span) (answer : Result Directive DirectFault) → BeginsWithHash line → whole ≡ place_of line → behind ≡ drop 1 line → TellsUnless (IsFunctionLikeBehind behind) whole (outcome_behind whole behind) answer → IfErr answer (IsFaultOf line)
read_refuses (hash ∷ words) behind whole (Ok directive) is at same e = tt
read_refuses (hash ∷ words) behind whole (Err Memory) is at same e = (is, subst IsFunctionLikeBehind same e)
read_refuses (hash ∷ words) behind whole (Err (Refused refusal)) is at same e =
    let same_outcome : outcome_behind whole behind ≡ outcome_behind (place_of (hash ∷ words)) words = ap (λ w. outcome_behind w behind) at ∙ ap (outcome_behind (place_of (hash ∷ words))) same in
    record {
      outcome = outcome_behind (place_of (hash ∷ words)) words;
      is_outcome = hash_outcome hash words _ is refl;
      refused = ap (refusal_of (place_of (hash ∷ words))) (sym same_outcome) ∙ ap (λ w. refusal_of w (outcome_behind whole behind)) (sym at) ∙ e;
    }
read_refuses [] behind whole answer is at same e = absurd is
