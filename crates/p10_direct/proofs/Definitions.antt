-- The words of a definition are read as that definition, and as no other.
use Rattle.std.proofs.Common.{◌≡◌, ℕ, List, [], ◌∷◌, ◌++◌, Bool, true, false, cond, ◌&&◌, ◌||◌, bytes_eq, codes, drop, refl, sym, ◌∙◌, ap, subst, append_assoc, Option, Some, None, inl, inr}
use Rattle.std.proofs.lemmas.Slice.Eq.{bytes_eq-Decides}
use Rattle.std.proofs.lemmas.Bool.{and_parts}
use Rattle.p10_base.specs.declared.span.Span.{Span}
use Rattle.p10_base.specs.declared.word.Kind.{Kind}
use Rattle.p10_base.specs.declared.word.Kind.TheVariants.{Name, Number, Char, Str, Punct, Mark}
use Rattle.p10_base.specs.Words.{PlainWord, Text, is_name, is_name_kind, is_punctuator_kind, is_punctuator}
use Rattle.p10_direct.specs.Directives.{PlainMacro, Define, Definition, opens_list, is_ellipsis, AreParameters, Continues, IsList, HasNoList, DefinesBehind, Defines, IsDefinition, macro_of, is_bad, DefinesBadly, Outcome, Read, BadForm, BadDefinition}
use Rattle.p10_direct.specs.private.Reading.{Parameters, Wrong, Listed, behind_parameters, parameters_of, judged, judged_or_wrong, listed, has_list, defined_of, definition_read, definition_of}

-- ## Words of two kinds

pub is_text : (a b : List ℕ) → bytes_eq a b ≡ true → a ≡ b
is_text a b e = (bytes_eq-Decides a b).0 e

pub and_false : (b : Bool) → (b && false) ≡ false
and_false true = refl
and_false false = refl

name_is_none : (k : Kind) → is_name_kind k ≡ true → is_punctuator_kind k ≡ false
name_is_none Name e = refl
name_is_none Number e = refl
name_is_none Char e = refl
name_is_none Str e = refl
name_is_none Punct e = absurd cc
name_is_none Mark e = refl

-- a name is no punctuator
pub name_no_punctuator : (text : Text) (word : PlainWord) → is_name_kind word.kind ≡ true → is_punctuator text word ≡ false
name_no_punctuator text word name = ap (λ b. b && bytes_eq word.text text) (name_is_none word.kind name)

-- a punctuator is no other
pub other_punctuator : (text other : Text) (word : PlainWord) → bytes_eq text other ≡ false → is_punctuator text word ≡ true → is_punctuator other word ≡ false
other_punctuator text other word differ is =
    let same : word.text ≡ text = is_text _ _ (and_parts (is_punctuator_kind word.kind) (bytes_eq word.text text) is).1 in
    ap (λ t. is_punctuator_kind word.kind && bytes_eq t other) same ∙ ap (λ b. is_punctuator_kind word.kind && b) differ ∙ and_false (is_punctuator_kind word.kind)

-- a name is no other
pub other_name : (text other : Text) (word : PlainWord) → bytes_eq text other ≡ false → is_name text word ≡ true → is_name other word ≡ false
other_name text other word differ is =
    let same : word.text ≡ text = is_text _ _ (and_parts (is_name_kind word.kind) (bytes_eq word.text text) is).1 in
    ap (λ t. is_name_kind word.kind && bytes_eq t other) same ∙ ap (λ b. is_name_kind word.kind && b) differ ∙ and_false (is_name_kind word.kind)

-- a parameter is no `)`
parameter_no_close : (word : PlainWord) → is_name_kind word.kind || is_ellipsis word ≡ true → is_punctuator (codes ")") word ≡ false
parameter_no_close word e =
    elim (is_name_kind word.kind) as (λ b. is_name_kind word.kind ≡ b → b || is_ellipsis word ≡ true → is_punctuator (codes ")") word ≡ false)
    [ true ↦ λ name e. name_no_punctuator (codes ")") word name | false ↦ λ no e. other_punctuator (codes "...") (codes ")") word refl e ] refl e

-- ## Parameter lists

-- a list of parameters that goes on
params_again : (before : List PlainWord) (word : PlainWord) (parameters words body : List PlainWord) → AreParameters (word ∷ parameters) → Continues parameters words body → behind_parameters before (word ∷ words) ≡ Listed (before ++ word ∷ parameters) body
params_again before word [] (close ∷ words) body are (closes, same) =
    ap (λ b. cond b (cond (is_name_kind word.kind || is_ellipsis word) (Listed (before ++ word ∷ []) words) Wrong) (cond (is_punctuator (codes ",") close && is_name_kind word.kind) (behind_parameters (before ++ word ∷ []) words) Wrong)) closes
    ∙ ap (λ b. cond b (Listed (before ++ word ∷ []) words) Wrong) are
    ∙ ap (Listed (before ++ word ∷ [])) same
params_again before word [] [] body are continues = absurd continues
params_again before word (next ∷ parameters) (comma ∷ other ∷ words) body (name, are) (is, same, continues) =
    ap (λ b. cond b (cond (is_name_kind word.kind || is_ellipsis word) (Listed (before ++ word ∷ []) (other ∷ words)) Wrong) (cond (is_punctuator (codes ",") comma && is_name_kind word.kind) (behind_parameters (before ++ word ∷ []) (other ∷ words)) Wrong)) (other_punctuator (codes ",") (codes ")") comma refl is)
    ∙ ap (λ b. cond (b && is_name_kind word.kind) (behind_parameters (before ++ word ∷ []) (other ∷ words)) Wrong) is
    ∙ ap (λ b. cond b (behind_parameters (before ++ word ∷ []) (other ∷ words)) Wrong) name
    ∙ ap (λ w. behind_parameters (before ++ word ∷ []) (w ∷ words)) same
    ∙ params_again (before ++ word ∷ []) next parameters words body are continues
    ∙ ap (λ l. Listed l body) (append_assoc before (word ∷ []) (next ∷ parameters))
params_again before word (next ∷ parameters) (comma ∷ []) body are continues = absurd continues
params_again before word (next ∷ parameters) [] body are continues = absurd continues

-- the first parameter is no `)`
first_no_close : (word : PlainWord) (parameters : List PlainWord) → AreParameters (word ∷ parameters) → is_punctuator (codes ")") word ≡ false
first_no_close word [] are = parameter_no_close word are
first_no_close word (next ∷ parameters) (name, are) = name_no_punctuator (codes ")") word name

list_again : (parameters words body : List PlainWord) → AreParameters parameters → IsList parameters words body → parameters_of words ≡ Listed parameters body
list_again [] (close ∷ words) body are (closes, same) = ap (λ b. cond b (Listed [] words) (behind_parameters [] (close ∷ words))) closes ∙ ap (Listed []) same
list_again [] [] body are list = absurd list
list_again (word ∷ parameters) (other ∷ words) body are (same, continues) =
    ap (λ w. parameters_of (w ∷ words)) same
    ∙ ap (λ b. cond b (Listed [] words) (behind_parameters [] (word ∷ words))) (first_no_close word parameters are)
    ∙ params_again [] word parameters words body are continues
list_again (word ∷ parameters) [] body are list = absurd list

-- what was read are the parameters before and a list of parameters
abbrev TookMore : List PlainWord → List PlainWord → Parameters → Type 0
TookMore before words Wrong = Unit {0}
TookMore before words (Listed all body) = (word : PlainWord) × (parameters : List PlainWord) × (all ≡ before ++ word ∷ parameters) × AreParameters (word ∷ parameters) × IsList (word ∷ parameters) words body

one_more : (before : List PlainWord) (word comma : PlainWord) (words : List PlainWord) (found : Parameters) → is_name_kind word.kind ≡ true → is_punctuator (codes ",") comma ≡ true → TookMore (before ++ word ∷ []) words found → TookMore before (word ∷ comma ∷ words) found
one_more before word comma words Wrong name is took = tt
one_more before word comma (w ∷ words) (Listed all body) name is (next, parameters, same, are, list) =
    (word, next ∷ parameters, same ∙ append_assoc before (word ∷ []) (next ∷ parameters), (name, are), (refl, (is, list.0, list.1)))
one_more before word comma [] (Listed all body) name is (next, parameters, same, are, list) = absurd list

params_take : (before words : List PlainWord) → TookMore before words (behind_parameters before words)
params_take before [] = tt
params_take before (word ∷ []) = tt
params_take before (word ∷ separator ∷ words) =
    let more = before ++ word ∷ [] in
    elim (is_punctuator (codes ")") separator) as (λ b. is_punctuator (codes ")") separator ≡ b → TookMore before (word ∷ separator ∷ words) (cond b (cond (is_name_kind word.kind || is_ellipsis word) (Listed more words) Wrong) (cond (is_punctuator (codes ",") separator && is_name_kind word.kind) (behind_parameters more words) Wrong))) [
      | true ↦ λ closes. elim (is_name_kind word.kind || is_ellipsis word) as (λ b. is_name_kind word.kind || is_ellipsis word ≡ b → TookMore before (word ∷ separator ∷ words) (cond b (Listed more words) Wrong))
          [ true ↦ λ are. (word, [], refl, are, (refl, (closes, refl))) | false ↦ λ no. tt ] refl
      | false ↦ λ goes_on. elim (is_punctuator (codes ",") separator && is_name_kind word.kind) as (λ b. is_punctuator (codes ",") separator && is_name_kind word.kind ≡ b → TookMore before (word ∷ separator ∷ words) (cond b (behind_parameters more words) Wrong)) [
        | true ↦ λ both. let h = and_parts (is_punctuator (codes ",") separator) (is_name_kind word.kind) both in one_more before word separator words (behind_parameters more words) h.1 h.0 (params_take more words)
        | false ↦ λ no. tt
      ] refl
    ] refl

abbrev TookList : List PlainWord → Parameters → Type 0
TookList words Wrong = Unit {0}
TookList words (Listed parameters body) = AreParameters parameters × IsList parameters words body

as_list : (words : List PlainWord) (found : Parameters) → TookMore [] words found → TookList words found
as_list words Wrong took = tt
as_list words (Listed all body) (word, parameters, same, are, list) = subst (λ l. AreParameters l × IsList l words body) (sym same) (are, list)

list_takes : (words : List PlainWord) → TookList words (parameters_of words)
list_takes [] = tt
list_takes (word ∷ words) =
    elim (is_punctuator (codes ")") word) as (λ b. is_punctuator (codes ")") word ≡ b → TookList (word ∷ words) (cond b (Listed [] words) (behind_parameters [] (word ∷ words))))
    [ true ↦ λ closes. (tt, (closes, refl)) | false ↦ λ no. as_list (word ∷ words) (behind_parameters [] (word ∷ words)) (params_take [] (word ∷ words)) ] refl

-- ## Definitions

abbrev definition : PlainWord → Option (List PlainWord) → List PlainWord → Definition
definition name parameters body = record { name = name; parameters = parameters; body = body }

no_list : (name : PlainWord) (words : List PlainWord) → HasNoList name words → has_list name words ≡ false
no_list name [] none = refl
no_list name (word ∷ words) none = none

behind_again : (name : PlainWord) (parameters : Option (List PlainWord)) (body words : List PlainWord) → DefinesBehind name parameters body words → defined_of name words ≡ Some (definition name parameters body)
behind_again name None body words (none, same) =
    ap (λ b. cond b (listed name (parameters_of (drop 1 words))) (Some (definition name None words))) (no_list name words none) ∙ ap (λ l. Some (definition name None l)) same
behind_again name (Some parameters) body (paren ∷ words) (opens, are, list) =
    ap (λ b. cond b (listed name (parameters_of words)) (Some (definition name None (paren ∷ words)))) opens
    ∙ ap (listed name) (list_again parameters words body are list)
behind_again name (Some parameters) body [] defines = absurd defines

-- a definition is read as itself
pub read_again : (d : Definition) (words : List PlainWord) → Defines d words → definition_read words ≡ Some d
read_again d (name ∷ words) (same, is, defines) =
    ap (λ b. cond b (defined_of name words) None) is
    ∙ behind_again name d.parameters d.body words defines
    ∙ ap (λ n. Some (definition n d.parameters d.body)) same
read_again d [] defines = absurd defines

pub define_again : (whole : Span) (d : Definition) (words : List PlainWord) → Defines d words → definition_of whole words ≡ judged d
define_again whole d (name ∷ words) (same, is, defines) =
    ap (λ b. cond b (judged_or_wrong (defined_of name words)) (BadDefinition whole)) is
    ∙ ap judged_or_wrong (behind_again name d.parameters d.body words defines)
    ∙ ap (λ n. judged (definition n d.parameters d.body)) same
define_again whole d [] defines = absurd defines

-- what is read is a definition
abbrev Took : List PlainWord → Option Definition → Type 0
Took words None = Unit {0}
Took words (Some d) = Defines d words

listed_takes : (name paren : PlainWord) (words : List PlainWord) (found : Parameters) → is_name_kind name.kind ≡ true → opens_list name paren ≡ true → TookList words found → Took (name ∷ paren ∷ words) (listed name found)
listed_takes name paren words Wrong is opens took = tt
listed_takes name paren words (Listed parameters body) is opens (are, list) = (refl, is, (opens, are, list))

defined_takes : (name : PlainWord) (words : List PlainWord) → is_name_kind name.kind ≡ true → Took (name ∷ words) (defined_of name words)
defined_takes name [] is = (refl, is, (tt, refl))
defined_takes name (word ∷ words) is =
    elim (opens_list name word) as (λ b. opens_list name word ≡ b → Took (name ∷ word ∷ words) (cond b (listed name (parameters_of words)) (Some (definition name None (word ∷ words))))) [
      | true ↦ λ opens. listed_takes name word words (parameters_of words) is opens (list_takes words)
      | false ↦ λ none. (refl, is, (none, refl))
    ] refl

read_takes : (words : List PlainWord) → Took words (definition_read words)
read_takes [] = tt
read_takes (name ∷ words) =
    elim (is_name_kind name.kind) as (λ b. is_name_kind name.kind ≡ b → Took (name ∷ words) (cond b (defined_of name words) None))
    [ true ↦ λ is. defined_takes name words is | false ↦ λ no. tt ] refl

-- what is read is the one definition
pub read_is : (words : List PlainWord) (found : Option Definition) → found ≡ definition_read words → IsDefinition words found
read_is words found e = λ d. (
  (λ defines. e ∙ read_again d words defines),
  (λ same. subst (Took words) (sym e ∙ same) (read_takes words)),
)

-- ## What comes of the words after `define`

-- a good macro is spelled, and a bad definition is one
abbrev pub Judges : Span → List PlainWord → Outcome → Type 0
Judges whole words (Read (Define plain)) = (d : Definition) × Defines d words × (is_bad d ≡ false) × (macro_of d ≡ plain)
Judges whole words (Read _) = ⊥
Judges whole words (BadDefinition at) = DefinesBadly whole at words
Judges whole words BadForm = Unit {0}

bad_named : (whole at : Span) (d : Definition) (words : List PlainWord) → Defines d words → is_bad d ≡ true → at ≡ d.name.at → DefinesBadly whole at words
bad_named whole at d (name ∷ words) defines bad same = inr (d, defines, bad, same)
bad_named whole at d [] defines bad same = absurd defines

judges : (whole : Span) (d : Definition) (words : List PlainWord) (outcome : Outcome) → Defines d words → outcome ≡ judged d → Judges whole words outcome
judges whole d words outcome defines e =
    subst (λ o. Judges whole words o) (sym e)
    (elim (is_bad d) as (λ b. is_bad d ≡ b → Judges whole words (cond b (BadDefinition d.name.at) (Read (Define (macro_of d)))))
    [ true ↦ λ bad. bad_named whole d.name.at d words defines bad refl | false ↦ λ good. (d, defines, good, refl) ] refl)

took_judges : (whole : Span) (words : List PlainWord) (found : Option Definition) → Took words found → Judges whole words (judged_or_wrong found)
took_judges whole words None took = tt
took_judges whole words (Some d) took = judges whole d words (judged d) took refl

pub define_takes : (whole : Span) (words : List PlainWord) → Judges whole words (definition_of whole words)
define_takes whole [] = refl
define_takes whole (name ∷ words) =
    elim (is_name_kind name.kind) as (λ b. is_name_kind name.kind ≡ b → Judges whole (name ∷ words) (cond b (judged_or_wrong (defined_of name words)) (BadDefinition whole))) [
      | true ↦ λ is. took_judges whole (name ∷ words) (defined_of name words) (defined_takes name words is)
      | false ↦ λ no. inl (no, refl)
    ] refl

pub good_again : (whole : Span) (d : Definition) (words : List PlainWord) (plain : PlainMacro) → Defines d words → is_bad d ≡ false → macro_of d ≡ plain → definition_of whole words ≡ Read (Define plain)
good_again whole d words plain defines good same =
    define_again whole d words defines ∙ ap (λ b. cond b (BadDefinition d.name.at) (Read (Define (macro_of d)))) good ∙ ap (λ m. Read (Define m)) same

pub bad_again : (whole at : Span) (words : List PlainWord) → DefinesBadly whole at words → definition_of whole words ≡ BadDefinition at
bad_again whole at [] same = ap BadDefinition (sym same)
bad_again whole at (name ∷ words) bad =
    elim bad [
      | inl (nameless, same) ↦ ap (λ b. cond b (judged_or_wrong (defined_of name words)) (BadDefinition whole)) nameless ∙ ap BadDefinition (sym same)
      | inr (d, defines, is, same) ↦ define_again whole d (name ∷ words) defines ∙ ap (λ b. cond b (BadDefinition d.name.at) (Read (Define (macro_of d)))) is ∙ ap BadDefinition (sym same)
    ]
