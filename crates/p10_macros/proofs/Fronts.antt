-- The words before a refused use have a replacement.
use Rattle.std.proofs.Common.{◌≡◌, ℕ, ◌+◌, ◌==◌, List, [], ◌∷◌, ◌++◌, map, length, Bool, true, false, ◌&&◌, cond, Option, Some, None, ◌⊎◌, inl, inr, refl, sym, subst, ap, ◌∙◌, append_assoc}
use Rattle.p10_base.specs.declared.span.Span.{Span}
use Rattle.p10_base.specs.Words.{Text, is_name_kind}
use Rattle.p10_direct.specs.Directives.{PlainMacro}
use Rattle.p10_macros.specs.Table.{Table, macro_named}
use Rattle.p10_macros.specs.Uses.{Sourced, Arguments, Stays, Wrong, Calls, use_of, use_by, use_as, called, fitted, fitting, arguments_in, argument_before, word_before, opens, closes, separates, depth_after, given, replacement}
use Rattle.p10_macros.specs.Endings.{Ending, Gives, Refused, TooMany, after_word, after_argument}
use Rattle.p10_macros.specs.Ends.{Ends, EndsAll, Follows, place_of_use, no_words, word_stays, use_refused, use_replaced, no_arguments, argument_given, argument_refused, argument_too_long, replacement_made, replacement_too_long, values_refused, values_too_long}
use Rattle.p10_macros.specs.Fronts.{StandsAfter, FrontsGive}

-- ## Refusals inside a use are at its place

abbrev IsAt : {A : Type 0} → Option Span → Ending A → Type 0
IsAt None ending = Unit {0}
IsAt (Some outer) (Refused number at) = at ≡ outer
IsAt (Some outer) _ = Unit {0}

at_place : (A : Type 0) (outer : Option Span) (number : ℕ) (name : Sourced) → IsAt {A = A} outer (Refused number (place_of_use outer name))
at_place A None number name = tt
at_place A (Some outer) number name = refl

same_outer : (A B : Type 0) (outer : Option Span) (name : Sourced) (number : ℕ) (at : Span) → IsAt {A = A} (Some (place_of_use outer name)) (Refused number at) → IsAt {A = B} outer (Refused number at)
same_outer A B None name number at is = tt
same_outer A B (Some outer) name number at is = is

word_at : (outer : Option Span) (word : Sourced) (behind : Ending (List Sourced)) → IsAt outer behind → IsAt outer (after_word word behind)
word_at None word behind is = tt
word_at (Some outer) word (Gives made left) is = tt
word_at (Some outer) word (Refused number at) is = is
word_at (Some outer) word TooMany is = tt

argument_at : (outer : Option Span) (value : List Sourced) (behind : Ending (List (List Sourced))) → IsAt outer behind → IsAt outer (after_argument value behind)
argument_at None value behind is = tt
argument_at (Some outer) value (Gives made left) is = tt
argument_at (Some outer) value (Refused number at) is = is
argument_at (Some outer) value TooMany is = tt

no_place : (A : Type 0) (outer : Option Span) → IsAt {A = A} outer TooMany
no_place A None = tt
no_place A (Some outer) = tt

given_nowhere : {A : Type 0} (outer : Option Span) (made : A) (left : ℕ) → IsAt outer (Gives made left)
given_nowhere None made left = tt
given_nowhere (Some outer) made left = tt

refused_again : (A B : Type 0) (outer : Option Span) (number : ℕ) (at : Span) → IsAt {A = A} outer (Refused number at) → IsAt {A = B} outer (Refused number at)
refused_again A B None number at is = tt
refused_again A B (Some outer) number at is = is

mutual
  words_at : {table : Table} {outer : Option Span} {words : List Sourced} {left : ℕ} {ending : Ending (List Sourced)} → Ends table outer words left ending → IsAt outer ending
  words_at {outer = outer} no_words = given_nowhere outer _ _
  words_at {outer = outer} (word_stays {word = word} {others = behind} is ends gives) = subst (λ (e : Ending (List Sourced)). IsAt outer e) (sym gives) (word_at outer word behind (words_at ends))
  words_at {outer = outer} (use_refused {word = word} {number = number} is refused) = subst (λ (e : Ending (List Sourced)). IsAt outer e) (sym refused) (at_place _ outer number word)
  words_at {outer = outer} (use_replaced {word = word} is all follows) = follows_at follows (arguments_at all)

  arguments_at : {table : Table} {outer : Option Span} {arguments : List (List Sourced)} {left : ℕ} {ending : Ending (List (List Sourced))} → EndsAll table outer arguments left ending → IsAt outer ending
  arguments_at {outer = outer} no_arguments = given_nowhere outer _ _
  arguments_at {outer = outer} (argument_given {value = value} {others = behind} first others gives) =
      subst (λ (e : Ending (List (List Sourced))). IsAt outer e) (sym gives) (argument_at outer value behind (arguments_at others))
  arguments_at {outer = outer} (argument_refused {number = number} {at = at} first) = refused_again _ _ outer number at (words_at first)
  arguments_at {outer = outer} (argument_too_long first) = no_place _ outer

  follows_at : {table : Table} {outer : Option Span} {plain : PlainMacro} {name : Sourced} {rest : List Sourced} {values : Ending (List (List Sourced))} {ending : Ending (List Sourced)} →
      Follows table outer plain name rest values ending → IsAt (Some (place_of_use outer name)) values → IsAt outer ending
  follows_at (replacement_made costs ends) is = words_at ends
  follows_at {outer = outer} (replacement_too_long less) is = no_place _ outer
  follows_at {outer = outer} {name = name} (values_refused {number = number} {at = at}) is = same_outer (List (List Sourced)) _ outer name number at is
  follows_at {outer = outer} values_too_long is = no_place _ outer

-- ## Words that are cut off

-- where a list was joined from two, one of its elements is in the first or in the second
record IsIn (first front : List Sourced) (name : Sourced) : Type 0 where
  more : List Sourced
  is : first ≡ front ++ name ∷ more

record IsInRest (first rest front : List Sourced) (name : Sourced) (behind : List Sourced) : Type 0 where
  middle : List Sourced
  front_is : front ≡ first ++ middle
  rest_is : rest ≡ middle ++ name ∷ behind

joined : (first rest front : List Sourced) (name : Sourced) (behind : List Sourced) → first ++ rest ≡ front ++ name ∷ behind → IsIn first front name ⊎ IsInRest first rest front name behind
joined [] rest front name behind is = inr (record { middle = front; front_is = refl; rest_is = is })
joined (word ∷ first) rest [] name behind is = let same : word ≡ name = cc in inl (record { more = first; is = ap (λ (w : Sourced). w ∷ first) same })
joined (word ∷ first) rest (other ∷ front) name behind is = by (joined first rest front name behind (let e : first ++ rest ≡ front ++ name ∷ behind = cc in e))
  where
    same : word ≡ other
    same = cc

    by : IsIn first front name ⊎ IsInRest first rest front name behind → IsIn (word ∷ first) (other ∷ front) name ⊎ IsInRest (word ∷ first) rest (other ∷ front) name behind
    by (inl inside) = inl (record { more = inside.more; is = ap (λ (w : Sourced). w ∷ first) same ∙ ap (λ (l : List Sourced). other ∷ l) inside.is })
    by (inr those) = inr (record {
      middle = those.middle;
      front_is = ap (λ (w : Sourced). w ∷ front) (sym same) ∙ ap (λ (l : List Sourced). word ∷ l) those.front_is;
      rest_is = those.rest_is;
    })

-- each word of a replacement is at the place of the use
placed : (plain : PlainMacro) (name : Sourced) (parts front : List Sourced) (word : Sourced) (more : List Sourced) → map (given plain name) parts ≡ front ++ word ∷ more → word.word.at ≡ name.word.at
placed plain name [] [] word more is = cc
placed plain name [] (other ∷ front) word more is = cc
placed plain name (part ∷ parts) [] word more is = let same : given plain name part ≡ word = cc in ap (λ (w : Sourced). w.word.at) (sym same)
placed plain name (part ∷ parts) (other ∷ front) word more is = placed plain name parts front word more (let e : map (given plain name) parts ≡ front ++ word ∷ more = cc in e)

-- ## Uses with fewer words after them

-- the arguments take these words, whatever stands after
record Takes (depth : ℕ) (words : List Sourced) (found : Arguments) : Type 0 where
  part : List Sourced
  is : words ≡ part ++ found.rest
  again : (rest : List Sourced) → arguments_in depth (part ++ rest) ≡ Some (record found { rest = rest })

module _ (depth : ℕ) (word : Sourced) (words : List Sourced) (again : (depth : ℕ) (found : Arguments) → arguments_in depth words ≡ Some found → Takes depth words found) where
  abbrev deeper : ℕ
  deeper = depth_after depth word.word

  takes_last : (closes word.word && (depth == 0)) ≡ true → Takes depth (word ∷ words) (record { first = []; others = []; rest = words })
  takes_last ends = record { part = word ∷ []; is = refl; again = λ rest. rw ends refl }

  takes_argument : (closes word.word && (depth == 0)) ≡ false → (separates word.word && (depth == 0)) ≡ true → (inner : Arguments) → Takes 0 words inner →
      Takes depth (word ∷ words) (record { first = []; others = inner.first ∷ inner.others; rest = inner.rest })
  takes_argument ends splits inner those = record {
    part = word ∷ those.part;
    is = ap (λ (l : List Sourced). word ∷ l) those.is;
    again = λ rest. rw (ends, splits) (ap (λ (o : Option Arguments). argument_before o) (those.again rest));
  }

  takes_word : (closes word.word && (depth == 0)) ≡ false → (separates word.word && (depth == 0)) ≡ false → (inner : Arguments) → Takes deeper words inner →
      Takes depth (word ∷ words) (record { first = word ∷ inner.first; others = inner.others; rest = inner.rest })
  takes_word ends splits inner those = record {
    part = word ∷ those.part;
    is = ap (λ (l : List Sourced). word ∷ l) those.is;
    again = λ rest. rw (ends, splits) (ap (λ (o : Option Arguments). word_before word o) (those.again rest));
  }

  before_argument : (o : Option Arguments) → arguments_in 0 words ≡ o → (closes word.word && (depth == 0)) ≡ false → (separates word.word && (depth == 0)) ≡ true → (found : Arguments) → argument_before o ≡ Some found → Takes depth (word ∷ words) found
  before_argument None e ends splits found is = cc
  before_argument (Some inner) e ends splits found is =
      let same : record { first = []; others = inner.first ∷ inner.others; rest = inner.rest } ≡ found = cc in
      subst (λ (f : Arguments). Takes depth (word ∷ words) f) same (takes_argument ends splits inner (again 0 inner e))

  before_word : (o : Option Arguments) → arguments_in deeper words ≡ o → (closes word.word && (depth == 0)) ≡ false → (separates word.word && (depth == 0)) ≡ false → (found : Arguments) → word_before word o ≡ Some found → Takes depth (word ∷ words) found
  before_word None e ends splits found is = cc
  before_word (Some inner) e ends splits found is =
      let same : record { first = word ∷ inner.first; others = inner.others; rest = inner.rest } ≡ found = cc in
      subst (λ (f : Arguments). Takes depth (word ∷ words) f) same (takes_word ends splits inner (again deeper inner e))

  takes_by : (c s : Bool) → (closes word.word && (depth == 0)) ≡ c → (separates word.word && (depth == 0)) ≡ s → (found : Arguments) →
      cond c (Some (record { first = []; others = []; rest = words })) (cond s (argument_before (arguments_in 0 words)) (word_before word (arguments_in deeper words))) ≡ Some found → Takes depth (word ∷ words) found
  takes_by true s ends splits found is =
      let same : record { first = []; others = []; rest = words } ≡ found = cc in subst (λ (f : Arguments). Takes depth (word ∷ words) f) same (takes_last ends)
  takes_by false true ends splits found is = before_argument (arguments_in 0 words) refl ends splits found is
  takes_by false false ends splits found is = before_word (arguments_in deeper words) refl ends splits found is

takes : (depth : ℕ) (words : List Sourced) (found : Arguments) → arguments_in depth words ≡ Some found → Takes depth words found
takes depth [] found is = cc
takes depth (word ∷ words) found is =
    takes_by depth word words (λ d f e. takes d words f e) (closes word.word && (depth == 0)) (separates word.word && (depth == 0)) refl refl found is

-- a use takes these words, whatever stands after
record Uses (table : Table) (name : Sourced) (words : List Sourced) (plain : PlainMacro) (arguments : List (List Sourced)) (rest : List Sourced) : Type 0 where
  part : List Sourced
  is : words ≡ part ++ rest
  again : (rest : List Sourced) → use_of table name (part ++ rest) ≡ Calls plain arguments rest

moved : (table : Table) (name : Sourced) (words : List Sourced) (plain plain' : PlainMacro) (arguments arguments' : List (List Sourced)) (rest rest' : List Sourced) → Calls plain arguments rest ≡ Calls plain' arguments' rest' →
    Uses table name words plain arguments rest → Uses table name words plain' arguments' rest'
moved table name words plain plain' arguments arguments' rest rest' is uses =
    let first : plain ≡ plain' = cc in
    let second : arguments ≡ arguments' = cc in
    let third : rest ≡ rest' = cc in
    subst (λ (p : PlainMacro). Uses table name words p arguments' rest') first
    (subst (λ (a : List (List Sourced)). Uses table name words plain a rest') second (subst (λ (r : List Sourced). Uses table name words plain arguments r) third uses))

called_never : (plain : PlainMacro) (parameters : ℕ) (found : Option Arguments) → called plain parameters found ≡ Stays → ⊥
called_never plain parameters None is = cc
called_never plain parameters (Some found) is = by (fitting parameters (found.first ∷ found.others)) is
  where
    by : (o : Option (List (List Sourced))) → fitted plain found.rest o ≡ Stays → ⊥
    by None is' = cc
    by (Some arguments) is' = cc

module _ (table : Table) (name : Sourced) (kind : is_name_kind name.word.kind ≡ true) (plain : PlainMacro) (found : macro_named name.word.text table ≡ Some plain) where
  -- what the word is a use of
  is_use : (parameters : Option (List Text)) → plain.parameters ≡ parameters → (words : List Sourced) → use_of table name words ≡ use_as plain parameters name words
  is_use parameters same words =
      ap (λ (b : Bool). cond b (use_by (macro_named name.word.text table) name words) Stays) kind ∙ ap (λ (o : Option PlainMacro). use_by o name words) found ∙ ap (λ (q : Option (List Text)). use_as plain q name words) same

  uses_object : (b : Bool) → name.from plain.name ≡ b → plain.parameters ≡ None → (words : List Sourced) (plain' : PlainMacro) (arguments : List (List Sourced)) (rest : List Sourced) →
      cond b (Wrong 6) (Calls plain [] words) ≡ Calls plain' arguments rest → Uses table name words plain' arguments rest
  uses_object true from none words plain' arguments rest is = cc
  uses_object false from none words plain' arguments rest is =
      moved table name words plain plain' [] arguments words rest is (record { part = []; is = refl; again = λ behind. is_use None none behind ∙ ap (λ (b : Bool). cond b (Wrong 6) (Calls plain [] behind)) from })

  module _ (parameters : List Text) (some : plain.parameters ≡ Some parameters) (paren : Sourced) (words : List Sourced) where
    uses_called : opens paren.word ≡ true → name.from plain.name ≡ false → (those : Option Arguments) → arguments_in 0 words ≡ those → (plain' : PlainMacro) (arguments : List (List Sourced)) (rest : List Sourced) →
        called plain (length parameters) those ≡ Calls plain' arguments rest → Uses table name (paren ∷ words) plain' arguments rest
    uses_called opened from None e plain' arguments rest is = cc
    uses_called opened from (Some those) e plain' arguments rest is = by (fitting (length parameters) (those.first ∷ those.others)) refl is
      where
        taken : Takes 0 words those
        taken = takes 0 words those e

        by : (o : Option (List (List Sourced))) → fitting (length parameters) (those.first ∷ those.others) ≡ o → fitted plain those.rest o ≡ Calls plain' arguments rest → Uses table name (paren ∷ words) plain' arguments rest
        by None fit is' = cc
        by (Some lists) fit is' =
            moved table name (paren ∷ words) plain plain' lists arguments those.rest rest is'
            (record {
              part = paren ∷ taken.part;
              is = ap (λ (l : List Sourced). paren ∷ l) taken.is;
              again = λ behind. is_use (Some parameters) some (paren ∷ taken.part ++ behind)
                  ∙ rw (opened, from) (ap (λ (o : Option Arguments). called plain (length parameters) o) (taken.again behind) ∙ ap (λ (o : Option (List (List Sourced))). fitted plain behind o) fit);
            })

    uses_function : (o f : Bool) → opens paren.word ≡ o → name.from plain.name ≡ f → (plain' : PlainMacro) (arguments : List (List Sourced)) (rest : List Sourced) →
        cond o (cond f (Wrong 6) (called plain (length parameters) (arguments_in 0 words))) Stays ≡ Calls plain' arguments rest → Uses table name (paren ∷ words) plain' arguments rest
    uses_function false f opened from plain' arguments rest is = cc
    uses_function true true opened from plain' arguments rest is = cc
    uses_function true false opened from plain' arguments rest is = uses_called opened from (arguments_in 0 words) refl plain' arguments rest is

    stays_function : (o f : Bool) → opens paren.word ≡ o → name.from plain.name ≡ f → cond o (cond f (Wrong 6) (called plain (length parameters) (arguments_in 0 words))) Stays ≡ Stays → opens paren.word ≡ false
    stays_function false f opened from is = opened
    stays_function true true opened from is = cc
    stays_function true false opened from is = absurd (called_never plain (length parameters) (arguments_in 0 words) is)

  uses_macro : (parameters : Option (List Text)) → plain.parameters ≡ parameters → (words : List Sourced) (plain' : PlainMacro) (arguments : List (List Sourced)) (rest : List Sourced) →
      use_as plain parameters name words ≡ Calls plain' arguments rest → Uses table name words plain' arguments rest
  uses_macro None same words plain' arguments rest is = uses_object (name.from plain.name) refl same words plain' arguments rest is
  uses_macro (Some parameters) same [] plain' arguments rest is = cc
  uses_macro (Some parameters) same (paren ∷ words) plain' arguments rest is = uses_function parameters same paren words (opens paren.word) (name.from plain.name) refl refl plain' arguments rest is

  object_never : (f : Bool) (words : List Sourced) → cond f (Wrong 6) (Calls plain [] words) ≡ Stays → ⊥
  object_never true words is = cc
  object_never false words is = cc

  stays_macro : (parameters : Option (List Text)) → plain.parameters ≡ parameters → (front : List Sourced) (word : Sourced) (behind : List Sourced) → use_as plain parameters name (front ++ word ∷ behind) ≡ Stays → use_as plain parameters name front ≡ Stays
  stays_macro None same front word behind is = absurd (object_never (name.from plain.name) (front ++ word ∷ behind) is)
  stays_macro (Some parameters) same [] word behind is = refl
  stays_macro (Some parameters) same (paren ∷ front) word behind is =
      let closed : opens paren.word ≡ false = stays_function parameters same paren (front ++ word ∷ behind) (opens paren.word) (name.from plain.name) refl refl is in rw closed refl

uses_where : (table : Table) (name : Sourced) (words : List Sourced) (plain : PlainMacro) (arguments : List (List Sourced)) (rest : List Sourced) → use_of table name words ≡ Calls plain arguments rest → Uses table name words plain arguments rest
uses_where table name words plain arguments rest is = by_kind (is_name_kind name.word.kind) refl is
  where
    by_macro : (o : Option PlainMacro) → is_name_kind name.word.kind ≡ true → macro_named name.word.text table ≡ o → use_by o name words ≡ Calls plain arguments rest → Uses table name words plain arguments rest
    by_macro None kind found is' = cc
    by_macro (Some made) kind found is' = uses_macro table name kind made found made.parameters refl words plain arguments rest is'

    by_kind : (b : Bool) → is_name_kind name.word.kind ≡ b → cond b (use_by (macro_named name.word.text table) name words) Stays ≡ Calls plain arguments rest → Uses table name words plain arguments rest
    by_kind false kind is' = cc
    by_kind true kind is' = by_macro (macro_named name.word.text table) kind refl is'

-- a word that stays does so with fewer words after it
stays_where : (table : Table) (name : Sourced) (front : List Sourced) (word : Sourced) (behind : List Sourced) → use_of table name (front ++ word ∷ behind) ≡ Stays → use_of table name front ≡ Stays
stays_where table name front word behind is = by_kind (is_name_kind name.word.kind) refl is
  where
    by_macro : (o : Option PlainMacro) → is_name_kind name.word.kind ≡ true → macro_named name.word.text table ≡ o → use_by o name (front ++ word ∷ behind) ≡ Stays → use_by o name front ≡ Stays
    by_macro None kind found is' = refl
    by_macro (Some made) kind found is' = stays_macro table name kind made found made.parameters refl front word behind is'

    by_kind : (b : Bool) → is_name_kind name.word.kind ≡ b → cond b (use_by (macro_named name.word.text table) name (front ++ word ∷ behind)) Stays ≡ Stays → cond b (use_by (macro_named name.word.text table) name front) Stays ≡ Stays
    by_kind false kind is' = refl
    by_kind true kind is' = by_macro (macro_named name.word.text table) kind refl is'

-- ## The words before a refusal

abbrev RefusesAt : Table → List Sourced → ℕ → Ending (List Sourced) → Type 0
RefusesAt table words left (Refused number at) = StandsAfter table words left at
RefusesAt table words left _ = Unit {0}

-- a use was replaced, and a word after it is refused: those between are given with the use
record StandsInRest (table : Table) (plain : PlainMacro) (name : Sourced) (rest : List Sourced) (values : Ending (List (List Sourced))) (at : Span) : Type 0 where
  front : List Sourced
  word : Sourced
  behind : List Sourced
  is : rest ≡ front ++ word ∷ behind
  place : word.word.at ≡ at
  made : List Sourced
  remaining : ℕ
  gives : Follows table None plain name front values (Gives made remaining)

abbrev FollowsAt : Table → PlainMacro → Sourced → List Sourced → Ending (List (List Sourced)) → Ending (List Sourced) → Type 0
FollowsAt table plain name rest values (Refused number at) = (at ≡ name.word.at) ⊎ StandsInRest table plain name rest values at
FollowsAt table plain name rest values _ = Unit {0}

word_in_front : (table : Table) (word : Sourced) (words : List Sourced) (left : ℕ) (behind : Ending (List Sourced)) → use_of table word words ≡ Stays → RefusesAt table words left behind → RefusesAt table (word ∷ words) left (after_word word behind)
word_in_front table word words left (Gives made remaining) stays refuses = tt
word_in_front table word words left TooMany stays refuses = tt
word_in_front table word words left (Refused number at) stays refuses = record {
  front = word ∷ refuses.front;
  name = refuses.name;
  rest = refuses.rest;
  is = ap (λ (l : List Sourced). word ∷ l) refuses.is;
  place = refuses.place;
  made = word ∷ refuses.made;
  remaining = refuses.remaining;
  gives = word_stays (stays_where table word refuses.front refuses.name refuses.rest (ap (λ (l : List Sourced). use_of table word l) (sym refuses.is) ∙ stays)) refuses.gives refl;
}

at_once : (table : Table) (word : Sourced) (words : List Sourced) (left number : ℕ) (at : Span) → word.word.at ≡ at → StandsAfter table (word ∷ words) left at
at_once table word words left number at place = record { front = []; name = word; rest = words; is = refl; place = place; made = []; remaining = left; gives = no_words }

use_in_front : (table : Table) (word : Sourced) (words : List Sourced) (left : ℕ) (plain : PlainMacro) (arguments : List (List Sourced)) (rest : List Sourced) (values : Ending (List (List Sourced))) (ending : Ending (List Sourced)) →
    use_of table word words ≡ Calls plain arguments rest → EndsAll table (Some word.word.at) arguments left values → FollowsAt table plain word rest values ending → RefusesAt table (word ∷ words) left ending
use_in_front table word words left plain arguments rest values (Gives made remaining) is all follows = tt
use_in_front table word words left plain arguments rest values TooMany is all follows = tt
use_in_front table word words left plain arguments rest values (Refused number at) is all (inl same) = at_once table word words left number at (sym same)
use_in_front table word words left plain arguments rest values (Refused number at) is all (inr those) =
    let uses : Uses table word words plain arguments rest = uses_where table word words plain arguments rest is in
    record {
      front = word ∷ uses.part ++ those.front;
      name = those.word;
      rest = those.behind;
      is = ap (λ (l : List Sourced). word ∷ l) (uses.is ∙ ap (λ (l : List Sourced). uses.part ++ l) those.is ∙ sym (append_assoc uses.part those.front (those.word ∷ those.behind)));
      place = those.place;
      made = those.made;
      remaining = those.remaining;
      gives = use_replaced (uses.again those.front) all those.gives;
    }

replaced_in_front : (table : Table) (plain : PlainMacro) (name : Sourced) (rest : List Sourced) (values : List (List Sourced)) (left remaining : ℕ) (ending : Ending (List Sourced)) → left ≡ length (replacement plain name values) + remaining →
    RefusesAt table (replacement plain name values ++ rest) remaining ending → FollowsAt table plain name rest (Gives values left) ending
replaced_in_front table plain name rest values left remaining (Gives made more) costs refuses = tt
replaced_in_front table plain name rest values left remaining TooMany costs refuses = tt
replaced_in_front table plain name rest values left remaining (Refused number at) costs refuses = by (joined made rest refuses.front refuses.name refuses.rest refuses.is)
  where
    made : List Sourced
    made = replacement plain name values

    by : IsIn made refuses.front refuses.name ⊎ IsInRest made rest refuses.front refuses.name refuses.rest → (at ≡ name.word.at) ⊎ StandsInRest table plain name rest (Gives values left) at
    by (inl inside) = inl (sym refuses.place ∙ placed plain name _ refuses.front refuses.name inside.more inside.is)
    by (inr those) = inr (record {
      front = those.middle;
      word = refuses.name;
      behind = refuses.rest;
      is = those.rest_is;
      place = refuses.place;
      made = refuses.made;
      remaining = refuses.remaining;
      gives = replacement_made costs (subst (λ (l : List Sourced). Ends table None l remaining (Gives refuses.made refuses.remaining)) those.front_is refuses.gives);
    })

mutual
  fronts : {table : Table} {outer : Option Span} {words : List Sourced} {left : ℕ} {ending : Ending (List Sourced)} → Ends table outer words left ending → outer ≡ None → RefusesAt table words left ending
  fronts no_words none = tt
  fronts {table} (word_stays {word = word} {words = words} {left = left} {others = behind} is ends gives) none =
      subst (λ (e : Ending (List Sourced)). RefusesAt table (word ∷ words) left e) (sym gives) (word_in_front table word words left behind is (fronts ends none))
  fronts {table} (use_refused {outer = outer} {word = word} {words = words} {left = left} {number = number} is refused) none =
      subst (λ (e : Ending (List Sourced)). RefusesAt table (word ∷ words) left e) (sym refused) (at_once table word words left number (place_of_use outer word) (ap (λ (o : Option Span). place_of_use o word) (sym none)))
  fronts {table} (use_replaced {outer = outer} {word = word} {words = words} {left = left} {ending = ending} {plain = plain} {arguments = arguments} {rest = rest} {values = values} is all follows) none =
      let all' : EndsAll table (Some word.word.at) arguments left values = subst (λ (o : Option Span). EndsAll table (Some (place_of_use o word)) arguments left values) none all in
      use_in_front table word words left plain arguments rest values ending is all' (fronts_behind follows none (arguments_at all'))

  fronts_behind : {table : Table} {outer : Option Span} {plain : PlainMacro} {name : Sourced} {rest : List Sourced} {values : Ending (List (List Sourced))} {ending : Ending (List Sourced)} →
      Follows table outer plain name rest values ending → outer ≡ None → IsAt (Some name.word.at) values → FollowsAt table plain name rest values ending
  fronts_behind {table} (replacement_made {plain = plain} {name = name} {rest = rest} {values = values} {left = left} {remaining = remaining} {ending = ending} costs ends) none is =
      replaced_in_front table plain name rest values left remaining ending costs (fronts ends none)
  fronts_behind (replacement_too_long less) none is = tt
  fronts_behind values_refused none is = inl is
  fronts_behind values_too_long none is = tt

pub fronts_give : FrontsGive
fronts_give table words left number at ends = fronts ends refl
