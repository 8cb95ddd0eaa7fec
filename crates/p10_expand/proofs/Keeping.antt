-- What holds of all words holds of those that replacement gives.
use Rattle.std.proofs.Common.{◌≡◌, ◌⊎◌, inl, inr, ℕ, zero, suc, ◌==◌, List, [], ◌∷◌, ◌++◌, map, length, Bool, true, false, ◌&&◌, if◌then◌else◌, not, filter, Option, Some, None, bytes_eq, refl, sym, subst}
use Rattle.std.proofs.lemmas.Slice.Eq.{bytes_eq-Decides}
use Rattle.std.specs.List.{AllByRecursion, flat_map}
use Rattle.p10_base.specs.declared.span.Span.{Span}
use Rattle.p10_base.specs.Words.{PlainWord, Text, is_name, is_name_kind}
use Rattle.p10_direct.specs.Directives.{PlainMacro}
use Rattle.p10_macros.specs.Table.{Entry, Table, macro_named, without_macro}
use Rattle.p10_macros.specs.Uses.{Sourced, written, Arguments, opens, closes, separates, depth_after, word_before, argument_before, arguments_in, fitting, Use, Stays, Wrong, Calls, fitted, called, unless_recursive, use_as, use_by, use_of, given, value_of, value_or, texts_of, replacement}
use Rattle.p10_macros.specs.Endings.{Ending, Gives, Refused, TooMany, after_word, after_argument}
use Rattle.p10_macros.specs.Ends.{Ends, EndsAll, Follows, place_of_use, no_words, word_stays, use_refused, use_replaced, no_arguments, argument_given, argument_refused, argument_too_long, replacement_made, replacement_too_long, values_refused, values_too_long}

-- ## Lists

module _ {A : Type 0} (P : A → Type 0) where
  pub each_joined : (xs ys : List A) → AllByRecursion P xs → AllByRecursion P ys → AllByRecursion P (xs ++ ys)
  each_joined [] ys p q = q
  each_joined (x ∷ xs) ys p q = (p.0, each_joined xs ys p.1 q)

  pub each_front : (xs ys : List A) → AllByRecursion P (xs ++ ys) → AllByRecursion P xs
  each_front [] ys p = tt
  each_front (x ∷ xs) ys p = (p.0, each_front xs ys p.1)

  pub each_back : (xs ys : List A) → AllByRecursion P (xs ++ ys) → AllByRecursion P ys
  each_back [] ys p = p
  each_back (x ∷ xs) ys p = each_back xs ys p.1

  pub each_if : (b : Bool) (xs ys : List A) → AllByRecursion P xs → AllByRecursion P ys → AllByRecursion P (if b then xs else ys)
  each_if true xs ys p q = p
  each_if false xs ys p q = q

  pub each_kept : (test : A → Bool) (xs : List A) → AllByRecursion P xs → AllByRecursion P (filter test xs)
  each_kept test [] p = tt
  each_kept test (x ∷ xs) p = each_if (test x) (x ∷ filter test xs) (filter test xs) (p.0, each_kept test xs p.1) (each_kept test xs p.1)

pub each_mapped : {A B : Type 0} (P : A → Type 0) (Q : B → Type 0) (f : A → B) → ((x : A) → P x → Q (f x)) → (xs : List A) → AllByRecursion P xs → AllByRecursion Q (map f xs)
each_mapped P Q f h [] p = tt
each_mapped P Q f h (x ∷ xs) p = (h x p.0, each_mapped P Q f h xs p.1)

pub each_weaker : {A : Type 0} (P Q : A → Type 0) → ((x : A) → P x → Q x) → (xs : List A) → AllByRecursion P xs → AllByRecursion Q xs
each_weaker P Q h [] p = tt
each_weaker P Q h (x ∷ xs) p = (h x p.0, each_weaker P Q h xs p.1)

each_flat : {A B : Type 0} (P : A → Type 0) (Q : B → Type 0) (f : A → List B) → ((x : A) → P x → AllByRecursion Q (f x)) → (xs : List A) → AllByRecursion P xs → AllByRecursion Q (flat_map f xs)
each_flat P Q f h [] p = tt
each_flat P Q f h (x ∷ xs) p = each_joined Q (f x) (flat_map f xs) (h x p.0) (each_flat P Q f h xs p.1)

-- ## Replacement

-- what holds of the words of a text, of the names of macros, of the parts that macros give, wherever these stand, and of the
-- places of uses
pub record Kept : Type 1 where
  pub Stands : PlainWord → Type 0
  pub IsName : Text → Type 0
  pub IsPart : PlainWord → Type 0
  pub IsPlace : Span → Type 0
  pub part : (word : PlainWord) → Stands word → IsPart word
  pub place : (word : PlainWord) → Stands word → is_name_kind word.kind ≡ true → IsName word.text → IsPlace word.at
  pub moved : (word : PlainWord) (at : Span) → IsPart word → IsPart (record word { at = at })

-- whether a word begins a use
abbrev pub Begins : Use → Type 0
Begins Stays = ⊥
Begins _ = Unit {0}

begins_if : (b : Bool) (x : Use) → Begins (if b then x else Stays) → (b ≡ true) × Begins x
begins_if true x p = (refl, p)
begins_if false x p = absurd p

module _ (kept : Kept) where
  -- a word stands in the text, or is a part at the place of a use
  abbrev pub Holds : PlainWord → Type 0
  Holds word = kept.Stands word ⊎ (kept.IsPart word × kept.IsPlace word.at)

  abbrev pub HoldsSourced : Sourced → Type 0
  HoldsSourced sourced = Holds sourced.word

  abbrev pub MacroHolds : PlainMacro → Type 0
  MacroHolds plain = kept.IsName plain.name × AllByRecursion kept.IsPart plain.body

  pub part_of : (word : PlainWord) → Holds word → kept.IsPart word
  part_of word (inl p) = kept.part word p
  part_of word (inr p) = p.0

  place_of : (word : PlainWord) → Holds word → is_name_kind word.kind ≡ true → kept.IsName word.text → kept.IsPlace word.at
  place_of word (inl p) kind name = kept.place word p kind name
  place_of word (inr p) kind name = p.1

  abbrev pub TableHolds : Table → Type 0
  TableHolds table = AllByRecursion (λ (entry : Entry). MacroHolds entry.made) table

  abbrev pub OptionHolds : Option PlainMacro → Type 0
  OptionHolds None = Unit {0}
  OptionHolds (Some plain) = MacroHolds plain

  abbrev UseHolds : Use → Type 0
  UseHolds (Calls plain arguments rest) = MacroHolds plain × AllByRecursion (AllByRecursion HoldsSourced) arguments × AllByRecursion HoldsSourced rest
  UseHolds _ = Unit {0}

  abbrev ArgumentsHold : Option Arguments → Type 0
  ArgumentsHold None = Unit {0}
  ArgumentsHold (Some found) = AllByRecursion HoldsSourced found.first × AllByRecursion (AllByRecursion HoldsSourced) found.others × AllByRecursion HoldsSourced found.rest

  abbrev ListsHold : Option (List (List Sourced)) → Type 0
  ListsHold None = Unit {0}
  ListsHold (Some lists) = AllByRecursion (AllByRecursion HoldsSourced) lists

  use_if : (b : Bool) (x y : Use) → UseHolds x → UseHolds y → UseHolds (if b then x else y)
  use_if true x y p q = p
  use_if false x y p q = q

  option_if : (b : Bool) (x y : Option PlainMacro) → OptionHolds x → OptionHolds y → OptionHolds (if b then x else y)
  option_if true x y p q = p
  option_if false x y p q = q

  arguments_if : (b : Bool) (x y : Option Arguments) → ArgumentsHold x → ArgumentsHold y → ArgumentsHold (if b then x else y)
  arguments_if true x y p q = p
  arguments_if false x y p q = q

  lists_if : (b : Bool) (lists : List (List Sourced)) → AllByRecursion (AllByRecursion HoldsSourced) lists → ListsHold (if b then Some lists else None)
  lists_if true lists p = p
  lists_if false lists p = tt

  pub named_holds : (name : Text) (table : Table) → TableHolds table → OptionHolds (macro_named name table)
  named_holds name [] p = tt
  named_holds name (entry ∷ table) p = option_if (bytes_eq name entry.made.name) (Some entry.made) (macro_named name table) p.0 (named_holds name table p.1)

  word_more : (word : Sourced) (found : Option Arguments) → HoldsSourced word → ArgumentsHold found → ArgumentsHold (word_before word found)
  word_more word None p q = tt
  word_more word (Some found) p q = ((p, q.0), q.1, q.2)

  argument_more : (found : Option Arguments) → ArgumentsHold found → ArgumentsHold (argument_before found)
  argument_more None q = tt
  argument_more (Some found) q = (tt, (q.0, q.1), q.2)

  arguments_hold : (depth : ℕ) (words : List Sourced) → AllByRecursion HoldsSourced words → ArgumentsHold (arguments_in depth words)
  arguments_hold depth [] p = tt
  arguments_hold depth (word ∷ words) p =
      arguments_if (closes word.word && (depth == 0)) (Some (record { first = []; others = []; rest = words })) _ (tt, tt, p.1)
      (arguments_if (separates word.word && (depth == 0)) (argument_before (arguments_in 0 words)) (word_before word (arguments_in (depth_after depth word.word) words))
      (argument_more (arguments_in 0 words) (arguments_hold 0 words p.1))
      (word_more word (arguments_in (depth_after depth word.word) words) p.0 (arguments_hold (depth_after depth word.word) words p.1)))

  fitting_holds : (parameters : ℕ) (lists : List (List Sourced)) → AllByRecursion (AllByRecursion HoldsSourced) lists → ListsHold (fitting parameters lists)
  fitting_holds zero [] p = tt
  fitting_holds zero ([] ∷ []) p = tt
  fitting_holds zero ([] ∷ other ∷ lists) p = lists_if (0 == length ([] ∷ other ∷ lists)) ([] ∷ other ∷ lists) p
  fitting_holds zero ((word ∷ words) ∷ lists) p = lists_if (0 == length ((word ∷ words) ∷ lists)) ((word ∷ words) ∷ lists) p
  fitting_holds (suc n) lists p = lists_if (suc n == length lists) lists p

  fitted_holds : (plain : PlainMacro) (rest : List Sourced) (lists : Option (List (List Sourced))) → MacroHolds plain → AllByRecursion HoldsSourced rest → ListsHold lists → UseHolds (fitted plain rest lists)
  fitted_holds plain rest None p q r = tt
  fitted_holds plain rest (Some lists) p q r = (p, r, q)

  called_holds : (plain : PlainMacro) (parameters : ℕ) (found : Option Arguments) → MacroHolds plain → ArgumentsHold found → UseHolds (called plain parameters found)
  called_holds plain parameters None p q = tt
  called_holds plain parameters (Some found) p q = fitted_holds plain found.rest (fitting parameters (found.first ∷ found.others)) p q.2 (fitting_holds parameters (found.first ∷ found.others) (q.0, q.1))

  recursive_holds : (plain : PlainMacro) (name : Sourced) (use' : Use) → UseHolds use' → UseHolds (unless_recursive plain name use')
  recursive_holds plain name use' p = use_if (name.from plain.name) (Wrong 6) use' tt p

  use_as_holds : (plain : PlainMacro) (parameters : Option (List Text)) (name : Sourced) (words : List Sourced) → MacroHolds plain → AllByRecursion HoldsSourced words → UseHolds (use_as plain parameters name words)
  use_as_holds plain None name words p q = recursive_holds plain name (Calls plain [] words) (p, tt, q)
  use_as_holds plain (Some parameters) name [] p q = tt
  use_as_holds plain (Some parameters) name (word ∷ words) p q =
      use_if (opens word.word) (unless_recursive plain name (called plain (length parameters) (arguments_in 0 words))) Stays
      (recursive_holds plain name _ (called_holds plain (length parameters) (arguments_in 0 words) p (arguments_hold 0 words q.1))) tt

  use_by_holds : (found : Option PlainMacro) (name : Sourced) (words : List Sourced) → OptionHolds found → AllByRecursion HoldsSourced words → UseHolds (use_by found name words)
  use_by_holds None name words p q = tt
  use_by_holds (Some plain) name words p q = use_as_holds plain plain.parameters name words p q

  use_holds : (table : Table) (name : Sourced) (words : List Sourced) → TableHolds table → AllByRecursion HoldsSourced words → UseHolds (use_of table name words)
  use_holds table name words p q =
      use_if (is_name_kind name.word.kind) (use_by (macro_named name.word.text table) name words) Stays
      (use_by_holds (macro_named name.word.text table) name words (named_holds name.word.text table p) q) tt

  -- a use begins with the name of a macro
  abbrev NameHolds : Text → Option PlainMacro → Type 0
  NameHolds name None = Unit {0}
  NameHolds name (Some plain) = kept.IsName name

  name_if : (name : Text) (b : Bool) (x y : Option PlainMacro) → (b ≡ true → NameHolds name x) → NameHolds name y → NameHolds name (if b then x else y)
  name_if name true x y p q = p refl
  name_if name false x y p q = q

  name_holds : (name : Text) (table : Table) → TableHolds table → NameHolds name (macro_named name table)
  name_holds name [] p = tt
  name_holds name (entry ∷ table) p =
      name_if name (bytes_eq name entry.made.name) (Some entry.made) (macro_named name table)
      (λ same. subst kept.IsName (sym ((bytes_eq-Decides name entry.made.name).0 same)) p.0.0) (name_holds name table p.1)

  name_used : (found : Option PlainMacro) (name : Sourced) (words : List Sourced) → NameHolds name.word.text found → Begins (use_by found name words) → kept.IsName name.word.text
  name_used None name words p begins = absurd begins
  name_used (Some plain) name words p begins = p

  pub name_of_use : (table : Table) (name : Sourced) (words : List Sourced) → TableHolds table → Begins (use_of table name words) → (is_name_kind name.word.kind ≡ true) × kept.IsName name.word.text
  name_of_use table name words t begins =
      let found = macro_named name.word.text table in
      let parts = begins_if (is_name_kind name.word.kind) (use_by found name words) begins in
      (parts.0, name_used found name words (name_holds name.word.text table t) parts.1)

  use_place : (table : Table) (name : Sourced) (words : List Sourced) → TableHolds table → HoldsSourced name → Begins (use_of table name words) → kept.IsPlace name.word.at
  use_place table name words t p begins =
      let named = name_of_use table name words t begins in
      place_of name.word p named.0 named.1

  abbrev SourcedPart : Sourced → Type 0
  SourcedPart sourced = kept.IsPart sourced.word

  abbrev ValueHolds : Option (List Sourced) → Type 0
  ValueHolds None = Unit {0}
  ValueHolds (Some value) = AllByRecursion SourcedPart value

  value_if : (b : Bool) (x y : Option (List Sourced)) → ValueHolds x → ValueHolds y → ValueHolds (if b then x else y)
  value_if true x y p q = p
  value_if false x y p q = q

  value_holds : (parameters : List Text) (values : List (List Sourced)) (word : PlainWord) → AllByRecursion (AllByRecursion SourcedPart) values → ValueHolds (value_of parameters values word)
  value_holds [] values word p = tt
  value_holds (parameter ∷ parameters) [] word p = tt
  value_holds (parameter ∷ parameters) (value ∷ values) word p = value_if (is_name parameter word) (Some value) _ p.0 (value_holds parameters values word p.1)

  value_or_holds : (value : Option (List Sourced)) (word : PlainWord) → ValueHolds value → kept.IsPart word → AllByRecursion SourcedPart (value_or value word)
  value_or_holds None word p q = (q, tt)
  value_or_holds (Some value) word p q = p

  replacement_holds : (plain : PlainMacro) (name : Sourced) (values : List (List Sourced)) → MacroHolds plain → kept.IsPlace name.word.at → AllByRecursion (AllByRecursion HoldsSourced) values → AllByRecursion HoldsSourced (replacement plain name values)
  replacement_holds plain name values p q r =
      let parts = each_weaker (AllByRecursion HoldsSourced) (AllByRecursion SourcedPart) (λ list. each_weaker HoldsSourced SourcedPart (λ sourced held. part_of sourced.word held) list) values r in
      each_mapped SourcedPart HoldsSourced (given plain name) (λ sourced part. inr (kept.moved sourced.word name.word.at part, q)) _
      (each_flat kept.IsPart SourcedPart _ (λ word part. value_or_holds (value_of (texts_of plain.parameters) values word) word (value_holds (texts_of plain.parameters) values word parts) part) plain.body p.1)

  abbrev pub EndingHolds : Ending (List Sourced) → Type 0
  EndingHolds (Gives made left) = AllByRecursion HoldsSourced made
  EndingHolds (Refused number at) = kept.IsPlace at
  EndingHolds TooMany = Unit {0}

  abbrev ValuesHold : Ending (List (List Sourced)) → Type 0
  ValuesHold (Gives made left) = AllByRecursion (AllByRecursion HoldsSourced) made
  ValuesHold (Refused number at) = kept.IsPlace at
  ValuesHold TooMany = Unit {0}

  abbrev OuterHolds : Option Span → Type 0
  OuterHolds None = Unit {0}
  OuterHolds (Some at) = kept.IsPlace at

  place_holds : (outer : Option Span) (name : Sourced) → OuterHolds outer → kept.IsPlace name.word.at → kept.IsPlace (place_of_use outer name)
  place_holds None name p q = q
  place_holds (Some at) name p q = p

  behind_holds : (word : Sourced) (behind : Ending (List Sourced)) → HoldsSourced word → EndingHolds behind → EndingHolds (after_word word behind)
  behind_holds word (Gives made left) p q = (p, q)
  behind_holds word (Refused number at) p q = q
  behind_holds word TooMany p q = tt

  argument_holds : (value : List Sourced) (behind : Ending (List (List Sourced))) → AllByRecursion HoldsSourced value → ValuesHold behind → ValuesHold (after_argument value behind)
  argument_holds value (Gives made left) p q = (p, q)
  argument_holds value (Refused number at) p q = q
  argument_holds value TooMany p q = tt

  mutual
    ends_hold : {table : Table} {outer : Option Span} {words : List Sourced} {left : ℕ} {ending : Ending (List Sourced)} → Ends table outer words left ending →
        TableHolds table → OuterHolds outer → AllByRecursion HoldsSourced words → EndingHolds ending
    ends_hold no_words t o p = tt
    ends_hold (word_stays {word = word} {others = behind} is ends gives) t o p = subst EndingHolds (sym gives) (behind_holds word behind p.0 (ends_hold ends t o p.1))
    ends_hold {table} (use_refused {outer = outer} {word = word} {words = words} is refused) t o p =
        let place = use_place table word words t p.0 (subst Begins (sym is) tt) in
        subst EndingHolds (sym refused) (place_holds outer word o place)
    ends_hold {table} (use_replaced {outer = outer} {word = word} {words = words} {plain = plain} {arguments = arguments} {rest = rest} is ends follows) t o p =
        let used : UseHolds (Calls plain arguments rest) = subst UseHolds is (use_holds table word words t p.1) in
        let place = use_place table word words t p.0 (subst Begins (sym is) tt) in
        follows_hold follows t o used.0 place used.2 (arguments_end ends t (place_holds outer word o place) used.1)

    arguments_end : {table : Table} {outer : Option Span} {arguments : List (List Sourced)} {left : ℕ} {ending : Ending (List (List Sourced))} → EndsAll table outer arguments left ending →
        TableHolds table → OuterHolds outer → AllByRecursion (AllByRecursion HoldsSourced) arguments → ValuesHold ending
    arguments_end no_arguments t o p = tt
    arguments_end (argument_given {value = value} {others = behind} first others gives) t o p =
        subst ValuesHold (sym gives) (argument_holds value behind (ends_hold first t o p.0) (arguments_end others t o p.1))
    arguments_end (argument_refused first) t o p = ends_hold first t o p.0
    arguments_end (argument_too_long first) t o p = tt

    follows_hold : {table : Table} {outer : Option Span} {plain : PlainMacro} {name : Sourced} {rest : List Sourced} {values : Ending (List (List Sourced))} {ending : Ending (List Sourced)} →
        Follows table outer plain name rest values ending → TableHolds table → OuterHolds outer → MacroHolds plain → kept.IsPlace name.word.at → AllByRecursion HoldsSourced rest → ValuesHold values → EndingHolds ending
    follows_hold (replacement_made {plain = plain} {name = name} {rest = rest} {values = values} costs ends) t o b n r v =
        ends_hold ends t o (each_joined HoldsSourced (replacement plain name values) rest (replacement_holds plain name values b n v) r)
    follows_hold (replacement_too_long less) t o b n r v = tt
    follows_hold values_refused t o b n r v = v
    follows_hold values_too_long t o b n r v = tt

  -- what a run of words gives
  pub run_holds : (table : Table) (words : List PlainWord) (left : ℕ) (ending : Ending (List Sourced)) → Ends table None (map written words) left ending → TableHolds table → AllByRecursion kept.Stands words → EndingHolds ending
  run_holds table words left ending ends t p = ends_hold ends t tt (each_mapped kept.Stands HoldsSourced written (λ word stands. inl stands) words p)

  pub without_holds : (table : Table) (name : Text) → TableHolds table → TableHolds (without_macro table name)
  without_holds table name p = each_kept (λ (entry : Entry). MacroHolds entry.made) (λ (entry : Entry). not (bytes_eq name entry.made.name)) table p
