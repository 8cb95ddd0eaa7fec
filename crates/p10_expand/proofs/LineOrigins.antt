-- What holds of the words that are there between two lines: each comes from the files. A line keeps it.
use Rattle.std.proofs.Common.{◌≡◌, inl, inr, ℕ, zero, suc, ◌-◌, ◌<◌, ◌≤◌, List, [], ◌∷◌, ◌++◌, length, get_or, Bool, true, false, MatchBool, ◌⊎◌, if◌then◌else◌, Option, Some, None, refl, ap, sym, ◌∙◌, subst, arith}
use Rattle.std.specs.List.{AllByRecursion, Contains}
use Rattle.p10_base.specs.declared.span.Span.{Span}
use Rattle.p10_base.specs.declared.sources.SourceFile.{SourceFile}
use Rattle.p10_base.specs.Gathered.{Gathered, LiesIn, no_file, text_of, name_of, candidate_of}
use Rattle.p10_base.specs.Words.{PlainWord, Text}
use Rattle.p10_direct.specs.Keywords.{keyword_of}
use Rattle.p10_direct.specs.declared.keyword.Keyword.{Keyword}
use Rattle.p10_direct.specs.declared.keyword.Keyword.TheVariants as keyword
use Rattle.p10_direct.specs.Directives.{PlainMacro, PlainDirective, Null, Include, Define, Undef, If, Elif, Ifdef, Ifndef, Else, Endif, Once, InitDone, TaskLoop, OtherPragma, Outcome, Read, BadForm, BadDefinition, IsOutcome, place_of, Definition, Continues, IsList, DefinesBehind, Defines as DefinesWords, SpellsNamed, SpellsBehind, Spells, IsBadNamed, IsBadBehind, IsBadDefinition}
use Rattle.p10_macros.specs.declared.table.Effect.{Effect}
use Rattle.p10_macros.specs.declared.table.Effect.TheVariants.{New, Same, Other}
use Rattle.p10_macros.specs.Table.{Entry, Table}
use Rattle.p10_macros.specs.Uses.{Sourced, written, sourced_words}
use Rattle.p10_macros.specs.Endings.{Ending, Gives, Refused, TooMany}
use Rattle.p10_macros.specs.Answers.{Defines}
use Rattle.p10_expand.specs.Conditionals.{RunEnds, Judged, Holds as Truth, Fails, Exceeds, Judges, answered, answered_at, asked_at}
use Rattle.p10_expand.specs.Items.{lines_of, onto_line, ends_line, item_name, is_among, new_words}
use Rattle.p10_expand.specs.Obeying.{PlainObeyed, State, Cause, Ended, Stopped, Finished, RefusedBy, PassedLimit, Next, GoesOn, EntersFile, StopsWith, File, refuse, words_before, begins_at, with_words, TextEnds, TextGives, RunGives, operand_place, included, is_header, defined_as, DefinitionGives, DefineGives, judged_next, ConditionGives, mark_word, Does, Acts}
use Rattle.p10_expand.specs.Coming.{IsWritten, IsInText, IsDirective, IsMacroName, AreReplaced, all_words, words_before_refused, expanded_words, IsExpanded, Comes, in_text, as_mark, by_macro}
use Rattle.p10_expand.proofs.AtUses.{IsOwn, IsAtUse, words_stand_at_uses}
use Rattle.p10_expand.proofs.Keeping.{Kept, Begins, Holds, TableHolds, MacroHolds, EndingHolds, each_joined, each_weaker, each_mapped, part_of, name_of_use, run_holds, without_holds}
use Rattle.p10_base.specs.declared.report.TheConstants.Limit.{MACROS}

-- ## Lists

each_at : {A : Type 0} (P : A → Type 0) (xs : List A) (other : A) → AllByRecursion P xs → P other → (place : ℕ) → P (get_or xs place other)
each_at P [] other p q place = q
each_at P (x ∷ xs) other p q zero = p.0
each_at P (x ∷ xs) other p q (suc place) = each_at P xs other p.1 q place

-- a number with a text is that of a file
pub held_by : (files : List SourceFile) (number : ℕ) → 0 < length (get_or files number no_file).text → number < length files
held_by [] number some = absurd (omega (arith, some))
held_by (file ∷ files) zero some = omega arith
held_by (file ∷ files) (suc number) some = let there : number < length files = held_by files number some in omega (arith, there)

pub each_itself : {A : Type 0} (xs : List A) → AllByRecursion (Contains xs) xs
each_itself [] = tt
each_itself (x ∷ xs) =
    ((0, omega arith, refl), each_weaker (Contains xs) (Contains (x ∷ xs)) (λ y among. (suc among.0, omega (arith, among.1), among.2)) xs (each_itself xs))

each_contained : {A : Type 0} (P : A → Type 0) (xs : List A) (x : A) → AllByRecursion P xs → Contains xs x → P x
each_contained P [] x p (place, within, is) = absurd (omega (arith, within))
each_contained P (y ∷ ys) x p (zero, within, is) = subst P is p.0
each_contained P (y ∷ ys) x p (suc place, within, is) = each_contained P ys x p.1 (place, omega (arith, within), is)

pub each_both : {A : Type 0} (P Q R : A → Type 0) → ((x : A) → P x → Q x → R x) → (xs : List A) → AllByRecursion P xs → AllByRecursion Q xs → AllByRecursion R xs
each_both P Q R h [] p q = tt
each_both P Q R h (x ∷ xs) p q = (h x p.0 q.0, each_both P Q R h xs p.1 q.1)

module _ (g : Gathered) where
  -- ## Words

  abbrev pub Written : PlainWord → Type 0
  Written word = IsWritten g word

  abbrev pub InText : PlainWord → Type 0
  InText word = IsInText g word

  abbrev pub Coming : PlainWord → Type 0
  Coming word = Comes g word

  -- a word of a file, except for its place
  pub record IsPart (word : PlainWord) : Type 0 where
    pub part : PlainWord
    pub written : IsWritten g part
    pub same : word ≡ record part { at = word.at }

  pub written_lies : (word : PlainWord) → IsWritten g word → LiesIn g word.at
  written_lies word is =
      let of_file : word.at.file ≡ is.file = is.slice.of_file in
      let start : word.at.start < word.at.end = is.slice.some in
      let within : word.at.end ≤ length (text_of g is.file) = is.slice.within in record {
        held = rw of_file is.has.held;
        within = rw of_file (omega arith);
      }

  abbrev pub kept : Kept
  kept = record {
    Stands = InText;
    IsName = IsMacroName g;
    IsPart = IsPart;
    IsPlace = LiesIn g;
    part = λ word stands. record { part = word; written = stands.written; same = refl };
    place = λ word stands kind name. written_lies word stands.written;
    moved = λ word at is. record { part = is.part; written = is.written; same = ap (λ (other : PlainWord). record other { at = at }) is.same };
  }

  lies : (word : PlainWord) → Written word → LiesIn g word.at
  lies word is = written_lies word is

  pub comes_lies : (word : PlainWord) → Comes g word → LiesIn g word.at
  comes_lies word (in_text is) = written_lies word is.written
  comes_lies word (as_mark is) = subst (λ (word : PlainWord). LiesIn g word.at) (sym is.mark) (written_lies is.last is.written)
  comes_lies word (by_macro is) = subst (λ (word : PlainWord). LiesIn g word.at) (sym is.given) (written_lies is.name is.in_text.written)

  abbrev pub LineHolds : List PlainWord → Type 0
  LineHolds [] = ⊥
  LineHolds (hash ∷ words) = Written hash × AllByRecursion Written words × IsDirective g (hash ∷ words)

  pub line_all : (line : List PlainWord) → LineHolds line → AllByRecursion Written line
  line_all [] h = absurd h
  line_all (hash ∷ words) h = (h.0, h.1)

  pub line_is : (line : List PlainWord) → LineHolds line → IsDirective g line
  line_is [] h = absurd h
  line_is (hash ∷ words) h = h.2

  pub place_lies : (line : List PlainWord) → LineHolds line → LiesIn g (place_of line)
  place_lies [] h = absurd h
  place_lies (hash ∷ words) h = let at : LiesIn g hash.at = lies hash h.0 in record { held = at.held; within = at.within }

  operand_lies : (line : List PlainWord) → LineHolds line → LiesIn g (operand_place line)
  operand_lies [] h = absurd h
  operand_lies (hash ∷ []) h = place_lies (hash ∷ []) h
  operand_lies (hash ∷ name ∷ []) h = place_lies (hash ∷ name ∷ []) h
  operand_lies (hash ∷ name ∷ operand ∷ words) h = lies operand h.1.1.0

  mark_holds : (line : List PlainWord) → LineHolds line → AllByRecursion Coming (mark_word line)
  mark_holds [] h = absurd h
  mark_holds (hash ∷ words) h =
      (as_mark (record { last = get_or (hash ∷ words) (length (hash ∷ words) - 1) hash; written = each_at Written (hash ∷ words) hash (h.0, h.1) h.0 (length (hash ∷ words) - 1); mark = refl }), tt)

  abbrev pub ListedHolds : PlainObeyed → Type 0
  ListedHolds line = AllByRecursion Written line.words × LiesIn g line.span × IsDirective g line.words

  pub record StateHolds (s : State) : Type 0 where
    pub macros : TableHolds kept s.macros
    pub words : AllByRecursion Coming s.words
    pub obeyed : AllByRecursion ListedHolds s.obeyed

  abbrev pub CauseHolds : Cause → Type 0
  CauseHolds (RefusedBy s refusal) = StateHolds s × LiesIn g refusal.span
  CauseHolds (PassedLimit limit) = Unit {0}

  abbrev pub EndedHolds : Ended → Type 0
  EndedHolds (Finished s) = StateHolds s
  EndedHolds (Stopped cause) = CauseHolds cause

  abbrev pub NextHolds : Next → Type 0
  NextHolds (GoesOn holds s) = StateHolds s
  NextHolds (EntersFile number built_in s) = StateHolds s
  NextHolds (StopsWith cause) = CauseHolds cause

  pub next_if : (b : Bool) (x y : Next) → NextHolds x → NextHolds y → NextHolds (if b then x else y)
  next_if true x y p q = p
  next_if false x y p q = q

  -- ## Text

  before_if : (b : Bool) (words : List PlainWord) → AllByRecursion InText words → AllByRecursion InText (if b then [] else words)
  before_if true words p = tt
  before_if false words p = p

  before_hold : (at : Span) (words : List PlainWord) → AllByRecursion InText words → AllByRecursion InText (words_before at words)
  before_hold at [] p = tt
  before_hold at (word ∷ words) p = before_if (begins_at at word) (word ∷ words_before at words) (p.0, before_hold at words p.1)

  -- a word that is made of a run of words in a text is one of them, or a macro gave it
  word_comes : (macros : Table) (run : List PlainWord) (made : List Sourced) → TableHolds kept macros → AllByRecursion InText run → IsExpanded g macros run made → (sourced : Sourced) → Holds kept sourced.word →
      IsOwn run sourced ⊎ IsAtUse macros run sourced → Contains (sourced_words made) sourced.word → Coming sourced.word
  word_comes macros run made t p expanded sourced holds (inl (word, among, same)) within =
      in_text (subst (λ (s : Sourced). InText s.word) (sym same) (each_contained InText run word p among))
  word_comes macros run made t p expanded sourced holds (inr (name, begins, same)) within =
      let part : IsPart sourced.word = part_of kept sourced.word holds in
      let named = name_of_use kept macros (written name) begins.following t (subst Begins (sym begins.calls) tt) in
      by_macro (record {
        part = part.part;
        written = part.written;
        macros = macros;
        run = run;
        made = made;
        expanded = expanded;
        among = within;
        name = name;
        begins = begins;
        is_name = named.0;
        of_macro = named.1;
        in_text = each_contained InText run name p begins.among;
        given = part.same ∙ ap (λ at. record part.part { at = at }) same;
      })

  given_come : (macros : Table) (run : List PlainWord) (made : List Sourced) (left remaining : ℕ) → TableHolds kept macros → AllByRecursion InText run → RunEnds macros run left (Gives made remaining) →
      IsExpanded g macros run made → AllByRecursion Coming (sourced_words made)
  given_come macros run made left remaining t p ends expanded =
      let Known : Sourced → Type 0 = λ sourced. Holds kept sourced.word × (IsOwn run sourced ⊎ IsAtUse macros run sourced) in
      let Within : PlainWord → Type 0 = λ word. Contains (sourced_words made) word → Coming word in
      let known : AllByRecursion Known made =
      each_both (λ (sourced : Sourced). Holds kept sourced.word) (λ sourced. IsOwn run sourced ⊎ IsAtUse macros run sourced) Known (λ sourced held placed. (held, placed)) made
      (run_holds kept macros run left (Gives made remaining) ends t p) (words_stand_at_uses macros run made left remaining ends) in
      each_both (Contains (sourced_words made)) Within Coming (λ word among comes. comes among) (sourced_words made) (each_itself (sourced_words made))
      (each_mapped Known Within (λ (sourced : Sourced). sourced.word) (λ sourced is among. word_comes macros run made t p expanded sourced is.0 is.1 among) made known)

  -- each replacement of words of this text is one that the expansion makes
  abbrev pub Expanding : Table → ℕ → List PlainWord → Type 0
  Expanding macros left words = (run : List PlainWord) (made : List Sourced) (remaining : ℕ) → AreReplaced macros left words run → RunEnds macros run left (Gives made remaining) → IsExpanded g macros run made

  more_words : (s : State) (words : List PlainWord) (left : ℕ) → StateHolds s → AllByRecursion Coming words → StateHolds (record s { words = s.words ++ words; left = left })
  more_words s words left h p = record { macros = h.macros; words = each_joined Coming s.words words h.words p; obeyed = h.obeyed }

  with_holds : (s : State) (words : List PlainWord) → StateHolds s → AllByRecursion Coming words → StateHolds (with_words s words)
  with_holds s words h p = record { macros = h.macros; words = each_joined Coming s.words words h.words p; obeyed = h.obeyed }

  text_ends_hold : (s : State) (words : List PlainWord) (ending : Ending (List Sourced)) (next : Next) → StateHolds s → AllByRecursion InText words → Expanding s.macros s.left words →
      RunEnds s.macros words s.left ending → TextEnds s words ending next → NextHolds next
  text_ends_hold s words (Gives made left) next h p expanding ends is =
      subst NextHolds (sym is) (more_words s (sourced_words made) left h (given_come s.macros words made s.left left h.macros p ends (expanding words made left all_words ends)))
  text_ends_hold s words (Refused number at) next h p expanding refused (made, left, ends, is) =
      let run : List PlainWord = words_before at words in
      let out = given_come s.macros run made s.left left h.macros (before_hold at words p) ends (expanding run made left (words_before_refused refused) ends) in
      subst NextHolds (sym is) (with_holds s (sourced_words made) h out, run_holds kept s.macros words s.left (Refused number at) refused h.macros p)
  text_ends_hold s words TooMany next h p expanding ends is = subst NextHolds (sym is) tt

  text_holds : (s : State) (words : List PlainWord) (next : Next) → StateHolds s → AllByRecursion InText words → Expanding s.macros s.left words → TextGives s words next → NextHolds next
  text_holds s words next h p expanding (ending, ends, gives) = text_ends_hold s words ending next h p expanding ends gives

  -- ## Items

  abbrev Rows : List (List PlainWord) → Type 0
  Rows lines = AllByRecursion (AllByRecursion InText) lines

  onto_holds : (word : PlainWord) (lines : List (List PlainWord)) → InText word → Rows lines → Rows (onto_line word lines)
  onto_holds word [] p q = ((p, tt), tt)
  onto_holds word (line ∷ lines) p q = ((p, q.0), q.1)

  rows_if : (b : Bool) (x y : List (List PlainWord)) → Rows x → Rows y → Rows (if b then x else y)
  rows_if true x y p q = p
  rows_if false x y p q = q

  lines_hold : (words : List PlainWord) → AllByRecursion InText words → Rows (lines_of words)
  lines_hold [] p = tt
  lines_hold (word ∷ words) p =
      rows_if (ends_line words) ((word ∷ []) ∷ lines_of words) (onto_line word (lines_of words)) ((p.0, tt), lines_hold words p.1) (onto_holds word (lines_of words) p.0 (lines_hold words p.1))

  words_if : (b : Bool) (x y : List PlainWord) → AllByRecursion InText x → AllByRecursion InText y → AllByRecursion InText (if b then x else y)
  words_if true x y p q = p
  words_if false x y p q = q

  new_hold : (given : List Text) (lines : List (List PlainWord)) → Rows lines → AllByRecursion InText (new_words given lines)
  new_hold given [] p = tt
  new_hold given (line ∷ lines) p =
      words_if (is_among given (item_name line)) (new_words given lines) (line ++ new_words (given ++ item_name line ∷ []) lines)
      (new_hold given lines p.1) (each_joined InText line (new_words (given ++ item_name line ∷ []) lines) p.0 (new_hold (given ++ item_name line ∷ []) lines p.1))

  pub run_of_text_holds : (built_in : Bool) (s : State) (words : List PlainWord) (next : Next) → StateHolds s → AllByRecursion InText words → Expanding s.macros s.left (expanded_words built_in s words) →
      RunGives built_in s words next → NextHolds next
  run_of_text_holds true s words next h p expanding gives =
      text_holds _ (new_words s.given (lines_of words)) next (record { macros = h.macros; words = h.words; obeyed = h.obeyed }) (new_hold s.given (lines_of words) (lines_hold words p)) expanding gives
  run_of_text_holds false s words next h p expanding gives = text_holds s words next h p expanding gives

  -- ## Conditions

  -- the places of words alone
  abbrev placed : Kept
  placed = record {
    Stands = λ word. LiesIn g word.at;
    IsName = λ name. Unit {0};
    IsPart = λ word. Unit {0};
    IsPlace = LiesIn g;
    part = λ word at. tt;
    place = λ word at kind name. at;
    moved = λ word at part. tt;
  }

  abbrev Placed : PlainWord → Type 0
  Placed word = LiesIn g word.at

  answered_at_holds : (macros : Table) (word : PlainWord) (others : ℕ → List PlainWord) (found : Option (Text × ℕ)) → Placed word → ((behind : ℕ) → AllByRecursion Placed (others behind)) → AllByRecursion Placed (answered_at macros word others found)
  answered_at_holds macros word others None p q = (p, q 0)
  answered_at_holds macros word others (Some (name, behind)) p q = (p, q behind)

  answered_holds : (macros : Table) (behind : ℕ) (words : List PlainWord) → AllByRecursion Placed words → AllByRecursion Placed (answered macros behind words)
  answered_holds macros behind [] p = tt
  answered_holds macros (suc behind) (word ∷ words) p = answered_holds macros behind words p.1
  answered_holds macros zero (word ∷ words) p =
      answered_at_holds macros word (λ behind. answered macros behind words) (asked_at word words) p.0 (λ behind. answered_holds macros behind words p.1)

  words_trivial : (words : List PlainWord) → AllByRecursion (λ (word : PlainWord). Unit {0}) words
  words_trivial [] = tt
  words_trivial (word ∷ words) = (tt, words_trivial words)

  table_trivial : (table : Table) → TableHolds placed table
  table_trivial [] = tt
  table_trivial (entry ∷ table) = ((tt, words_trivial entry.made.body), table_trivial table)

  abbrev JudgedHolds : Judged → Type 0
  JudgedHolds (Truth truth left) = Unit {0}
  JudgedHolds (Fails refusal) = LiesIn g refusal.span
  JudgedHolds Exceeds = Unit {0}

  judges_hold : (whole : Span) (ending : Ending (List Sourced)) (judged : Judged) → LiesIn g whole → EndingHolds placed ending → Judges whole ending judged → JudgedHolds judged
  judges_hold whole (Gives made left) judged w e (inl (truth, has, is)) = subst JudgedHolds (sym is) tt
  judges_hold whole (Gives made left) judged w e (inr (none, is)) = subst JudgedHolds (sym is) w
  judges_hold whole (Refused number at) judged w e is = subst JudgedHolds (sym is) e
  judges_hold whole TooMany judged w e is = subst JudgedHolds (sym is) tt

  judged_holds : (s : State) (judged : Judged) → StateHolds s → JudgedHolds judged → NextHolds (judged_next s judged)
  judged_holds s (Truth truth left) h j = record { macros = h.macros; words = h.words; obeyed = h.obeyed }
  judged_holds s (Fails refusal) h j = (h, j)
  judged_holds s Exceeds h j = tt

  condition_holds : (line condition : List PlainWord) (s : State) (next : Next) → StateHolds s → LineHolds line → AllByRecursion Written condition → ConditionGives line condition s next → NextHolds next
  condition_holds line condition s next h l p (judged, (ending, ends, judges), is) =
      let lie = answered_holds s.macros 0 condition (each_weaker Written Placed lies condition p) in
      let ending_holds = run_holds placed s.macros (answered s.macros 0 condition) s.left ending ends (table_trivial s.macros) lie in
      subst NextHolds (sym is) (judged_holds s judged h (judges_hold (place_of line) ending judged (place_lies line l) ending_holds judges))

  -- ## Directives

  -- the words that the directive keeps
  abbrev WordsHold : PlainDirective → Type 0
  WordsHold (Define made) = AllByRecursion IsPart made.body
  WordsHold (If condition) = AllByRecursion Written condition
  WordsHold (Elif condition) = AllByRecursion Written condition
  WordsHold _ = Unit {0}

  abbrev DirectiveHolds : PlainDirective → Type 0
  DirectiveHolds (Define made) = MacroHolds kept made
  DirectiveHolds directive = WordsHold directive

  continues_hold : (parameters words rest : List PlainWord) → Continues parameters words rest → AllByRecursion Written words → AllByRecursion Written rest
  continues_hold [] [] rest c p = absurd c
  continues_hold [] (close ∷ words) rest c p = subst (AllByRecursion Written) c.1 p.1
  continues_hold (parameter ∷ parameters) [] rest c p = absurd c
  continues_hold (parameter ∷ parameters) (comma ∷ []) rest c p = absurd c
  continues_hold (parameter ∷ parameters) (comma ∷ word ∷ words) rest c p = continues_hold parameters words rest c.2 p.1.1

  list_holds : (parameters words rest : List PlainWord) → IsList parameters words rest → AllByRecursion Written words → AllByRecursion Written rest
  list_holds [] words rest c p = continues_hold [] words rest c p
  list_holds (parameter ∷ parameters) [] rest c p = absurd c
  list_holds (parameter ∷ parameters) (word ∷ words) rest c p = continues_hold parameters words rest c.1 p.1

  body_holds : (name : PlainWord) (parameters : Option (List PlainWord)) (body words : List PlainWord) → DefinesBehind name parameters body words → AllByRecursion Written words → AllByRecursion Written body
  body_holds name None body words d p = subst (AllByRecursion Written) d.1 p
  body_holds name (Some parameters) body [] d p = absurd d
  body_holds name (Some parameters) body (paren ∷ words) d p = list_holds parameters words body d.2 p.1

  definition_holds : (definition : Definition) (words : List PlainWord) → DefinesWords definition words → AllByRecursion Written words → AllByRecursion Written definition.body
  definition_holds definition [] d p = absurd d
  definition_holds definition (name ∷ words) d p = body_holds name definition.parameters definition.body words d.2 p.1

  written_part : (word : PlainWord) → Written word → IsPart word
  written_part word is = record { part = word; written = is; same = refl }

  named_holds : (directive : PlainDirective) (name : Option Keyword) (words : List PlainWord) → SpellsNamed directive name words → AllByRecursion Written words → WordsHold directive
  named_holds (Define made) (Some keyword.Define) words (definition, defines, bad, is) p =
      subst (λ (plain : PlainMacro). AllByRecursion IsPart plain.body) is (each_weaker Written IsPart written_part definition.body (definition_holds definition words defines p))
  named_holds (Define made) _ words s p = absurd s
  named_holds (If condition) (Some keyword.If) words s p = subst (AllByRecursion Written) s p
  named_holds (If condition) _ words s p = absurd s
  named_holds (Elif condition) (Some keyword.Elif) words s p = subst (AllByRecursion Written) s p
  named_holds (Elif condition) _ words s p = absurd s
  named_holds _ name words s p = tt

  behind_hash_holds : (directive : PlainDirective) (words : List PlainWord) → SpellsBehind directive words → AllByRecursion Written words → WordsHold directive
  behind_hash_holds (Define made) [] s p = absurd s
  behind_hash_holds (Define made) (word ∷ words) s p = named_holds (Define made) (keyword_of word) words s p.1
  behind_hash_holds (If condition) [] s p = absurd s
  behind_hash_holds (If condition) (word ∷ words) s p = named_holds (If condition) (keyword_of word) words s p.1
  behind_hash_holds (Elif condition) [] s p = absurd s
  behind_hash_holds (Elif condition) (word ∷ words) s p = named_holds (Elif condition) (keyword_of word) words s p.1
  behind_hash_holds _ words s p = tt

  directive_holds : (directive : PlainDirective) (line : List PlainWord) → LineHolds line → Spells directive line → DirectiveHolds directive
  directive_holds directive [] l s = absurd l
  directive_holds (Define made) (hash ∷ words) l s =
      (record { line = hash ∷ words; directive = l.2; made = made; spells = s; same = refl }, behind_hash_holds (Define made) words s.1 l.1)
  directive_holds (If condition) (hash ∷ words) l s = behind_hash_holds (If condition) words s.1 l.1
  directive_holds (Elif condition) (hash ∷ words) l s = behind_hash_holds (Elif condition) words s.1 l.1
  directive_holds _ (hash ∷ words) l s = tt

  bad_named_lies : (whole at : Span) (name : Option Keyword) (words : List PlainWord) → LiesIn g whole → AllByRecursion Written words → IsBadNamed whole at name words → LiesIn g at
  bad_named_lies whole at (Some keyword.Define) [] w p is = subst (LiesIn g) (sym is) w
  bad_named_lies whole at (Some keyword.Define) (name ∷ words) w p (inl (nameless, is)) = subst (LiesIn g) (sym is) w
  bad_named_lies whole at (Some keyword.Define) (name ∷ words) w p (inr (definition, defines, bad, is)) =
      subst (LiesIn g) (sym is) (subst (λ (n : PlainWord). LiesIn g n.at) defines.0 (lies name p.0))
  bad_named_lies whole at _ words w p is = absurd is

  bad_behind_lies : (whole at : Span) (words : List PlainWord) → LiesIn g whole → AllByRecursion Written words → IsBadBehind whole at words → LiesIn g at
  bad_behind_lies whole at [] w p is = absurd is
  bad_behind_lies whole at (word ∷ words) w p is = bad_named_lies whole at (keyword_of word) words w p.1 is

  bad_lies : (at : Span) (line : List PlainWord) → LineHolds line → IsBadDefinition at line → LiesIn g at
  bad_lies at [] l is = absurd l
  bad_lies at (hash ∷ words) l is = bad_behind_lies (place_of (hash ∷ words)) at words (place_lies (hash ∷ words) l) l.1 is.1

  table_holds : (old new : Table) (made : PlainMacro) (built_in : Bool) (answer : Effect) → TableHolds kept old → MacroHolds kept made → Defines old made built_in answer new → TableHolds kept new
  table_holds old new made built_in New t b d =
      subst (TableHolds kept) (sym d.1) (each_joined (λ (entry : Entry). MacroHolds kept entry.made) old (record { made = made; builtin = built_in } ∷ []) t (b, tt))
  table_holds old new made built_in Same t b d = subst (TableHolds kept) (sym d.1) t
  table_holds old new made built_in Other t b d = subst (TableHolds kept) (sym d.1) t

  with_macros : (s : State) (macros : Table) → StateHolds s → TableHolds kept macros → StateHolds (record s { macros = macros })
  with_macros s macros h t = record { macros = t; words = h.words; obeyed = h.obeyed }

  defined_holds : (line : List PlainWord) (s : State) (answer : Effect) (macros : Table) → StateHolds s → LineHolds line → TableHolds kept macros → NextHolds (defined_as line s answer macros)
  defined_holds line s New macros h l t = next_if _ (StopsWith (PassedLimit MACROS)) (GoesOn true (record s { macros = macros })) tt (with_macros s macros h t)
  defined_holds line s Same macros h l t = with_macros s macros h t
  defined_holds line s Other macros h l t = (h, operand_lies line l)

  definition_next_holds : (built_in : Bool) (line : List PlainWord) (made : PlainMacro) (s : State) (next : Next) → StateHolds s → LineHolds line → MacroHolds kept made → DefinitionGives built_in line made s next → NextHolds next
  definition_next_holds built_in line made s next h l b (answer, macros, defines, is) =
      subst NextHolds (sym is) (defined_holds line s answer macros h l (table_holds s.macros macros made built_in answer h.macros b defines))

  item_holds : (given : Bool) (line : List PlainWord) (made : PlainMacro) (s new : State) (next : Next) → StateHolds s → StateHolds new → LineHolds line → MacroHolds kept made →
      MatchBool given (next ≡ GoesOn true s) (DefinitionGives true line made new next) → NextHolds next
  item_holds true line made s new next h n l b is = subst NextHolds (sym is) h
  item_holds false line made s new next h n l b gives = definition_next_holds true line made new next n l b gives

  define_holds : (built_in : Bool) (line : List PlainWord) (made : PlainMacro) (s : State) (next : Next) → StateHolds s → LineHolds line → MacroHolds kept made → DefineGives built_in line made s next → NextHolds next
  define_holds true line made s next h l b gives = item_holds (is_among s.given made.name) line made s _ next h (record { macros = h.macros; words = h.words; obeyed = h.obeyed }) l b gives
  define_holds false line made s next h l b gives = definition_next_holds false line made s next h l b gives

  included_holds : (line : List PlainWord) (name : Text) (s : State) (found : Option ℕ) → StateHolds s → LineHolds line → NextHolds (included g line name s found)
  included_holds line name s None h l = (h, operand_lies line l)
  included_holds line name s (Some number) h l = next_if (is_among s.once (name_of g number)) (GoesOn true s) (EntersFile number (is_header g number name) s) h h

  does_holds : (file : File) (line : List PlainWord) (directive : PlainDirective) (s : State) (next : Next) → StateHolds s → LineHolds line → DirectiveHolds directive →
      Does g file line directive s next → NextHolds next
  does_holds file line Null s next h l d is = subst NextHolds (sym is) h
  does_holds file line (Include name angle) s next h l d is = subst NextHolds (sym is) (included_holds line name s (candidate_of g file.number name angle) h l)
  does_holds file line (Define made) s next h l d gives = define_holds file.built_in line made s next h l d gives
  does_holds file line (Undef name) s next h l d is = subst NextHolds (sym is) (with_macros s _ h (without_holds kept s.macros name h.macros))
  does_holds file line (If condition) s next h l d gives = condition_holds line condition s next h l d gives
  does_holds file line (Elif condition) s next h l d gives = condition_holds line condition s next h l d gives
  does_holds file line (Ifdef name) s next h l d is = subst NextHolds (sym is) h
  does_holds file line (Ifndef name) s next h l d is = subst NextHolds (sym is) h
  does_holds file line Else s next h l d is = subst NextHolds (sym is) h
  does_holds file line Endif s next h l d is = subst NextHolds (sym is) h
  does_holds file line Once s next h l d is = subst NextHolds (sym is) (record { macros = h.macros; words = h.words; obeyed = h.obeyed })
  does_holds file line InitDone s next h l d is = subst NextHolds (sym is) (with_holds s (mark_word line) h (mark_holds line l))
  does_holds file line TaskLoop s next h l d is = subst NextHolds (sym is) (with_holds s (mark_word line) h (mark_holds line l))
  does_holds file line OtherPragma s next h l d is = subst NextHolds (sym is) h

  broken_holds : (breaks : Bool) (file : File) (line : List PlainWord) (directive : PlainDirective) (s : State) (next : Next) → StateHolds s → LineHolds line → DirectiveHolds directive →
      MatchBool breaks (next ≡ refuse s 2 (place_of line)) (Does g file line directive s next) → NextHolds next
  broken_holds true file line directive s next h l d is = subst NextHolds (sym is) (h, place_lies line l)
  broken_holds false file line directive s next h l d does = does_holds file line directive s next h l d does

  pub acts_hold : (file : File) (breaks : Bool) (line : List PlainWord) (outcome : Outcome) (s : State) (next : Next) → StateHolds s → LineHolds line → IsOutcome line outcome →
      Acts g file breaks line outcome s next → NextHolds next
  acts_hold file breaks line (Read directive) s next h l o acts = broken_holds breaks file line directive s next h l (directive_holds directive line l o) acts
  acts_hold file breaks line BadForm s next h l o is = subst NextHolds (sym is) (h, place_lies line l)
  acts_hold file breaks line (BadDefinition at) s next h l o is = subst NextHolds (sym is) (h, bad_lies at line l o)
