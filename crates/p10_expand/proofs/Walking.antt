-- From one line of a file to the next.
use Rattle.std.proofs.Common.{◌≡◌, ℕ, zero, suc, ◌+◌, ◌-◌, ◌<◌, ◌≤◌, List, [], ◌∷◌, map, drop, get_or, length, Bool, true, Ok, Err, Some, None, IfSome, Vec, Global, slice_get, refl, ap, sym, ◌∙◌, subst, add-one, arith}
use Rattle.std.proofs.Math.Seq.{drop-cons}
use Rattle.std.proofs.Math.ListN.{drop_of_length-le}
use Rattle.std.proofs.lemmas.List.{length-map, get_or-map}
use Rattle.std.proofs.lemmas.Option.{slice_get_read}
use Rattle.p10_base.specs.Gathered.{Gathered, count_of, text_of}
use Rattle.p10_base.specs.Words.{PlainWord, plain_word}
use Rattle.p10_lex.specs.Lexes.{Answers}
use Rattle.p10_base.specs.declared.report.Limit.{Limit}
use Rattle.p10_base.specs.declared.word.Word.{Word}
use Rattle.p10_direct.specs.declared.line.Line.{Line}
use Rattle.p10_direct.specs.declared.line.Lines.{Lines}
use Rattle.p10_direct.specs.Lines.{Piece, AreCut, piece_of, words_of}
use Rattle.p10_expand.specs.declared.expansion.fault.ExpandFault.{ExpandFault}
use Rattle.p10_expand.specs.declared.expansion.fault.ExpandFault.TheVariants.{Over, Memory}
use Rattle.p10_expand.specs.declared.expansion.state.State.{State as CodedState}
use Rattle.p10_expand.specs.declared.expansion.texts.Texts.{Texts}
use Rattle.p10_expand.specs.private.Steps.{AreTexts, IsCut, Steps, CountsTo, Reaches, words_among}
use Rattle.p10_direct.specs.declared.mark.Mark.{Mark}
use Rattle.p10_direct.specs.Balance.{mark_of}
use Rattle.p10_expand.specs.declared.expansion.stand.Stand.{Stand}
use Rattle.p10_expand.specs.declared.expansion.stand.Stand.TheVariants.{Obeyed}
use Rattle.p10_expand.specs.Groups.{PassedLine, open_after, is_obeyed_after}
use Rattle.p10_expand.specs.private.Skipping.{is_obeyed, stand_after}
use Rattle.p10_expand.proofs.Skipping.{Agrees, obeyed_alike, next_agrees}
use Rattle.p10_expand.proofs.Unbroken.{Unbroken, unbroken_first, GoesOnward, line_passed}
use Rattle.p10_expand.specs.Obeying.{State, Cause, PassedLimit, Ended, Finished, Stopped, Next, GoesOn, EntersFile, StopsWith, File, LineGives}
use Rattle.p10_expand.specs.Answers.{lists_of}
use Rattle.p10_expand.specs.Before.{ComeInOrder}
use Rattle.p10_expand.proofs.InOrder.{PiecesInOrder}
use Rattle.p10_expand.specs.Expands.{passed_line, counted, FileEnds, LinesEnd, words_counted, too_many_words, no_lines}
use Rattle.p10_expand.proofs.FirstLine.{IncludeEnds, Continues, from_first}
use Rattle.p10_base.specs.declared.report.TheConstants.Limit.{NESTED_INCLUDES}

-- a line, and those after it
pub line_here : (items : List Line) (place : ℕ) (other : Line) → place < length items → map piece_of (drop place items) ≡ piece_of (get_or items place other) ∷ map piece_of (drop (place + 1) items)
line_here items place other there =
    let here : drop place items ≡ get_or items place other ∷ drop (place + 1) items = rw add-one (drop-cons items place other there) in
    ap (map piece_of) here

here_and_after : (items : List Line) (place : ℕ) (other : Line) → place < length items → PiecesInOrder (map piece_of (drop place items)) → PiecesInOrder (piece_of (get_or items place other) ∷ map piece_of (drop (place + 1) items))
here_and_after items place other there ordered = subst PiecesInOrder (line_here items place other there) ordered

pub after_ordered : (items : List Line) (place : ℕ) (other : Line) → place < length items → PiecesInOrder (map piece_of (drop place items)) → PiecesInOrder (map piece_of (drop (place + 1) items))
after_ordered items place other there ordered = (here_and_after items place other there ordered).1

-- an included file is entered at one level less
entered_within : (g : Gathered) (nested number : ℕ) (built_in : Bool) (s : State) (ended : Ended) → 0 < nested → FileEnds g (nested - 1) number built_in s ended → IncludeEnds g nested number built_in s ended
entered_within g zero number built_in s ended some ends = absurd (omega (arith, some))
entered_within g (suc more) number built_in s ended some ends =
    let same : suc more - 1 ≡ more = omega arith in
    subst (λ (n : ℕ). FileEnds g n number built_in s ended) same ends

entered_nowhere : (g : Gathered) (nested number : ℕ) (built_in : Bool) (s : State) → nested ≡ 0 → IncludeEnds g nested number built_in s (Stopped (PassedLimit NESTED_INCLUDES))
entered_nowhere g nested number built_in s none = subst (λ (n : ℕ). IncludeEnds g n number built_in s (Stopped (PassedLimit NESTED_INCLUDES))) (sym none) refl

-- the lines from a place on of a file are reached, and stand there: what comes of them after the lines before is what is wanted
pub record Walks (g : Gathered) (nested : ℕ) (file : File) (stand : Stand) (place : ℕ) (pieces : List Piece) (s : State) (wanted : Ended → Type 0) : Type 0 where
  pub before : List PassedLine
  pub many : length before ≡ place
  pub agrees : Agrees (open_after before) stand
  pub unbroken : Unbroken file before pieces
  pub leads : (ended : Ended) → LinesEnd g nested file before pieces s ended → wanted ended

module _ (g : Gathered) (nested : ℕ) (file : File) (items : List Line) (place : ℕ) (other : Line) (there : place < length items) (stand : Stand) (s : State)
    (ordered : PiecesInOrder (map piece_of (drop place items))) (wanted : Ended → Type 0) (walks : Walks g nested file stand place (map piece_of (drop place items)) s wanted)
    (part : Mark) (part_is : part ≡ mark_of (piece_of (get_or items place other))) (obeyed : Bool) (obeyed_is : obeyed ≡ is_obeyed stand part) where
  -- what comes of the line, whose words come in order
  abbrev GivesHere : Next → Type 0
  GivesHere next = ComeInOrder 0 (words_of (piece_of (get_or items place other))) → LineGives g file obeyed place (piece_of (get_or items place other)) s next

  -- it comes of it after the lines before
  gives_after : (next : Next) → GivesHere next → LineGives g file (is_obeyed_after walks.before (mark_of (piece_of (get_or items place other)))) (length walks.before) (piece_of (get_or items place other)) s next
  gives_after next gives =
      let same : obeyed ≡ is_obeyed_after walks.before (mark_of (piece_of (get_or items place other))) = obeyed_is ∙ ap (is_obeyed stand) part_is ∙ obeyed_alike (open_after walks.before) stand (mark_of (piece_of (get_or items place other))) walks.agrees in
      subst (λ b. LineGives g file b (length walks.before) (piece_of (get_or items place other)) s next) same
      (subst (λ n. LineGives g file obeyed n (piece_of (get_or items place other)) s next) (sym walks.many) (gives (here_and_after items place other there ordered).0))

  -- what comes of the line is followed by what comes of those after it
  follow : (next : Next) → GivesHere next → (ended : Ended) → Continues g nested file walks.before (piece_of (get_or items place other)) (map piece_of (drop (place + 1) items)) next ended → wanted ended
  follow next gives ended continues =
      walks.leads ended (subst (λ pieces. LinesEnd g nested file walks.before pieces s ended) (sym (line_here items place other there)) (from_first next (gives_after next gives) continues))

  -- the lines after it are reached, where this one goes on
  walks_on : (holds : Bool) (next : Next) (new : State) (after : Stand) → after ≡ stand_after stand part holds → GivesHere next → GoesOnward next →
      ((ended : Ended) → LinesEnd g nested file (passed_line (piece_of (get_or items place other)) holds ∷ walks.before) (map piece_of (drop (place + 1) items)) new ended → wanted ended) →
      Walks g nested file after (place + 1) (map piece_of (drop (place + 1) items)) new wanted
  walks_on holds next new after after_is gives on leads =
      let unbroken : Unbroken file walks.before (piece_of (get_or items place other) ∷ map piece_of (drop (place + 1) items)) = subst (Unbroken file walks.before) (line_here items place other there) walks.unbroken in
      let passed = line_passed g file walks.before (piece_of (get_or items place other)) (map piece_of (drop (place + 1) items)) _ s next unbroken (gives_after next gives) on in
      record {
        before = passed_line (piece_of (get_or items place other)) holds ∷ walks.before;
        many = omega (arith, walks.many);
        agrees = subst (Agrees (open_after (passed_line (piece_of (get_or items place other)) holds ∷ walks.before))) (sym (after_is ∙ ap (λ mark. stand_after stand mark holds) part_is))
            (next_agrees (open_after walks.before) stand (mark_of (piece_of (get_or items place other))) holds walks.agrees passed.belongs);
        unbroken = passed.next holds;
        leads = leads;
      }

  pub stops : (cause : Cause) → GivesHere (StopsWith cause) → wanted (Stopped cause)
  stops cause gives = follow (StopsWith cause) gives (Stopped cause) refl

  pub goes_on : (holds : Bool) (new : State) (after : Stand) → after ≡ stand_after stand part holds → GivesHere (GoesOn holds new) →
      Walks g nested file after (place + 1) (map piece_of (drop (place + 1) items)) new wanted
  goes_on holds new after after_is gives = walks_on holds (GoesOn holds new) new after after_is gives tt (λ ended rest. follow (GoesOn holds new) gives ended rest)

  pub too_deep : (number : ℕ) (built_in : Bool) (new : State) → GivesHere (EntersFile number built_in new) → nested ≡ 0 → wanted (Stopped (PassedLimit NESTED_INCLUDES))
  too_deep number built_in new gives none =
      follow (EntersFile number built_in new) gives (Stopped (PassedLimit NESTED_INCLUDES)) (Stopped (PassedLimit NESTED_INCLUDES), entered_nowhere g nested number built_in new none, refl)

  pub within_stops : (number : ℕ) (built_in : Bool) (new : State) (cause : Cause) → GivesHere (EntersFile number built_in new) → 0 < nested →
      FileEnds g (nested - 1) number built_in new (Stopped cause) → wanted (Stopped cause)
  within_stops number built_in new cause gives some within =
      follow (EntersFile number built_in new) gives (Stopped cause) (Stopped cause, entered_within g nested number built_in new _ some within, refl)

  pub within_goes : (number : ℕ) (built_in : Bool) (new left : State) (after : Stand) → after ≡ stand_after stand part true → GivesHere (EntersFile number built_in new) → 0 < nested →
      FileEnds g (nested - 1) number built_in new (Finished left) →
      Walks g nested file after (place + 1) (map piece_of (drop (place + 1) items)) left wanted
  within_goes number built_in new left after after_is gives some within =
      walks_on true (EntersFile number built_in new) left after after_is gives tt
      (λ ended rest. follow (EntersFile number built_in new) gives ended (Finished left, entered_within g nested number built_in new _ some within, rest))

  -- a line that gives no words
  pub fails : (fault : ExpandFault) (new : CodedState) → (ComeInOrder 0 (words_of (piece_of (get_or items place other))) → Steps (LineGives g file obeyed place (piece_of (get_or items place other)) s) (Err fault) new) → Reaches wanted (Err fault) new
  fails (Over passed) new gives = stops (PassedLimit passed) gives
  fails Memory new gives = tt

  -- an included file that gives no words
  pub within_fails : (number : ℕ) (built_in : Bool) (new : State) (fault : ExpandFault) (left : CodedState) → GivesHere (EntersFile number built_in new) → 0 < nested →
      Reaches (FileEnds g (nested - 1) number built_in new) (Err fault) left → Reaches wanted (Err fault) left
  within_fails number built_in new (Over passed) left gives some within = within_stops number built_in new (PassedLimit passed) gives some within
  within_fails number built_in new Memory left gives some within = tt

-- what holds of the element at a place
pub element_at : {A : Type 0} (xs : List A) (place : ℕ) (x : A) (P : A → Type 0) → IfSome (slice_get xs place) P → place < length xs → x ≡ get_or xs place x → P x
element_at xs place x P holds there is =
    let found : slice_get xs place ≡ Some x = slice_get_read xs (length xs) place x refl there is in
    rw found at holds

-- a file's lines are those of its words
pub cut_at : (texts : Texts) (number : ℕ) (cut : Lines) → AreTexts texts → number < count_of texts.sources.now → cut ≡ get_or texts.cuts.items number cut → IsCut (words_among texts.words.now number) cut
cut_at texts number cut stands held is =
    element_at texts.cuts.items number cut (IsCut (words_among texts.words.now number)) (stands.cuts.cut number held) (omega (arith, held, stands.cuts.all)) is

-- a file has as many words as the code counts
pub count_here : (texts : Texts) (number : ℕ) (words : Vec Word Global) → AreTexts texts → number < count_of texts.sources.now → words ≡ get_or texts.words.now number words →
    length (words_among texts.words.now number) ≡ length words.items
count_here texts number words stands held is =
    let here : get_or (lists_of texts.words.now) number [] ≡ words.items =
    get_or-map (λ (words : Vec Word Global). words.items) texts.words.now number words [] (omega (arith, held, stands.words.many)) ∙ ap (λ (words : Vec Word Global). words.items) (sym is) in
    length-map (get_or (lists_of texts.words.now) number []) plain_word ∙ ap length here

-- a file begins with its first line, once its words are counted
pub file_begins : (g : Gathered) (nested number : ℕ) (built_in : Bool) (s new : State) (words : List PlainWord) (pieces : List Piece) (count : ℕ) → counted built_in count s ≡ Some new → count ≡ length words →
    Answers number (text_of g number) (Ok words) → AreCut words pieces → Walks g nested (record { number = number; built_in = built_in; pieces = pieces }) Obeyed 0 pieces new (FileEnds g nested number built_in s)
file_begins g nested number built_in s new words pieces count is same lexed cut =
    let found : counted built_in (length words) s ≡ Some new = subst (λ (n : ℕ). counted built_in n s ≡ Some new) same is in
    record {
      before = [];
      many = refl;
      agrees = refl;
      unbroken = unbroken_first (record { number = number; built_in = built_in; pieces = pieces });
      leads = λ ended lines. words_counted lexed found cut lines;
    }

-- a file that has too many words
pub count_fails : (g : Gathered) (nested number : ℕ) (built_in : Bool) (s : State) (words : List PlainWord) (count : ℕ) (fault : ExpandFault) (new : CodedState) → count ≡ length words →
    Answers number (text_of g number) (Ok words) → CountsTo (counted built_in count s) (Err fault) new → Reaches (FileEnds g nested number built_in s) (Err fault) new
count_fails g nested number built_in s words count (Over passed) new same lexed (none, limit) =
    let found : counted built_in (length words) s ≡ None = subst (λ (n : ℕ). counted built_in n s ≡ None) same none in
    subst (λ (l : Limit). FileEnds g nested number built_in s (Stopped (PassedLimit l))) (sym limit) (too_many_words lexed found)
count_fails g nested number built_in s words count Memory new same lexed is = absurd is

-- the end of a file is reached
pub lines_done : (g : Gathered) (nested : ℕ) (file : File) (items : List Line) (place : ℕ) (stand : Stand) (s : State) (wanted : Ended → Type 0) → length items ≤ place →
    Walks g nested file stand place (map piece_of (drop place items)) s wanted → wanted (Finished s)
lines_done g nested file items place stand s wanted past walks =
    let none : map piece_of (drop place items) ≡ [] = ap (map piece_of) (drop_of_length-le items past) in
    walks.leads (Finished s) (subst (λ (pieces : List Piece). LinesEnd g nested file walks.before pieces s (Finished s)) (sym none) no_lines)
