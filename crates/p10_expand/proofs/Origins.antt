-- The words of an expansion come from the files, and its refusal has its place in one.
use Rattle.std.proofs.Common.{◌≡◌, ℕ, suc, ◌<◌, nat_le, List, [], ◌∷◌, ◌++◌, length, Bool, true, false, if◌then◌else◌, Option, Some, None, IfOk, Result, Ok, Err, refl, sym, subst, arith}
use Rattle.std.specs.List.{AllByRecursion, Contains}
use Rattle.p10_base.specs.declared.report.Limit.{Limit}
use Rattle.p10_base.specs.Gathered.{Gathered, LiesIn, count_of, text_of}
use Rattle.p10_base.specs.Words.{PlainWord}
use Rattle.p10_lex.specs.Slices.{IsSlice, AreSlices}
use Rattle.p10_lex.specs.Lexes.{Answers}
use Rattle.p10_lex.proofs.SliceLaws.{answer_slices}
use Rattle.p10_direct.specs.Balance.{mark_of}
use Rattle.p10_direct.specs.Lines.{Piece, DirectiveLine, TextRun, IsPiece, AreCut, words_of}
use Rattle.p10_direct.specs.Directives.{place_of}
use Rattle.p10_expand.specs.Obeying.{PlainObeyed, State, Ended, Next, GoesOn, EntersFile, StopsWith, File, refuse, breaks_at, listed, passed, LineGives}
use Rattle.p10_expand.specs.Groups.{PassedLine, is_obeyed_after}
use Rattle.p10_expand.specs.Expands.{counted, FileEnds, LinesEnd, words_counted, too_many_words, no_lines, next_line, file_finished, file_stopped, nested_too_deep, line_stops, Expansion, fresh, no_words, RootsEnd, no_roots, root_finished, root_refused, limit_passed, ExpandsTo}
use Rattle.p10_expand.specs.declared.expanded.Expanded.{Expanded}
use Rattle.p10_expand.specs.declared.expansion.fault.ExpandFault.{ExpandFault}
use Rattle.p10_expand.specs.Answers.{IsExpansion, expansion_of}
use Rattle.p10_expand.specs.Reaching.{ReachesRoots, all_roots, roots_after, FileBegins, ReachesLines, lines_of_root, lines_after, lines_of_file, lines_after_file}
use Rattle.p10_expand.specs.Coming.{HasWords, IsDirective, expanded_words, Comes, IsListed, ExpansionComes}
use Rattle.p10_expand.proofs.Keeping.{each_joined, each_front, each_back, each_weaker}
use Rattle.p10_expand.proofs.LineOrigins.{held_by, each_itself, each_both, Written, InText, LineHolds, line_all, line_is, place_lies, ListedHolds, StateHolds, EndedHolds, NextHolds, next_if, Expanding, run_of_text_holds, acts_hold}

module _ (g : Gathered) where
  -- ## Lines

  listed_if : (built_in : Bool) (x y : State) → StateHolds g x → StateHolds g y → StateHolds g (if built_in then x else y)
  listed_if true x y p q = p
  listed_if false x y p q = q

  listed_holds : (file : File) (place : ℕ) (line : List PlainWord) (s : State) → StateHolds g s → LineHolds g line → StateHolds g (listed file place line s)
  listed_holds file place line s h l =
      listed_if file.built_in s _ h (record { macros = h.macros; words = h.words; obeyed = each_joined (ListedHolds g) s.obeyed (_ ∷ []) h.obeyed ((line_all g line l, place_lies g line l, line_is g line l), tt) })

  passed_holds : (file : File) (place : ℕ) (line : List PlainWord) (s : State) → StateHolds g s → LineHolds g line → NextHolds g (passed file place line s)
  passed_holds file place line s h l = next_if g (breaks_at file place) (refuse (listed file place line s) 2 (place_of line)) _ (listed_holds file place line s h l, place_lies g line l) h

  abbrev PieceHolds : Piece → Type 0
  PieceHolds (DirectiveLine line) = LineHolds g line
  PieceHolds (TextRun words) = AllByRecursion (InText g) words

  line_holds : (nested : ℕ) (file : File) (before : List PassedLine) (obeyed : Bool) (piece : Piece) (pieces : List Piece) (s : State) (next : Next) → is_obeyed_after before (mark_of piece) ≡ obeyed →
      ReachesLines g nested file before (piece ∷ pieces) s → StateHolds g s → PieceHolds piece → LineGives g file obeyed (length before) piece s next → NextHolds g next
  line_holds nested file before true (DirectiveLine line) pieces s next obeys reached h p (outcome, is, acts) =
      acts_hold g file (breaks_at file (length before)) line outcome (listed file (length before) line s) next (listed_holds file (length before) line s h p) p is acts
  line_holds nested file before false (DirectiveLine line) pieces s next obeys reached h p is = subst (NextHolds g) (sym is) (passed_holds file (length before) line s h p)
  line_holds nested file before true (TextRun words) pieces s next obeys reached h p gives =
      let expanding : Expanding g s.macros s.left (expanded_words file.built_in s words) = λ run made remaining replaced ends. record {
        nested = nested;
        file = file;
        before = before;
        words = words;
        pieces = pieces;
        state = s;
        reached = reached;
        obeyed = obeys;
        defined = refl;
        replaced = replaced;
        remaining = remaining;
        gives = ends;
      } in
      run_of_text_holds g file.built_in s words next h p expanding gives
  line_holds nested file before false (TextRun words) pieces s next obeys reached h p is = subst (NextHolds g) (sym is) h

  -- the word is one of these, which are those of the file
  record IsOf (number : ℕ) (words : List PlainWord) (word : PlainWord) : Type 0 where
    has : HasWords g number words
    among : Contains words word
    slice : IsSlice number (text_of g number) word

  module _ (number : ℕ) (whole : List PlainWord) where
    abbrev is_written : (word : PlainWord) → IsOf number whole word → Written g word
    is_written word is = record { file = number; words = whole; has = is.has; among = is.among; slice = is.slice }

    module _ (all : List Piece) (all_cut : AreCut whole all) where
      run_stands : (run : List PlainWord) → Contains all (TextRun run) → (word : PlainWord) → IsOf number whole word → Contains run word → InText g word
      run_stands run piece word is within = record { written = is_written word is; pieces = all; cut = all_cut; run = run; piece = piece; within = within }

      piece_holds : (piece : Piece) (rest : List PlainWord) → IsPiece piece rest → Contains all piece → AllByRecursion (IsOf number whole) (words_of piece) → PieceHolds piece
      piece_holds (DirectiveLine []) rest is c p = absurd is
      piece_holds (DirectiveLine (word ∷ words)) rest is c p =
          let line : IsDirective g (word ∷ words) = record { file = number; words = whole; has = p.0.has; pieces = all; cut = all_cut; piece = c } in
          (is_written word p.0, each_weaker (IsOf number whole) (Written g) is_written words p.1, line)
      piece_holds (TextRun words) rest is c p = each_both (IsOf number whole) (Contains words) (InText g) (run_stands words c) words p (each_itself words)

      pieces_hold : (words : List PlainWord) (pieces : List Piece) → AreCut words pieces → AllByRecursion (Contains all) pieces → AllByRecursion (IsOf number whole) words → AllByRecursion PieceHolds pieces
      pieces_hold words [] cut c p = tt
      pieces_hold words (piece ∷ pieces) (rest, same, is, cut) c p =
          let these : AllByRecursion (IsOf number whole) (words_of piece ++ rest) = subst (AllByRecursion (IsOf number whole)) same p in
          (piece_holds piece rest is c.0 (each_front (IsOf number whole) (words_of piece) rest these), pieces_hold rest pieces cut c.1 (each_back (IsOf number whole) (words_of piece) rest these))

  -- ## The words of the files

  slice_each : (number place : ℕ) (words : List PlainWord) → AreSlices number (text_of g number) place words → AllByRecursion (IsSlice number (text_of g number)) words
  slice_each number place [] slices = tt
  slice_each number place (word ∷ words) slices = (slices.1, slice_each number word.at.end words slices.2)

  -- a file with a word is one of the program's
  file_comes : (number : ℕ) (words : List PlainWord) → Answers number (text_of g number) (Ok words) → AllByRecursion (IsOf number words) words
  file_comes number [] lexed = tt
  file_comes number (first ∷ others) lexed =
      let words : List PlainWord = first ∷ others in
      let slices : AreSlices number (text_of g number) 0 words = answer_slices number (text_of g number) words lexed in
      let held : number < count_of g = held_by g.files number (omega (arith, slices.1.some, slices.1.within)) in
      each_both (Contains words) (IsSlice number (text_of g number)) (IsOf number words)
      (λ word among slice. record { has = record { held = held; lexed = lexed }; among = among; slice = slice }) words (each_itself words) (slice_each number 0 words slices)

  -- ## Files

  abbrev OptionHolds : Option State → Type 0
  OptionHolds None = Unit {0}
  OptionHolds (Some s) = StateHolds g s

  option_if : (b : Bool) (s : State) → StateHolds g s → OptionHolds (if b then Some s else None)
  option_if true s h = h
  option_if false s h = tt

  counted_holds : (built_in : Bool) (count : ℕ) (s : State) → StateHolds g s → OptionHolds (counted built_in count s)
  counted_holds true count s h = h
  counted_holds false count s h = option_if (nat_le count s.left) _ (record { macros = h.macros; words = h.words; obeyed = h.obeyed })

  -- expansion comes to the lines of a file that is entered in this state
  abbrev ReachesFile : ℕ → ℕ → Bool → State → Type 0
  ReachesFile nested number built_in s =
      (pieces : List Piece) (begun : State) → FileBegins g number built_in s pieces begun → ReachesLines g nested (record { number = number; built_in = built_in; pieces = pieces }) [] pieces begun

  mutual
    file_holds : {nested number : ℕ} {built_in : Bool} {s : State} {ended : Ended} → FileEnds g nested number built_in s ended → ReachesFile nested number built_in s → StateHolds g s → EndedHolds g ended
    file_holds (words_counted {number = number} {built_in = built_in} {s = s} {begun = begun} {words = words} {pieces = pieces} lexed count cut lines) reached h =
        lines_end lines (reached pieces begun (record { words = words; lexed = lexed; counts = count; cut = cut })) (subst OptionHolds count (counted_holds built_in (length words) s h))
        (pieces_hold number words pieces cut words pieces cut (each_itself pieces) (file_comes number words lexed))
    file_holds (too_many_words lexed count) reached h = tt

    lines_end : {nested : ℕ} {file : File} {before : List PassedLine} {pieces : List Piece} {s : State} {ended : Ended} → LinesEnd g nested file before pieces s ended → ReachesLines g nested file before pieces s →
        StateHolds g s → AllByRecursion PieceHolds pieces → EndedHolds g ended
    lines_end no_lines reached h p = h
    lines_end (next_line {nested = nested} {file = file} {before = before} {piece = piece} {pieces = pieces} {s = s} {after = after} {holds = holds} gives rest) reached h p =
        lines_end rest (lines_after reached gives) (line_holds nested file before (is_obeyed_after before (mark_of piece)) piece pieces s (GoesOn holds after) refl reached h p.0 gives) p.1
    lines_end (file_finished {nested = nested} {number = number} {built_in = built_in} {file = file} {before = before} {piece = piece} {pieces = pieces} {s = s} {entered = entered} gives within rest) reached h p =
        let e : StateHolds g entered = line_holds (suc nested) file before (is_obeyed_after before (mark_of piece)) piece pieces s (EntersFile number built_in entered) refl reached h p.0 gives in
        lines_end rest (lines_after_file reached gives within) (file_holds within (λ those begun begins. lines_of_file reached gives begins) e) p.1
    lines_end (file_stopped {nested = nested} {number = number} {built_in = built_in} {file = file} {before = before} {piece = piece} {pieces = pieces} {s = s} {entered = entered} gives within) reached h p =
        let e : StateHolds g entered = line_holds (suc nested) file before (is_obeyed_after before (mark_of piece)) piece pieces s (EntersFile number built_in entered) refl reached h p.0 gives in
        file_holds within (λ those begun begins. lines_of_file reached gives begins) e
    lines_end (nested_too_deep number built_in entered gives) reached h p = tt
    lines_end (line_stops {nested = nested} {file = file} {before = before} {piece = piece} {pieces = pieces} {s = s} {cause = cause} gives) reached h p =
        line_holds nested file before (is_obeyed_after before (mark_of piece)) piece pieces s (StopsWith cause) refl reached h p.0 gives

  -- ## Roots

  abbrev RootRows : List (List PlainWord) → Type 0
  RootRows rows = AllByRecursion (AllByRecursion (Comes g)) rows

  empty_hold : (numbers : List ℕ) → RootRows (no_words numbers)
  empty_hold [] = tt
  empty_hold (number ∷ numbers) = (tt, empty_hold numbers)

  is_listed : (line : PlainObeyed) → ListedHolds g line → IsListed g line
  is_listed line held = record { directive = held.2; words = held.0; place = held.1 }

  abbrev AnswerHolds : Result Expansion Limit → Type 0
  AnswerHolds (Ok expansion) = ExpansionComes g expansion
  AnswerHolds (Err limit) = Unit {0}

  one_more : (roots : List (List PlainWord)) (words : List PlainWord) → RootRows roots → AllByRecursion (Comes g) words → RootRows (roots ++ words ∷ [])
  one_more roots words r p = each_joined (AllByRecursion (Comes g)) roots (words ∷ []) r (p, tt)

  begun : (obeyed : List PlainObeyed) (left : ℕ) → AllByRecursion (ListedHolds g) obeyed → StateHolds g (fresh obeyed left)
  begun obeyed left o = record { macros = tt; words = tt; obeyed = o }

  roots_end : {numbers : List ℕ} {roots : List (List PlainWord)} {obeyed : List PlainObeyed} {left : ℕ} {answer : Result Expansion Limit} → RootsEnd g numbers roots obeyed left answer →
      ReachesRoots g numbers obeyed left → RootRows roots → AllByRecursion (ListedHolds g) obeyed → AnswerHolds answer
  roots_end (no_roots {obeyed = obeyed}) reached r o = record { roots = r; obeyed = each_weaker (ListedHolds g) (IsListed g) is_listed obeyed o; refusal = tt }
  roots_end (root_finished {roots = roots} {obeyed = obeyed} {left = left} {s = s} file others) reached r o =
      let h : StateHolds g s = file_holds file (λ pieces begun begins. lines_of_root reached begins) (begun obeyed left o) in
      roots_end others (roots_after reached file) (one_more roots s.words r h.words) h.obeyed
  roots_end (root_refused {numbers = numbers} {roots = roots} {obeyed = obeyed} {left = left} {s = s} {refusal = refusal} file) reached r o =
      let h : StateHolds g s × LiesIn g refusal.span = file_holds file (λ pieces begun begins. lines_of_root reached begins) (begun obeyed left o) in
      record {
        roots = each_joined (AllByRecursion (Comes g)) (roots ++ s.words ∷ []) (no_words numbers) (one_more roots s.words r h.0.words) (empty_hold numbers);
        obeyed = each_weaker (ListedHolds g) (IsListed g) is_listed s.obeyed h.0.obeyed;
        refusal = h.1;
      }
  roots_end (limit_passed file) reached r o = tt

  -- all words of what a program expands to come from its files, and its refusal has its place in one
  pub expansion_comes : (expansion : Expansion) → ExpandsTo g (Ok expansion) → ExpansionComes g expansion
  expansion_comes expansion to = roots_end to all_roots tt tt

pub all_come : (g : Gathered) (answer : Result Expanded ExpandFault) → IfOk answer (IsExpansion g) → IfOk answer (λ expanded. ExpansionComes g (expansion_of expanded))
all_come g (Ok expanded) to = expansion_comes g (expansion_of expanded) to
all_come g (Err fault) is = tt
