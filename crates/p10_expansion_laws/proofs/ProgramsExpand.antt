-- The program of files that have words expands to something.
use Rattle.std.proofs.Common.{◌≡◌, ℕ, zero, suc, ◌≤◌, List, [], ◌∷◌, ◌++◌, length, Bool, true, false, Option, Some, None, Result, Ok, Err, refl, sym, ap, subst, inl, inr, arith}
use Rattle.std.proofs.lemmas.Bool.{cases_order}
use Rattle.std.proofs.lemmas.List.{get_or_past}
use Rattle.p10_base.specs.declared.sources.SourceFile.{SourceFile}
use Rattle.p10_base.specs.declared.report.Limit.{Limit}
use Rattle.p10_base.specs.declared.report.TheConstants.Limit.{EXPANDED_WORDS, NESTED_INCLUDES, MOST_NESTED_INCLUDES, MOST_EXPANDED_WORDS}
use Rattle.p10_base.specs.Gathered.{Gathered, no_file, count_of, text_of, words_of_file}
use Rattle.p10_base.specs.Words.{PlainWord}
use Rattle.p10_lex.specs.Lexes.{Answers}
use Rattle.p10_lex.specs.Pieces.{beginning}
use Rattle.p10_lex.proofs.FirstRefusal.{ends}
use Rattle.p10_lex.proofs.Answering.{lexes_from}
use Rattle.p10_direct.specs.Lines.{Piece}
use Rattle.p10_direct.specs.Balance.{mark_of}
use Rattle.p10_expand.specs.Gathering.{HaveWords}
use Rattle.p10_expand.specs.Obeying.{PlainObeyed, State, RefusedBy, PassedLimit, Ended, Finished, Stopped, Next, GoesOn, EntersFile, StopsWith, File}
use Rattle.p10_expand.specs.Groups.{PassedLine, is_obeyed_after}
use Rattle.p10_expand.specs.Expands.{passed_line, counted, FileEnds, LinesEnd, words_counted, too_many_words, no_lines, Expansion, fresh, no_words, RootsEnd, no_roots, root_finished, root_refused, limit_passed}
use Rattle.p10_expand.proofs.InOrder.{PiecesInOrder, file_in_order}
use Rattle.p10_expand.proofs.FirstLine.{IncludeEnds, Rest, Resumes, Continues, from_first}
use Rattle.p10_expansion_laws.specs.Existing.{ProgramsExpand}
use Rattle.p10_expansion_laws.proofs.PartsThere.{cut_there}
use Rattle.p10_expansion_laws.proofs.LinesThere.{line_there}

module _ (g : Gathered) where
  -- ## Lines

  -- each included file ends
  abbrev FilesEnd : ℕ → Type 0
  FilesEnd nested = (number : ℕ) (built_in : Bool) (s : State) → (ended : Ended) × IncludeEnds g nested number built_in s ended

  module _ (nested : ℕ) (files : FilesEnd nested) (file : File) where
    module _ (before : List PassedLine) (piece : Piece) (pieces : List Piece) (each : (holds : Bool) (s : State) → (ended : Ended) × Rest g nested file before piece pieces holds s ended) where
      resumes_there : (within : Ended) → (ended : Ended) × Resumes g nested file before piece pieces within ended
      resumes_there (Finished s) = each true s
      resumes_there (Stopped cause) = (Stopped cause, refl)

      continues_there : (next : Next) → (ended : Ended) × Continues g nested file before piece pieces next ended
      continues_there (GoesOn holds s) = each holds s
      continues_there (EntersFile number built_in s) =
          let (within, inside) = files number built_in s in
          let (ended, resumes) = resumes_there within in
          (ended, (within, inside, resumes))
      continues_there (StopsWith cause) = (Stopped cause, refl)

    lines_there : (pieces : List Piece) (before : List PassedLine) (s : State) → PiecesInOrder pieces → (ended : Ended) × LinesEnd g nested file before pieces s ended
    lines_there [] before s order = (Finished s, no_lines)
    lines_there (piece ∷ pieces) before s order =
        let (next, gives) = line_there g file (is_obeyed_after before (mark_of piece)) (length before) piece s order.0 in
        let (ended, continues) = continues_there before piece pieces (λ holds s. lines_there pieces (passed_line piece holds ∷ before) s order.1) next in
        (ended, from_first next gives continues)

  module _ (have : HaveWords g) where
    -- ## Files

    -- a number that is no file's has no text, and so no words
    none_there : (number : ℕ) → count_of g ≤ number → (words : List PlainWord) × Answers number (text_of g number) (Ok words)
    none_there number past =
        let none : text_of g number ≡ [] = ap (λ (file : SourceFile). file.text) (get_or_past g.files number no_file past) in
        ([], subst (λ (text : List ℕ). Answers number text (Ok [])) (sym none) (omega arith, omega arith, lexes_from number [] [] (ends beginning)))

    words_there : (number : ℕ) → (words : List PlainWord) × Answers number (text_of g number) (Ok words)
    words_there number =
        elim (cases_order number (count_of g)) [
          | inl same ↦ none_there number (omega (arith, same))
          | inr apart ↦ elim apart [ inl held ↦ (words_of_file g number, have number held) | inr past ↦ none_there number (omega (arith, past)) ]
        ]

    counted_there : (nested : ℕ) (files : FilesEnd nested) (number : ℕ) (built_in : Bool) (s : State) (words : List PlainWord) → Answers number (text_of g number) (Ok words) →
        (found : Option State) → counted built_in (length words) s ≡ found → (ended : Ended) × FileEnds g nested number built_in s ended
    counted_there nested files number built_in s words lexed None is = (Stopped (PassedLimit EXPANDED_WORDS), too_many_words lexed is)
    counted_there nested files number built_in s words lexed (Some begun) is =
        let (pieces, cut) = cut_there words in
        let (ended, lines) = lines_there nested files (record { number = number; built_in = built_in; pieces = pieces }) pieces [] begun (file_in_order g number words pieces lexed cut) in
        (ended, words_counted lexed is cut lines)

    file_there : (nested : ℕ) (files : FilesEnd nested) (number : ℕ) (built_in : Bool) (s : State) → (ended : Ended) × FileEnds g nested number built_in s ended
    file_there nested files number built_in s =
        let (words, lexed) = words_there number in
        counted_there nested files number built_in s words lexed (counted built_in (length words) s) refl

    include_there : (nested : ℕ) → FilesEnd nested
    include_there zero number built_in s = (Stopped (PassedLimit NESTED_INCLUDES), refl)
    include_there (suc more) number built_in s = file_there more (include_there more) number built_in s

    -- ## Roots

    root_there : (number : ℕ) (numbers : List ℕ) (roots : List (List PlainWord)) (obeyed : List PlainObeyed) (left : ℕ) →
        ((roots : List (List PlainWord)) (obeyed : List PlainObeyed) (left : ℕ) → (answer : Result Expansion Limit) × RootsEnd g numbers roots obeyed left answer) →
        (ended : Ended) → FileEnds g MOST_NESTED_INCLUDES number false (fresh obeyed left) ended → (answer : Result Expansion Limit) × RootsEnd g (number ∷ numbers) roots obeyed left answer
    root_there number numbers roots obeyed left each (Finished s) file =
        let (answer, others) = each (roots ++ s.words ∷ []) s.obeyed s.left in (answer, root_finished file others)
    root_there number numbers roots obeyed left each (Stopped (RefusedBy s refusal)) file =
        (Ok (record { roots = roots ++ s.words ∷ [] ++ no_words numbers; obeyed = s.obeyed; refusal = Some refusal }), root_refused file)
    root_there number numbers roots obeyed left each (Stopped (PassedLimit limit)) file = (Err limit, limit_passed file)

    roots_there : (numbers : List ℕ) (roots : List (List PlainWord)) (obeyed : List PlainObeyed) (left : ℕ) → (answer : Result Expansion Limit) × RootsEnd g numbers roots obeyed left answer
    roots_there [] roots obeyed left = (Ok (record { roots = roots; obeyed = obeyed; refusal = None }), no_roots)
    roots_there (number ∷ numbers) roots obeyed left =
        let (ended, file) = file_there MOST_NESTED_INCLUDES (include_there MOST_NESTED_INCLUDES) number false (fresh obeyed left) in
        root_there number numbers roots obeyed left (λ roots obeyed left. roots_there numbers roots obeyed left) ended file

-- the program of files that have words expands to something
pub programs_expand : ProgramsExpand
programs_expand g have = roots_there g have g.roots [] [] MOST_EXPANDED_WORDS
