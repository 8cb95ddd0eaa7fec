use Rattle.std.proofs.Common.{◌≡◌, ◌≤◌, ◌+◌, ◌++◌, List, map, length, vec_len}
use Rattle.std.specs.Prelude.{Option}
use Rattle.p10_base.specs.declared.report.Refusal.{Refusal}
use Rattle.p10_lex.specs.Pieces.{beginning}
use Rattle.p10_lex.proofs.FirstRefusal.{Gives}
use Rattle.p10_lex.proofs.words.words_in.Given as goal
use Rattle.p10_base.specs.Words.{PlainWord, plain_word}
use Rattle.p10_base.specs.declared.report.TheConstants.Limit.{MOST_FILE_BYTES, MOST_FILE_WORDS}

abbrev pub invariant-loop-rest : goal.invariant-loop-rest
invariant-loop-rest l = record {
  places : l.place + length l.rest ≡ length l.text;
  bytes : length l.text ≤ MOST_FILE_BYTES;
  count : vec_len l.words ≤ MOST_FILE_WORDS;
  gives : (words : List PlainWord) (end : Option Refusal) → Gives l.file (record { place = l.place; line = l.line; tight = l.tight }) l.rest words end
      → Gives l.file beginning l.text (map plain_word l.words.items ++ words) end;
}

abbrev pub decreases-loop-rest : goal.decreases-loop-rest
decreases-loop-rest l = length l.rest
