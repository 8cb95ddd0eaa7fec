-- An error of adding words to others.
use Rattle.std.specs.Prelude.{◌≡◌, ◌≤◌, List, length}
use Rattle.p10_lex.specs.declared.fault.LexFault.{LexFault}
use Rattle.p10_lex.specs.declared.fault.LexFault.TheVariants.{Refused, Over, Memory}
use Rattle.p10_base.specs.Words.{PlainWord}
use Rattle.p10_base.specs.declared.report.TheConstants.Limit.{FILE_WORDS, MOST_FILE_WORDS}

-- An error of adding words to others: they are too many, or memory is out.
abbrev pub IsTooMany : List PlainWord → List PlainWord → LexFault → Type 0
IsTooMany words more (Refused refusal) = ⊥
IsTooMany words more (Over limit) = (limit ≡ FILE_WORDS) × (MOST_FILE_WORDS ≤ length words) × (length more ≡ 1)
IsTooMany words more Memory = Unit {0}
