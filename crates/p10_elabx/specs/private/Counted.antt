-- How many specifiers are counted.
use Rattle.std.specs.Prelude.{ℕ, ◌+◌}
use Rattle.p10_elabx.specs.declared.words.Words.{Words}
use Rattle.p10_elabx.specs.declared.words.Said.{Said}

-- the words of a type that are counted
abbrev pub word_total : Words → ℕ
word_total w = w.void_words + w.char_words + w.short_words + w.int_words + w.long_words + w.signed_words + w.unsigned_words + w.bool_words

-- all specifiers that are counted
abbrev pub total : Said → ℕ
total s = word_total s.words + s.names
