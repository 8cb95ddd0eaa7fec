use Rattle.std.proofs.Common.{◌≡◌, map, take}
use Rattle.p10_base.specs.Words.{plain_words}
use Rattle.p10_syn.specs.Symbols.{symbols_of}
use Rattle.p10_syn.specs.Tokens.{symbol_at}
use Rattle.p10_pexpr.proofs.tokens.tokens_of.Given as goal

-- the words so far
abbrev pub invariant-loop-word : goal.invariant-loop-word
invariant-loop-word l = map symbol_at l.tokens.items ≡ symbols_of (plain_words (take l.word-index l.words))
