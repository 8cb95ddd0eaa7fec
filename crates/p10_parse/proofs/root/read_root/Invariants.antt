use Rattle.std.proofs.Common.{map, length}
use Rattle.p10_base.specs.Words.{plain_words}
use Rattle.p10_syn.specs.Symbols.{symbols_of}
use Rattle.p10_syn.specs.BuiltStatements.{bare_external_of}
use Rattle.p10_parse.proofs.Reading.{Reached}
use Rattle.p10_parse.proofs.root.read_root.Given as goal

abbrev pub invariant-loop-cursor : goal.invariant-loop-cursor
invariant-loop-cursor l = Reached (symbols_of (plain_words l.words)) l.scope (map bare_external_of l.all.items) l.cursor

abbrev pub decreases-loop-cursor : goal.decreases-loop-cursor
decreases-loop-cursor l = length l.cursor
