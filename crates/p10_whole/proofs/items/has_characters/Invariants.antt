use Rattle.p10_core.specs.Types.{plain_type}
use Rattle.p10_core.specs.Views.{plain_types}
use Rattle.p10_whole.specs.private.Scalars.{HasCharacters}
use Rattle.p10_whole.proofs.items.has_characters.Given as goal

-- the scalars so far are characters
abbrev pub invariant-loop-k : goal.invariant-loop-k
invariant-loop-k l = HasCharacters (plain_types l.types) (plain_type l.t) l.from l.k
