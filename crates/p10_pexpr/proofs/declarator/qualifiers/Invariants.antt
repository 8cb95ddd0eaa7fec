use Rattle.std.proofs.Common.{◌≡◌, [], ◌∷◌, length, map}
use Rattle.p10_syn.specs.Built.{bare_qualifier_of}
use Rattle.p10_pexpr.specs.DeclaratorReading.{qualifiers_from}
use Rattle.p10_pexpr.proofs.declarator.qualifiers.Given as goal

abbrev pub invariant-loop-sign : goal.invariant-loop-sign
invariant-loop-sign l = qualifiers_from (map bare_qualifier_of l.all.items) l.cursor ≡ qualifiers_from [] l.fn.cursor

abbrev pub decreases-loop-sign : goal.decreases-loop-sign
decreases-loop-sign l = length l.cursor
