use Rattle.std.proofs.Common.{◌≡◌, map, drop}
use Rattle.p10_syn.specs.Trees.{specifier_row}
use Rattle.p10_syn.specs.Built.{specifier_of}
use Rattle.p10_elabd.specs.Words.{storage_from, storage_of}
use Rattle.p10_elabd.proofs.words.storage_of.Given as goal

abbrev pub invariant-loop-spec : goal.invariant-loop-spec
invariant-loop-spec l = storage_from l.found (specifier_row (map specifier_of (drop l.spec-index l.specs))) ≡ storage_of (specifier_row (map specifier_of l.specs))
