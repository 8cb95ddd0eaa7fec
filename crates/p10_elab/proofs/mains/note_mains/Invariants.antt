use Rattle.std.proofs.Common.{◌≡◌, ◌++◌, map, drop}
use Rattle.p10_syn.specs.Built.{identifier_of}
use Rattle.p10_elab.specs.Outer.{main_constants}
use Rattle.p10_elab.proofs.mains.note_mains.Given as goal

abbrev pub invariant-loop-name : goal.invariant-loop-name
invariant-loop-name l =
    l.mains.items ++ main_constants (map identifier_of (drop l.name-index l.names)) ≡ l.fn.mains.items ++ main_constants (map identifier_of l.names)
