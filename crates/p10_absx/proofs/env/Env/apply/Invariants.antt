use Rattle.std.proofs.Common.{◌≡◌, drop}
use Rattle.p10_absx.specs.private.Changes.{replaced_in, applied}
use Rattle.p10_absx.proofs.env.Env.apply.Given as goal

abbrev pub invariant-loop-change : goal.invariant-loop-change
invariant-loop-change l = record {
  values : applied (replaced_in (drop l.change-index l.changes)) l.self.values ≡ applied (replaced_in l.changes) l.initial.self.values;
  outer : l.self.outer ≡ l.initial.self.outer;
}
