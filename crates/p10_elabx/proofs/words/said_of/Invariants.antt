use Rattle.std.proofs.Common.{◌≡◌, ◌≤◌, drop}
use Rattle.std.specs.Prelude.{map}
use Rattle.p10_syn.specs.Trees.{specifier_row}
use Rattle.p10_syn.specs.Built.{specifier_of}
use Rattle.p10_elabx.specs.TypeNames.{said_of, nothing_specified}
use Rattle.p10_elabx.specs.private.Counted.{total}
use Rattle.p10_elabx.proofs.words.said_of.Given as goal

abbrev pub invariant-loop-spec : goal.invariant-loop-spec
invariant-loop-spec l = record {
  said : said_of (specifier_row (map specifier_of (drop l.spec-index l.specs))) l.said ≡ said_of (specifier_row (map specifier_of l.specs)) nothing_specified;
  few : total l.said ≤ l.spec-index;
}
