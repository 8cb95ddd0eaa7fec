use Rattle.std.proofs.Common.{◌≡◌, drop}
use Rattle.std.specs.Prelude.{Some, [], map}
use Rattle.p10_elabx.specs.Literals.{strings_value}
use Rattle.p10_elabx.proofs.literals.strings_value.Given as goal

abbrev pub invariant-loop-text : goal.invariant-loop-text
invariant-loop-text l = strings_value (Some l.bytes.items) (map (λ t. t.now) (drop l.text-index l.texts)) ≡ strings_value (Some []) (map (λ t. t.now) l.texts)
