-- What is read is spelled.
use Rattle.std.proofs.Common.{ℕ, zero, suc}
use Rattle.std.proofs.lemmas.Option.{none-some}
use Rattle.p10_pexpr.specs.Reading.{readers}
use Rattle.p10_pexpr.proofs.Taken.{Takes}
use Rattle.p10_pexpr.proofs.ExpressionTakes.{expression_takes, chain_takes, list_takes}
use Rattle.p10_pexpr.proofs.DeclaratorTakes.{type_takes, declarator_takes, suffixes_take, parameters_take}
use Rattle.p10_pexpr.proofs.SpecifierTakes.{specifiers_take, members_take, fields_take, enumerators_take}

pub takes : (n : ℕ) → Takes (readers n)
unfolding readers
takes zero = record {
  expression = λ names level symbols p e. absurd (none-some p e);
  chain = λ names level t symbols p h high e. absurd (none-some p e);
  list = λ names done symbols p e. absurd (none-some p e);
  specifiers = λ names setting said done symbols p e. absurd (none-some p e);
  members = λ names done symbols p e. absurd (none-some p e);
  fields = λ names done symbols p e. absurd (none-some p e);
  enumerators = λ names done symbols p e. absurd (none-some p e);
  declarator = λ names setting naming symbols p e. absurd (none-some p e);
  suffixes = λ names setting naming d symbols p is suffixed e. absurd (none-some p e);
  parameters = λ names setting done symbols p e. absurd (none-some p e);
}
takes (suc n) = record {
  expression = expression_takes (readers n) (takes n) (type_takes (readers n) (takes n));
  chain = chain_takes (readers n) (takes n) (type_takes (readers n) (takes n));
  list = list_takes (readers n) (takes n) (type_takes (readers n) (takes n));
  specifiers = specifiers_take (readers n) (takes n);
  members = members_take (readers n) (takes n);
  fields = fields_take (readers n) (takes n);
  enumerators = enumerators_take (readers n) (takes n);
  declarator = declarator_takes (readers n) (takes n);
  suffixes = suffixes_take (readers n) (takes n);
  parameters = parameters_take (readers n) (takes n);
}
