-- The readers of the grammar.
use Rattle.std.specs.Prelude.{ℕ, zero, suc, None}
use Rattle.p10_pexpr.specs.Readers.{Readers}
use Rattle.p10_pexpr.specs.DeclaratorReading.{declarator_once, suffixes_once, parameters_once}
use Rattle.p10_pexpr.specs.SpecifierReading.{specifiers_once, members_once, fields_once, enumerators_once}
use Rattle.p10_pexpr.specs.ExpressionReading.{expression_once, chain_once, list_once}

-- readers that read nothing
abbrev pub no_readers : Readers
no_readers = record {
  expression = λ names level symbols. None;
  chain = λ names level left symbols. None;
  list = λ names done symbols. None;
  specifiers = λ names setting said done symbols. None;
  members = λ names done symbols. None;
  fields = λ names done symbols. None;
  enumerators = λ names done symbols. None;
  declarator = λ names setting naming symbols. None;
  suffixes = λ names setting d symbols. None;
  parameters = λ names setting done symbols. None;
}

-- readers one step over these
abbrev pub deeper : Readers → Readers
deeper r = record {
  expression = expression_once r;
  chain = chain_once r;
  list = list_once r;
  specifiers = specifiers_once r;
  members = members_once r;
  fields = fields_once r;
  enumerators = enumerators_once r;
  declarator = declarator_once r;
  suffixes = suffixes_once r;
  parameters = parameters_once r;
}

-- readers that go this deep
unfoldable pub readers : ℕ → Readers
readers zero = no_readers
readers (suc n) = deeper (readers n)
