use Rattle.std.proofs.Common.{refl}
use Rattle.p10_renaming.specs.Renaming.{same_integer, same_structure, same_value, same_constant, same_read, same_place, same_global, same_statement, same_set, same_copy, same_return, same_some, same_no_statements, same_more_statements, same_no_variables}
use Rattle.p10_renaming.proofs.laws.renamings_compared.Goals as goal

pub returns : goal.returns
returns c = record {
  moved = record {
    name = refl;
    static = refl;
    parameters = refl;
    result = same_integer;
    variables = same_no_variables;
    body =
        same_more_statements (same_statement (same_set (same_place same_integer same_global) (same_value same_integer same_constant)))
        (same_more_statements (same_statement (same_copy (same_place (same_structure refl) same_global) (same_place (same_structure refl) same_global)))
        (same_more_statements (same_statement (same_return (same_some (same_value same_integer (same_read (same_place same_integer same_global)))))) same_no_statements));
  };
}
