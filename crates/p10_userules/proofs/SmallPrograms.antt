-- Small programs are computed.
use Rattle.std.proofs.Common.{◌≡◌, List, [], ◌++◌, length, refl}
use Rattle.std.specs.List.{flat_map}
use Rattle.p10_base.specs.declared.report.Violation.{Violation}
use Rattle.p10_core.specs.Typed.{PlainProgram}
use Rattle.p10_userules.specs.declared.occurrences.Occurrence.{Occurrence}
use Rattle.p10_userules.specs.declared.spreads.Kind.TheVariants.{Objects}
use Rattle.p10_userules.specs.Occurrences.{occurrences_outside}
use Rattle.p10_userules.specs.Laws.{IsViolatedAt}
use Rattle.p10_userules.specs.Examples.{FileScopes, BlockScopes, Results, Parameters}
use Rattle.p10_userules.specs.private.Spreads.{spreads_from}
use Rattle.p10_userules.specs.private.Walking.{passed_all, parts_of_all, stretches_of_all}
use Rattle.p10_userules.specs.private.Listing.{wide_objects, listed_in_functions}
use Rattle.p10_userules.proofs.Collected.{concluded}

abbrev occurrences_of : PlainProgram → List Occurrence
occurrences_of p = passed_all p.objects [] p.functions ++ flat_map occurrences_outside p.objects

abbrev listed_in : PlainProgram → List Violation
listed_in p =
    wide_objects (stretches_of_all p.objects [] p.functions) p.objects (spreads_from 0 Objects 0 (occurrences_of p) (length p.objects))
    ++ listed_in_functions p.objects (spreads_from 0 Objects 0 (occurrences_of p) (length p.objects)) (occurrences_of p) p.functions (stretches_of_all p.objects [] p.functions) (parts_of_all p.objects [] p.functions)

computed : (p : PlainProgram) (places : List Violation) → places ≡ listed_in p → IsViolatedAt p places
computed p places e = concluded p (stretches_of_all p.objects [] p.functions) (parts_of_all p.objects [] p.functions) (occurrences_of p) places refl refl refl e

pub file_scopes : FileScopes
file_scopes = record { one_function = computed _ _ refl; two_functions = computed _ _ refl; no_function = computed _ _ refl; outside_too = computed _ _ refl }

pub block_scopes : BlockScopes
block_scopes = record {
  one_block = computed _ _ refl;
  also_outside = computed _ _ refl;
  no_braces = computed _ _ refl;
  two_blocks = computed _ _ refl;
  two_of_one = computed _ _ refl;
  block_of_loop = computed _ _ refl;
  loop_of_block = computed _ _ refl;
  no_use = computed _ _ refl;
  of_clause = computed _ _ refl;
  static_object = computed _ _ refl;
  in_initializer = computed _ _ refl;
}

pub results : Results
results = record { dropped = computed _ _ refl; without_result = computed _ _ refl; used = computed _ _ refl }

pub parameters : Parameters
parameters = record {
  asserted = computed _ _ refl;
  in_condition = computed _ _ refl;
  in_c_assert = computed _ _ refl;
  unchecked = computed _ _ refl;
  in_third_clause = computed _ _ refl;
  in_body_of_do = computed _ _ refl;
  in_test_of_while = computed _ _ refl;
  not_at_all = computed _ _ refl;
  truth = computed _ _ refl;
}
