-- The small program that allocates before its mark is whole.
use Rattle.std.proofs.Common.{◌≡◌, ℕ, zero, suc, [], refl, subst, arith, inl, Some, slice_get}
use Rattle.std.proofs.lemmas.Option.{none-some, same_Some}
use Rattle.std.proofs.lemmas.List.Elements.{All-nil, All-cons}
use Rattle.p10_core.specs.Sizes.{layout_of}
use Rattle.p10_core.specs.Typed.{PlainFunction}
use Rattle.p10_core.specs.WholePrograms.{region_of, AreWholeStructures, IsWholeVariable, AreWholeStatements, IsWholeFunction, IsMain, IsWholeProgram}
use Rattle.p10_meaning.specs.Examples.{int, frame_variable}
use Rattle.p10_meaning.specs.Tasks.{ints}
use Rattle.p10_allocation.specs.Samples.{main_allocating_early, allocating_early}

no_structures : AreWholeStructures []
no_structures = record { bodies = λ n b e. absurd (none-some b e); representatives = λ n low. absurd (omega (arith, low)); stand_for_themselves = λ n. refl }

pointer_whole : IsWholeVariable [] (frame_variable ints 8)
unfolding layout_of
pointer_whole = record { object = record { whole = (tt, refl); complete = refl }; bytes_are = refl; frame_scalar = λ e. refl }

items_whole : AreWholeStatements (region_of allocating_early 0 main_allocating_early) main_allocating_early.body
items_whole = (
  record {
    variable = frame_variable ints 8;
    there = refl;
    no_parameter = omega arith;
    initializer = record { whole = (tt, record { element = int; type_is = refl; complete = refl; counted = tt }); scalar = refl; type_is = refl };
  },
  (refl, (refl, ((tt, tt, tt, tt, (tt, tt), refl), tt))),
)

function_whole : IsWholeFunction allocating_early 0 main_allocating_early
function_whole = record {
  parameters_there = omega arith;
  parameters_scalar = All-nil _;
  result = record { whole = tt; scalar_or_none = inl refl };
  variables = All-cons (IsWholeVariable []) (frame_variable ints 8) [] pointer_whole (All-nil _);
  declared_in_order = refl;
  loops_in_order = refl;
  small = omega arith;
  body = items_whole;
}

functions_whole : (n : ℕ) (f : PlainFunction) → slice_get allocating_early.functions n ≡ Some f → IsWholeFunction allocating_early n f
functions_whole zero f e = subst (λ g. IsWholeFunction allocating_early 0 g) (same_Some main_allocating_early f e) function_whole
functions_whole (suc n) f e = absurd (none-some f e)

main_is : IsMain allocating_early main_allocating_early
main_is = record {
  no_parameters = refl;
  result_is = refl;
  not_static = refl;
  marks = refl;
  init_done = record { is = refl; before_task = omega arith };
  task = record { after_first = omega arith; marked = refl; loop = refl; last = tt };
}

pub early_is_whole : IsWholeProgram allocating_early
early_is_whole = record {
  structures = no_structures;
  functions = functions_whole;
  objects = All-nil _;
  static_bytes = omega arith;
  literals_rise = tt;
  literals_small = All-nil _;
  main = record { function = main_allocating_early; there = refl; is = main_is };
}
