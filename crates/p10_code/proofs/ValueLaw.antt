-- The code of each value and place does what it means.
use Rattle.std.proofs.Common.{List, ℕ}
use Rattle.p10_base.specs.declared.at.At.{At}
use Rattle.p10_core.specs.Types.{PlainType}
use Rattle.p10_core.specs.Typed.{PlainValue, value, PlainForm, constant, read, sense, address, decay, convert, cast, unary, binary, logic, conditional, call as call_form, built_in, PlainPlace, place, PlainPlaceForm, variable, global, literal, index, member, dereference, PlainValues, no_values, more_values, PlainVariable, PlainProgram}
use Rattle.p10_meaning.specs.Values.{Calls, Held}
use Rattle.p10_code.specs.Operations.{Op, Entry}
use Rattle.p10_code.proofs.Base.{Under}
use Rattle.p10_code.proofs.ValueParts.{CallsRun, FormRuns, ValueRuns, DroppedRuns, IntoRuns, ArgumentsRun, PlaceRuns}
use Rattle.p10_code.proofs.Places.{variable_runs, global_runs, literal_runs, index_runs, member_runs, dereference_runs}
use Rattle.p10_code.proofs.Values.{constant_runs, convert_runs, unary_runs, binary_runs, address_runs, decay_runs, sense_runs, cast_runs, read_runs}
use Rattle.p10_code.proofs.Branching.{logic_runs, conditional_runs, call_runs, built_in_runs, value_runs, dropped_runs, into_runs, no_arguments_run, arguments_run}

module _ (p : PlainProgram) (code : List Op) (entries : List Entry) (u : Under) (vars : List PlainVariable) (call : Calls) (m : ℕ) (cr : CallsRun p code entries u call m) (held : List Held) where
  mutual
    pub value_law : (v : PlainValue) → ValueRuns p code entries u vars call m held v
    value_law (value here ty form) = value_runs p code entries u vars call m held here ty form (form_law here ty form)

    pub dropped_law : (v : PlainValue) → DroppedRuns p code entries u vars call m held v
    dropped_law (value here ty form) = dropped_runs p code entries u vars call m held here ty form (form_law here ty form)

    pub into_law : (v : PlainValue) → IntoRuns p code entries u vars call m held v
    into_law (value here ty form) = into_runs p code entries u vars call m held here ty form (form_law here ty form)

    form_law : (here : At) (ty : PlainType) (form : PlainForm) → FormRuns p code entries u vars call m held here ty form
    form_law here ty (constant z) = constant_runs p code entries u vars call m held here ty z
    form_law here ty (read pl) = read_runs p code entries u vars call m held here ty pl (place_law pl)
    form_law here ty (sense n) = sense_runs p code entries u vars call m held here ty n
    form_law here ty (address pl) = address_runs p code entries u vars call m held here ty pl (place_law pl)
    form_law here ty (decay pl) = decay_runs p code entries u vars call m held here ty pl (place_law pl)
    form_law here ty (convert v) = convert_runs p code entries u vars call m held here ty v (value_law v)
    form_law here ty (cast v) = cast_runs p code entries u vars call m held here ty v (value_law v) (dropped_law v)
    form_law here ty (unary o v) = unary_runs p code entries u vars call m held here ty o v (value_law v)
    form_law here ty (binary o a b) = binary_runs p code entries u vars call m held here ty o a b (value_law a) (value_law b)
    form_law here ty (logic o a b) = logic_runs p code entries u vars call m held here ty o a b (value_law a) (value_law b)
    form_law here ty (conditional c a b) = conditional_runs p code entries u vars call m held here ty c a b (value_law c) (into_law a) (into_law b)
    form_law here ty (call_form name f vs) = call_runs p code entries u vars call m held cr here ty name f vs (arguments_law vs)
    form_law here ty (built_in name f vs) = built_in_runs p code entries u vars call m held here ty name f vs (arguments_law vs)

    arguments_law : (vs : PlainValues) → ArgumentsRun p code entries u vars call m held vs
    arguments_law no_values = no_arguments_run p code entries u vars call m held
    arguments_law (more_values v vs) = arguments_run p code entries u vars call m held v vs (into_law v) (arguments_law vs)

    pub place_law : (pl : PlainPlace) → PlaceRuns p code entries u vars call m held pl
    place_law (place here ty form) = place_form_law here ty form

    place_form_law : (here : At) (ty : PlainType) (form : PlainPlaceForm) → PlaceRuns p code entries u vars call m held (place here ty form)
    place_form_law here ty (variable n) = variable_runs p code entries u vars call m held here ty n
    place_form_law here ty (global n) = global_runs p code entries u vars call m held here ty n
    place_form_law here ty (literal n bytes) = literal_runs p code entries u vars call m held here ty n bytes
    place_form_law here ty (index a i) = index_runs p code entries u vars call m held here ty a i (value_law a) (value_law i)
    place_form_law here ty (member pl n) = member_runs p code entries u vars call m held here ty pl n (place_law pl)
    place_form_law here ty (dereference v) = dereference_runs p code entries u vars call m held here ty v (value_law v)
