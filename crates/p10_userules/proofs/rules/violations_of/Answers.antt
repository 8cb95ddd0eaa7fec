use Rattle.std.proofs.Common.{◌≡◌, List, [], ◌++◌, length, map, sym, ◌∙◌, ap, subst, arith}
use Rattle.std.specs.List.{flat_map}
use Rattle.std.proofs.lemmas.List.{length-map}
use Rattle.p10_core.specs.Typed.{PlainProgram}
use Rattle.p10_core.specs.Views.{plain_program, plain_function, plain_object}
use Rattle.p10_userules.specs.declared.occurrences.Occurrence.{Occurrence}
use Rattle.p10_userules.specs.declared.spreads.Kind.TheVariants.{Objects}
use Rattle.p10_userules.specs.Occurrences.{occurrences_outside}
use Rattle.p10_userules.specs.private.Spreads.{StretchesRise, spreads_from}
use Rattle.p10_userules.specs.private.Laid.{AreFunctions}
use Rattle.p10_userules.specs.private.Walking.{passed_all, parts_of_all, stretches_of_all}
use Rattle.p10_userules.specs.private.Listing.{wide_objects, listed_in_functions}
use Rattle.p10_userules.proofs.Noting.{so_many}
use Rattle.p10_userules.proofs.Laying.{functions_are, stretches_rise, so_many_stretches, so_many_parts}
use Rattle.p10_userules.proofs.Collected.{concluded}
use Rattle.p10_userules.proofs.rules.violations_of.Goals as goal

pub put_objects-requires-clause-spreads : goal.put_objects-requires-clause-spreads
put_objects-requires-clause-spreads c =
    let total : length c.as_slice.result.now ≡ length c.as_slice-objects.result.now =
    ap length (c.as_slice.ensures.value ∙ c.in_ok-spreads.ensures) ∙ so_many 0 Objects 0 c.as_slice-all.result.now (length c.as_slice-objects.result.now) in
    omega (arith, total)

pub put_objects-requires-clause-rising : goal.put_objects-requires-clause-rising
put_objects-requires-clause-rising c =
    let objects = map plain_object c.as_slice-objects.result.now in
    let functions = map plain_function c.as_slice-functions.result.now in
    subst StretchesRise (sym (c.as_slice-2.ensures.value ∙ c.in_ok-parts.ensures.stretches))
    (record { from = 0; to = length (passed_all objects [] functions); rises = stretches_rise objects [] functions })

pub put_functions-requires-clause-are : goal.put_functions-requires-clause-are
put_functions-requires-clause-are c =
    let objects = map plain_object c.as_slice-objects.result.now in
    let functions = map plain_function c.as_slice-functions.result.now in
    let all : List Occurrence = c.as_slice-all.result.now in
    subst (λ l. AreFunctions objects all functions l c.as_slice-5.result.now) (sym (c.as_slice-4.ensures.value ∙ c.in_ok-parts.ensures.stretches))
    (subst (λ l. AreFunctions objects all functions (stretches_of_all objects [] functions) l) (sym (c.as_slice-5.ensures.value ∙ c.in_ok-parts.ensures.blocks))
    (functions_are objects [] functions (flat_map occurrences_outside objects) all
    (c.as_slice-all.ensures.value ∙ c.in_ok-put_all_outside.ensures ∙ ap (λ l. l ++ flat_map occurrences_outside objects) c.in_ok-parts.ensures.occurrences)))

pub put_functions-requires-clause-stretches : goal.put_functions-requires-clause-stretches
put_functions-requires-clause-stretches c =
    ap length (c.as_slice-4.ensures.value ∙ c.in_ok-parts.ensures.stretches)
    ∙ so_many_stretches (map plain_object c.as_slice-objects.result.now) [] (map plain_function c.as_slice-functions.result.now)
    ∙ length-map c.as_slice-functions.result.now plain_function

pub put_functions-requires-clause-blocks : goal.put_functions-requires-clause-blocks
put_functions-requires-clause-blocks c =
    ap length (c.as_slice-5.ensures.value ∙ c.in_ok-parts.ensures.blocks)
    ∙ so_many_parts (map plain_object c.as_slice-objects.result.now) [] (map plain_function c.as_slice-functions.result.now)
    ∙ length-map c.as_slice-functions.result.now plain_function

pub returns : goal.returns
returns c =
    let p : PlainProgram = plain_program c.args.program.now in
    let all : List Occurrence = c.put_all_outside.new.occurrences.items in
    let objects : map plain_object c.as_slice-objects.result.now ≡ p.objects = ap (map plain_object) c.as_slice-objects.ensures in
    let functions : map plain_function c.as_slice-functions.result.now ≡ p.functions = ap (map plain_function) c.as_slice-functions.ensures in
    let count : length c.as_slice-objects.result.now ≡ length p.objects = sym (length-map c.as_slice-objects.result.now plain_object) ∙ ap length objects in
    let spreads : c.in_ok-spreads.spreads.items ≡ spreads_from 0 Objects 0 all (length p.objects) =
    c.in_ok-spreads.ensures ∙ (λ i. spreads_from 0 Objects 0 (c.as_slice-all.ensures.value i) (count i)) in
    concluded p c.in_ok-parts.parts.stretches.items c.in_ok-parts.parts.blocks.items all c.put_functions.new.found.items
    (c.in_ok-put_all_outside.ensures ∙ ap (λ l. l ++ flat_map occurrences_outside (map plain_object c.as_slice-objects.result.now)) c.in_ok-parts.ensures.occurrences
    ∙ (λ i. passed_all (objects i) [] (functions i) ++ flat_map occurrences_outside (objects i)))
    (c.in_ok-parts.ensures.stretches ∙ (λ i. stretches_of_all (objects i) [] (functions i)))
    (c.in_ok-parts.ensures.blocks ∙ (λ i. parts_of_all (objects i) [] (functions i)))
    (c.in_ok-put_functions.ensures
    ∙ ap (λ l. l ++ listed_in_functions (map plain_object c.as_slice-objects.result.now) c.as_slice-3.result.now c.as_slice-all.result.now (map plain_function c.as_slice-functions.result.now) c.as_slice-4.result.now c.as_slice-5.result.now) c.in_ok-put_objects.ensures
    ∙ (λ i. (c.new-found.ensures.items i ++ wide_objects (c.as_slice-2.ensures.value i) (objects i) ((c.as_slice.ensures.value ∙ spreads) i))
    ++ listed_in_functions (objects i) ((c.as_slice-3.ensures.value ∙ spreads) i) (c.as_slice-all.ensures.value i) (functions i) (c.as_slice-4.ensures.value i) (c.as_slice-5.ensures.value i)))
