-- What is collected in a program is listed exactly.
use Rattle.std.proofs.Common.{◌≡◌, ℕ, suc, ◌+◌, ◌<◌, ◌≤◌, List, [], ◌∷◌, ◌++◌, length, map, take, drop, get_or, Option, sym, ◌∙◌, ap, subst, arith}
use Rattle.std.specs.Prelude.{◌↔◌}
use Rattle.std.specs.List.{Contains, flat_map}
use Rattle.std.proofs.Math.Seq.{drop-cons}
use Rattle.std.proofs.lemmas.List.{length-map, length-take}
use Rattle.p10_base.specs.declared.report.Violation.{Violation}
use Rattle.p10_core.specs.declared.program.Func.{Func}
use Rattle.p10_core.specs.declared.program.Variable.{Variable}
use Rattle.p10_core.specs.Views.{plain_function, plain_variable}
use Rattle.p10_core.specs.Typed.{PlainObject, PlainProgram}
use Rattle.p10_userules.specs.declared.occurrences.Occurrence.{Occurrence}
use Rattle.p10_userules.specs.declared.parts.Stretch.{Stretch}
use Rattle.p10_userules.specs.declared.parts.BlockParts.{BlockParts}
use Rattle.p10_userules.specs.declared.spreads.Spread.{Spread}
use Rattle.p10_userules.specs.declared.spreads.Kind.{Kind}
use Rattle.p10_userules.specs.declared.spreads.Kind.TheVariants.{Objects}
use Rattle.p10_userules.specs.Occurrences.{occurrences_outside, occurrences_in_program}
use Rattle.p10_userules.specs.Violations.{Violates}
use Rattle.p10_userules.specs.private.Spreads.{spreads_from}
use Rattle.p10_userules.specs.private.Laid.{IsFunction, AreFunctions}
use Rattle.p10_userules.specs.private.Walking.{passed_all, parts_of_all, stretches_of_all}
use Rattle.p10_userules.specs.private.Listing.{wide_objects, listed_in_functions}
use Rattle.p10_userules.proofs.Noting.{so_many}
use Rattle.p10_userules.proofs.Laying.{passed_all_is, functions_are}
use Rattle.p10_userules.proofs.Exact.{exact}

-- ## A function

pub few_parameters : (given : List Variable) (params count start : ℕ) (vars : List Variable) (kind : Kind) (os : List Occurrence) (spreads : List (Option Spread)) → map plain_variable given ≡ take params (map plain_variable vars) → count ≡ length vars
    → spreads ≡ spreads_from 0 kind start os count → length given ≤ length spreads
few_parameters given params count start vars kind os spreads e many made =
    let some : length (map plain_variable given) ≡ length given = length-map given plain_variable in
    let all : length (map plain_variable vars) ≡ length vars = length-map vars plain_variable in
    let same : length (map plain_variable given) ≡ length (take params (map plain_variable vars)) = ap length e in
    let least = length-take params (map plain_variable vars) in
    let total : length spreads ≡ count = ap length made ∙ so_many 0 kind start os count in
    omega (arith, some, all, same, least, total, many)

-- ## The function at a place

module _ (objects : List PlainObject) (all : List Occurrence) (fs : List Func) (ts : List Stretch) (bs : List (List BlockParts)) (place : ℕ)
    (are : AreFunctions objects all (map plain_function (drop place fs)) (drop place ts) (drop place bs)) (few : length ts ≡ length fs) (so : length bs ≡ length fs) (below : place < length fs) where
  cut : {A : Type 0} (xs : List A) (x : A) → place < length xs → x ≡ get_or xs place x → drop place xs ≡ x ∷ drop (place + 1) xs
  cut xs x h e =
      let next : suc place ≡ place + 1 = omega arith in
      drop-cons xs place x h ∙ ap (λ y. y ∷ drop (suc place) xs) (sym e) ∙ ap (λ n. x ∷ drop n xs) next

  pub function_at : (f : Func) (none : Stretch) (b : List BlockParts) → f ≡ get_or fs place f → b ≡ get_or bs place b → IsFunction objects all (plain_function f) (get_or ts place none) b
  function_at f none b e h =
      let t : Stretch = get_or ts place none in
      let next : suc place ≡ place + 1 = omega arith in
      let first : drop place fs ≡ f ∷ drop (place + 1) fs = cut fs f below e in
      let second : drop place ts ≡ t ∷ drop (place + 1) ts = drop-cons ts place none (omega (arith, few, below)) ∙ ap (λ n. t ∷ drop n ts) next in
      let third : drop place bs ≡ b ∷ drop (place + 1) bs = cut bs b (omega (arith, so, below)) h in
      let at : AreFunctions objects all (map plain_function (f ∷ drop (place + 1) fs)) (t ∷ drop (place + 1) ts) (b ∷ drop (place + 1) bs) =
      subst (λ l. AreFunctions objects all (map plain_function (f ∷ drop (place + 1) fs)) (t ∷ drop (place + 1) ts) l) third
      (subst (λ l. AreFunctions objects all (map plain_function (f ∷ drop (place + 1) fs)) l (drop place bs)) second
      (subst (λ l. AreFunctions objects all (map plain_function l) (drop place ts) (drop place bs)) first are)) in
      at.0

-- ## The program

pub concluded : (p : PlainProgram) (ts : List Stretch) (bs : List (List BlockParts)) (all : List Occurrence) (found : List Violation) → all ≡ passed_all p.objects [] p.functions ++ flat_map occurrences_outside p.objects
    → ts ≡ stretches_of_all p.objects [] p.functions → bs ≡ parts_of_all p.objects [] p.functions
    → found ≡ wide_objects ts p.objects (spreads_from 0 Objects 0 all (length p.objects)) ++ listed_in_functions p.objects (spreads_from 0 Objects 0 all (length p.objects)) all p.functions ts bs
    → (v : Violation) → Contains found v ↔ Violates p v.sub v.span
concluded p ts bs all found passed stretches blocks listed =
    let same : all ≡ occurrences_in_program p = passed ∙ ap (λ l. l ++ flat_map occurrences_outside p.objects) (passed_all_is p.objects [] p.functions) in
    let are : AreFunctions p.objects all p.functions ts bs =
    subst (λ l. AreFunctions p.objects all p.functions l bs) (sym stretches)
    (subst (AreFunctions p.objects all p.functions (stretches_of_all p.objects [] p.functions)) (sym blocks)
    (functions_are p.objects [] p.functions (flat_map occurrences_outside p.objects) all passed)) in
    exact p ts bs (subst (λ l. AreFunctions p.objects l p.functions ts bs) same are) found
    (listed ∙ ap (λ l. wide_objects ts p.objects (spreads_from 0 Objects 0 l (length p.objects)) ++ listed_in_functions p.objects (spreads_from 0 Objects 0 l (length p.objects)) l p.functions ts bs) same)
