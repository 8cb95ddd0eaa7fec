-- A body after a declarator that declares no function is told.
use Rattle.std.specs.Prelude.{◌≡◌, refl, Bool, true, false, not, List, ◌++◌, Option, Some, None}
use Rattle.std.proofs.Common.{inl, sym, subst, ap}
use Rattle.p10_base.specs.declared.at.At.{At}
use Rattle.p10_base.specs.declared.codes.SubsetCode.TheVariants as subset
use Rattle.p10_syn.specs.Trees.{Identifier, Absent, Present, Declarator, Named, Unnamed, Pointer, Parenthesised, Array, Function, Definition, Defines}
use Rattle.p10_core.specs.Types.{PlainType}
use Rattle.p10_elabx.specs.declared.problem.Problem.{Problem}
use Rattle.p10_elabx.specs.First.{Among, every}
use Rattle.p10_elabx.specs.TypeNames.{declarator_place}
use Rattle.p10_elabd.specs.Laws.{function_form, array_form, inside_parentheses, form_rows, incomplete_at, LengthsAreTold, FormRowsAreTold}
use Rattle.p10_elabd.specs.Standing.{Passed, refusing}
use Rattle.p10_elabd.specs.Words.{storage_of}
use Rattle.p10_elabd.specs.declared.site.Site.TheVariants as site_is
use Rattle.p10_elabd.specs.declared.site.Storage.{Storage}
use Rattle.p10_elabd.specs.Shapes.{DeclaredType, of_type, of_open_array, of_function, of_part_function, name_in, function_from, declares_function, has_parameters}
use Rattle.p10_elabd.specs.Declaring.{specified, declarator_passed, based}
use Rattle.p10_heads.specs.Heads.{Heads, heads_of_roots}
use Rattle.p10_elabs.specs.Addresses.{constants_of}
use Rattle.p10_elab.specs.Knowledge.{Known, with_standing}
use Rattle.p10_elab.specs.Outer.{main_constants, bodyless, function_by_type, allowed_at_definition, function_named, defined_outside}
use Rattle.p10_refusals.specs.InRoots.{reached_in_roots}
use Rattle.p10_refusals.specs.MisplacedBodies.{without_parameters_at, MisplacedBodiesAreTold}
use Rattle.p10_refusals.proofs.Growing.{among_first, among_after, refusing_told, grown}
use Rattle.p10_refusals.proofs.Bodies.{definition_row_told}
use Rattle.p10_refusals.proofs.InRoots.{declarations_told}
use Rattle.p10_refusals.proofs.NoFunctions.{IsNoFunction, based_none, none_made}
use Rattle.p10_statement_steps.proofs.Typing.{over_unknown}

-- ## Bodies

bodyless_told : (d : Definition At) (name : Identifier At) (k : Known) → has_parameters d.declarator ≡ false → Among (without_parameters_at d.declarator) (bodyless every d name k).standing.problems
bodyless_told d name k h =
    (grown (over_unknown every name (refusing every (not (has_parameters d.declarator)) subset.NoPrototype (declarator_place d.declarator) k.standing))).among (without_parameters_at d.declarator)
    (refusing_told (not (has_parameters d.declarator)) subset.NoPrototype (declarator_place d.declarator) k.standing (ap not h))

body_told : (heads : Heads) (s : Storage) (d : Definition At) (name : Identifier At) (k : Known) (o : Option DeclaredType) → has_parameters d.declarator ≡ false → IsNoFunction o →
    Among (without_parameters_at d.declarator) (function_by_type every heads s d name k o).standing.problems
body_told heads s d name k (Some (of_function f)) h n = absurd n
body_told heads s d name k (Some (of_part_function f)) h n = absurd n
body_told heads s d name k (Some (of_type t)) h n = bodyless_told d name k h
body_told heads s d name k (Some (of_open_array t)) h n = bodyless_told d name k h
body_told heads s d name k None h n = bodyless_told d name k h

without_parameters : (heads : Heads) (k : Known) (d : Definition At) (name : Identifier At) → name_in d.declarator ≡ Some name → has_parameters d.declarator ≡ false →
    Among (without_parameters_at d.declarator) (defined_outside every heads k d).standing.problems
unfolding defined_outside
without_parameters heads k d name named h =
    let t : Passed PlainType = specified every site_is.OfDefinition (allowed_at_definition d) false k.standing d.specifiers in
    let j : Known = record k { standing = t.after; mains = k.mains ++ main_constants (constants_of d.specifiers) } in
    let p : Passed DeclaredType = declarator_passed every name.place (based t.made t.after) d.declarator in
    subst (λ o. Among (without_parameters_at d.declarator) (function_named every heads d j t.made o).standing.problems) (sym named)
    (body_told heads (storage_of d.specifiers) d name (with_standing j p.after) p.made h (none_made name.place (based t.made t.after) d.declarator h (based_none t.made)))

-- ## Declarators with parameters that declare no function

-- what stands round the name is then a pointer or an array, which is a row on the form
misplaced : (name_at : At) (d : Declarator At) → has_parameters d ≡ false → function_from true d ≡ false → (r : Problem) × Among r (function_form name_at (inside_parentheses d))
misplaced name_at (Named name) h f = absurd cc
misplaced name_at (Unnamed at) h f = absurd cc
misplaced name_at (Pointer at qualifiers d) h f = (record { code = subset.BadPointer; at = at }, inl refl)
misplaced name_at (Parenthesised at d) h f = misplaced name_at d h f
misplaced name_at (Array at d brackets length) h f = (incomplete_at name_at, inl refl)
misplaced name_at (Function at d parentheses all more) h f = absurd cc

row_first : (rs qs : List Problem) → ((r : Problem) × Among r rs) → (r : Problem) × Among r (rs ++ qs)
row_first rs qs (r, h) = (r, among_first rs qs r h)

row_after : (rs qs : List Problem) → ((r : Problem) × Among r qs) → (r : Problem) × Among r (rs ++ qs)
row_after rs qs (r, h) = (r, among_after rs qs r h)

-- in the declarator round which parameters stand there are others, or there are none
either_row : (name_at : At) (d : Declarator At) (b : Bool) → has_parameters d ≡ b → function_from true d ≡ false → (has_parameters d ≡ true → (r : Problem) × Among r (form_rows name_at d)) →
    (r : Problem) × Among r (function_form name_at (inside_parentheses d) ++ form_rows name_at d)
either_row name_at d true h f inside = row_after (function_form name_at (inside_parentheses d)) (form_rows name_at d) (inside h)
either_row name_at d false h f inside = row_first (function_form name_at (inside_parentheses d)) (form_rows name_at d) (misplaced name_at d h f)

row_there : (name_at : At) (found : Bool) (d : Declarator At) → has_parameters d ≡ true → function_from found d ≡ false → (r : Problem) × Among r (form_rows name_at d)
row_there name_at found (Named name) h f = absurd cc
row_there name_at found (Unnamed at) h f = absurd cc
row_there name_at found (Pointer at qualifiers d) h f = row_there name_at false d h f
row_there name_at found (Parenthesised at d) h f = row_there name_at found d h f
row_there name_at found (Array at d brackets Absent) h f = row_after (array_form name_at true (inside_parentheses d)) (form_rows name_at d) (row_there name_at false d h f)
row_there name_at found (Array at d brackets (Present e)) h f = row_after (array_form name_at false (inside_parentheses d)) (form_rows name_at d) (row_there name_at false d h f)
row_there name_at found (Function at d parentheses all more) h f = either_row name_at d (has_parameters d) refl f (λ inside. row_there name_at true d inside f)

row_told : LengthsAreTold → FormRowsAreTold → (heads : Heads) (k : Known) (d : Definition At) (name : Identifier At) → name_in d.declarator ≡ Some name →
    ((r : Problem) × Among r (form_rows name.place d.declarator)) → (r : Problem) × Among r (defined_outside every heads k d).standing.problems
row_told lengths forms heads k d name named (r, h) = (r, definition_row_told lengths forms heads k d name r named (inl h))

no_function : LengthsAreTold → FormRowsAreTold → (heads : Heads) (k : Known) (d : Definition At) (name : Identifier At) (b : Bool) → name_in d.declarator ≡ Some name →
    has_parameters d.declarator ≡ b → declares_function d.declarator ≡ false → (r : Problem) × Among r (defined_outside every heads k d).standing.problems
no_function lengths forms heads k d name false named h f = (without_parameters_at d.declarator, without_parameters heads k d name named h)
no_function lengths forms heads k d name true named h f = row_told lengths forms heads k d name named (row_there name.place false d.declarator h f)

-- ## Roots

pub misplaced_bodies_told : LengthsAreTold → FormRowsAreTold → MisplacedBodiesAreTold
misplaced_bodies_told lengths forms = record {
  without_parameters = without_parameters;
  no_function = λ heads k d name named f. no_function lengths forms heads k d name (has_parameters d.declarator) named refl f;
  in_roots = λ roots before earlier d name stands named h.
      declarations_told forms roots before earlier (Defines d) (without_parameters_at d.declarator) stands
      (without_parameters (heads_of_roots 0 roots) (reached_in_roots (heads_of_roots 0 roots) before earlier) d name named h);
}
