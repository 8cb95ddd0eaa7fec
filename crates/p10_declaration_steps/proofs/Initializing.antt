-- Initialisers, by steps.
use Rattle.std.proofs.Common.{ℕ, ◌+◌, true, List, [], length, Option, Some, None, Ok, nat_le, slice_get}
use Rattle.std.specs.Prelude.{if◌then◌else◌}
use Rattle.p10_base.specs.Words.{Text}
use Rattle.p10_base.specs.declared.at.At.{At}
use Rattle.p10_base.specs.declared.codes.SubsetCode.TheVariants as subset
use Rattle.p10_syn.specs.Trees.{Expression, Initializer, Value, Braced, Initializers, NoInitializers, MoreInitializers}
use Rattle.p10_core.specs.Types.{PlainType}
use Rattle.p10_core.specs.Sizes.{scalars_of}
use Rattle.p10_core.specs.Rows.{is_scalar}
use Rattle.p10_core.specs.Typed.{at_of, PlainItem}
use Rattle.p10_core.specs.WholePrograms.{is_character}
use Rattle.p10_elabx.specs.First.{Keep}
use Rattle.p10_elabd.specs.declared.lifetime.Lifetime.{Lifetime}
use Rattle.p10_elabd.specs.Standing.{PlainStanding, Passed, passed}
use Rattle.p10_elabd.specs.Initializers.{string_alone, string_for, is_zero_list, scalar_count, with_item, zero_item, expression_ruled, text_item, place_if_made, unplaced, unplaced_items, differing_at, surplus_item, no_surplus, braced_first, braced_scalar, Slots, slots_of, has_slot, slot_type, after_slot, element_of, by_string, braced_string, list_passed, item_passed, items_passed, as_single, as_listed, value_for, unbraced, initialized, length_of}
use Rattle.p10_declaration_steps.specs.Laws.{DeclarationsTakeSteps}
use Rattle.p10_declaration_steps.specs.Steps.{Steps, same, followed}
use Rattle.p10_declaration_steps.proofs.Steps.{over_refusing, over_value, either_way}
use Rattle.p10_declaration_steps.proofs.Declaring.{over_declarator, over_specified}

pub over_text : (h : Keep) (n scalar : ℕ) (s : PlainStanding) (text : At × Text) → Steps h s (text_item h n scalar s text).after
over_text h n scalar s (at, bytes) = either_way (nat_le (length bytes) n) s _ _ (same s) (over_refusing h true subset.TypesDiffer at s)

mutual
  pub over_unplaced : (h : Keep) (s : PlainStanding) (i : Initializer At) → Steps h s (unplaced h s i).after
  over_unplaced h s (Value e) = over_value h s e (λ v. Ok (at_of v))
  over_unplaced h s (Braced at items comma) = over_unplaced_items h (passed at s) items

  pub over_unplaced_items : (h : Keep) (p : Passed At) (items : Initializers At) → Steps h p.after (unplaced_items h p items).after
  over_unplaced_items h p NoInitializers = same p.after
  over_unplaced_items h p (MoreInitializers i rest) = followed (over_unplaced h p.after i) (over_unplaced_items h (place_if_made p (unplaced h p.after i)) rest)

pub over_differing : (h : Keep) (o : Option At) (s : PlainStanding) → Steps h s (differing_at h o s).after
over_differing h None s = same s
over_differing h (Some at) s = over_refusing h true subset.TypesDiffer at s

pub over_surplus : (h : Keep) (s : PlainStanding) (i : Initializer At) → Steps h s (surplus_item h s i).after
over_surplus h s i =
    let p : Passed At = unplaced h s i in
    followed (over_unplaced h s i) (over_differing h p.made p.after)

pub over_no_surplus : (h : Keep) (p : Passed (List PlainItem)) (items : Initializers At) → Steps h p.after (no_surplus h p items).after
over_no_surplus h p NoInitializers = same p.after
over_no_surplus h p (MoreInitializers i rest) = over_surplus h p.after i

pub over_braced_first : (h : Keep) (life : Lifetime) (t : PlainType) (scalar : ℕ) (p : Passed (List PlainItem)) (i : Initializer At) → Steps h p.after (braced_first h life t scalar p i).after
over_braced_first h life t scalar p (Value e) = over_value h p.after e (expression_ruled life t scalar)
over_braced_first h life t scalar p (Braced at items comma) = over_surplus h p.after (Braced at items comma)

pub over_braced_scalar : (h : Keep) (life : Lifetime) (t : PlainType) (scalar : ℕ) (p : Passed (List PlainItem)) (items : Initializers At) → Steps h p.after (braced_scalar h life t scalar p items).after
over_braced_scalar h life t scalar p NoInitializers = same p.after
over_braced_scalar h life t scalar p (MoreInitializers one rest) = followed (over_braced_first h life t scalar p one) (over_no_surplus h (braced_first h life t scalar p one) rest)

pub over_by_string : (h : Keep) (life : Lifetime) (t : PlainType) (scalar : ℕ) (s : PlainStanding) (e : Expression At) (text : Option (At × Text)) → Steps h s (by_string h life t scalar s e text).after
over_by_string h life t scalar s e None = over_value h s e (expression_ruled life t scalar)
over_by_string h life t scalar s e (Some text) = over_text h (length_of t) scalar s text

pub over_braced_string : (h : Keep) (t : PlainType) (scalar : ℕ) (p : Passed (List PlainItem)) (text : Option (At × Text)) (others : Passed (List PlainItem)) → Steps h p.after others.after
    → Steps h p.after (braced_string h t scalar p text others).after
over_braced_string h t scalar p None others g = g
over_braced_string h t scalar p (Some text) others g = over_text h (length_of t) scalar p.after text

pub over_list : (h : Keep) (life : Lifetime) (t : PlainType) (scalar : ℕ) (p : Passed (List PlainItem)) (at : At) (items : Initializers At) (others : Passed (List PlainItem)) → Steps h p.after others.after
    → Steps h p.after (list_passed h life t scalar p at items others).after
over_list h life t scalar p at items others g =
    let zero : Passed PlainItem = record { made = zero_item at scalar (slice_get (scalars_of p.after.scope.structures t) 0); after = p.after } in
    let text : Option (At × Text) = string_alone (is_character (element_of t)) items in
    either_way (is_scalar t) p.after (braced_scalar h life t scalar p items) (if is_zero_list items then with_item p zero else braced_string h t scalar p text others) (over_braced_scalar h life t scalar p items)
    (either_way (is_zero_list items) p.after (with_item p zero) (braced_string h t scalar p text others) (same p.after) (over_braced_string h t scalar p text others g))

mutual
  pub over_item : (h : Keep) (life : Lifetime) (t : PlainType) (scalar : ℕ) (p : Passed (List PlainItem)) (i : Initializer At) → Steps h p.after (item_passed h life t scalar p i).after
  over_item h life t scalar p (Value e) = over_by_string h life t scalar p.after e (string_for (element_of t) (Value e))
  over_item h life t scalar p (Braced at items comma) =
      over_list h life t scalar p at items (items_passed h life (slots_of p.after.scope.structures t) scalar p items) (over_items h life (slots_of p.after.scope.structures t) scalar p items)

  pub over_items : (h : Keep) (life : Lifetime) (slots : Slots) (scalar : ℕ) (p : Passed (List PlainItem)) (items : Initializers At) → Steps h p.after (items_passed h life slots scalar p items).after
  over_items h life slots scalar p NoInitializers = same p.after
  over_items h life slots scalar p (MoreInitializers one rest) =
      let q : Passed (List PlainItem) = item_passed h life (slot_type slots) scalar p one in
      let n : ℕ = scalar + scalar_count p.after.scope.structures (slot_type slots) in
      either_way (has_slot slots) p.after (items_passed h life (after_slot slots) n q rest) (no_surplus h p (MoreInitializers one rest))
      (followed (over_item h life (slot_type slots) scalar p one) (over_items h life (after_slot slots) n q rest)) (over_surplus h p.after one)

pub over_unbraced : (h : Keep) (life : Lifetime) (t : PlainType) (s : PlainStanding) (e : Expression At) (text : Option (At × Text)) → Steps h s (unbraced h life t s e text).after
over_unbraced h life t s e None = over_value h s e (value_for life t)
over_unbraced h life t s e (Some (at, bytes)) = over_text h (length_of t) 0 s (at, bytes)

pub over_initialized : (h : Keep) (life : Lifetime) (t : PlainType) (s : PlainStanding) (i : Initializer At) → Steps h s (initialized h life t s i).after
over_initialized h life t s (Value e) = over_unbraced h life t s e (string_for (element_of t) (Value e))
over_initialized h life t s (Braced at items comma) =
    let p : Passed (List PlainItem) = item_passed h life t 0 (passed [] s) (Braced at items comma) in
    either_way (is_scalar t) s (as_single p) (as_listed at p) (over_item h life t 0 (passed [] s) (Braced at items comma)) (over_item h life t 0 (passed [] s) (Braced at items comma))

pub declarations_take_steps : DeclarationsTakeSteps
declarations_take_steps = record { specifiers = over_specified; declarators = over_declarator; initializers = over_initialized }
