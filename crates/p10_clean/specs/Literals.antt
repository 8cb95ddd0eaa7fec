-- Places that lie in string literals without a pointer's value, as `"ab"[1]` does (C99 6.4.5p6).
use Rattle.std.specs.Prelude.{Bool, true, false}
use Rattle.p10_core.specs.Typed.{PlainValue, value, PlainForm, decay, PlainPlace, place, PlainPlaceForm, literal, index, member}

abbrev mutual
  -- whether a place does
  pub lies_in_literal : PlainPlace → Bool
  lies_in_literal (place at t form) = form_in_literal form

  -- the same for a form of place
  pub form_in_literal : PlainPlaceForm → Bool
  form_in_literal (literal n bytes) = true
  form_in_literal (member p m) = lies_in_literal p
  form_in_literal (index a i) = points_in_literal a
  form_in_literal form = false

  -- whether a pointer is the value of an array that does
  pub points_in_literal : PlainValue → Bool
  points_in_literal (value at t form) = decays_in_literal form

  -- the same for a form of value
  pub decays_in_literal : PlainForm → Bool
  decays_in_literal (decay p) = lies_in_literal p
  decays_in_literal form = false
