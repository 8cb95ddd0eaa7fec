-- Items directly after jumps.
use Rattle.std.proofs.Common.{◌≡◌, ℕ, ◌+◌, List, Bool, false, not, ◌&&◌, inl, inr}
use Rattle.std.specs.List.{Contains}
use Rattle.std.proofs.lemmas.Bool.{and_parts}
use Rattle.std.proofs.lemmas.List.Elements.{Contains-append_left, Contains-append_right, Contains-append_cases}
use Rattle.p10_base.specs.declared.report.Violation.{Violation}
use Rattle.p10_core.specs.Typed.{PlainStatement, PlainStatements, no_statements, more_statements, statement_at}
use Rattle.p10_core.specs.WholePrograms.{is_among}
use Rattle.p10_warn.specs.Jumps.{is_jump, FollowsJump, follows, later}
use Rattle.p10_warn.specs.private.Listing.{listed_if, items_after_jumps}
use Rattle.p10_warn.proofs.Booleans.{both, not_is, is_not}
use Rattle.p10_warn.proofs.Members.{none_in}
use Rattle.p10_warn.proofs.Rows.{row_at, row_is, is_row}

-- the items after the first one, which is a jump or not
after_is : (labelled : List ℕ) (n : ℕ) (s : PlainStatement) (rest : PlainStatements) (v : Violation) → Contains (items_after_jumps labelled (is_jump s) (n + 1) rest) v
    → (t : PlainStatement) × FollowsJump labelled n (more_statements s rest) t × (row_at 7 (statement_at t).span ≡ v)
after_is labelled n s no_statements v held = absurd (none_in v held)
after_is labelled n s (more_statements t rest) v held =
    elim (Contains-append_cases (listed_if 7 (is_jump s && not (is_among (n + 1) labelled)) (statement_at t).span) (items_after_jumps labelled (is_jump t) (n + 1 + 1) rest) v held) [
      | inl first ↦ let h = row_is 7 (is_jump s && not (is_among (n + 1) labelled)) (statement_at t).span v first in
          let parts = and_parts (is_jump s) (not (is_among (n + 1) labelled)) h.0 in
          (t, follows n s t rest parts.0 (not_is (is_among (n + 1) labelled) parts.1), h.1)
      | inr others ↦ let h = after_is labelled (n + 1) t rest v others in (h.0, later n s h.0 (more_statements t rest) h.1, h.2)
    ]

pub item_is : (labelled : List ℕ) (n : ℕ) (ss : PlainStatements) (v : Violation) → Contains (items_after_jumps labelled false n ss) v
    → (t : PlainStatement) × FollowsJump labelled n ss t × (row_at 7 (statement_at t).span ≡ v)
item_is labelled n no_statements v held = absurd (none_in v held)
item_is labelled n (more_statements s rest) v held =
    elim (Contains-append_cases (listed_if 7 (false && not (is_among n labelled)) (statement_at s).span) (items_after_jumps labelled (is_jump s) (n + 1) rest) v held) [
      | inl first ↦ let h = row_is 7 (false && not (is_among n labelled)) (statement_at s).span v first in absurd cc
      | inr others ↦ after_is labelled n s rest v others
    ]

pub is_item : (labelled : List ℕ) (after : Bool) (n : ℕ) (ss : PlainStatements) (t : PlainStatement) → FollowsJump labelled n ss t
    → Contains (items_after_jumps labelled after n ss) (row_at 7 (statement_at t).span)
is_item labelled after _ _ _ (follows n s t rest jumps unlabelled) =
    Contains-append_right (listed_if 7 (after && not (is_among n labelled)) (statement_at s).span) (items_after_jumps labelled (is_jump s) (n + 1) (more_statements t rest)) _
    (Contains-append_left (listed_if 7 (is_jump s && not (is_among (n + 1) labelled)) (statement_at t).span) (items_after_jumps labelled (is_jump t) (n + 1 + 1) rest) _
    (is_row 7 (is_jump s && not (is_among (n + 1) labelled)) (statement_at t).span (both (is_jump s) (not (is_among (n + 1) labelled)) jumps (is_not (is_among (n + 1) labelled) unlabelled))))
is_item labelled after _ _ _ (later n s t rest others) =
    Contains-append_right (listed_if 7 (after && not (is_among n labelled)) (statement_at s).span) (items_after_jumps labelled (is_jump s) (n + 1) rest) _
    (is_item labelled (is_jump s) (n + 1) rest t others)
