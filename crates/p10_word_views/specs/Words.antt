-- Readings whose words are the same outside of bodies and in a function.
use Rattle.std.specs.Prelude.{◌≡◌, ℕ, Option, Some, option_map, slice_get}
use Rattle.sha2.specs.Sha256.{sha256}
use Rattle.p10_base.specs.Words.{Text}
use Rattle.p10_core.specs.Typed.{PlainFunction, PlainProgram}
use Rattle.p10_digests.specs.Lines.{hashed_lines, tree_words, roots_outside}
use Rattle.p10_digests.specs.Digests.{function_places, body_places}
use Rattle.p10_front.specs.Readings.{PlainReading}
use Rattle.p10_front.specs.Digests.{trees_in}
use Rattle.p10_views.specs.Views.{view_of}

-- the lines of the function with a number, if there is one
abbrev pub lines_of_function : PlainReading → ℕ → Option Text
lines_of_function r n = option_map (λ at. hashed_lines (tree_words r.expansion.roots at)) (slice_get (function_places (trees_in r.units)) n)

-- the lines outside of all bodies
abbrev pub lines_outside_bodies : PlainReading → Text
lines_outside_bodies r = roots_outside (body_places (trees_in r.units)) 0 r.expansion.roots

-- in the same words outside of bodies and in a function the programs of two readings have one view of it
abbrev pub HaveEqualViews : PlainReading → PlainReading → PlainProgram → PlainProgram → Type 0
HaveEqualViews r s p q =
    lines_outside_bodies r ≡ lines_outside_bodies s
    → (n : ℕ) (f k : PlainFunction) → lines_of_function r n ≡ lines_of_function s n → slice_get p.functions n ≡ Some f → slice_get q.functions n ≡ Some k → view_of p n f ≡ view_of q n k

-- among the lines of two readings those with one digest are the same
pub record DigestsTell (r s : PlainReading) : Type 0 where
  pub outside : sha256 (lines_outside_bodies r) ≡ sha256 (lines_outside_bodies s) → lines_outside_bodies r ≡ lines_outside_bodies s
  pub functions : (n : ℕ) → option_map sha256 (lines_of_function r n) ≡ option_map sha256 (lines_of_function s n) → lines_of_function r n ≡ lines_of_function s n
