-- A refusal by lexing has one of the codes X1 to X6.
use Rattle.std.proofs.Common.{◌≡◌, ℕ, ◌+◌, ◌≤◌, Bool, List, refl, sym, subst, arith, Err}
use Rattle.p10_base.specs.declared.report.Family.TheVariants.{X}
use Rattle.p10_base.specs.declared.report.Refusal.{Refusal}
use Rattle.p10_lex.specs.declared.fault.LexFault.TheVariants.{Refused}
use Rattle.p10_lex.specs.declared.pieces.Piece.{Piece}
use Rattle.p10_lex.specs.Pieces.{beginning, state_after}
use Rattle.p10_lex.specs.Refusals.{Row, bad_byte, comment_without_end, literal_without_end, bad_constant, wide_literal, trigraph, splice_between, splice_in_literal, refusal_at}
use Rattle.p10_lex.specs.Lexes.{Answers}

numbered : (tight : Bool) (piece : Piece) (text rest : List ℕ) (number offset extent : ℕ) → Row tight piece text rest number offset extent → (1 ≤ number) × (number ≤ 6)
numbered tight piece text rest number offset extent (bad_byte is) = (omega arith, omega arith)
numbered tight piece text rest number offset extent (comment_without_end is) = (omega arith, omega arith)
numbered tight piece text rest number offset extent (literal_without_end is) = (omega arith, omega arith)
numbered tight piece text rest number offset extent (bad_constant kind is none) = (omega arith, omega arith)
numbered tight piece text rest number offset extent (wide_literal is wide quote) = (omega arith, omega arith)
numbered tight piece text rest number offset extent (trigraph i comment below begins) = (omega arith, omega arith)
numbered tight piece text rest number offset extent (splice_between i is one other below splice) = (omega arith, omega arith)
numbered tight piece text rest number offset extent (splice_in_literal i literal below splice) = (omega arith, omega arith)

pub refused_code : (file : ℕ) (bytes : List ℕ) (refusal : Refusal) → Answers file bytes (Err (Refused refusal)) → (refusal.family ≡ X) × (1 ≤ refusal.number) × (refusal.number ≤ 6)
refused_code file bytes refusal (short, words, few, refuses) =
    let h = refuses.holds in
    let bounds = numbered _ _ _ _ _ _ _ h.row in
    let made = refusal_at file h.number ((state_after beginning h.before).place + h.offset) h.extent in
    subst (λ (r : Refusal). (r.family ≡ X) × (1 ≤ r.number) × (r.number ≤ 6)) (sym h.refused) (refl, bounds.0, bounds.1)
