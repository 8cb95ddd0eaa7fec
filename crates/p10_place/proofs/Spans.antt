-- The bytes of rows of words.
use Rattle.std.proofs.Common.{◌≡◌, ℕ, suc, ◌+◌, ◌-◌, ◌≤◌, ◌≢◌, List, Option, slice_get, ◌∙◌, ap, arith}
use Rattle.p10_base.specs.declared.span.Span.{Span}
use Rattle.p10_base.specs.Words.{PlainWord}
use Rattle.p10_syn.specs.Places.{span_between, span_at}

-- of one word or more: those from the first to the last
pub spans : (words : List PlainWord) (n past : ℕ) (a b : Option PlainWord) (r : Span) → n ≤ past → n ≢ past → a ≡ slice_get words n → b ≡ slice_get words (past - 1) →
    r ≡ span_between a b → r ≡ span_at words n (past - n)
spans words n past a b r h ne f g e =
    let count : suc (past - n - 1) ≡ past - n = omega arith in
    let last : past - 1 ≡ n + (past - n - 1) = omega arith in
    e ∙ ap (λ a. span_between a b) f
    ∙ ap (λ b. span_between (slice_get words n) b) (g ∙ ap (λ m. slice_get words m) last)
    ∙ ap (λ m. span_at words n m) count
