-- The lines between two places, by the bytes between them.
use Rattle.std.proofs.Common.{◌≡◌, ℕ, ◌+◌, ◌-◌, ◌<◌, ◌≤◌, ◌⊎◌, inl, inr, nat_lt, min, ◌&&◌, length, take, drop, sym, ap, ◌∙◌, arith}
use Rattle.std.specs.Prelude.{count_by}
use Rattle.std.proofs.lemmas.List.{take_min, drop_min, drop-take, length-take, take-take}
use Rattle.std.proofs.lemmas.List.Sums.{sum_by-take-drop}
use Rattle.std.proofs.lemmas.Bool.Decides.{nat_tests}
use Rattle.std.proofs.Math.ListN.{drop_of_length-le}
use Rattle.p10_base.specs.Words.{Text}
use Rattle.std.proofs.lemmas.Bool.{eq-eqb}
use Rattle.p10_base.specs.Places.{is_line_end, line_of}
use Rattle.p10_base.specs.Gathered.{Gathered, text_of}
use Rattle.p10_base.specs.declared.span.Span.{Span}
use Rattle.p10_synrules.specs.Functions.{is_over_60_lines}

-- ## Bytes between two places

whole_is : (text : Text) (first last end start : ℕ) → end ≡ min last (length text) → start ≡ min first end → drop start (take end text) ≡ drop first (take last text)
whole_is text first last end start ends starts =
    let whole : take end text ≡ take last text = ap (λ n. take n text) ends ∙ take_min last text in
    let long : end ≡ length (take last text) = ends ∙ sym (length-take last text) in
    ap (drop start) whole ∙ ap (λ n. drop n (take last text)) (starts ∙ ap (min first) long) ∙ drop_min first (take last text)

pub between_is : (text : Text) (first last end start : ℕ) → end ≡ min last (length text) → start ≡ min first end → take (end - start) (drop start text) ≡ drop first (take last text)
between_is text first last end start ends starts =
    let sum : start + (end - start) ≡ end = omega (arith, starts) in
    sym (drop-take start (end - start) text) ∙ ap (λ n. drop start (take n text)) sum ∙ whole_is text first last end start ends starts

-- ## Counts of line ends

abbrev ends_in : Text → ℕ
ends_in text = count_by is_line_end text

counts : (a b : ℕ) (text : Text) → a ≤ b → ends_in (take a text) + ends_in (drop a (take b text)) ≡ ends_in (take b text)
counts a b text le = ap (λ xs. ends_in xs + ends_in (drop a (take b text))) (sym (take-take a b text le)) ∙ sum_by-take-drop _ (take b text) a

past_none : (a b : ℕ) (text : Text) → b < a → ends_in (drop a (take b text)) ≡ 0
past_none a b text lt =
    let short : length (take b text) ≤ a = omega (arith, length-take b text) in
    ap ends_in (drop_of_length-le (take b text) short)

order : (a b : ℕ) → (a ≤ b) ⊎ (b < a)
order a b = grind arith

over_one : (x y z : ℕ) → x + y ≡ z → nat_lt 59 y ≡ nat_lt 60 ((1 + z + 1) - (1 + x))
over_one x y z e = grind (arith, nat_tests)

over_none : (x y z w : ℕ) → z + y ≡ x → w ≡ 0 → nat_lt 59 w ≡ nat_lt 60 ((1 + z + 1) - (1 + x))
over_none x y z w e none = grind (arith, nat_tests)

pub lines_between : (text : Text) (a b : ℕ) → nat_lt 59 (ends_in (drop a (take b text))) ≡ nat_lt 60 ((line_of text b + 1) - line_of text a)
lines_between text a b =
    elim (order a b) [
      | inl le ↦ over_one (ends_in (take a text)) (ends_in (drop a (take b text))) (ends_in (take b text)) (counts a b text le)
      | inr lt ↦ over_none (ends_in (take a text)) (ends_in (drop b (take a text))) (ends_in (take b text)) (ends_in (drop a (take b text))) (counts b a text (omega arith)) (past_none a b text lt)
    ]

pub over_60 : (g : Gathered) (first last : Span) (text between : Text) (ends : ℕ) → first.file ≡ last.file → text ≡ text_of g first.file → between ≡ drop first.start (take last.start text) →
    ends ≡ ends_in between → nat_lt 59 ends ≡ is_over_60_lines g first last
over_60 g first last text between ends same read cut counted =
    ap (nat_lt 59) (counted ∙ ap ends_in (cut ∙ ap (λ t. drop first.start (take last.start t)) read))
    ∙ lines_between (text_of g first.file) first.start last.start
    ∙ ap (λ file. nat_lt 60 ((line_of (text_of g file) last.start + 1) - line_of (text_of g first.file) first.start)) same
    ∙ ap (λ b. b && nat_lt 60 ((line_of (text_of g last.file) last.start + 1) - line_of (text_of g first.file) first.start)) (sym (eq-eqb first.file last.file same))
