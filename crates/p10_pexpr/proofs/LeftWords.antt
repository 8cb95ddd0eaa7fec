-- The words that are left after one was taken.
use Rattle.std.proofs.Common.{◌≡◌, ℕ, ◌+◌, ◌≤◌, List, drop, map, length, sym, ◌∙◌, ap, None}
use Rattle.std.proofs.lemmas.List.{drop-drop, drop-map}
use Rattle.std.proofs.Math.ListN.{drop_of_length-le}
use Rattle.p10_syn.specs.declared.token.Token.{Token}
use Rattle.p10_syn.specs.Tokens.{symbol_at}
use Rattle.p10_pexpr.specs.Fronts.{first}

pub next_symbols : (place : ℕ) (tokens : List Token) → map symbol_at (drop (place + 1) tokens) ≡ drop 1 (map symbol_at (drop place tokens))
next_symbols place tokens = ap (map symbol_at) (sym (drop-drop 1 place tokens)) ∙ sym (drop-map symbol_at 1 (drop place tokens))

pub stays : (place : ℕ) (tokens : List Token) → length tokens ≤ place → map symbol_at (drop place tokens) ≡ drop 1 (map symbol_at (drop place tokens))
stays place tokens past = ap (map symbol_at) (drop_of_length-le tokens past) ∙ ap (λ w. drop 1 (map symbol_at w)) (sym (drop_of_length-le tokens past))

pub past_symbols : (place : ℕ) (tokens : List Token) → length tokens ≤ place → None ≡ first (drop 1 (map symbol_at (drop place tokens)))
past_symbols place tokens past = sym (ap (λ w. first (drop 1 (map symbol_at w))) (drop_of_length-le tokens past))
