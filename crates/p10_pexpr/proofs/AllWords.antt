-- Reading an expression that takes all the words.
use Rattle.std.proofs.Common.{◌≡◌, ℕ, ◌+◌, ◌*◌, ◌≤◌, ◌<◌, List, [], ◌∷◌, map, length, Bool, true, false, IsTrue, ◌↔◌, inl, inr, Some, None, sym, ◌∙◌, ap, subst, arith}
use Rattle.std.proofs.lemmas.Bool.{true≢false, cases_lt}
use Rattle.std.proofs.lemmas.List.{length-map}
use Rattle.p10_base.specs.declared.at.At.{At}
use Rattle.p10_base.specs.declared.report.TheConstants.Limit.{MOST_NESTING}
use Rattle.p10_base.specs.declared.word.Word.{Word}
use Rattle.p10_base.specs.Words.{Text, PlainWord, plain_word, plain_words}
use Rattle.p10_syn.specs.declared.token.Token.{Token}
use Rattle.p10_syn.specs.Tokens.{symbol_at}
use Rattle.p10_syn.specs.declared.tree.Expr.{Expr}
use Rattle.p10_syn.specs.Symbols.{Symbol, symbol_of, symbols_of}
use Rattle.p10_syn.specs.Built.{bare_of, expression_of}
use Rattle.p10_syn.specs.Counts.{count}
use Rattle.p10_syn.specs.Scopes.{Scope, typedefs}
use Rattle.p10_syn.specs.Bare.{bare}
use Rattle.p10_syn.specs.Trees.{Bare, Expression}
use Rattle.p10_syn.specs.Places.{locate}
use Rattle.p10_syn.specs.Spelling.{spell}
use Rattle.p10_syn.specs.Forms.{IsExpression}
use Rattle.p10_syn.specs.Spells.{SpellsExpression}
use Rattle.p10_pexpr.specs.Heads.{Read}
use Rattle.p10_pexpr.specs.Fronts.{first, is_none}
use Rattle.p10_pexpr.specs.Reading.{readers}
use Rattle.p10_pexpr.specs.Parses.{IsSpelled, NoneSpells}
use Rattle.p10_place.proofs.Counting.{counts}
use Rattle.p10_pexpr.proofs.Parsed.{found, none_spells, left_spells}

-- as deep as these words ask for
deep_enough : (n : ℕ) (tokens : List Token) → n ≡ 8 * length tokens + 1 → 8 * length (map symbol_at tokens) + 1 ≡ n
deep_enough n tokens deep = ap (λ k. 8 * k + 1) (length-map tokens symbol_at) ∙ sym deep

-- what is read of words to these, as deep as they ask for, is what is read of these words
read_of : (n : ℕ) (names : Scope) (cursor : List Symbol) (tokens : List Token) (r : Read (Expression Bare)) → cursor ≡ map symbol_at tokens → n ≡ 8 * length tokens + 1 →
    (readers n).expression names 1 cursor ≡ r → (readers (8 * length (map symbol_at tokens) + 1)).expression names 1 (map symbol_at tokens) ≡ r
read_of n names cursor tokens r start deep read =
    ap (λ k. (readers k).expression names 1 (map symbol_at tokens)) (deep_enough n tokens deep) ∙ ap ((readers n).expression names 1) (sym start) ∙ read

found_in : (n : ℕ) (names : Scope) (symbols rest : List Symbol) (t : Expression Bare) → (readers n).expression names 1 symbols ≡ Some (t, rest) → true ≡ is_none (first rest) → IsSpelled names symbols t
found_in n names symbols [] t read ends = found names n t symbols read
found_in n names symbols (x ∷ rest) t read ends = absurd (true≢false ends)

left_in : (names : Scope) (symbols rest : List Symbol) (u t : Expression Bare) → (readers (8 * length symbols + 1)).expression names 1 symbols ≡ Some (u, rest) → false ≡ is_none (first rest) → IsSpelled names symbols t → ⊥
left_in names symbols [] u t read left is = absurd (true≢false (sym left))
left_in names symbols (x ∷ rest) u t read left is = left_spells names symbols u x rest read t is.0 is.1

-- what is read and leaves no word is spelled by all the words
pub all_at : (n : ℕ) (names : Scope) (cursor rest : List Symbol) (tokens : List Token) (t : Expression Bare) → cursor ≡ map symbol_at tokens → (readers n).expression names 1 cursor ≡ Some (t, rest) →
    true ≡ is_none (first rest) → IsSpelled names (map symbol_at tokens) t
all_at n names cursor rest tokens t start read ends = found_in n names (map symbol_at tokens) rest t (ap ((readers n).expression names 1) (sym start) ∙ read) ends

-- where nothing is read, no tree spells the words
pub never_at : (n : ℕ) (names : Scope) (cursor : List Symbol) (tokens : List Token) (t : Expression Bare) → cursor ≡ map symbol_at tokens → n ≡ 8 * length tokens + 1 →
    (readers n).expression names 1 cursor ≡ None → IsSpelled names (map symbol_at tokens) t → ⊥
never_at n names cursor tokens t start deep none is = none_spells names (map symbol_at tokens) (read_of n names cursor tokens None start deep none) t is.0 is.1

-- nor where words are left
pub more_at : (n : ℕ) (names : Scope) (cursor rest : List Symbol) (tokens : List Token) (t u : Expression Bare) → cursor ≡ map symbol_at tokens → n ≡ 8 * length tokens + 1 →
    (readers n).expression names 1 cursor ≡ Some (u, rest) → false ≡ is_none (first rest) → IsSpelled names (map symbol_at tokens) t → ⊥
more_at n names cursor rest tokens t u start deep read left is = left_in names (map symbol_at tokens) rest u t (read_of n names cursor tokens (Some (u, rest)) start deep read) left is

-- where no tree of the grammar spells the words, none that stands in its places does
pub none_placed : (types : List Text) (words : List PlainWord) → NoneSpells (typedefs types) (symbols_of words) → (t : Expression At) → SpellsExpression types words t → ⊥
none_placed types words none t spells = none (bare t) (spells.formed, spells.spelled)

-- a tree that is spelled, in its places
pub in_places : (types : List Text) (words : List PlainWord) (t : Expression Bare) (e : Expr) → IsSpelled (typedefs types) (symbols_of words) t → bare_of e ≡ t →
    expression_of e ≡ locate (record { words = words; before = 0 }) 0 t → SpellsExpression types words (expression_of e)
unfolding bare_of
in_places types words t e is same placed = record {
  formed = subst (IsExpression (typedefs types)) (sym same) is.0;
  spelled = is.1 ∙ ap (λ t. spell t []) (sym same);
  placed = placed ∙ ap (locate (record { words = words; before = 0 }) 0) (sym same);
}

-- a tree that spells words has no more words
pub fits : (names : Scope) (words : List Word) (t : Expression Bare) → IsSpelled names (symbols_of (plain_words words)) t → count t ≤ length words
fits names words t is =
    let n : length words ≡ count t + 0 = sym (length-map words plain_word) ∙ sym (length-map (plain_words words) symbol_of) ∙ ap length is.1 ∙ counts t [] in
    omega (arith, n)

-- a nesting that isn't found to be over the limit
pub not_over : (is_over : Bool) (n : ℕ) → (IsTrue is_over ↔ (MOST_NESTING < n)) → is_over ≡ false → n ≤ MOST_NESTING
not_over is_over n tells isnt = elim (cases_lt MOST_NESTING n) [ inl high ↦ absurd (true≢false (sym (tells.1 high) ∙ isnt)) | inr low ↦ low ]
