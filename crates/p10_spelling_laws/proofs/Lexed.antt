-- All words of an expansion are lexemes or marks, and end no line; and there are fewer than 2 ^ 32 of them.
use Rattle.std.proofs.Common.{◌≡◌, ℕ, ◌+◌, ◌*◌, ◌≤◌, List, [], ◌∷◌, length, refl, sym, ap, subst, inl, inr, arith, length-append, Ok}
use Rattle.std.specs.List.{AllByRecursion}
use Rattle.std.proofs.lemmas.List.Elements.{All-from_recursion, All-contains}
use Rattle.p10_base.specs.Gathered.{Gathered, text_of}
use Rattle.p10_base.specs.Words.{PlainWord}
use Rattle.p10_lex.proofs.FileWords.{IsWordLexed, answer_lexed}
use Rattle.p10_digests.specs.Lines.{all_words}
use Rattle.p10_expand.specs.Coming.{IsWritten, Comes, in_text, as_mark, by_macro}
use Rattle.p10_expand.proofs.Counting.{together}
use Rattle.p10_expand.proofs.Few.{roots_few}
use Rattle.p10_expand.proofs.Origins.{expansion_comes}
use Rattle.p10_spelling_laws.specs.Laws.{ExpandedAreSound}
use Rattle.p10_spelling_laws.specs.Lexed.{EndsNoLine, IsLexed, IsSound}

written_lexed : (g : Gathered) (word : PlainWord) → IsWritten g word → IsLexed word.kind word.text
written_lexed g word is =
    let l = All-contains IsWordLexed is.words word (All-from_recursion IsWordLexed is.words (answer_lexed is.file (text_of g is.file) is.words is.has.lexed)) is.among in
    record { after_include = l.after_include; lexeme = l.lexeme; line = l.line }

-- a word of an expansion
comes_sound : (g : Gathered) (word : PlainWord) → Comes g word → IsSound word
comes_sound g word (in_text is) = inr (written_lexed g word is.written)
comes_sound g word (as_mark is) = inl (ap (λ (w : PlainWord). w.kind) is.mark, subst (λ (w : PlainWord). EndsNoLine w.text) (sym is.mark) (written_lexed g is.last is.written).line)
comes_sound g word (by_macro is) = inr (subst (λ (w : PlainWord). IsLexed w.kind w.text) (sym is.given) (written_lexed g is.part is.written))

each_weaker : {A : Type 0} (P Q : A → Type 0) → ((x : A) → P x → Q x) → (xs : List A) → AllByRecursion P xs → AllByRecursion Q xs
each_weaker P Q weaker [] all = tt
each_weaker P Q weaker (x ∷ xs) all = (weaker x all.0, each_weaker P Q weaker xs all.1)

-- the words of roots are those of all of them together
all_together : (roots : List (List PlainWord)) → length (all_words roots) ≡ together roots
all_together [] = refl
all_together (words ∷ roots) = omega (arith, length-append words (all_words roots), all_together roots)

pub expanded_are_sound : ExpandedAreSound
expanded_are_sound g e to =
    let few : together e.roots ≤ 1023 * 1048576 = roots_few g to (omega arith) in
    (each_weaker (AllByRecursion (Comes g)) (AllByRecursion IsSound) (each_weaker (Comes g) IsSound (comes_sound g)) e.roots (expansion_comes g e to).roots, omega (arith, few, all_together e.roots))
