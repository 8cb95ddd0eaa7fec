-- What holds of what a program expands to: places, refusals, limits and roots.
use Rattle.std.proofs.Common.{◌≡◌, ◌⊎◌, ◌≤◌, List, length, All, Option, Some, IfSome, Ok, Err, subst, arith}
use Rattle.std.specs.List.{AllByRecursion}
use Rattle.std.proofs.lemmas.List.Elements.{All-from_recursion}
use Rattle.p10_base.specs.declared.report.Refusal.{Refusal}
use Rattle.p10_base.specs.declared.report.Limit.{Limit}
use Rattle.p10_base.specs.declared.report.Family.TheVariants.{D}
use Rattle.p10_base.specs.Gathered.{Gathered, LiesIn, root_count}
use Rattle.p10_base.specs.Words.{PlainWord}
use Rattle.p10_expand.specs.Obeying.{PlainObeyed}
use Rattle.p10_expand.specs.Expands.{Expansion, ExpandsTo}
use Rattle.p10_expand.specs.Coming.{IsWritten, Comes, IsListed}
use Rattle.p10_expand.proofs.Keeping.{each_weaker}
use Rattle.p10_expand.proofs.LineOrigins.{comes_lies}
use Rattle.p10_expand.proofs.Origins.{expansion_comes}
use Rattle.p10_expand.proofs.Numbers.{IsOfDirectives, roots_numbered, roots_many}

module _ (g : Gathered) where
  -- ## Words, directives and refusals

  -- a word of a root comes from a file, and has its place in one
  pub record WordComes (word : PlainWord) : Type 0 where
    pub comes : Comes g word
    pub place : LiesIn g word.at

  words_hold : (words : List PlainWord) → AllByRecursion (Comes g) words → All WordComes words
  words_hold words come = All-from_recursion WordComes words (each_weaker (Comes g) WordComes (λ word comes. record { comes = comes; place = comes_lies g word comes }) words come)

  -- each word of each root comes from a file
  pub words_come : (expansion : Expansion) → ExpandsTo g (Ok expansion) → All (λ (words : List PlainWord). All WordComes words) expansion.roots
  words_come expansion to =
      All-from_recursion (λ (words : List PlainWord). All WordComes words) expansion.roots
      (each_weaker (AllByRecursion (Comes g)) (λ (words : List PlainWord). All WordComes words) words_hold expansion.roots (expansion_comes g expansion to).roots)

  -- those of the directives that were obeyed are words of files
  pub obeyed_come : (expansion : Expansion) → ExpandsTo g (Ok expansion) → All (λ (line : PlainObeyed). All (IsWritten g) line.words × LiesIn g line.span) expansion.obeyed
  obeyed_come expansion to =
      All-from_recursion (λ (line : PlainObeyed). All (IsWritten g) line.words × LiesIn g line.span) expansion.obeyed
      (each_weaker (IsListed g) (λ (line : PlainObeyed). All (IsWritten g) line.words × LiesIn g line.span) (λ line is. (All-from_recursion (IsWritten g) line.words is.words, is.place)) expansion.obeyed (expansion_comes g expansion to).obeyed)

  -- the refusal has a place in the files, and is one of D1 to D8
  pub refusal_lies : (expansion : Expansion) (refusal : Refusal) → ExpandsTo g (Ok expansion) → expansion.refusal ≡ Some refusal → LiesIn g refusal.span × (refusal.family ≡ D) × (1 ≤ refusal.number) × (refusal.number ≤ 8)
  refusal_lies expansion refusal to is =
      let lies : LiesIn g refusal.span = subst (λ (found : Option Refusal). IfSome found (λ refusal. LiesIn g refusal.span)) is (expansion_comes g expansion to).refusal in
      let numbered : IsOfDirectives refusal = subst (λ (found : Option Refusal). IfSome found IsOfDirectives) is (roots_numbered to) in
      (lies, numbered.0, numbered.1, numbered.2)

  -- a limit is M3, M4 or M6
  pub limit_is : (limit : Limit) → ExpandsTo g (Err limit) → (limit.number ≡ 3) ⊎ ((limit.number ≡ 4) ⊎ (limit.number ≡ 6))
  limit_is limit to = roots_numbered to

  -- ## Roots

  -- each root has its words
  pub roots_counted : (expansion : Expansion) → ExpandsTo g (Ok expansion) → length expansion.roots ≡ root_count g
  roots_counted expansion to = roots_many (root_count g) to (omega arith)
