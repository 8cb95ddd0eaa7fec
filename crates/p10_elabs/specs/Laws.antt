-- What holds of the items of a body and of the labels of a `switch`.
use Rattle.std.specs.Prelude.{◌≡◌, ℕ, Bool, true, false, List, [], ◌∷◌, ◌++◌, Option}
use Rattle.p10_base.specs.declared.at.At.{At}
use Rattle.p10_syn.specs.Trees.{Expression, Statement, While, For, Case, Default, Return, Pragma, Statements, NoStatements, MoreStatements}
use Rattle.p10_core.specs.Typed.{PlainValue}
use Rattle.p10_elabx.specs.First.{Keep}
use Rattle.p10_elabs.specs.declared.round.Round.{Round}
use Rattle.p10_elabs.specs.declared.kind.Kind.{Kind}
use Rattle.p10_elabs.specs.declared.kind.Kind.TheVariants as item
use Rattle.p10_elabs.specs.Locals.{Frame}
use Rattle.p10_elabs.specs.Marks.{mark_of}
use Rattle.p10_elabs.specs.Statements.{for_kind, Block', items_done, Labelled, case_done, default_done, labels_noted}

-- ## Items

-- whether an item may be a `while` loop, which is judged by its condition
abbrev pub is_of_while : Kind → Bool
is_of_while item.Task = true
is_of_while item.Unknown = true
is_of_while item.Other = true
is_of_while k = false

-- what an item of a block is for the pragmas, read off its form alone: a declaration is an item whatever it declares (C99 6.8.2)
abbrev pub IsKindOf : Statement At → Kind → Type 0
IsKindOf (Pragma at text) k = k ≡ item.Mark (mark_of text) at
IsKindOf (Return at word e) k = k ≡ item.Return
IsKindOf (While at word e s) k = is_of_while k ≡ true
IsKindOf (For at word start test step s) k = k ≡ for_kind start test step
IsKindOf s k = k ≡ item.Other

-- what the items of a block are, one for one
abbrev pub AreKindsOf : Statements At → List Kind → Type 0
AreKindsOf NoStatements [] = Unit {0}
AreKindsOf (MoreStatements s rest) (k ∷ ks) = IsKindOf s k × AreKindsOf rest ks
AreKindsOf ss ks = ⊥

-- the pragmas of `main` are placed among the items of the source, of which each is one, also a declaration of types, which leaves no
-- statement
abbrev pub ItemsAreThoseWritten : Type 0
ItemsAreThoseWritten =
    (h : Keep) (f : Frame) (in_main : Bool) (r : Round) (b : Block') (ss : Statements At) →
    (ks : List Kind) × ((items_done h f in_main r b ss).kinds ≡ b.kinds ++ ks) × AreKindsOf ss ks

-- ## Labels

-- a label before an item: a `case` with its constant, or `default`
pub data WrittenLabel : Type 0 where
  a_case : At → Expression At → WrittenLabel
  a_default : At → WrittenLabel

-- the labels that stand before an item, from the first
abbrev pub labels_before : Statement At → List WrittenLabel
labels_before (Case at e s) = a_case at e ∷ labels_before s
labels_before (Default at s) = a_default at ∷ labels_before s
labels_before s = []

-- one label noted before an item with a number, where the value of the `switch` may be known
abbrev pub one_noted : Keep → ℕ → Option PlainValue → Labelled → WrittenLabel → Labelled
one_noted h n on' k (a_case at e) = case_done h at n on' k e
one_noted h n on' k (a_default at) = default_done h at n k

-- labels, one after the other
abbrev pub all_noted : Keep → ℕ → Option PlainValue → Labelled → List WrittenLabel → Labelled
all_noted h n on' k [] = k
all_noted h n on' k (l ∷ rest) = all_noted h n on' (one_noted h n on' k l) rest

-- the labels of an item are those that stand before it in the tree, in their order
abbrev pub LabelsAreThoseWritten : Type 0
LabelsAreThoseWritten =
    (h : Keep) (n : ℕ) (on' : Option PlainValue) (k : Labelled) (s : Statement At) → labels_noted h n on' k s ≡ all_noted h n on' k (labels_before s)
