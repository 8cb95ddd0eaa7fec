-- What is answered for an expression, by what is found in it.
use Rattle.std.specs.Prelude.{◌≡◌, Result, Ok, Err, List, [], ◌∷◌}
use Rattle.p10_base.specs.Codes.{subset_number}
use Rattle.p10_core.specs.declared.typed.Value.{Value}
use Rattle.p10_core.specs.Typed.{PlainValue}
use Rattle.p10_core.specs.Views.{plain_value}
use Rattle.p10_elabx.specs.declared.problem.Problem.{Problem}
use Rattle.p10_elabx.specs.declared.elaborate.ElabFault.{ElabFault}
use Rattle.p10_elabx.specs.declared.elaborate.ElabFault.TheVariants.{Refused, NothingSaid, Memory}
use Rattle.p10_elabx.specs.First.{Found, IsFirst}

-- the typed tree that is found; or the first of the rows that hold; or that neither a tree nor a row is found
abbrev pub Answers : Found PlainValue → Result Value ElabFault → Type 0
Answers found (Ok v) = found ≡ Ok (plain_value v)
Answers found (Err (Refused r)) = (all : List Problem) × (found ≡ Err all) × IsFirst r all
Answers found (Err NothingSaid) = found ≡ Err []
Answers found (Err Memory) = Unit {0}

-- the same, where only the first row is kept
abbrev pub AnswersOne : Found PlainValue → Result Value ElabFault → Type 0
AnswersOne found (Ok v) = found ≡ Ok (plain_value v)
AnswersOne found (Err (Refused r)) = found ≡ Err (r ∷ [])
AnswersOne found (Err NothingSaid) = found ≡ Err []
AnswersOne found (Err Memory) = Unit {0}

-- ## What holds of answers

-- an expression has one typed tree at most
abbrev pub TypedTreesAreUnique : Type 0
TypedTreesAreUnique = (found : Found PlainValue) (v w : Value) → Answers found (Ok v) → Answers found (Ok w) → plain_value v ≡ plain_value w

-- no expression has both a typed tree and a row that holds
abbrev pub NeverBoth : Type 0
NeverBoth = (found : Found PlainValue) (v : Value) (r : Problem) → Answers found (Ok v) → Answers found (Err (Refused r)) → ⊥

-- an expression has one first row at most: with one number, at one tree by its first word and the word after it
abbrev pub TheFirstIsOne : Type 0
TheFirstIsOne = (found : Found PlainValue) (r q : Problem) → Answers found (Err (Refused r)) → Answers found (Err (Refused q)) →
    (subset_number r.code ≡ subset_number q.code) × (r.at.first ≡ q.at.first) × (r.at.past ≡ q.at.past)
