-- What holds of judgements.
use Rattle.std.specs.Prelude.{ℕ, ◌≡◌, List}
use Rattle.p10_core.specs.Typed.{PlainProgram}
use Rattle.p10_judge.specs.declared.judgement.Judgement.{Judgement}
use Rattle.p10_judge.specs.Judging.{IsWeighed}

-- bytes come to one thing, for a program whose functions have these digests
abbrev pub OneJudgement : Type 0
OneJudgement = (p : PlainProgram) (digests : List (List ℕ)) (bytes : List ℕ) (this that : Judgement) → IsWeighed p digests bytes this → IsWeighed p digests bytes that → this ≡ that
