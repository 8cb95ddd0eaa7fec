-- Between which statuses those lie that are given where there is no program.
use Rattle.std.proofs.Common.{◌≡◌, ℕ, ◌≤◌, sym, ◌∙◌, ap, arith}
use Rattle.p10_command.specs.declared.gathering.Ungathered.{Ungathered}
use Rattle.p10_command.specs.declared.gathering.Ungathered.TheVariants as gathering
use Rattle.p10_command.specs.declared.reading.Unread.{Unread}
use Rattle.p10_command.specs.declared.reading.Unread.TheVariants as reading
use Rattle.p10_command.specs.declared.trouble.Trouble.{Trouble}
use Rattle.p10_command.specs.declared.trouble.Trouble.TheVariants.{Read, Memory}
use Rattle.p10_command.specs.Saying.{Saying, ungathered_status, unread_status, trouble_status}

-- over the statuses of answers, and under those of runs that stop on the way
pub record LiesBetween (status : ℕ) : Type 0 where
  pub least : 3 ≤ status
  pub most : status ≤ 9

pub ungathered_between : (why : Ungathered) → LiesBetween (ungathered_status why)
ungathered_between (gathering.AbsentRoot place) = record { least = omega arith; most = omega arith }
ungathered_between (gathering.Refused refusal) = record { least = omega arith; most = omega arith }
ungathered_between (gathering.Over limit) = record { least = omega arith; most = omega arith }

pub unread_between : (why : Unread) → LiesBetween (unread_status why)
unread_between (reading.Refused refusal) = record { least = omega arith; most = omega arith }
unread_between (reading.Over limit) = record { least = omega arith; most = omega arith }

pub trouble_between : (trouble : Trouble) → LiesBetween (trouble_status trouble)
trouble_between Read = record { least = omega arith; most = omega arith }
trouble_between Memory = record { least = omega arith; most = omega arith }

-- the status of something that is said is that of what it is said for
pub said_with : (saying other : Saying) (status : ℕ) → saying ≡ other → saying.status ≡ status → other.status ≡ status
said_with saying other status said is = sym (ap (λ (s : Saying). s.status) said) ∙ is
