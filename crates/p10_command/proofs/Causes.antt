-- Troubles have their causes.
use Rattle.std.proofs.Common.{◌≡◌, ℕ, ◌≤◌, arith, inl, inr, Result, Err}
use Rattle.p10_world.specs.Faults.{Rose}
use Rattle.p10_command.specs.declared.trouble.Trouble.{Trouble}
use Rattle.p10_command.specs.declared.trouble.Trouble.TheVariants.{Read, Memory}
use Rattle.p10_command.specs.Seen.{HasCause}

pub has_cause : {T : Type 0} (result : Result T Trouble) (trouble : Trouble) (before after : ℕ) → result ≡ Err trouble → (result ≡ Err Read → Rose before after) → HasCause trouble before after
has_cause result Read before after is rises = rises is
has_cause result Memory before after is rises = tt

rose_later : (before middle after : ℕ) → before ≤ middle → Rose middle after → Rose before after
rose_later before middle after least (inl more) = inl (omega (arith, least, more))
rose_later before middle after least (inr last) = inr last

-- the same where the counts of faults stood lower before
pub has_cause_later : {T : Type 0} (result : Result T Trouble) (trouble : Trouble) (before middle after : ℕ) → result ≡ Err trouble → before ≤ middle → (result ≡ Err Read → Rose middle after) → HasCause trouble before after
has_cause_later result Read before middle after is least rises = rose_later before middle after least (rises is)
has_cause_later result Memory before middle after is least rises = tt
