-- The steps of a turn of the task, which are set when all loops are found, change nothing else.
use Rattle.std.proofs.Common.{◌≡◌, ℕ, ◌+◌, ◌≤◌, List, [], ◌∷◌, map, refl, arith}
use Rattle.std.specs.List.{AllByRecursion}
use Rattle.p10_core.specs.Typed.{PlainVariable}
use Rattle.p10_cert.specs.declared.claims.Rank.{Rank}
use Rattle.p10_cert.specs.declared.claims.Rank.TheVariants.{Up, Down, One, Task}
use Rattle.p10_cert.specs.Claims.{Loop}
use Rattle.p10_cert.specs.Certificate.{NestFrom, task_number, loop_tasks}
use Rattle.p10_finder.specs.Functions.{with_turn_steps}
use Rattle.p10_derived_texts.proofs.Claims.{LoopFits}
use Rattle.p10_derived_texts.proofs.Walking.{Shallow}

module _ (k : ℕ) where
  fits_one : (variables : List PlainVariable) (l : Loop) → LoopFits variables l → LoopFits variables (with_turn_steps k l)
  fits_one variables l h = at l.rank h
    where
      at : (rank : Rank) → LoopFits variables (record l { rank = rank }) → LoopFits variables (with_turn_steps k (record l { rank = rank }))
      at (Up v bound) h = h
      at (Down v bound) h = h
      at One h = h
      at Task h = record { lines = h.lines; small = h.small; rise = h.rise; rank = tt }

  shallow_one : (l : Loop) → Shallow l → Shallow (with_turn_steps k l)
  shallow_one l h = at l.rank h
    where
      at : (rank : Rank) → Shallow (record l { rank = rank }) → Shallow (with_turn_steps k (record l { rank = rank }))
      at (Up v bound) h = h
      at (Down v bound) h = h
      at One h = h
      at Task h = h

  nest_one : (most : ℕ) (l : Loop) (rest : List Loop) → l.depth ≤ most → NestFrom (l.depth + 1) rest → NestFrom most (with_turn_steps k l ∷ rest)
  nest_one most l rest low h = at l.rank
    where
      at : (rank : Rank) → NestFrom most (with_turn_steps k (record l { rank = rank }) ∷ rest)
      at (Up v bound) = (low, h)
      at (Down v bound) = (low, h)
      at One = (low, h)
      at Task = (low, h)

  tasks_one : (l : Loop) → task_number (with_turn_steps k l).rank ≡ task_number l.rank
  tasks_one l = at l.rank
    where
      at : (rank : Rank) → task_number (with_turn_steps k (record l { rank = rank })).rank ≡ task_number rank
      at (Up v bound) = refl
      at (Down v bound) = refl
      at One = refl
      at Task = refl

  pub turned_fit : (variables : List PlainVariable) (loops : List Loop) → AllByRecursion (LoopFits variables) loops → AllByRecursion (LoopFits variables) (map (with_turn_steps k) loops)
  turned_fit variables [] h = tt
  turned_fit variables (l ∷ loops) h = (fits_one variables l h.0, turned_fit variables loops h.1)

  pub turned_shallow : (loops : List Loop) → AllByRecursion Shallow loops → AllByRecursion Shallow (map (with_turn_steps k) loops)
  turned_shallow [] h = tt
  turned_shallow (l ∷ loops) h = (shallow_one l h.0, turned_shallow loops h.1)

  pub turned_nest : (most : ℕ) (loops : List Loop) → NestFrom most loops → NestFrom most (map (with_turn_steps k) loops)
  turned_nest most [] h = tt
  turned_nest most (l ∷ loops) h = nest_one most l (map (with_turn_steps k) loops) h.0 (turned_nest (l.depth + 1) loops h.1)

  pub turned_tasks : (loops : List Loop) → loop_tasks (map (with_turn_steps k) loops) ≡ loop_tasks loops
  turned_tasks [] = refl
  turned_tasks (l ∷ loops) = let one = tasks_one l in let rest : loop_tasks (map (with_turn_steps k) loops) ≡ loop_tasks loops = turned_tasks loops in omega (arith, one, rest)
