-- The state before `main` is entered has all of its world.
use Rattle.std.proofs.Common.{◌≡◌, ℕ, List, [], ◌++◌, ◌∙◌, ap, append-nil, ℤ}
use Rattle.p10_core.specs.Typed.{PlainProgram}
use Rattle.p10_meaning.specs.declared.world.World.{World}
use Rattle.p10_meaning.specs.States.{State}
use Rattle.p10_meaning.specs.Opening.{opening}
use Rattle.p10_interp.specs.declared.outside.Outside.{Outside}
use Rattle.p10_interp.specs.private.Machines.{Around, state_of}
use Rattle.p10_interp.specs.private.Constants.{nothing_around}

-- the opening state in a world by its parts
abbrev opening_in : PlainProgram → List ℕ → List ℕ → List ℤ → State
opening_in p input denied sensors = opening p (record { input = input; denied = denied; sensors = sensors }) 0

pub opens_with : (p : PlainProgram) (world : World) (o q : Outside) (input denied : List ℕ) (sensors : List ℤ) → ((io : Around) → state_of o io ≡ record (opening_in p io.rest denied []) { output = io.out }) →
    q ≡ record o { pending = input; sensors = sensors } → input ≡ world.input → denied ≡ world.denied → sensors ≡ world.sensors → state_of q nothing_around ≡ opening p world 0
opens_with p world o q input denied sensors opens is i d s =
    ap (λ q. state_of q nothing_around) is ∙
    (ap (λ (w : State). record w { input = input ++ []; sensors = sensors }) (opens nothing_around) ∙
    (ap (λ input. opening_in p input denied sensors) (append-nil input ∙ i) ∙
    (ap (λ denied. opening_in p world.input denied sensors) d ∙ ap (λ sensors. opening_in p world.input world.denied sensors) s)))
