-- The output of a whole run begins with that of each of its parts.
use Rattle.std.proofs.Common.{ℕ, zero, suc, ◌≤◌, arith, List, Option}
use Rattle.std.specs.Io.KnownBytes.{Appends}
use Rattle.p10_world.specs.Sink.{TakesFront}
use Rattle.p10_core.specs.Typed.{PlainProgram}
use Rattle.p10_meaning.specs.States.{State, Progress, gives, ends}
use Rattle.p10_meaning.specs.Statements.{Frame}
use Rattle.p10_meaning.specs.Laws.{Extends}
use Rattle.p10_meaning.proofs.Following.{extends_same, extends_trans}
use Rattle.p10_interp.specs.Stages.{Stage, at_loop, over, turn_stage, ran_stages}
use Rattle.p10_interp.specs.Resting.{output_of}
use Rattle.p10_interp.proofs.Served.{GoesOn, grown}
use Rattle.p10_interp.proofs.Parted.{turn_stage_goes}

at_most : (n : ℕ) → n ≤ n
at_most n = omega arith

stages_grow : (turn : Frame → State → Progress Stage) (budget : ℕ) → ((frame : Frame) → GoesOn (turn frame) budget) → (n made : ℕ) (o : Progress Stage) →
    Extends (output_of o) (ran_stages turn budget n made o).output
stages_grow turn budget goes n made (ends end w) = extends_same w.output
stages_grow turn budget goes n made (gives (over z) w) = extends_same w.output
stages_grow turn budget goes zero made (gives (at_loop frame) w) = extends_same w.output
stages_grow turn budget goes (suc n) made (gives (at_loop frame) w) =
    let start : State = record w { left = budget } in
    extends_trans w.output (output_of (turn frame start)) (ran_stages turn budget n (suc made) (turn frame start)).output
    (grown start (turn frame start) (goes frame start (at_most budget))) (stages_grow turn budget goes n (suc made) (turn frame start))

-- the output of a run begins with that of the stage that it has come to
pub stage_comes_first : (p : PlainProgram) (budget n made : ℕ) (o : Progress Stage) → Extends (output_of o) (ran_stages (turn_stage p budget) budget n made o).output
stage_comes_first p budget n made o = stages_grow (turn_stage p budget) budget (turn_stage_goes p budget) n made o

-- the sink took a prefix of a text
pub takes_prefix : (taken taken_now : Option (List ℕ)) (put part text : List ℕ) → Appends taken taken_now put → Extends put part → Extends part text → TakesFront taken taken_now text
takes_prefix taken taken_now put part text sink a b =
    let all : Extends put text = extends_trans put part text a b in
    record { front = put; back = all.more; parts = all.is; taken = sink }
