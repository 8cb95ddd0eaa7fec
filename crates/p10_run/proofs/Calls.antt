-- What a call of the machine does to how far a whole run has come.
use Rattle.std.proofs.Common.{◌≡◌, ℕ, zero, suc, ◌+◌, ◌≤◌, ◌<◌, ◌⊎◌, inl, inr, arith, Bool, true, false, ℤ, List, [], ◌++◌, refl, sym, ap, ◌∙◌, subst, append-nil, append_assoc, Option, Result, Ok, Err, IfOk, OnErr, IfSome}
use Rattle.std.proofs.KnownBytes.{Appends-trans}
use Rattle.std.specs.Io.KnownBytes.{Appends}
use Rattle.p10_world.specs.Sink.{TakesFront}
use Rattle.p10_core.specs.Typed.{PlainProgram}
use Rattle.p10_meaning.specs.States.{State, Progress, gives}
use Rattle.p10_meaning.specs.Statements.{Frame}
use Rattle.p10_meaning.specs.Runs.{Ran, ran}
use Rattle.p10_interp.specs.Stages.{Stage, at_loop, first_stage, turn_stage, ran_stages}
use Rattle.p10_interp.specs.Resting.{Position, fresh, paused, finished, is_paused, Resting, rest_of, begun, reached, Asks, Means, Runs, GivesUp, output_of}
use Rattle.p10_interp.specs.declared.ended.Ended.{Ended}
use Rattle.p10_interp.specs.declared.ended.Ended.TheVariants.{AtLoop, TurnDone, Returned, AssertionFailed, Undefined, StepsSpent}
use Rattle.p10_interp.specs.declared.ended.RunFault.{RunFault}
use Rattle.p10_interp.proofs.ByStages.{runs_by_stages}
use Rattle.p10_run.specs.declared.budget.Budget.{Budget}
use Rattle.p10_run.specs.declared.finished.FinishedRun.{FinishedRun}
use Rattle.p10_run.specs.WholeRuns.{denied_requests, world_of, run_with, outcome_of, IsRun, ForEachInput}
use Rattle.p10_run.specs.private.Standing.{new_machine, run_from, outcome_after, Stands, GivenUp}
use Rattle.p10_run.proofs.Inputs.{asks_twice, rest_after, for_told}
use Rattle.p10_run.proofs.Outputs.{stage_comes_first, takes_prefix}

-- ## The first part

-- the whole run, by its first part
whole_is : (p : PlainProgram) (b : Budget) (sensors : List ℤ) (bytes : List ℕ) →
    run_with p b sensors bytes ≡ ran_stages (turn_stage p b.turn) b.turn b.turns 0 (first_stage p b.prefix (begun (new_machine p (denied_requests b.denied) sensors) b.prefix bytes []))
whole_is p b sensors bytes = runs_by_stages p (world_of sensors bytes b.denied) b.prefix b.turn b.turns

module _ (p : PlainProgram) (b : Budget) (sensors : List ℤ) (left left_now taken taken_now : Option (List ℕ)) where
  first_at : (answer : Ended) (new : Resting) → new.turns ≡ 0 → new.program ≡ p →
      (r : Runs (first_stage p b.prefix) AtLoop answer b.prefix (new_machine p (denied_requests b.denied) sensors) new left left_now taken taken_now) → Stands p b sensors answer new left left_now taken taken_now
  first_at answer new none same r = record {
    given = r.given;
    put = r.put;
    more = b.turns;
    program = same;
    turns = ap (λ n. n + b.turns) none ∙ (let e : 0 + b.turns ≡ b.turns = omega arith in e);
    waiting = r.waiting;
    source = r.source;
    sink = r.sink;
    comes = λ rest. record {
      stage = first_stage p b.prefix (begun (new_machine p (denied_requests b.denied) sensors) b.prefix (r.given ++ rest_of new.ended rest) []);
      loop = AtLoop;
      again = inl refl;
      means = r.means rest [];
      is = subst (λ made. run_with p b sensors (r.given ++ rest_of new.ended rest) ≡ ran_stages (turn_stage p b.turn) b.turn b.turns made (first_stage p b.prefix (begun (new_machine p (denied_requests b.denied) sensors) b.prefix (r.given ++ rest_of new.ended rest) []))) (sym none) (whole_is p b sensors (r.given ++ rest_of new.ended rest));
    };
  }

  -- the first part was run
  pub first_stands : (answer : Ended) (old new : Resting) → old ≡ new_machine p (denied_requests b.denied) sensors → new.turns ≡ old.turns → new.program ≡ old.program →
      Runs (first_stage old.program b.prefix) AtLoop answer b.prefix old new left left_now taken taken_now → Stands p b sensors answer new left left_now taken taken_now
  first_stands answer old new e turns same r =
      first_at answer new (turns ∙ ap (λ m. m.turns) e) (same ∙ ap (λ m. m.program) e)
      (subst (λ m. Runs (first_stage m.program b.prefix) AtLoop answer b.prefix m new left left_now taken taken_now) e r)

  first_fails : GivesUp (first_stage p b.prefix) b.prefix (new_machine p (denied_requests b.denied) sensors) left left_now taken taken_now → GivenUp p b sensors left left_now taken taken_now
  first_fails u = record {
    given = u.given;
    ended = u.ended;
    source = u.source;
    holds = λ rest.
        let bytes : List ℕ = u.given ++ rest_of u.ended rest in
        let o : Progress Stage = first_stage p b.prefix (begun (new_machine p (denied_requests b.denied) sensors) b.prefix bytes []) in
        subst (λ (r : Ran). TakesFront taken taken_now r.output) (sym (whole_is p b sensors bytes))
        (takes_prefix taken taken_now u.put (output_of o) (ran_stages (turn_stage p b.turn) b.turn b.turns 0 o).output u.sink (u.prefix rest []) (stage_comes_first p b.turn b.turns 0 o));
  }

  -- the first part was given up
  pub first_gives_up : (old : Resting) → old ≡ new_machine p (denied_requests b.denied) sensors →
      GivesUp (first_stage old.program b.prefix) b.prefix old left left_now taken taken_now → GivenUp p b sensors left left_now taken taken_now
  first_gives_up old e u = first_fails (subst (λ m. GivesUp (first_stage m.program b.prefix) b.prefix m left left_now taken taken_now) e u)

-- ## A turn

frame_there : (position : Position) → is_paused position ≡ true → (frame : Frame) × (position ≡ paused frame)
frame_there fresh e = absurd (let no : false ≡ true = e in cc)
frame_there (paused frame) e = (frame, refl)
frame_there finished e = absurd (let no : false ≡ true = e in cc)

-- a machine that is at its loop has come to the loop
at_its_loop : (loop answer : Ended) (stage : Progress Stage) (position : Position) (frame : Frame) (w : State) → position ≡ paused frame → Means loop stage answer position w → stage ≡ gives (at_loop frame) w
at_its_loop loop answer stage position frame w e m = (let n : Means loop stage answer (paused frame) w = subst (λ q. Means loop stage answer q w) e m in n.1)

-- a turn more is made of those that are left
turn_more : (turn : Frame → State → Progress Stage) (budget n k made : ℕ) (whole : Ran) (stage : Progress Stage) (frame : Frame) (w : State) → n ≡ suc k →
    stage ≡ gives (at_loop frame) w → whole ≡ ran_stages turn budget n made stage → whole ≡ ran_stages turn budget k (suc made) (turn frame (record w { left = budget }))
turn_more turn budget n k made whole stage frame w e d h =
    h ∙ ap (λ n. ran_stages turn budget n made stage) e ∙ ap (λ o. ran_stages turn budget (suc k) made o) d

one_less : (n : ℕ) → 0 < n → (k : ℕ) × (n ≡ suc k)
one_less zero h = absurd (omega (arith, h))
one_less (suc k) h = (k, refl)

-- the state in which a turn begins, by the one that was reached
begins_as : (m : Resting) (budget : ℕ) (input earlier : List ℕ) → m.state.output ≡ [] → record (reached m input earlier) { left = budget } ≡ begun m budget input earlier
begins_as m budget input earlier none =
    ap (λ output. record m.state { left = budget; input = m.state.input ++ input; output = output }) (sym (append-nil earlier) ∙ ap (λ l. earlier ++ l) (sym none))

module _ (p : PlainProgram) (b : Budget) (sensors : List ℤ) (left left_old taken taken_old : Option (List ℕ)) (answer : Ended) (old : Resting) (s : Stands p b sensors answer old left left_old taken taken_old) (frame : Frame) (at_frame : old.position ≡ paused frame) (k : ℕ) (more : s.more ≡ suc k) where
  -- the whole run goes on with the turn, whatever that takes and the source has left
  goes_on_with : (ended : Bool) (left_new : Option (List ℕ)) (given rest : List ℕ) → Asks old.ended ended left_old left_new given →
      run_with p b sensors ((s.given ++ given) ++ rest_of ended rest) ≡ ran_stages (turn_stage p b.turn) b.turn k (suc old.turns) (turn_stage p b.turn frame (begun old b.turn (given ++ rest_of ended rest) s.put))
  goes_on_with ended left_new given rest a =
      let input : List ℕ = given ++ rest_of ended rest in
      let here = s.comes input in
      let turn : run_with p b sensors (s.given ++ rest_of old.ended input) ≡ ran_stages (turn_stage p b.turn) b.turn k (suc old.turns) (turn_stage p b.turn frame (record (reached old (rest_of old.ended input) s.put) { left = b.turn })) =
      turn_more (turn_stage p b.turn) b.turn s.more k old.turns (run_with p b sensors (s.given ++ rest_of old.ended input)) here.stage frame (reached old (rest_of old.ended input) s.put) more
      (at_its_loop here.loop answer here.stage old.position frame (reached old (rest_of old.ended input) s.put) at_frame here.means) here.is in
      let there : run_with p b sensors (s.given ++ input) ≡ ran_stages (turn_stage p b.turn) b.turn k (suc old.turns) (turn_stage p b.turn frame (record (reached old input s.put) { left = b.turn })) =
      subst (λ l. run_with p b sensors (s.given ++ l) ≡ ran_stages (turn_stage p b.turn) b.turn k (suc old.turns) (turn_stage p b.turn frame (record (reached old l s.put) { left = b.turn }))) (rest_after old.ended ended left_old left_new given rest a) turn in
      ap (run_with p b sensors) (append_assoc s.given given (rest_of ended rest)) ∙ (there ∙
      ap (λ w. ran_stages (turn_stage p b.turn) b.turn k (suc old.turns) (turn_stage p b.turn frame w)) (begins_as old b.turn input s.put s.waiting))

  turn_done : (next : Ended) (new : Resting) (left_new taken_new : Option (List ℕ)) → new.turns ≡ suc old.turns → new.program ≡ p →
      Runs (turn_stage p b.turn frame) TurnDone next b.turn old new left_old left_new taken_old taken_new → Stands p b sensors next new left left_new taken taken_new
  turn_done next new left_new taken_new made same r = record {
    given = s.given ++ r.given;
    put = s.put ++ r.put;
    more = k;
    program = same;
    turns = (let e : new.turns + k ≡ b.turns = omega (arith, made, more, s.turns) in e);
    waiting = r.waiting;
    source = asks_twice false old.ended new.ended left left_old left_new s.given r.given s.source r.source;
    sink = Appends-trans taken taken_old taken_new s.put r.put s.sink r.sink;
    comes = λ rest. record {
      stage = turn_stage p b.turn frame (begun old b.turn (r.given ++ rest_of new.ended rest) s.put);
      loop = TurnDone;
      again = inr refl;
      means = r.means rest s.put;
      is = subst (λ n. run_with p b sensors ((s.given ++ r.given) ++ rest_of new.ended rest) ≡ ran_stages (turn_stage p b.turn) b.turn k n (turn_stage p b.turn frame (begun old b.turn (r.given ++ rest_of new.ended rest) s.put))) (sym made) (goes_on_with new.ended left_new r.given rest r.source);
    };
  }

  turn_lost : (left_new taken_new : Option (List ℕ)) → GivesUp (turn_stage p b.turn frame) b.turn old left_old left_new taken_old taken_new → GivenUp p b sensors left left_new taken taken_new
  turn_lost left_new taken_new u = record {
    given = s.given ++ u.given;
    ended = u.ended;
    source = asks_twice false old.ended u.ended left left_old left_new s.given u.given s.source u.source;
    holds = λ rest.
        let o : Progress Stage = turn_stage p b.turn frame (begun old b.turn (u.given ++ rest_of u.ended rest) s.put) in
        subst (λ (r : Ran). TakesFront taken taken_new r.output) (sym (goes_on_with u.ended left_new u.given rest u.source))
        (takes_prefix taken taken_new (s.put ++ u.put) (output_of o) (ran_stages (turn_stage p b.turn) b.turn k (suc old.turns) o).output (Appends-trans taken taken_old taken_new s.put u.put s.sink u.sink) (u.prefix rest s.put) (stage_comes_first p b.turn k (suc old.turns) o));
  }

module _ (p : PlainProgram) (b : Budget) (sensors : List ℤ) (left left_old left_new taken taken_old taken_new : Option (List ℕ)) (answer : Ended) (old : Resting) (s : Stands p b sensors answer old left left_old taken taken_old) (at : is_paused old.position ≡ true) (few : old.turns < b.turns) where
  some_more : (k : ℕ) × (s.more ≡ suc k)
  some_more = one_less s.more (let h : 0 < s.more = omega (arith, few, s.turns) in h)

  there : (frame : Frame) × (old.position ≡ paused frame)
  there = frame_there old.position at

  -- a turn was made
  pub turn_stands : (next : Ended) (new : Resting) → new.turns ≡ old.turns + 1 → new.program ≡ old.program →
      ((frame : Frame) → old.position ≡ paused frame → Runs (turn_stage old.program b.turn frame) TurnDone next b.turn old new left_old left_new taken_old taken_new) → Stands p b sensors next new left left_new taken taken_new
  turn_stands next new made same r =
      turn_done p b sensors left left_old taken taken_old answer old s there.0 there.1 some_more.0 some_more.1 next new left_new taken_new
      (let e : new.turns ≡ suc old.turns = omega (arith, made) in e) (same ∙ s.program)
      (subst (λ q. Runs (turn_stage q b.turn there.0) TurnDone next b.turn old new left_old left_new taken_old taken_new) s.program (r there.0 there.1))

  -- a turn was given up
  pub turn_gives_up : ((frame : Frame) → old.position ≡ paused frame → GivesUp (turn_stage old.program b.turn frame) b.turn old left_old left_new taken_old taken_new) → GivenUp p b sensors left left_new taken taken_new
  turn_gives_up u =
      turn_lost p b sensors left left_old taken taken_old answer old s there.0 there.1 some_more.0 some_more.1 left_new taken_new
      (subst (λ q. GivesUp (turn_stage q b.turn there.0) b.turn old left_old left_new taken_old taken_new) s.program (u there.0 there.1))

-- ## The end

-- what a run comes to that isn't at its loop, or has made all turns
comes_to : (turn : Frame → State → Progress Stage) (budget n made : ℕ) (stage : Progress Stage) (loop answer : Ended) (position : Position) (w : State) → (loop ≡ AtLoop) ⊎ (loop ≡ TurnDone) → (is_paused position ≡ true → n ≡ 0) →
    Means loop stage answer position w → ran_stages turn budget n made stage ≡ ran (outcome_of (outcome_after answer made)) w
comes_to turn budget n made stage loop answer fresh w a none m = absurd m
comes_to turn budget n made stage loop answer (paused frame) w (inl a) none m =
    ap (λ o. ran_stages turn budget n made o) m.1 ∙ (ap (λ n. ran_stages turn budget n made (gives (at_loop frame) w)) (none refl) ∙ ap (λ answer. ran (outcome_of (outcome_after answer made)) w) (sym (m.0 ∙ a)))
comes_to turn budget n made stage loop answer (paused frame) w (inr a) none m =
    ap (λ o. ran_stages turn budget n made o) m.1 ∙ (ap (λ n. ran_stages turn budget n made (gives (at_loop frame) w)) (none refl) ∙ ap (λ answer. ran (outcome_of (outcome_after answer made)) w) (sym (m.0 ∙ a)))
comes_to turn budget n made stage loop AtLoop finished w a none m = absurd m
comes_to turn budget n made stage loop TurnDone finished w a none m = absurd m
comes_to turn budget n made stage loop (Returned z) finished w a none m = ap (λ o. ran_stages turn budget n made o) m
comes_to turn budget n made stage loop (AssertionFailed span) finished w a none m = ap (λ o. ran_stages turn budget n made o) m
comes_to turn budget n made stage loop (Undefined stop span) finished w a none m = ap (λ o. ran_stages turn budget n made o) m
comes_to turn budget n made stage loop StepsSpent finished w a none m = ap (λ o. ran_stages turn budget n made o) m

module _ (p : PlainProgram) (b : Budget) (sensors : List ℤ) (last : Ended) (m : Resting) (left left_now taken taken_now : Option (List ℕ)) where
  -- a run has ended
  pub finished_run : (done : FinishedRun) → Stands p b sensors last m left left_now taken taken_now → (is_paused m.position ≡ true → b.turns ≤ m.turns) →
      done ≡ record { outcome = outcome_after last m.turns; calls = m.state.calls; bytes = m.state.bytes } → ForEachInput left left_now (λ bytes. IsRun done taken taken_now (run_with p b sensors bytes))
  finished_run done s all e = record {
    given = s.given;
    ended = m.ended;
    source = s.source;
    holds = λ rest.
        let here = s.comes rest in
        let w : State = reached m (rest_of m.ended rest) s.put in
        let is : run_with p b sensors (s.given ++ rest_of m.ended rest) ≡ ran (outcome_of (outcome_after last m.turns)) w =
        here.is ∙ comes_to (turn_stage p b.turn) b.turn s.more m.turns here.stage here.loop last m.position w here.again (λ at. let h = all at in (let n : s.more ≡ 0 = omega (arith, h, s.turns) in n)) here.means in
        record {
          outcome = ap (λ (r : Ran). r.outcome) is ∙ ap (λ (d : FinishedRun). outcome_of d.outcome) (sym e);
          calls = ap (λ (r : Ran). r.calls) is ∙ ap (λ (d : FinishedRun). d.calls) (sym e);
          bytes = ap (λ (r : Ran). r.bytes) is ∙ ap (λ (d : FinishedRun). d.bytes) (sym e);
          output = subst (λ (r : Ran). Appends taken taken_now r.output) (sym is) s.sink;
        };
  }

-- ## The beginning

-- a new machine, by the numbers of the denied requests
pub begins_new : (m : Resting) (p : PlainProgram) (denied numbers : List ℕ) (sensors : List ℤ) → m ≡ new_machine p denied sensors → denied ≡ numbers → m ≡ new_machine m.program numbers m.state.sensors
begins_new m p denied numbers sensors e d =
    let same : new_machine p denied sensors ≡ new_machine m.program numbers m.state.sensors = λ i. new_machine (sym e i).program (d i) (sym e i).state.sensors in
    e ∙ same

-- ## The answer

module _ (m : Resting) (p : PlainProgram) (denied : List ℕ) (sensors : List ℤ) (b : Budget) (left left_now taken taken_now : Option (List ℕ)) (new : m ≡ new_machine p denied sensors) where
  -- what a new machine has run is the run of its program with its values
  pub run_given : (r : Result FinishedRun RunFault) → IfOk r (λ done. ForEachInput left left_now (λ bytes. IsRun done taken taken_now (run_from m b bytes))) → IfOk r (λ done. ForEachInput left left_now (λ bytes. IsRun done taken taken_now (run_with p b sensors bytes)))
  run_given (Ok done) h = subst (λ (n : Resting). ForEachInput left left_now (λ bytes. IsRun done taken taken_now (run_from n b bytes))) new h
  run_given (Err fault) h = tt

  -- where the source tells its bytes, the run is that on them
  pub told_run : (r : Result FinishedRun RunFault) → IfOk r (λ done. ForEachInput left left_now (λ bytes. IsRun done taken taken_now (run_from m b bytes))) → IfOk r (λ done. IfSome left (λ bytes. IsRun done taken taken_now (run_with p b sensors bytes)))
  told_run (Ok done) h = for_told left left_now (λ bytes. IsRun done taken taken_now (run_with p b sensors bytes)) (run_given (Ok done) h)
  told_run (Err fault) h = tt

  pub prefix_given : (r : Result FinishedRun RunFault) → OnErr r (GivenUp m.program b m.state.sensors left left_now taken taken_now) → OnErr r (GivenUp p b sensors left left_now taken taken_now)
  prefix_given (Ok done) h = tt
  prefix_given (Err fault) h = subst (λ (n : Resting). GivenUp n.program b n.state.sensors left left_now taken taken_now) new h

  pub told_prefix : (r : Result FinishedRun RunFault) → OnErr r (GivenUp m.program b m.state.sensors left left_now taken taken_now) → OnErr r (IfSome left (λ bytes. TakesFront taken taken_now (run_with p b sensors bytes).output))
  told_prefix (Ok done) h = tt
  told_prefix (Err fault) h = for_told left left_now (λ bytes. TakesFront taken taken_now (run_with p b sensors bytes).output) (prefix_given (Err fault) h)
