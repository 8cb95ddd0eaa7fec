-- What is written of a program that was to run.
use Rattle.std.proofs.Common.{◌≡◌, ◌≢◌, ℕ, ◌<◌, Bool, true, false, ℤ, List, [], ◌∷◌, ◌++◌, refl, sym, ap, ◌∙◌, subst, append-nil, Option, Some, None, IfSome, IsSomeAnd, ◌⊎◌, inl, inr, Result, Ok, Err, IfOk, Vec, Global}
use Rattle.std.specs.List.{All}
use Rattle.std.proofs.lemmas.List.Elements.{All-append, All-nil}
use Rattle.std.proofs.KnownBytes.{Appends-nil}
use Rattle.std.specs.Prelude.{OnErr}
use Rattle.std.specs.Io.KnownBytes.{Appends}
use Rattle.p10_base.specs.Gathered.{Gathered}
use Rattle.p10_world.specs.Faults.{Rose}
use Rattle.p10_world.specs.Sink.{TakesFront}
use Rattle.p10_core.specs.declared.program.Program.{Program}
use Rattle.p10_core.specs.Typed.{PlainProgram}
use Rattle.p10_core.specs.Views.{plain_program}
use Rattle.p10_expand.specs.Gathering.{Gathers}
use Rattle.p10_front.specs.declared.reading.Reading.{Reading}
use Rattle.p10_front.specs.Answers.{reading_of}
use Rattle.p10_front.specs.Digests.{reading_digests}
use Rattle.p10_interp.specs.declared.ended.RunFault.{RunFault}
use Rattle.p10_interp.specs.declared.ended.RunFault.TheVariants as run
use Rattle.p10_interp.specs.Resting.{rest_of}
use Rattle.p10_meaning.specs.Runs.{Outcome, Ran as HasRun}
use Rattle.p10_run.specs.declared.budget.Budget.{Budget}
use Rattle.p10_run.specs.declared.finished.FinishedRun.{FinishedRun}
use Rattle.p10_run.specs.WholeRuns.{ForEachInput, IsRun, outcome_of, run_with}
use Rattle.p10_command.specs.declared.trouble.Trouble.TheVariants as trouble
use Rattle.p10_command.specs.Programs.{HasProgram}
use Rattle.p10_command.specs.Reading.{AreProgram}
use Rattle.p10_command.specs.Saying.{trouble_saying}
use Rattle.p10_command.specs.Seen.{Seen, SeenInput}
use Rattle.p10_command.specs.Told.{IsTold, Told, Stopped}
use Rattle.p10_command.proofs.Sources.{program_read}
use Rattle.p10_run_command.specs.declared.command.RunCommand.{RunCommand}
use Rattle.p10_run_command.specs.declared.granting.RunRequest.{RunRequest}
use Rattle.p10_run_command.specs.declared.program.RunEnd.{RunEnd}
use Rattle.p10_run_command.specs.declared.program.RunEnd.TheVariants.{Ran, Refused, NoValues, OutOfMemory}
use Rattle.p10_run_command.specs.declared.sensors.Recorded.{Recorded}
use Rattle.p10_run_command.specs.declared.sensors.Recorded.TheVariants.{Values}
use Rattle.p10_run_command.specs.Answers.{SaysRight, ended, refused, troubled, troubled_run, without_values, setting_of, refused_saying, troubled_saying}
use Rattle.p10_run_command.specs.Command.{IsPermitted}
use Rattle.p10_run_command.specs.Endings.{ended_line, ended_saying, ended_status}
use Rattle.p10_run_command.specs.Sensors.{HasValues, no_values_saying}
use Rattle.p10_run_command.specs.private.Granting.{Grants, IsRequest}
use Rattle.p10_run_command.specs.private.Recording.{IsRecorded}
use Rattle.p10_run_command.specs.private.Telling.{Comes, ComesWithin, IsOutcome, end_line, end_status, ran_line, ran_status}
use Rattle.p10_run_command.proofs.Granted.{allowed, asked_and_refused, asked_are_held}
use Rattle.p10_run_command.proofs.Recorded.{no_values_of, values_of}

-- ## What comes of a run

given_bytes : (ended : Bool) (given : List ℕ) → All (λ byte. byte < 256) given → All (λ byte. byte < 256) (given ++ rest_of ended [])
given_bytes true given are = All-append (λ byte. byte < 256) given [] are (All-nil (λ byte. byte < 256))
given_bytes false given are = All-append (λ byte. byte < 256) given [] are (All-nil (λ byte. byte < 256))

-- where the source tells its bytes they are the input, and else those that it gave are
runs : (p : PlainProgram) (b : Budget) (values : List ℤ) (left left_after taken taken_after : Option (List ℕ)) (end : Result FinishedRun RunFault) →
    IfOk end (λ done. IfSome left (λ bytes. IsRun done taken taken_after (run_with p b values bytes))) →
    IfOk end (λ done. ForEachInput left left_after (λ bytes. IsRun done taken taken_after (run_with p b values bytes))) →
    OnErr end (IfSome left (λ bytes. TakesFront taken taken_after (run_with p b values bytes).output)) →
    OnErr end (ForEachInput left left_after (λ bytes. TakesFront taken taken_after (run_with p b values bytes).output)) →
    IsOutcome p b values left taken taken_after end
runs p b values (Some bytes) left_after taken taken_after (Ok done) told each front each_front = (bytes, refl, told)
runs p b values (Some bytes) left_after taken taken_after (Err fault) told each front each_front = (bytes, refl, front)
runs p b values None left_after taken taken_after (Ok done) told each front each_front = (each.given ++ rest_of each.ended [], given_bytes each.ended each.given each.source.bytes, each.holds [])
runs p b values None left_after taken taken_after (Err fault) told each front each_front = (each_front.given ++ rest_of each_front.ended [], given_bytes each_front.ended each_front.given each_front.source.bytes, each_front.holds [])

-- the same with the values of the file of sensor values
pub runs_within : (p : PlainProgram) (b : Budget) (file : Option (List ℕ)) (read : Recorded) (values : Vec ℤ Global) (left left_after taken taken_after : Option (List ℕ)) (end : Result FinishedRun RunFault) → read ≡ Values values → IsRecorded file read →
    IfOk end (λ done. IfSome left (λ bytes. IsRun done taken taken_after (run_with p b values.items bytes))) →
    IfOk end (λ done. ForEachInput left left_after (λ bytes. IsRun done taken taken_after (run_with p b values.items bytes))) →
    OnErr end (IfSome left (λ bytes. TakesFront taken taken_after (run_with p b values.items bytes).output)) →
    OnErr end (ForEachInput left left_after (λ bytes. TakesFront taken taken_after (run_with p b values.items bytes).output)) →
    ComesWithin p b file left taken taken_after (Ran end)
runs_within p b file read values left left_after taken taken_after end is recorded told each front each_front =
    (values.items, subst (λ (r : Recorded). IsRecorded file r) is recorded, runs p b values.items left left_after taken taken_after end told each front each_front)

-- the same for the program of a reading, with the budget that it was granted
granted_comes : (digests : List (List ℕ)) (p : PlainProgram) (request : RunRequest) (b : Budget) (left taken taken_after : Option (List ℕ)) (end : RunEnd) → Grants digests p request.allowance request.turns request.deny b → ComesWithin p b request.sensors left taken taken_after end →
    Comes digests p request left taken taken_after end
granted_comes digests p request b left taken taken_after (Ran end) grants comes = (b, grants, comes)
granted_comes digests p request b left taken taken_after (NoValues why) grants comes = (b, grants, comes)
granted_comes digests p request b left taken taken_after (Refused judgement) grants comes = absurd comes
granted_comes digests p request b left taken taken_after OutOfMemory grants comes = comes

pub comes_to : (digests : List (List ℕ)) (o : Option Program) (program : Program) (request : RunRequest) (b : Budget) (left taken taken_after : Option (List ℕ)) (end : RunEnd) → o ≡ Some program →
    Grants digests (plain_program program) request.allowance request.turns request.deny b → ComesWithin (plain_program program) b request.sensors left taken taken_after end →
    IsSomeAnd o (λ p. Comes digests (plain_program p) request left taken taken_after end)
comes_to digests o program request b left taken taken_after end is grants comes =
    subst (λ (o : Option Program). IsSomeAnd o (λ p. Comes digests (plain_program p) request left taken taken_after end)) (sym is) (granted_comes digests (plain_program program) request b left taken taken_after end grants comes)

-- a write failed, of the output or of the line
pub either_rose : {A B C : Type 0} → (A → B) → A ⊎ C → B ⊎ C
either_rose rises (inl failed) = inl (rises failed)
either_rose rises (inr rose) = inr rose

-- ## What is said of it

-- the line of a run is that of what it has come to
same_line : (g : Gathered) (done : FinishedRun) (taken taken_after : Option (List ℕ)) (r : HasRun) → IsRun done taken taken_after r → ended_line g (outcome_of done.outcome) done.calls done.bytes ≡ (ended_saying g r).err
same_line g done taken taken_after r is =
    ap (λ (o : Outcome). ended_line g o done.calls done.bytes) (sym is.outcome)
    ∙ ap (λ (n : ℕ). ended_line g r.outcome n done.bytes) (sym is.calls)
    ∙ ap (λ (n : ℕ). ended_line g r.outcome r.calls n) (sym is.bytes)

-- all of a text is a prefix of it
whole_front : (old new : Option (List ℕ)) (text : List ℕ) → Appends old new text → TakesFront old new text
whole_front old new text taken = record { front = text; back = []; parts = sym (append-nil text); taken = taken }

-- nothing is a prefix of any text
none_taken : (front back : List ℕ) → [] ≡ front ++ back → front ≡ []
none_taken [] back parts = refl
none_taken (x ∷ front) back parts = cc

no_front : (old new : Option (List ℕ)) (text : List ℕ) → TakesFront old new [] → TakesFront old new text
no_front old new text none = record {
  front = [];
  back = text;
  parts = refl;
  taken = subst (λ (front : List ℕ). Appends old new front) (none_taken none.front none.back none.parts) none.taken;
}

ran_told : (command : RunCommand) (seen : Seen) (input : SeenInput) (g : Gathered) (p : PlainProgram) (b : Budget) (values : List ℤ) (end : Result FinishedRun RunFault) (out_old out_new err_old err_new : Option (List ℕ)) (given : ℕ) →
    (has : HasProgram (setting_of seen command) g p) → IsPermitted seen.held command (reading_digests has.reading).funcs p b → HasValues seen.held command.sensors values → IsOutcome p b values input.left out_old out_new end →
    (end ≡ Err run.Read → Rose input.faults_before input.faults_after) →
    IsTold (ran_status end) (ran_line g end) err_old err_new given → given ≢ 6 →
    Told (SaysRight command seen input) out_old out_new err_old err_new given
ran_told command seen input g p b values (Ok done) out_old out_new err_old err_new given has may recorded (bytes, is, ran) read told six = record {
  saying = ended_saying g (run_with p b values bytes);
  may = ended g p b values bytes has may recorded is refl;
  status_is = told.status_is ∙ ap ended_status (sym ran.outcome);
  taken = record {
    on_out = ran.output;
    on_err = subst (λ (line : List ℕ). Appends err_old err_new line) (same_line g done out_old out_new (run_with p b values bytes) ran) told.taken;
  };
}
ran_told command seen input g p b values (Err run.Read) out_old out_new err_old err_new given has may recorded (bytes, is, front) read told six = record {
  saying = troubled_saying trouble.Read front.front;
  may = troubled_run g p b values bytes front.front trouble.Read has may recorded is (record { more = front.back; is = front.parts }) (read refl) refl;
  status_is = told.status_is;
  taken = record { on_out = front.taken; on_err = told.taken };
}
ran_told command seen input g p b values (Err run.Memory) out_old out_new err_old err_new given has may recorded (bytes, is, front) read told six = record {
  saying = troubled_saying trouble.Memory front.front;
  may = troubled_run g p b values bytes front.front trouble.Memory has may recorded is (record { more = front.back; is = front.parts }) tt refl;
  status_is = told.status_is;
  taken = record { on_out = front.taken; on_err = told.taken };
}
ran_told command seen input g p b values (Err run.Write) out_old out_new err_old err_new given has may recorded comes read told six = absurd (six told.status_is)

ran_stopped : (command : RunCommand) (seen : Seen) (input : SeenInput) (g : Gathered) (p : PlainProgram) (b : Budget) (values : List ℤ) (end : Result FinishedRun RunFault) (out_old out_new err_old err_new : Option (List ℕ)) →
    (has : HasProgram (setting_of seen command) g p) → IsPermitted seen.held command (reading_digests has.reading).funcs p b → HasValues seen.held command.sensors values → IsOutcome p b values input.left out_old out_new end →
    (end ≡ Err run.Read → Rose input.faults_before input.faults_after) →
    TakesFront err_old err_new (ran_line g end) →
    Stopped (SaysRight command seen input) out_old out_new err_old err_new
ran_stopped command seen input g p b values (Ok done) out_old out_new err_old err_new has may recorded (bytes, is, ran) read stopped = record {
  saying = ended_saying g (run_with p b values bytes);
  may = ended g p b values bytes has may recorded is refl;
  taken = record {
    on_out = whole_front out_old out_new (run_with p b values bytes).output ran.output;
    on_err = subst (λ (line : List ℕ). TakesFront err_old err_new line) (same_line g done out_old out_new (run_with p b values bytes) ran) stopped;
  };
}
ran_stopped command seen input g p b values (Err run.Read) out_old out_new err_old err_new has may recorded (bytes, is, front) read stopped = record {
  saying = troubled_saying trouble.Read front.front;
  may = troubled_run g p b values bytes front.front trouble.Read has may recorded is (record { more = front.back; is = front.parts }) (read refl) refl;
  taken = record { on_out = whole_front out_old out_new front.front front.taken; on_err = stopped };
}
ran_stopped command seen input g p b values (Err run.Memory) out_old out_new err_old err_new has may recorded (bytes, is, front) read stopped = record {
  saying = troubled_saying trouble.Memory front.front;
  may = troubled_run g p b values bytes front.front trouble.Memory has may recorded is (record { more = front.back; is = front.parts }) tt refl;
  taken = record { on_out = whole_front out_old out_new front.front front.taken; on_err = stopped };
}
ran_stopped command seen input g p b values (Err run.Write) out_old out_new err_old err_new has may recorded (bytes, is, front) read stopped = record {
  saying = ended_saying g (run_with p b values bytes);
  may = ended g p b values bytes has may recorded is refl;
  taken = record { on_out = front; on_err = no_front err_old err_new (ended_saying g (run_with p b values bytes)).err stopped };
}

-- nothing was written
quiet : (old new : Option (List ℕ)) → new ≡ old → Appends old new []
quiet old new same = subst (λ (o : Option (List ℕ)). Appends old o []) (sym same) (Appends-nil old)

end_told : (command : RunCommand) (seen : Seen) (input : SeenInput) (request : RunRequest) (g : Gathered) (p : PlainProgram) (end : RunEnd) (out_old out_new err_old err_new : Option (List ℕ)) (given : ℕ) →
    IsRequest seen.held command request → (has : HasProgram (setting_of seen command) g p) → Comes (reading_digests has.reading).funcs p request input.left out_old out_new end →
    (end ≡ Ran (Err run.Read) → Rose input.faults_before input.faults_after) →
    IsTold (end_status end) (end_line g end) err_old err_new given → given ≢ 6 →
    Told (SaysRight command seen input) out_old out_new err_old err_new given
end_told command seen input request g p (Ran end) out_old out_new err_old err_new given is has (b, grants, comes) read told six =
    ran_told command seen input g p b comes.0 end out_old out_new err_old err_new given has (allowed seen.held command request (reading_digests has.reading).funcs p b is grants) (values_of seen.held command.sensors request.sensors comes.0 is.sensors comes.1) comes.2 (λ e. read (ap Ran e)) told six
end_told command seen input request g p (NoValues why) out_old out_new err_old err_new given is has (b, grants, comes) read told six = record {
  saying = no_values_saying why;
  may = without_values g p b why has (allowed seen.held command request (reading_digests has.reading).funcs p b is grants) (no_values_of seen.held command.sensors request.sensors why is.sensors comes.0) refl;
  status_is = told.status_is;
  taken = record { on_out = quiet out_old out_new comes.1; on_err = told.taken };
}
end_told command seen input request g p (Refused judgement) out_old out_new err_old err_new given is has (refuses, same) read told six =
    let asked = asked_and_refused seen.held command request (reading_digests has.reading).funcs p judgement is refuses in record {
      saying = refused_saying g judgement;
      may = refused g p asked.name judgement has (asked_are_held seen.held command request is) asked.asked asked.judged asked.refusal refl;
      status_is = told.status_is;
      taken = record { on_out = quiet out_old out_new same; on_err = told.taken };
    }
end_told command seen input request g p OutOfMemory out_old out_new err_old err_new given is has same read told six = record {
  saying = trouble_saying trouble.Memory;
  may = troubled trouble.Memory tt refl;
  status_is = told.status_is;
  taken = record { on_out = quiet out_old out_new same; on_err = told.taken };
}

end_stopped : (command : RunCommand) (seen : Seen) (input : SeenInput) (request : RunRequest) (g : Gathered) (p : PlainProgram) (end : RunEnd) (out_old out_new err_old err_new : Option (List ℕ)) →
    IsRequest seen.held command request → (has : HasProgram (setting_of seen command) g p) → Comes (reading_digests has.reading).funcs p request input.left out_old out_new end →
    (end ≡ Ran (Err run.Read) → Rose input.faults_before input.faults_after) →
    TakesFront err_old err_new (end_line g end) →
    Stopped (SaysRight command seen input) out_old out_new err_old err_new
end_stopped command seen input request g p (Ran end) out_old out_new err_old err_new is has (b, grants, comes) read stopped =
    ran_stopped command seen input g p b comes.0 end out_old out_new err_old err_new has (allowed seen.held command request (reading_digests has.reading).funcs p b is grants) (values_of seen.held command.sensors request.sensors comes.0 is.sensors comes.1) comes.2 (λ e. read (ap Ran e)) stopped
end_stopped command seen input request g p (NoValues why) out_old out_new err_old err_new is has (b, grants, comes) read stopped = record {
  saying = no_values_saying why;
  may = without_values g p b why has (allowed seen.held command request (reading_digests has.reading).funcs p b is grants) (no_values_of seen.held command.sensors request.sensors why is.sensors comes.0) refl;
  taken = record { on_out = whole_front out_old out_new [] (quiet out_old out_new comes.1); on_err = stopped };
}
end_stopped command seen input request g p (Refused judgement) out_old out_new err_old err_new is has (refuses, same) read stopped =
    let asked = asked_and_refused seen.held command request (reading_digests has.reading).funcs p judgement is refuses in record {
      saying = refused_saying g judgement;
      may = refused g p asked.name judgement has (asked_are_held seen.held command request is) asked.asked asked.judged asked.refusal refl;
      taken = record { on_out = whole_front out_old out_new [] (quiet out_old out_new same); on_err = stopped };
    }
end_stopped command seen input request g p OutOfMemory out_old out_new err_old err_new is has same read stopped = record {
  saying = trouble_saying trouble.Memory;
  may = troubled trouble.Memory tt refl;
  taken = record { on_out = whole_front out_old out_new [] (quiet out_old out_new same); on_err = stopped };
}

-- ## What is said of a reading's program

pub program_told : (command : RunCommand) (seen : Seen) (input : SeenInput) (request : RunRequest) (g : Gathered) (reading : Reading) (end : RunEnd) (out_old out_new err_old err_new : Option (List ℕ)) (given : ℕ) →
    IsRequest seen.held command request → Gathers (setting_of seen command) g → AreProgram g reading → IsSomeAnd reading.program (λ p. Comes (reading_digests (reading_of reading)).funcs (plain_program p) request input.left out_old out_new end) →
    (end ≡ Ran (Err run.Read) → Rose input.faults_before input.faults_after) →
    IsTold (end_status end) (end_line g end) err_old err_new given → given ≢ 6 →
    Told (SaysRight command seen input) out_old out_new err_old err_new given
program_told command seen input request g reading end out_old out_new err_old err_new given is gathers are comes read told six =
    let (p, has, came) = program_read (setting_of seen command) g reading (λ r p. Comes (reading_digests r).funcs p request input.left out_old out_new end) gathers are comes in
    end_told command seen input request g p end out_old out_new err_old err_new given is has came read told six

pub program_stopped : (command : RunCommand) (seen : Seen) (input : SeenInput) (request : RunRequest) (g : Gathered) (reading : Reading) (end : RunEnd) (out_old out_new err_old err_new : Option (List ℕ)) →
    IsRequest seen.held command request → Gathers (setting_of seen command) g → AreProgram g reading → IsSomeAnd reading.program (λ p. Comes (reading_digests (reading_of reading)).funcs (plain_program p) request input.left out_old out_new end) →
    (end ≡ Ran (Err run.Read) → Rose input.faults_before input.faults_after) →
    TakesFront err_old err_new (end_line g end) →
    Stopped (SaysRight command seen input) out_old out_new err_old err_new
program_stopped command seen input request g reading end out_old out_new err_old err_new is gathers are comes read stopped =
    let (p, has, came) = program_read (setting_of seen command) g reading (λ r p. Comes (reading_digests r).funcs p request input.left out_old out_new end) gathers are comes in
    end_stopped command seen input request g p end out_old out_new err_old err_new is has came read stopped
