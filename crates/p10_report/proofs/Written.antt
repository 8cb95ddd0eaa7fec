-- What a sink took of a text that is written part by part, in a loop.
use Rattle.std.proofs.Common.{◌≡◌, ℕ, List, ◌++◌, sym, ap, ◌∙◌, append_assoc, arith, length-append}
use Rattle.std.specs.Prelude.{Option, Result, Ok, Err, OnErr}
use Rattle.std.specs.Io.KnownBytes.{Appends}
use Rattle.std.proofs.KnownBytes.{Appends-trans}
use Rattle.p10_report.specs.Stops.{StopsWithin}

-- what holds anyway holds where there is an error
pub on_err : {T E : Type 0} (r : Result T E) (P : Type 0) → P → OnErr r P
on_err (Ok x) P p = tt
on_err (Err e) P p = p

-- of a text all but the rest was taken
pub record Written (old new : Option (List ℕ)) (whole rest : List ℕ) : Type 0 where
  pub done : List ℕ
  pub parts : whole ≡ done ++ rest
  pub taken : Appends old new done

pub more_written : (old middle new : Option (List ℕ)) (whole before first rest : List ℕ) → Written old middle whole before → before ≡ first ++ rest → Appends middle new first → Written old new whole rest
more_written old middle new whole before first rest written is taken = record {
  done = written.done ++ first;
  parts = written.parts ∙ ap (λ t. written.done ++ t) is ∙ sym (append_assoc written.done first rest);
  taken = Appends-trans old middle new written.done first written.taken taken;
}

pub stopped_writing : (old middle new : Option (List ℕ)) (whole before first rest : List ℕ) → Written old middle whole before → before ≡ first ++ rest → StopsWithin middle new first → StopsWithin old new whole
stopped_writing old middle new whole before first rest written is stop = record {
  front = written.done ++ stop.front;
  back = stop.back ++ rest;
  parts = written.parts ∙ ap (λ t. written.done ++ t) (is ∙ ap (λ t. t ++ rest) stop.parts ∙ append_assoc stop.front stop.back rest) ∙ sym (append_assoc written.done stop.front (stop.back ++ rest));
  missing = omega (arith, length-append stop.back rest, stop.missing);
  taken = Appends-trans old middle new written.done stop.front written.taken stop.taken;
}
