-- What a sink has taken of several writes, one after the other, when one of them stops.
use Rattle.std.proofs.Common.{ℕ, List, ◌++◌, sym, ap, ◌∙◌, append_assoc, take, drop, take-append-drop, arith, length-append, length-drop}
use Rattle.std.specs.Prelude.{Option, Result, Ok, Err, IfErr, OnErr}
use Rattle.std.specs.Io.KnownBytes.{Appends}
use Rattle.std.proofs.KnownBytes.{Appends-trans}
use Rattle.p10_world.specs.Sink.{TakesPart, TakesFront}
use Rattle.p10_report.specs.Stops.{StopsWithin, ◌then◌}

-- a single write that stopped
pub stop_of_part : (old new : Option (List ℕ)) (text : List ℕ) (wrote : ℕ) → TakesPart old new text wrote → StopsWithin old new text
stop_of_part old new text wrote part = record {
  front = take wrote text;
  back = drop wrote text;
  parts = sym (take-append-drop wrote text);
  missing = omega (arith, length-drop wrote text, part.fewer);
  taken = part.taken;
}

-- the first write stopped, so the second was not tried
pub stop_of_first : (old new : Option (List ℕ)) (first second : List ℕ) → StopsWithin old new first → StopsWithin old new (first then second)
unfolding ◌then◌
stop_of_first old new first second stop = record {
  front = stop.front;
  back = stop.back ++ second;
  parts = ap (λ text. text ++ second) stop.parts ∙ append_assoc stop.front stop.back second;
  missing = omega (arith, length-append stop.back second, stop.missing);
  taken = stop.taken;
}

-- the first write took all, and the second stopped
pub stop_of_second : (old middle new : Option (List ℕ)) (first second : List ℕ) → Appends old middle first → StopsWithin middle new second →
    StopsWithin old new (first then second)
unfolding ◌then◌
stop_of_second old middle new first second all stop = record {
  front = first ++ stop.front;
  back = stop.back;
  parts = ap (λ text. first ++ text) stop.parts ∙ sym (append_assoc first stop.front stop.back);
  missing = stop.missing;
  taken = Appends-trans old middle new first stop.front all stop.taken;
}

-- both writes took all
pub all_of_both : (old middle new : Option (List ℕ)) (first second : List ℕ) → Appends old middle first → Appends middle new second →
    Appends old new (first then second)
unfolding ◌then◌
all_of_both old middle new first second one other = Appends-trans old middle new first second one other

pub ruleset stops = (stop_of_first, stop_of_second, all_of_both)

-- what was taken of a write that stopped is a prefix of it
pub TakesFront-stop : (old new : Option (List ℕ)) (text : List ℕ) → StopsWithin old new text → TakesFront old new text
TakesFront-stop old new text stop = record { front = stop.front; back = stop.back; parts = stop.parts; taken = stop.taken }

-- as a single write answers
pub OnErr-stop : {T E : Type 0} (old new : Option (List ℕ)) (text : List ℕ) (wrote : E → ℕ) (result : Result T E) →
    IfErr result (λ fault. TakesPart old new text (wrote fault)) → OnErr result (StopsWithin old new text)
OnErr-stop old new text wrote (Ok x) part = tt
OnErr-stop old new text wrote (Err fault) part = stop_of_part old new text (wrote fault) part
