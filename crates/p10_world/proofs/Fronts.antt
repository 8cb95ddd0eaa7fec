-- What a sink took of several writes, one after the other, is a prefix of what they were to write.
use Rattle.std.proofs.Common.{ℕ, List, ◌++◌, sym, ap, ◌∙◌, append_assoc, take, drop, take-append-drop}
use Rattle.std.specs.Prelude.{Option}
use Rattle.std.specs.Io.KnownBytes.{Appends}
use Rattle.std.proofs.KnownBytes.{Appends-trans}
use Rattle.p10_world.specs.Sink.{TakesPart, TakesFront}

-- a write that stopped half-way
pub front_of_part : (old new : Option (List ℕ)) (text : List ℕ) (wrote : ℕ) → TakesPart old new text wrote → TakesFront old new text
front_of_part old new text wrote part = record {
  front = take wrote text;
  back = drop wrote text;
  parts = sym (take-append-drop wrote text);
  taken = part.taken;
}

-- the first write stopped half-way, so the second was not tried
pub front_of_first : (old new : Option (List ℕ)) (first second : List ℕ) → TakesFront old new first → TakesFront old new (first ++ second)
front_of_first old new first second part = record {
  front = part.front;
  back = part.back ++ second;
  parts = ap (λ text. text ++ second) part.parts ∙ append_assoc part.front part.back second;
  taken = part.taken;
}

-- the first write took all, and the second stopped half-way
pub front_of_second : (old middle new : Option (List ℕ)) (first second : List ℕ) → Appends old middle first → TakesFront middle new second → TakesFront old new (first ++ second)
front_of_second old middle new first second all part = record {
  front = first ++ part.front;
  back = part.back;
  parts = ap (λ text. first ++ text) part.parts ∙ sym (append_assoc first part.front part.back);
  taken = Appends-trans old middle new first part.front all part.taken;
}

pub ruleset fronts = (front_of_first, front_of_second)
