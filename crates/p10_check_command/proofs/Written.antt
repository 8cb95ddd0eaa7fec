-- What a sink took of lines that are written one after the other.
use Rattle.std.proofs.Common.{◌≡◌, ℕ, List, [], ◌++◌, sym, ap, subst, ◌∙◌, append_assoc, append-nil}
use Rattle.std.specs.Prelude.{Option, Some, None, Result, Ok, Err, OnErr, OnOk}
use Rattle.std.specs.Io.KnownBytes.{Appends}
use Rattle.std.proofs.KnownBytes.{Appends-nil, Appends-trans}
use Rattle.p10_base.specs.declared.report.Refusal.{Refusal}
use Rattle.p10_base.specs.Codes.{IsCode}
use Rattle.p10_base.specs.Gathered.{Gathered}
use Rattle.p10_world.specs.Sink.{TakesFront}
use Rattle.p10_report.specs.Json.{IsPrintable}
use Rattle.p10_report.specs.Lines.{refusal_line}
use Rattle.p10_report.specs.Stops.{StopsWithin}
use Rattle.p10_report.proofs.Stopping.{TakesFront-stop}
use Rattle.p10_check_command.specs.Texts.{refusal_lines}

-- what holds anyway holds where there is an error
pub on_err : {T E : Type 0} (r : Result T E) (P : Type 0) → P → OnErr r P
on_err (Ok x) P p = tt
on_err (Err e) P p = p

-- the first text was taken, and of the second a prefix
pub front_after : (old middle new : Option (List ℕ)) (first second rest whole : List ℕ) → Appends old middle first → TakesFront middle new second → whole ≡ first ++ (second ++ rest) → TakesFront old new whole
front_after old middle new first second rest whole all part e = record {
  front = first ++ part.front;
  back = part.back ++ rest;
  parts = e ∙ ap (λ t. first ++ (t ++ rest)) part.parts ∙ ap (λ t. first ++ t) (append_assoc part.front part.back rest) ∙ sym (append_assoc first part.front (part.back ++ rest));
  taken = Appends-trans old middle new first part.front all part.taken;
}

-- a prefix of the first text was taken
pub front_before : (old new : Option (List ℕ)) (first rest whole : List ℕ) → TakesFront old new first → whole ≡ first ++ rest → TakesFront old new whole
front_before old new first rest whole part e = record {
  front = part.front;
  back = part.back ++ rest;
  parts = e ∙ ap (λ t. t ++ rest) part.parts ∙ append_assoc part.front part.back rest;
  taken = part.taken;
}

-- ## A text that is written in two parts

-- the first text was taken, and then the second, or a prefix of it
pub both_taken : {T E : Type 0} (r : Result T E) (old middle new : Option (List ℕ)) (first second whole : List ℕ) → Appends old middle first → whole ≡ first ++ second → OnOk r (Appends middle new second) → OnOk r (Appends old new whole)
both_taken (Ok x) old middle new first second whole all e p = subst (Appends old new) (sym e) (Appends-trans old middle new first second all p)
both_taken (Err x) old middle new first second whole all e p = tt

pub stopped_after : {T E : Type 0} (r : Result T E) (old middle new : Option (List ℕ)) (first second whole : List ℕ) → Appends old middle first → whole ≡ first ++ second → OnErr r (TakesFront middle new second) → OnErr r (TakesFront old new whole)
stopped_after (Ok x) old middle new first second whole all e p = tt
stopped_after (Err x) old middle new first second whole all e p = front_after old middle new first second [] whole all p (e ∙ ap (λ t. first ++ t) (sym (append-nil second)))

-- ## The line of a refusal

pub code_of_some : (o : Option Refusal) (refusal : Refusal) → o ≡ Some refusal → IsPrintable o → IsCode refusal.family refusal.number
code_of_some o refusal is has = subst (λ (o : Option Refusal). IsPrintable o) is has

pub refusal_taken : {T E : Type 0} (r : Result T E) (g : Gathered) (o : Option Refusal) (refusal : Refusal) (old new : Option (List ℕ)) → o ≡ Some refusal → OnOk r (Appends old new (refusal_line g refusal)) → OnOk r (Appends old new (refusal_lines g o))
refusal_taken r g o refusal old new is taken = subst (λ (o : Option Refusal). OnOk r (Appends old new (refusal_lines g o))) (sym is) taken

front_of_stop : {T E : Type 0} (r : Result T E) (old new : Option (List ℕ)) (text : List ℕ) → OnErr r (StopsWithin old new text) → OnErr r (TakesFront old new text)
front_of_stop (Ok x) old new text stops = tt
front_of_stop (Err fault) old new text stops = TakesFront-stop old new text stops

pub refusal_stopped : {T E : Type 0} (r : Result T E) (g : Gathered) (o : Option Refusal) (refusal : Refusal) (old new : Option (List ℕ)) → o ≡ Some refusal → OnErr r (StopsWithin old new (refusal_line g refusal)) → OnErr r (TakesFront old new (refusal_lines g o))
refusal_stopped r g o refusal old new is stops = subst (λ (o : Option Refusal). OnErr r (TakesFront old new (refusal_lines g o))) (sym is) (front_of_stop r old new (refusal_line g refusal) stops)

pub no_refusal : (g : Gathered) (o : Option Refusal) (old : Option (List ℕ)) → o ≡ None → Appends old old (refusal_lines g o)
no_refusal g o old is = subst (λ (o : Option Refusal). Appends old old (refusal_lines g o)) (sym is) (Appends-nil old)
