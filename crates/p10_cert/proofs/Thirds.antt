-- Three texts that are written one after the other.
use Rattle.std.proofs.Common.{◌≡◌, ℕ, List, ◌++◌, sym, ◌∙◌, append_assoc}
use Rattle.std.specs.Prelude.{Option, Result, OnErr, OnOk}
use Rattle.std.specs.Io.KnownBytes.{Appends}
use Rattle.std.proofs.KnownBytes.{Appends-trans}
use Rattle.p10_world.specs.Sink.{TakesFront}
use Rattle.p10_cert.proofs.Written.{front_before, front_after, then_ok, then_front}

pub first_of_three : (old new : Option (List ℕ)) (whole a b c : List ℕ) → whole ≡ a ++ (b ++ c) → TakesFront old new a → TakesFront old new whole
first_of_three old new whole a b c e front = front_before old new a (b ++ c) whole front e

pub second_of_three : (old m new : Option (List ℕ)) (whole a b c : List ℕ) → whole ≡ a ++ (b ++ c) → Appends old m a → TakesFront m new b → TakesFront old new whole
second_of_three old m new whole a b c e one front = front_after old m new a b c whole one front e

pub three_ok : {T E : Type 0} (r : Result T E) (old m1 m2 new : Option (List ℕ)) (whole a b c : List ℕ) → whole ≡ a ++ (b ++ c) → Appends old m1 a → Appends m1 m2 b → OnOk r (Appends m2 new c) → OnOk r (Appends old new whole)
three_ok r old m1 m2 new whole a b c e one two ok = then_ok r old m2 new (a ++ b) c whole (Appends-trans old m1 m2 a b one two) (e ∙ sym (append_assoc a b c)) ok

pub three_front : {T E : Type 0} (r : Result T E) (old m1 m2 new : Option (List ℕ)) (whole a b c : List ℕ) → whole ≡ a ++ (b ++ c) → Appends old m1 a → Appends m1 m2 b → OnErr r (TakesFront m2 new c) → OnErr r (TakesFront old new whole)
three_front r old m1 m2 new whole a b c e one two front = then_front r old m2 new (a ++ b) c whole (Appends-trans old m1 m2 a b one two) (e ∙ sym (append_assoc a b c)) front
