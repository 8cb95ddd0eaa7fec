-- Four texts that are written one after the other.
use Rattle.std.proofs.Common.{◌≡◌, ℕ, List, ◌++◌, sym, ap, ◌∙◌}
use Rattle.std.specs.Prelude.{Option, Result, OnErr, OnOk}
use Rattle.std.specs.Io.KnownBytes.{Appends}
use Rattle.std.proofs.KnownBytes.{Appends-trans}
use Rattle.p10_world.specs.Sink.{TakesFront}
use Rattle.p10_cert.proofs.PieceTexts.{grouped}
use Rattle.p10_cert.proofs.Written.{front_before, front_after, then_ok, then_front}

-- a text in four parts
pub record HasParts (whole a b c d : List ℕ) : Type 0 where
  pub parts : whole ≡ a ++ (b ++ (c ++ d))

pub first_stops : (old new : Option (List ℕ)) (whole a b c d : List ℕ) → HasParts whole a b c d → TakesFront old new a → TakesFront old new whole
first_stops old new whole a b c d has front = front_before old new a (b ++ (c ++ d)) whole front has.parts

pub second_stops : (old m1 new : Option (List ℕ)) (whole a b c d : List ℕ) → HasParts whole a b c d → Appends old m1 a → TakesFront m1 new b → TakesFront old new whole
second_stops old m1 new whole a b c d has one front = front_after old m1 new a b (c ++ d) whole one front has.parts

pub third_stops : (old m1 m2 new : Option (List ℕ)) (whole a b c d : List ℕ) → HasParts whole a b c d → Appends old m1 a → Appends m1 m2 b → TakesFront m2 new c → TakesFront old new whole
third_stops old m1 m2 new whole a b c d has one two front =
    front_after old m2 new (a ++ b) c d whole (Appends-trans old m1 m2 a b one two) front (grouped a b c d whole has.parts).0

pub fourth_ok : {T E : Type 0} (r : Result T E) (old m1 m2 m3 new : Option (List ℕ)) (whole a b c d : List ℕ) → HasParts whole a b c d → Appends old m1 a → Appends m1 m2 b → Appends m2 m3 c → OnOk r (Appends m3 new d) → OnOk r (Appends old new whole)
fourth_ok r old m1 m2 m3 new whole a b c d has one two three ok =
    then_ok r old m3 new ((a ++ b) ++ c) d whole (Appends-trans old m2 m3 (a ++ b) c (Appends-trans old m1 m2 a b one two) three) (grouped a b c d whole has.parts).1 ok

pub fourth_stops : {T E : Type 0} (r : Result T E) (old m1 m2 m3 new : Option (List ℕ)) (whole a b c d : List ℕ) → HasParts whole a b c d → Appends old m1 a → Appends m1 m2 b → Appends m2 m3 c → OnErr r (TakesFront m3 new d) → OnErr r (TakesFront old new whole)
fourth_stops r old m1 m2 m3 new whole a b c d has one two three front =
    then_front r old m3 new ((a ++ b) ++ c) d whole (Appends-trans old m2 m3 (a ++ b) c (Appends-trans old m1 m2 a b one two) three) (grouped a b c d whole has.parts).1 front

-- the parts under other names
pub renamed : (whole a b c d e f : List ℕ) → whole ≡ a ++ (b ++ (c ++ d)) → e ≡ b → f ≡ d → HasParts whole a e c f
renamed whole a b c d e f is second fourth = record { parts = is ∙ ap (λ b. a ++ (b ++ (c ++ d))) (sym second) ∙ ap (λ d. a ++ (e ++ (c ++ d))) (sym fourth) }
