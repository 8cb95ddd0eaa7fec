-- What a sink took of texts that are written one after the other.
use Rattle.std.proofs.Common.{◌≡◌, ℕ, zero, suc, ◌<◌, List, [], ◌∷◌, ◌++◌, length, get_or, take, drop, sym, ap, subst, ◌∙◌, arith, append_assoc, append-nil}
use Rattle.std.specs.Prelude.{Option, Result, Ok, Err, OnErr, OnOk}
use Rattle.std.specs.Io.KnownBytes.{Appends}
use Rattle.std.specs.List.{flat_map}
use Rattle.std.proofs.KnownBytes.{Appends-trans}
use Rattle.p10_world.specs.Sink.{TakesFront}

-- what holds anyway holds where there is an error
pub on_err : {T E : Type 0} (r : Result T E) (P : Type 0) → P → OnErr r P
on_err (Ok x) P p = tt
on_err (Err e) P p = p

-- the first text was taken, and a prefix of the second
pub front_after : (old middle new : Option (List ℕ)) (first second rest whole : List ℕ) → Appends old middle first → TakesFront middle new second → whole ≡ first ++ (second ++ rest) → TakesFront old new whole
front_after old middle new first second rest whole all part e = record {
  front = first ++ part.front;
  back = part.back ++ rest;
  parts = e ∙ ap (λ t. first ++ (t ++ rest)) part.parts ∙ ap (λ t. first ++ t) (append_assoc part.front part.back rest) ∙ sym (append_assoc first part.front (part.back ++ rest));
  taken = Appends-trans old middle new first part.front all part.taken;
}

-- a prefix of the first text was taken
pub front_before : (old new : Option (List ℕ)) (first rest whole : List ℕ) → TakesFront old new first → whole ≡ first ++ rest → TakesFront old new whole
front_before old new first rest whole part e = record {
  front = part.front;
  back = part.back ++ rest;
  parts = e ∙ ap (λ t. t ++ rest) part.parts ∙ append_assoc part.front part.back rest;
  taken = part.taken;
}

-- the texts before an item, its own and those after it
pub flat_map_at : {T : Type 0} (f : T → List ℕ) (xs : List T) (i : ℕ) (x : T) → i < length xs → x ≡ get_or xs i x → flat_map f xs ≡ flat_map f (take i xs) ++ (f x ++ flat_map f (drop (suc i) xs))
flat_map_at f [] i x within is = absurd (omega (arith, within))
flat_map_at f (y ∷ ys) zero x within is = ap (λ y. f y ++ flat_map f ys) (sym is)
flat_map_at f (y ∷ ys) (suc i) x within is = ap (λ t. f y ++ t) (flat_map_at f ys i x (omega (arith, within)) is) ∙ sym (append_assoc (f y) (flat_map f (take i ys)) (f x ++ flat_map f (drop (suc i) ys)))

-- the first text was taken, and then the second, or a prefix of it
pub then_ok : {T E : Type 0} (r : Result T E) (old middle new : Option (List ℕ)) (first second whole : List ℕ) → Appends old middle first → whole ≡ first ++ second → OnOk r (Appends middle new second) → OnOk r (Appends old new whole)
then_ok (Ok x) old middle new first second whole all e p = subst (Appends old new) (sym e) (Appends-trans old middle new first second all p)
then_ok (Err x) old middle new first second whole all e p = tt

pub then_front : {T E : Type 0} (r : Result T E) (old middle new : Option (List ℕ)) (first second whole : List ℕ) → Appends old middle first → whole ≡ first ++ second → OnErr r (TakesFront middle new second) → OnErr r (TakesFront old new whole)
then_front (Ok x) old middle new first second whole all e p = tt
then_front (Err x) old middle new first second whole all e p = front_after old middle new first second [] whole all p (e ∙ ap (λ t. first ++ t) (sym (append-nil second)))
