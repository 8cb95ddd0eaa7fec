-- Programs that are answered are within limits.
use Rattle.std.proofs.Common.{◌≡◌, refl, ap, subst, arith, ℕ, ◌≤◌, Bool, true, false, not, ◌||◌, List, [], ◌∷◌, map, length, sum, All, nat_le}
use Rattle.std.proofs.lemmas.Bool.{leb-true}
use Rattle.std.proofs.lemmas.List.Elements.{All-cons}
use Rattle.p10_base.specs.declared.report.TheConstants.Limit.{MOST_OBJECT_BYTES, MOST_STATIC_BYTES}
use Rattle.p10_core.specs.Typed.{PlainProgram}
use Rattle.p10_core.specs.WholePrograms.{AreWholeStructures, frame_bytes}
use Rattle.p10_program.specs.Limits.{is_over, is_too_large}
use Rattle.p10_root_wholeness.specs.Laws.{IsWithinLimits, AnswersAreWholeInPart}
use Rattle.p10_root_wholeness.proofs.Together.{structures_are_whole}

neither_left : (a b : Bool) → (a || b) ≡ false → a ≡ false
neither_left true b e = absurd cc
neither_left false b e = refl

neither_right : (a b : Bool) → (a || b) ≡ false → b ≡ false
neither_right true b e = absurd cc
neither_right false b e = e

holds : (b : Bool) → not b ≡ false → b ≡ true
holds true e = refl
holds false e = absurd cc

-- none of several sizes is over that of an object
small_all : {A : Type 0} (f : A → ℕ) (xs : List A) → is_over (map f xs) ≡ false → All (λ x. f x ≤ MOST_OBJECT_BYTES) xs
small_all f [] e = λ k d i. absurd (omega (arith, i))
small_all f (x ∷ xs) e =
    All-cons (λ x. f x ≤ MOST_OBJECT_BYTES) x xs (leb-true _ _ (holds (nat_le (f x) MOST_OBJECT_BYTES) (neither_left (not (nat_le (f x) MOST_OBJECT_BYTES)) (is_over (map f xs)) e)))
    (small_all f xs (neither_right (not (nat_le (f x) MOST_OBJECT_BYTES)) (is_over (map f xs)) e))

within_limits : (p : PlainProgram) → is_too_large p ≡ false → IsWithinLimits p
within_limits p e =
    let statics : Bool = nat_le (sum (map (λ o. o.bytes) p.objects)) MOST_STATIC_BYTES in
    let objects : Bool = is_over (map (λ o. o.bytes) p.objects) in
    let frames : Bool = is_over (map frame_bytes p.functions) in
    let literals : Bool = is_over (map (λ l. length l.bytes) p.literals) in
    let others : (objects || (frames || literals)) ≡ false = neither_right (not statics) (objects || (frames || literals)) e in
    let last : (frames || literals) ≡ false = neither_right objects (frames || literals) others in
    record {
      static_bytes = leb-true _ _ (holds statics (neither_left (not statics) (objects || (frames || literals)) e));
      objects = small_all (λ o. o.bytes) p.objects (neither_left objects (frames || literals) others);
      frames = small_all frame_bytes p.functions (neither_left frames literals last);
      literals = small_all (λ l. length l.bytes) p.literals (neither_right frames literals last);
    }

pub answers_are_whole_in_part : AnswersAreWholeInPart
answers_are_whole_in_part = record {
  structures = λ h roots p a. subst AreWholeStructures (ap (λ (q : PlainProgram). q.structures) a.is) (structures_are_whole h roots);
  limits = λ h roots p a. within_limits p a.sizes;
}
