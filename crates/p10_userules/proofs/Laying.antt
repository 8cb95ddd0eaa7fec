-- What walks find of functions stands for these.
use Rattle.std.proofs.Common.{◌≡◌, ℕ, ◌+◌, ◌-◌, ◌≤◌, List, [], ◌∷◌, ◌++◌, length, take, drop, refl, sym, ◌∙◌, ap, arith, append_assoc, length-append}
use Rattle.std.specs.Prelude.{All, slice_range}
use Rattle.std.specs.List.{flat_map}
use Rattle.std.proofs.lemmas.List.{append-nil}
use Rattle.std.proofs.lemmas.List.Elements.{All-cons}
use Rattle.p10_core.specs.Typed.{PlainStatements, PlainFunction, PlainObject}
use Rattle.p10_userules.specs.declared.occurrences.Occurrence.{Occurrence}
use Rattle.p10_userules.specs.declared.parts.Stretch.{Stretch}
use Rattle.p10_userules.specs.declared.parts.BlockParts.{BlockParts}
use Rattle.p10_userules.specs.Occurrences.{occurrences_in_statements}
use Rattle.p10_userules.specs.private.Spreads.{Rises, HasRising}
use Rattle.p10_userules.specs.private.Laid.{Stands, AreBlocks, IsFunction, AreFunctions}
use Rattle.p10_userules.specs.private.Walking.{passed, passed_all, parts_of, parts_of_all, stretches_of_all}
use Rattle.p10_userules.proofs.Walks.{passes}

abbrev pub in_function : List PlainObject → PlainFunction → List Occurrence
in_function objects f = occurrences_in_statements objects f.body

passed_is : (objects : List PlainObject) (before : List Occurrence) (f : PlainFunction) → passed objects before f ≡ before ++ in_function objects f
passed_is objects before f = (passes objects before f).occurrences_are

pub passed_all_is : (objects : List PlainObject) (before : List Occurrence) (fs : List PlainFunction) → passed_all objects before fs ≡ before ++ flat_map (in_function objects) fs
passed_all_is objects before [] = sym (append-nil before)
passed_all_is objects before (f ∷ rest) =
    passed_all_is objects (passed objects before f) rest
    ∙ ap (λ l. l ++ flat_map (in_function objects) rest) (passed_is objects before f)
    ∙ append_assoc before (in_function objects f) (flat_map (in_function objects) rest)

function_is : (objects : List PlainObject) (before : List Occurrence) (f : PlainFunction) (after all : List Occurrence) → all ≡ passed objects before f ++ after
    → IsFunction objects all f (record { start = length before; end = length (passed objects before f) }) (parts_of objects before f)
function_is objects before f after all e = record {
  stands = record {
    front = before;
    back = after;
    is = e ∙ ap (λ l. l ++ after) (passed_is objects before f) ∙ append_assoc before (in_function objects f) after;
    starts = omega arith;
    ends = ap length (passed_is objects before f) ∙ length-append before (in_function objects f);
  };
  are = (passes objects before f).are;
}

pub functions_are : (objects : List PlainObject) (before : List Occurrence) (fs : List PlainFunction) (after all : List Occurrence) → all ≡ passed_all objects before fs ++ after
    → AreFunctions objects all fs (stretches_of_all objects before fs) (parts_of_all objects before fs)
functions_are objects before [] after all e = tt
functions_are objects before (f ∷ rest) after all e = (
  function_is objects before f (flat_map (in_function objects) rest ++ after) all
      (e ∙ ap (λ l. l ++ after) (passed_all_is objects (passed objects before f) rest) ∙ append_assoc (passed objects before f) (flat_map (in_function objects) rest) after),
  functions_are objects (passed objects before f) rest after all e,
)

pub stretches_rise : (objects : List PlainObject) (before : List Occurrence) (fs : List PlainFunction) → Rises (length before) (stretches_of_all objects before fs) (length (passed_all objects before fs))
stretches_rise objects before [] = omega arith
stretches_rise objects before (f ∷ rest) =
    let grown : length (passed objects before f) ≡ length before + length (in_function objects f) = ap length (passed_is objects before f) ∙ length-append before (in_function objects f) in
    (omega arith, omega (arith, grown), stretches_rise objects (passed objects before f) rest)

pub so_many_stretches : (objects : List PlainObject) (before : List Occurrence) (fs : List PlainFunction) → length (stretches_of_all objects before fs) ≡ length fs
so_many_stretches objects before [] = refl
so_many_stretches objects before (f ∷ rest) = let more = so_many_stretches objects (passed objects before f) rest in omega (arith, more)

pub so_many_parts : (objects : List PlainObject) (before : List Occurrence) (fs : List PlainFunction) → length (parts_of_all objects before fs) ≡ length fs
so_many_parts objects before [] = refl
so_many_parts objects before (f ∷ rest) = let more = so_many_parts objects (passed objects before f) rest in omega (arith, more)

-- ## What the check of a function asks

module _ (objects : List PlainObject) (all : List Occurrence) (f : PlainFunction) (t : Stretch) (bs : List BlockParts) (is : IsFunction objects all f t bs) where
  pub ordered : t.start ≤ t.end
  ordered = let e : t.end ≡ t.start + length (in_function objects f) = is.stands.ends in omega (arith, e)

  pub within : t.end ≤ length all
  within =
      let s = is.stands in
      let start : t.start ≡ 0 + length s.front = s.starts in
      let end : t.end ≡ t.start + length (in_function objects f) = s.ends in
      let total : length all ≡ length s.front + (length (in_function objects f) + length s.back) =
      ap length s.is ∙ length-append s.front (in_function objects f ++ s.back) ∙ ap (λ n. length s.front + n) (length-append (in_function objects f) s.back) in
      omega (arith, start, end, total)

pub has_rising : (objects : List PlainObject) (start : ℕ) (os : List Occurrence) (bs : List BlockParts) (ps : List PlainStatements) → AreBlocks objects start os bs ps → All HasRising bs
has_rising objects start os [] ps are = λ i d h. absurd (omega (arith, h))
has_rising objects start os (b ∷ bs) [] are = absurd are
has_rising objects start os (b ∷ bs) (p ∷ ps) (this, rest) =
    All-cons HasRising b bs (record { from = this.from; to = this.to; rises = this.rises }) (has_rising objects start os bs ps rest)

-- ## The part that a stretch has

taken : {A : Type 0} (xs ys : List A) → take (length xs) (xs ++ ys) ≡ xs
taken [] ys = refl
taken (x ∷ xs) ys = ap (λ l. x ∷ l) (taken xs ys)

dropped : {A : Type 0} (xs ys : List A) → drop (length xs) (xs ++ ys) ≡ ys
dropped [] ys = refl
dropped (x ∷ xs) ys = dropped xs ys

pub part_is : (all : List Occurrence) (t : Stretch) (part : List Occurrence) → Stands 0 all t part → slice_range all t.start t.end ≡ part
part_is all t part s =
    let start : t.start ≡ 0 + length s.front = s.starts in
    let end : t.end ≡ t.start + length part = s.ends in
    let from : t.start ≡ length s.front = omega (arith, start) in
    let long : t.end - t.start ≡ length part = omega (arith, end) in
    ap (λ n. take n (drop t.start all)) long
    ∙ ap (λ n. take (length part) (drop n all)) from
    ∙ ap (λ l. take (length part) (drop (length s.front) l)) s.is
    ∙ ap (take (length part)) (dropped s.front (part ++ s.back))
    ∙ taken part s.back
