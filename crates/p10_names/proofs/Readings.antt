-- What files are read as is a program of files: nothing refused them, so there are trees, and these are the program.
use Rattle.std.proofs.Common.{◌≡◌, Option, Some, None, Result, Ok, Err, refl, sym, ap, ◌∙◌}
use Rattle.std.proofs.lemmas.Option.{same_Some, none-some}
use Rattle.p10_base.specs.declared.report.Limit.{Limit}
use Rattle.p10_base.specs.declared.report.TheConstants.Limit.{OBJECT_BYTES}
use Rattle.p10_base.specs.Gathered.{Gathered}
use Rattle.p10_core.specs.Typed.{PlainProgram}
use Rattle.p10_elab.specs.Answers.{refusal_of}
use Rattle.p10_elab.specs.Programs.{program as the_program}
use Rattle.p10_front.specs.Readings.{PlainReading, refused_reading, untyped_reading, typed_reading, Reads, expanded_over, expanded, unexpanded, nested_over, unspelled, spelled, untyped, oversized, typed}
use Rattle.p10_names.specs.Laws.{IsProgramOf, ReadingsArePrograms}

abbrev answer : PlainReading → Result PlainReading Limit
answer reading = Ok reading

-- a reading is no limit
no_limit : (reading : PlainReading) (limit : Limit) → answer reading ≡ Err limit → ⊥
no_limit reading limit same = cc

-- one reading has one program
same_program : (reading other : PlainReading) (o : Option PlainProgram) → answer reading ≡ answer other → other.program ≡ o → reading.program ≡ o
same_program reading other o same is = let readings : reading ≡ other = cc in ap (λ (x : PlainReading). x.program) readings ∙ is

no_program : (reading other : PlainReading) (p : PlainProgram) → answer reading ≡ answer other → other.program ≡ None → reading.program ≡ Some p → ⊥
no_program reading other p same none is = none-some p (sym (same_program reading other None same none) ∙ is)

of_reading : (g : Gathered) (reading : PlainReading) (p : PlainProgram) → Reads g (Ok reading) → reading.program ≡ Some p → IsProgramOf g p
of_reading g reading p (expanded_over limit to e) is = absurd (no_limit reading limit e)
of_reading g reading p (expanded expansion to (unexpanded refusal r e)) is = absurd (no_program reading (refused_reading expansion refusal) p e refl is)
of_reading g reading p (expanded expansion to (nested_over limit r f e)) is = absurd (no_limit reading limit e)
of_reading g reading p (expanded expansion to (unspelled refusal r f e)) is = absurd (no_program reading (refused_reading expansion refusal) p e refl is)
of_reading g reading p (expanded expansion to (spelled trees r fit spells (untyped problem e f))) is = absurd (no_program reading (untyped_reading expansion trees (refusal_of problem)) p f refl is)
of_reading g reading p (expanded expansion to (spelled trees r fit spells (oversized e f))) is = absurd (no_limit reading OBJECT_BYTES f)
of_reading g reading p (expanded expansion to (spelled trees r fit spells (typed program e f))) is =
    let one : program ≡ p = same_Some program p (sym (same_program reading (typed_reading expansion trees program) (Some program) f refl) ∙ is) in
    record { expansion = expansion; trees = trees; expands = to; spells = spells; typed = e ∙ ap the_program one }

pub readings_are_programs : ReadingsArePrograms
readings_are_programs g reading p read = of_reading g reading p read.reads read.is
