-- Problems that are noted stay noted, whatever follows them.
use Rattle.std.specs.Prelude.{◌≡◌, refl, Bool, true, false, List, [], ◌∷◌, ◌++◌}
use Rattle.std.proofs.Common.{inl, inr}
use Rattle.p10_base.specs.declared.at.At.{At}
use Rattle.p10_base.specs.declared.codes.SubsetCode.{SubsetCode}
use Rattle.p10_elabx.specs.declared.problem.Problem.{Problem}
use Rattle.p10_elabx.specs.First.{Among, every}
use Rattle.p10_elabd.specs.Standing.{PlainStanding, refusing}
use Rattle.p10_declaration_steps.specs.Steps.{Steps}
use Rattle.p10_declaration_steps.proofs.Each.{each}
use Rattle.p10_declaration_steps.proofs.Steps.{over_refusing}
use Rattle.p10_statement_steps.specs.Steps.{LocalSteps, BodySteps}
use Rattle.p10_statement_steps.proofs.Each.{each_local, each_in_body, local_in_body}
use Rattle.p10_root_steps.specs.Steps.{RootSteps}
use Rattle.p10_root_steps.proofs.Each.{AreRootSteps, root_in_block, each_root}

-- ## Steps

-- the problems of one standing are among those of another
pub record Grows (s t : PlainStanding) : Type 0 where
  pub among : (r : Problem) → Among r s.problems → Among r t.problems

pub as_before : (s : PlainStanding) → Grows s s
as_before s = record { among = λ r h. h }

pub grows_on : {s t u : PlainStanding} → Grows s t → Grows t u → Grows s u
grows_on a b = record { among = λ r h. b.among r (a.among r h) }

pub among_first : (rs qs : List Problem) (r : Problem) → Among r rs → Among r (rs ++ qs)
among_first [] qs r h = absurd h
among_first (q ∷ rs) qs r (inl e) = inl e
among_first (q ∷ rs) qs r (inr h) = inr (among_first rs qs r h)

pub among_after : (rs qs : List Problem) (r : Problem) → Among r qs → Among r (rs ++ qs)
among_after [] qs r h = h
among_after (q ∷ rs) qs r h = inr (among_after rs qs r h)

-- a row that holds is noted
pub refusing_told : (b : Bool) (code : SubsetCode) (at : At) (s : PlainStanding) → b ≡ true → Among (record { code = code; at = at }) (refusing every b code at s).problems
refusing_told true code at s h = among_after s.problems (record { code = code; at = at } ∷ []) (record { code = code; at = at }) (inl refl)
refusing_told false code at s h = absurd cc

-- ## What holds of each step

growing : AreRootSteps every Grows
growing = record {
  parts = record {
    same = as_before;
    followed = λ s t u a b. grows_on a b;
    told = λ rs s. record { among = among_first s.problems rs };
    name_more = λ name what s m. record { among = λ r h. h };
    tag_more = λ name what s m. record { among = λ r h. h };
    structure_more = λ tag s. record { among = λ r h. h };
    structure_tagged = λ name s. record { among = λ r h. h };
    bodies_open = λ numbers s. record { among = λ r h. h };
    members_taken = λ word tag s t members begun inside takes small. record { among = λ r h. inside.among r (begun.among r h) };
    block_closed = λ s t inside. record { among = inside.among };
  };
  names_changed = λ names tags floors evaluated s. record { among = λ r h. h };
}

-- so it holds of all that take steps
pub grown : {s t : PlainStanding} → Steps every s t → Grows s t
grown x = each growing.parts x

pub grown_in_block : {s t : PlainStanding} → LocalSteps every s t → Grows s t
grown_in_block x = each_local (root_in_block growing) x

pub grown_in_body : {s t : PlainStanding} → BodySteps every s t → Grows s t
grown_in_body x = each_in_body (local_in_body (root_in_block growing)) x

pub grown_outside : {s t : PlainStanding} → RootSteps every s t → Grows s t
grown_outside x = each_root growing x

pub grows_refusing : (b : Bool) (code : SubsetCode) (at : At) (s : PlainStanding) → Grows s (refusing every b code at s)
grows_refusing b code at s = grown (over_refusing every b code at s)
