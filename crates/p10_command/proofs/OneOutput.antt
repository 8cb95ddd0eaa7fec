-- What is written to one of the outputs alone.
use Rattle.std.proofs.Common.{◌≡◌, ℕ, List, [], sym, ap, subst, Option}
use Rattle.std.specs.Io.KnownBytes.{Appends}
use Rattle.std.proofs.KnownBytes.{Appends-nil}
use Rattle.p10_base.specs.Gathered.{Gathered}
use Rattle.p10_base.specs.Words.{Text}
use Rattle.p10_report.specs.Stops.{StopsWithin}
use Rattle.p10_report.proofs.Stopping.{TakesFront-stop}
use Rattle.p10_world.specs.Sink.{TakesFront}
use Rattle.p10_command.specs.declared.gathering.Ungathered.{Ungathered}
use Rattle.p10_command.specs.Saying.{Saying, ungathered_line, ungathered_status}
use Rattle.p10_command.specs.Told.{IsTold, Told, Stopped}

nothing_taken : (sink : Option (List ℕ)) (text : List ℕ) → text ≡ [] → Appends sink sink text
nothing_taken sink text none = subst (λ (t : List ℕ). Appends sink sink t) (sym none) (Appends-nil sink)

pub no_front : (sink : Option (List ℕ)) (text : List ℕ) → text ≡ [] → TakesFront sink sink text
no_front sink text none = record { front = []; back = []; parts = none; taken = Appends-nil sink }

pub told_line : (may : Saying → Type 0) (saying : Saying) (out err_old err_new : Option (List ℕ)) (given : ℕ) → may saying → saying.out ≡ [] → IsTold saying.status saying.err err_old err_new given → Told may out out err_old err_new given
told_line may saying out err_old err_new given is none told = record {
  saying = saying;
  may = is;
  status_is = told.status_is;
  taken = record { on_out = nothing_taken out saying.out none; on_err = told.taken };
}

pub stopped_line : (may : Saying → Type 0) (saying : Saying) (out err_old err_new : Option (List ℕ)) → may saying → saying.out ≡ [] → StopsWithin err_old err_new saying.err → Stopped may out out err_old err_new
stopped_line may saying out err_old err_new is none stopped = record {
  saying = saying;
  may = is;
  taken = record { on_out = no_front out saying.out none; on_err = TakesFront-stop err_old err_new saying.err stopped };
}

-- ## The same as something more may be said

pub may_be_more : (may more : Saying → Type 0) (out_old out_new err_old err_new : Option (List ℕ)) (given : ℕ) → ((saying : Saying) → may saying → more saying) → Told may out_old out_new err_old err_new given → Told more out_old out_new err_old err_new given
may_be_more may more out_old out_new err_old err_new given each told = record { saying = told.saying; may = each told.saying told.may; status_is = told.status_is; taken = told.taken }

pub may_stop_more : (may more : Saying → Type 0) (out_old out_new err_old err_new : Option (List ℕ)) → ((saying : Saying) → may saying → more saying) → Stopped may out_old out_new err_old err_new → Stopped more out_old out_new err_old err_new
may_stop_more may more out_old out_new err_old err_new each stopped = record { saying = stopped.saying; may = each stopped.saying stopped.may; taken = stopped.taken }

-- ## The same names are written

pub named_told : (roots roots' : List Text) (g : Gathered) (why : Ungathered) (old new : Option (List ℕ)) (given : ℕ) → roots ≡ roots' → IsTold (ungathered_status why) (ungathered_line roots g why) old new given
    → IsTold (ungathered_status why) (ungathered_line roots' g why) old new given
named_told roots roots' g why old new given same told = subst (λ (line : List ℕ). IsTold (ungathered_status why) line old new given) (ap (λ (names : List Text). ungathered_line names g why) same) told

pub named_stopped : (roots roots' : List Text) (g : Gathered) (why : Ungathered) (old new : Option (List ℕ)) → roots ≡ roots' → StopsWithin old new (ungathered_line roots g why) → StopsWithin old new (ungathered_line roots' g why)
named_stopped roots roots' g why old new same stopped = subst (λ (line : List ℕ). StopsWithin old new line) (ap (λ (names : List Text). ungathered_line names g why) same) stopped
