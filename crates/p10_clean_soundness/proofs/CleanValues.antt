-- Values, places and reads that have no flaws leave clean states: the laws, for every frame and scope of a function.
use Rattle.std.proofs.Common.{◌≡◌, ℕ, List, [], Option, Some, slice_get}
use Rattle.p10_core.specs.Typed.{type_of, place_at, place_type, PlainFunction, PlainProgram}
use Rattle.p10_core.specs.WholePrograms.{IsWholeProgram}
use Rattle.p10_cert.specs.Claims.{Value, Loop, Claims}
use Rattle.p10_meaning.specs.Calling.{Depth, setting_of, call_at}
use Rattle.p10_meaning.specs.Values.{discard}
use Rattle.p10_evaluation.specs.Claimed.{ResultsLie}
use Rattle.p10_clean_soundness.specs.private.Objects.{LeavesClean}
use Rattle.p10_clean_soundness.specs.private.Standing.{CallsStayClean}
use Rattle.p10_clean_soundness.proofs.Reaching.{ValuesClean}
use Rattle.p10_clean_soundness.proofs.Afterwards.{PlacesClean, DiscardsClean, ReadsClean}
use Rattle.p10_clean_soundness.proofs.Staying.{stays_weaker}
use Rattle.p10_clean_soundness.proofs.Evaluated.{Performed, evaluates}
use Rattle.p10_clean_soundness.proofs.Arrays.{read_clean}
use Rattle.p10_clean_soundness.proofs.Values.{acts, finds}

module _ (p : PlainProgram) (whole : IsWholeProgram p) (n : ℕ) (depth : Depth) (number : ℕ) (f : PlainFunction) (there : slice_get p.functions number ≡ Some f)
    (calls : Option Claims) (loops : Option (List Loop)) (result : Option Value) (lie : ResultsLie p calls n (call_at n p depth)) (stay_clean : CallsStayClean p calls n (call_at n p depth)) where
  pub values_clean : ValuesClean p whole n depth number f there calls loops result lie
  values_clean scope v i scalar env head frame w settings opening stands d none flaws =
      evaluates p whole n depth number f there calls loops result lie scope opening settings head frame v scalar (acts p whole n depth number f there calls loops result lie stay_clean scope opening settings head frame v i) env (record { lies = none; clean = flaws; describes = d }) w stands

  pub discards_clean : DiscardsClean p whole n depth number f there calls loops result lie
  discards_clean scope v i env head frame w settings opening stands d none flaws =
      stays_weaker (Performed p whole n depth number f there calls loops result lie scope opening settings head frame (type_of v) w) (λ x u. LeavesClean p opening w.objects u) (discard (setting_of p n (call_at n p) depth f) frame.held v w)
      (acts p whole n depth number f there calls loops result lie stay_clean scope opening settings head frame v i env (record { lies = none; clean = flaws; describes = d }) w stands) (λ x u h. h.0)

  pub places_clean : PlacesClean p whole n depth number f there calls loops result lie
  places_clean scope q i env head frame w settings opening stands d none flaws = finds p whole n depth number f there calls loops result lie stay_clean scope opening settings head frame q i env (record { lies = none; clean = flaws; describes = d }) w stands

  pub reads_clean : ReadsClean p whole n depth number f there calls loops result lie
  reads_clean scope q i scalar frame w settings opening stands target fits reached frame_is flaws =
      read_clean p whole n depth number f there calls loops result lie scope opening settings [] frame q i scalar flaws (place_at q).span (place_type q) target w stands reached frame_is fits
