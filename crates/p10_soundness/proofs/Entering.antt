-- Where a call enters its function: the frame fits, and the environment at the entry describes it.
use Rattle.std.proofs.Common.{◌≡◌, ℕ, ◌≤◌, List, Some, slice_get, sym, subst}
use Rattle.p10_core.specs.Typed.{PlainFunction, PlainProgram}
use Rattle.p10_core.specs.WholePrograms.{IsWholeProgram, parameter_types}
use Rattle.p10_cert.specs.Claims.{Claims}
use Rattle.p10_meaning.specs.declared.pointers.Scalar.{Scalar}
use Rattle.p10_meaning.specs.States.{State}
use Rattle.p10_meaning.specs.Values.{Held}
use Rattle.p10_meaning.specs.Calling.{Depth, raised, Entered, entered}
use Rattle.p10_meaning.specs.Sound.{Kind, Sound, ScalarsFit, Grows}
use Rattle.p10_meaning.proofs.AgreeingCalls.{IsEntry, entered_is}
use Rattle.p10_meaning.proofs.SoundCalls.{EntryFits}
use Rattle.p10_absx.specs.Entering.{claims_on, entry_of, entry_at}
use Rattle.p10_absx.specs.Describing.{Describes}
use Rattle.p10_evaluation.specs.Claimed.{ArgumentsLie}
use Rattle.p10_evaluation.specs.Laws.{IsDescribed}
use Rattle.p10_soundness.proofs.Frames.{frame_fits}
use Rattle.p10_soundness.proofs.Arguments.{entry_describes}

-- a frame that was entered is described by the environment at the function's entry, with objects that were only added
pub record EntersAsDescribed (p : PlainProgram) (c : Claims) (bound k : ℕ) (f : PlainFunction) (head : List Held) (ks : List Kind) (start : Entered) : Type 0 where
  pub kinds : List Kind
  pub grows : Grows ks kinds
  pub described : IsDescribed p bound f.variables (entry_at p c k) head start.frame.held kinds start.state

-- a call with arguments that fit the parameters and lie in the claimed ranges enters its function so
abbrev pub CallsEnterAsDescribed : Type 0
CallsEnterAsDescribed =
    (p : PlainProgram) → IsWholeProgram p → (c : Claims) (bound k : ℕ) (f : PlainFunction) → slice_get p.functions k ≡ Some f → (depth : Depth) (xs : List Scalar) (w : State) (ks : List Kind) →
    Sound p ks w → ScalarsFit p ks (parameter_types f) xs → ArgumentsLie (claims_on (slice_get c.funcs k)) xs → w.left ≤ bound → (head : List Held) →
    EntersAsDescribed p c bound k f head ks (entered f.variables xs (raised depth w))

pub calls_enter : CallsEnterAsDescribed
calls_enter p whole c bound k f there depth xs w ks so fit lie few head =
    let entry : EntryFits p ks f.variables (entered f.variables xs (raised depth w)) = frame_fits p whole k f there xs (raised depth w) ks fit so in
    let is : IsEntry (raised depth w) (entered f.variables xs (raised depth w)) = entered_is f.variables xs (raised depth w) in
    record {
      kinds = entry.kinds;
      grows = entry.grows;
      described = record {
        sound = entry.sound;
        fits = entry.frame;
        describes = subst (λ o. Describes f.variables (entry_of (slice_get c.funcs k) o) head (entered f.variables xs (raised depth w)).frame.held) (sym there)
            (entry_describes p ks f.parameters (claims_on (slice_get c.funcs k)) f.variables xs (raised depth w) head fit lie);
        few = subst (λ n. n ≤ bound) (sym is.left) few;
      };
    }
