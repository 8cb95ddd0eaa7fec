-- The second line of a function tells its digest, where it has one.
use Rattle.std.proofs.Common.{◌≡◌, ◌++◌, Bool, true, false, ℕ, List, [], ◌∷◌, map, Option, Some, None, Result, Ok, Err, option_map, refl, sym, ap, ◌∙◌}
use Rattle.std.specs.Prelude.{OnOk}
use Rattle.std.specs.List.{AllByRecursion, flat_map}
use Rattle.p10_base.specs.declared.digest.Digest.{Digest}
use Rattle.p10_cert.specs.declared.claims.FuncClaim.{FuncClaim}
use Rattle.p10_cert.specs.Claims.{Value, Func, func_of}
use Rattle.p10_cert.specs.Lines.{FuncLine, ParamLine, ResultLine, DigestLine, text_of, IsParam}
use Rattle.p10_cert.specs.Certificate.{func_head, loop_lines, IsFunc}
use Rattle.p10_cert.specs.Sealed.{bytes_of}
use Rattle.p10_cert.specs.Statements.{Entry, digest_lines, inner_lines, entry_text, IsSeal, IsEntry}
use Rattle.p10_cert.specs.private.Reading.{◌>>=◌, line_at}
use Rattle.p10_cert.specs.private.Seals.{line_digest, second_digest}
use Rattle.p10_cert.specs.private.Whole.{seal_of}
use Rattle.p10_cert.proofs.Steps.{bind_is}
use Rattle.p10_cert.proofs.LineAgain.{line_again}
use Rattle.p10_cert.proofs.Collecting.{map-append}

-- what the next line tells
next_digest : List ℕ → Option (List ℕ)
next_digest rest = line_at rest >>= λ (line, after). line_digest line

no_digest : (f : Func) → IsFunc f → next_digest (text_of (inner_lines f)) ≡ None
unfolding text_of next_digest
no_digest f good = by_params f.params good.params
  where
    by_params : (params : List Value) → AllByRecursion IsParam params → next_digest (text_of (map ParamLine params ++ (ResultLine f.result ∷ flat_map loop_lines f.loops))) ≡ None
    by_params [] all = bind_is _ (ResultLine f.result, text_of (flat_map loop_lines f.loops)) _ _ (line_again (ResultLine f.result) _ good.result refl) refl
    by_params (v ∷ params) all = bind_is _ (ParamLine v, text_of (map ParamLine params ++ (ResultLine f.result ∷ flat_map loop_lines f.loops))) _ _ (line_again (ParamLine v) _ all.0 refl) refl

digest_next : (sealed : Bool) (digest : Option (List ℕ)) (f : Func) → IsSeal sealed digest → IsFunc f → next_digest (text_of (digest_lines digest ++ inner_lines f)) ≡ digest
unfolding text_of next_digest
digest_next sealed None f seal good = no_digest f good
digest_next true (Some d) f seal good = bind_is _ (DigestLine d, text_of (inner_lines f)) _ _ (line_again (DigestLine d) _ seal refl) refl
digest_next false (Some d) f seal good = absurd seal

pub digest_told : (sealed : Bool) (e : Entry) → IsEntry sealed e → second_digest (entry_text e) ≡ e.digest
unfolding second_digest entry_text text_of next_digest
digest_told sealed e good =
    bind_is _ (FuncLine (func_head e.func), text_of (digest_lines e.digest ++ inner_lines e.func)) _ _ (line_again (FuncLine (func_head e.func)) _ good.func.head refl)
    (digest_next sealed e.digest e.func good.seal good.func)

-- ---- digests that are pushed

pub always : {T E : Type 0} (r : Result T E) (P : Type 0) → P → OnOk r P
always (Ok x) P p = p
always (Err e) P p = tt

pub pushed_digest : {T E : Type 0} (r : Result T E) (old new : List Digest) (d : Digest) (digest : Option Digest) → digest ≡ Some d → OnOk r (new ≡ old ++ d ∷ [])
    → OnOk r ((e : Entry) → IsEntry true e → option_map bytes_of digest ≡ e.digest → map seal_of new ≡ map seal_of old ++ e.digest ∷ [])
pushed_digest (Ok x) old new d digest is pushed = λ e good told. ap (map seal_of) pushed ∙ map-append seal_of old d ∙ ap (λ s. map seal_of old ++ s ∷ []) (ap (option_map bytes_of) (sym is) ∙ told)
pushed_digest (Err x) old new d digest is pushed = tt

-- a claim that is pushed
pub pushed_func : (old new : List FuncClaim) (claim : FuncClaim) (f : Func) → new ≡ old ++ claim ∷ [] → func_of claim ≡ f → map func_of new ≡ map func_of old ++ f ∷ []
pushed_func old new claim f pushed is = ap (map func_of) pushed ∙ map-append func_of old claim ∙ ap (λ x. map func_of old ++ x ∷ []) is

-- less of what went well
pub pushed_so : {T E : Type 0} (r : Result T E) (P Q : Type 0) → (P → Q) → OnOk r P → OnOk r Q
pushed_so (Ok x) P Q go p = go p
pushed_so (Err x) P Q go p = tt

-- in version 2 each function has one
pub never_none : (e : Entry) → IsEntry true e → None ≡ e.digest → ⊥
never_none e good none = by_digest e.digest good.seal none
  where
    by_digest : (digest : Option (List ℕ)) → IsSeal true digest → None ≡ digest → ⊥
    by_digest None seal none = seal
    by_digest (Some d) seal none = cc
