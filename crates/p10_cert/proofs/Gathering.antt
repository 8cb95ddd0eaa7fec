-- The functions that lines make are those whose lines they are.
use Rattle.std.proofs.Common.{◌≡◌, ℕ, Bool, true, false, List, [], ◌∷◌, ◌++◌, map, Option, Some, None, refl, sym, ap, ◌∙◌, append_assoc, append-nil}
use Rattle.std.specs.List.{flat_map}
use Rattle.p10_cert.specs.Claims.{Value, Var, Loop, Func, Address}
use Rattle.p10_cert.specs.Lines.{Line, FuncLine, ParamLine, ResultLine, LoopLine, VarLine, DigestLine}
use Rattle.p10_cert.specs.Certificate.{loop_head, loop_lines, func_head}
use Rattle.p10_cert.specs.Statements.{Entry, Ending, first_line, digest_lines, inner_lines, entry_lines, ending_lines}
use Rattle.p10_cert.specs.private.Places.{Gathered, nothing, gather_line, gather}

gather_vars : (vars : List Var) (rest : List Line) → gather (map VarLine vars ++ rest) ≡ record (gather rest) { vars = vars ++ (gather rest).vars }
unfolding gather
gather_vars [] rest = refl
gather_vars (v ∷ vars) rest = ap (gather_line (VarLine v)) (gather_vars vars rest)

loop_with : Loop → List Var → Loop
loop_with l vars = record { depth = l.depth; rank = l.rank; turns = l.turns; vars = vars }

-- loops before functions
loops_then : List Loop → List Entry → Gathered
loops_then loops entries = record { vars = []; loops = loops; result = Address; params = []; digest = None; entries = entries }

gather_loops : (loops : List Loop) (rest : List Line) (entries : List Entry) → gather rest ≡ loops_then [] entries → gather (flat_map loop_lines loops ++ rest) ≡ loops_then loops entries
unfolding gather loops_then loop_with
gather_loops [] rest entries e = e
gather_loops (l ∷ loops) rest entries e =
    let others = gather_loops loops rest entries e in
    let more : List Line = flat_map loop_lines loops ++ rest in
    ap gather (append_assoc (loop_lines l) (flat_map loop_lines loops) rest)
    ∙ ap {A = Gathered} (gather_line (LoopLine (loop_head l))) (gather_vars l.vars more ∙ ap {B = Gathered} (λ (g : Gathered). record g { vars = l.vars ++ g.vars }) others)
    ∙ ap (λ (vars : List Var). loops_then (loop_with l vars ∷ loops) entries) (append-nil l.vars)

-- what a function says after its first line, before functions
inner_then : Option (List ℕ) → List Value → Value → List Loop → List Entry → Gathered
inner_then digest params result loops entries = record { vars = []; loops = loops; result = result; params = params; digest = digest; entries = entries }

gather_params : (params : List Value) (result : Value) (loops : List Loop) (rest : List Line) (entries : List Entry) → gather rest ≡ loops_then [] entries
    → gather (map ParamLine params ++ (ResultLine result ∷ (flat_map loop_lines loops ++ rest))) ≡ inner_then None params result loops entries
unfolding gather loops_then inner_then
gather_params [] result loops rest entries e = ap (gather_line (ResultLine result)) (gather_loops loops rest entries e)
gather_params (v ∷ params) result loops rest entries e = ap (gather_line (ParamLine v)) (gather_params params result loops rest entries e)

gather_digest : (digest : Option (List ℕ)) (params : List Value) (result : Value) (loops : List Loop) (rest : List Line) (entries : List Entry) → gather rest ≡ loops_then [] entries
    → gather (digest_lines digest ++ (map ParamLine params ++ (ResultLine result ∷ (flat_map loop_lines loops ++ rest)))) ≡ inner_then digest params result loops entries
unfolding gather inner_then
gather_digest None params result loops rest entries e = gather_params params result loops rest entries e
gather_digest (Some d) params result loops rest entries e = ap (gather_line (DigestLine d)) (gather_params params result loops rest entries e)

gather_entry : (x : Entry) (rest : List Line) (entries : List Entry) → gather rest ≡ loops_then [] entries → gather (entry_lines x ++ rest) ≡ loops_then [] (x ∷ entries)
unfolding gather loops_then inner_then
gather_entry x rest entries e =
    let f : Func = x.func in
    ap (gather_line (FuncLine (func_head f)))
    (ap gather (append_assoc (digest_lines x.digest) (inner_lines f) rest ∙ ap (λ ls. digest_lines x.digest ++ ls) (append_assoc (map ParamLine f.params) (ResultLine f.result ∷ flat_map loop_lines f.loops) rest))
    ∙ gather_digest x.digest f.params f.result f.loops rest entries e)

gather_all : (entries : List Entry) (rest : List Line) → gather rest ≡ nothing → gather (flat_map entry_lines entries ++ rest) ≡ loops_then [] entries
unfolding loops_then
gather_all [] rest e = e
gather_all (x ∷ entries) rest e = ap gather (append_assoc (entry_lines x) (flat_map entry_lines entries) rest) ∙ gather_entry x (flat_map entry_lines entries ++ rest) entries (gather_all entries rest e)

-- the functions whose lines stand before lines of no function
pub gather_before : (entries : List Entry) (rest : List Line) → gather rest ≡ nothing → (gather (flat_map entry_lines entries ++ rest)).entries ≡ entries
unfolding loops_then
gather_before entries rest e = ap (λ (g : Gathered). g.entries) (gather_all entries rest e)

pub gather_entries : (entries : List Entry) → (gather (flat_map entry_lines entries)).entries ≡ entries
unfolding gather
gather_entries entries = ap (λ ls. (gather ls).entries) (sym (append-nil (flat_map entry_lines entries))) ∙ gather_before entries [] refl

pub gather_first : (sealed : Bool) (lines : List Line) → gather (first_line sealed ∷ lines) ≡ gather lines
unfolding gather
gather_first true lines = refl
gather_first false lines = refl

-- what stands after the functions makes none
pub gather_ending : (e : Ending) → gather (ending_lines e) ≡ nothing
unfolding gather
gather_ending e = by_outside e.outside
  where
    by_outside : (outside : Option (List ℕ)) → gather (ending_lines (record e { outside = outside })) ≡ nothing
    by_outside None = refl
    by_outside (Some d) = refl
