-- The pieces of a line make its text.
use Rattle.std.proofs.Common.{◌≡◌, ℕ, List, [], ◌∷◌, ◌++◌, map, ℤ, codes, decimal, refl, sym, ap, subst, ◌∙◌, append_assoc}
use Rattle.std.specs.Prelude.{Option, Result, Ok, Err, OnErr, OnOk}
use Rattle.std.specs.Fmt.{signed_decimal}
use Rattle.std.specs.Io.KnownBytes.{Appends}
use Rattle.std.specs.List.{flat_map}
use Rattle.p10_base.specs.declared.report.Bounds.{Bounds}
use Rattle.p10_range.specs.declared.ranges.Range.{Range}
use Rattle.p10_world.specs.Sink.{TakesFront}
use Rattle.p10_cert.specs.declared.claims.Cert.{Cert}
use Rattle.p10_cert.specs.declared.claims.FuncClaim.{FuncClaim}
use Rattle.p10_cert.specs.declared.claims.LoopClaim.{LoopClaim}
use Rattle.p10_cert.specs.declared.claims.Rank.{Rank}
use Rattle.p10_cert.specs.declared.claims.Rank.TheVariants as rank
use Rattle.p10_cert.specs.declared.claims.ValueClaim.{ValueClaim}
use Rattle.p10_cert.specs.declared.claims.ValueClaim.TheVariants.{Ints, Pointer, Void}
use Rattle.p10_cert.specs.Claims.{Var, claims_of, func_of, loop_of, value_of}
use Rattle.p10_cert.specs.Certificate.{loop_head, loop_lines, func_head, func_lines, func_text, certificate_text}
use Rattle.p10_cert.specs.Lines.{FuncHead, LoopHead, Line, FirstLine, FuncLine, ParamLine, ResultLine, LoopLine, VarLine, TotalLine, LastLine, flag_number, line_then, text_of}
use Rattle.p10_cert.proofs.LineTexts.{text_of-append}

-- the same text under another name
pub on_ok : {T E : Type 0} (r : Result T E) (old new : Option (List ℕ)) (s t : List ℕ) → s ≡ t → OnOk r (Appends old new s) → OnOk r (Appends old new t)
on_ok (Ok x) old new s t e p = subst (Appends old new) e p
on_ok (Err x) old new s t e p = tt

pub on_front : {T E : Type 0} (r : Result T E) (old new : Option (List ℕ)) (s t : List ℕ) → s ≡ t → OnErr r (TakesFront old new s) → OnErr r (TakesFront old new t)
on_front (Ok x) old new s t e p = tt
on_front (Err x) old new s t e p = subst (TakesFront old new) e p

pub total_is : (b : Bounds) → codes "total prefix " ++ (decimal b.prefix ++ (codes " turn " ++ (decimal b.turn ++ (codes " calls " ++ (decimal b.calls ++ (codes " bytes " ++ (decimal b.bytes ++ codes "\n"))))))) ≡ text_of (TotalLine b ∷ [])
unfolding line_then text_of
total_is b = refl

pub head_is : (h : FuncHead) → codes "func " ++ (h.name ++ (codes " rank " ++ (decimal h.rank ++ (codes " steps " ++ (decimal h.steps ++ (codes " calls " ++ (decimal h.calls ++ (codes " bytes " ++ (decimal h.bytes ++ (codes " alloc " ++ (decimal (flag_number h.alloc) ++ codes "\n"))))))))))) ≡ text_of (FuncLine h ∷ [])
unfolding line_then text_of
head_is h = refl

pub var_is : (v : Var) → codes "var " ++ (decimal v.var ++ (codes " " ++ (signed_decimal v.ends.low ++ (codes " " ++ (signed_decimal v.ends.high ++ codes "\n"))))) ≡ text_of (VarLine v ∷ [])
unfolding line_then text_of
var_is v = refl

pub param_is : (v : ValueClaim) (r : Range) → v ≡ Ints r → codes "param " ++ (signed_decimal r.lo ++ (codes " " ++ (signed_decimal r.hi ++ codes "\n"))) ≡ text_of (ParamLine (value_of v) ∷ [])
unfolding line_then text_of
param_is v r e = ap (λ v. text_of (ParamLine (value_of v) ∷ [])) (sym e)

pub param_pointer : (v : ValueClaim) → v ≡ Pointer → codes "param *\n" ≡ text_of (ParamLine (value_of v) ∷ [])
unfolding line_then text_of
param_pointer v e = ap (λ v. text_of (ParamLine (value_of v) ∷ [])) (sym e)

pub param_void : (v : ValueClaim) → v ≡ Void → codes "param void\n" ≡ text_of (ParamLine (value_of v) ∷ [])
unfolding line_then text_of
param_void v e = ap (λ v. text_of (ParamLine (value_of v) ∷ [])) (sym e)

pub result_is : (v : ValueClaim) (r : Range) → v ≡ Ints r → codes "result " ++ (signed_decimal r.lo ++ (codes " " ++ (signed_decimal r.hi ++ codes "\n"))) ≡ text_of (ResultLine (value_of v) ∷ [])
unfolding line_then text_of
result_is v r e = ap (λ v. text_of (ResultLine (value_of v) ∷ [])) (sym e)

pub result_pointer : (v : ValueClaim) → v ≡ Pointer → codes "result *\n" ≡ text_of (ResultLine (value_of v) ∷ [])
unfolding line_then text_of
result_pointer v e = ap (λ v. text_of (ResultLine (value_of v) ∷ [])) (sym e)

pub result_void : (v : ValueClaim) → v ≡ Void → codes "result void\n" ≡ text_of (ResultLine (value_of v) ∷ [])
unfolding line_then text_of
result_void v e = ap (λ v. text_of (ResultLine (value_of v) ∷ [])) (sym e)

head_with : LoopHead → Rank → Line
head_with h r = LoopLine (record { depth = h.depth; rank = r; turns = h.turns })

pub up_is : (h : LoopHead) (var : ℕ) (bound : ℤ) → h.rank ≡ rank.Up var bound
    → codes "loop " ++ (decimal h.depth ++ (codes " up " ++ (decimal var ++ (codes " " ++ (signed_decimal bound ++ (codes " turns " ++ (decimal h.turns ++ codes "\n"))))))) ≡ text_of (LoopLine h ∷ [])
unfolding line_then text_of head_with
up_is h var bound e = ap (λ r. text_of (head_with h r ∷ [])) (sym e)

pub down_is : (h : LoopHead) (var : ℕ) (bound : ℤ) → h.rank ≡ rank.Down var bound
    → codes "loop " ++ (decimal h.depth ++ (codes " down " ++ (decimal var ++ (codes " " ++ (signed_decimal bound ++ (codes " turns " ++ (decimal h.turns ++ codes "\n"))))))) ≡ text_of (LoopLine h ∷ [])
unfolding line_then text_of head_with
down_is h var bound e = ap (λ r. text_of (head_with h r ∷ [])) (sym e)

pub one_is : (h : LoopHead) → h.rank ≡ rank.One → codes "loop " ++ (decimal h.depth ++ (codes " one turns " ++ (decimal h.turns ++ codes "\n"))) ≡ text_of (LoopLine h ∷ [])
unfolding line_then text_of head_with
one_is h e = ap (λ r. text_of (head_with h r ∷ [])) (sym e)

pub task_is : (h : LoopHead) → h.rank ≡ rank.Task → codes "task steps " ++ (decimal h.turns ++ codes "\n") ≡ text_of (LoopLine h ∷ [])
unfolding line_then text_of head_with
task_is h e = ap (λ r. text_of (head_with h r ∷ [])) (sym e)

-- ---- several lines

pub loop_text : (l : LoopClaim) → text_of (loop_lines (loop_of l)) ≡ text_of (LoopLine (loop_head (loop_of l)) ∷ []) ++ text_of (map VarLine l.inv)
loop_text l = text_of-append (LoopLine (loop_head (loop_of l)) ∷ []) (map VarLine l.inv)

pub params_text : (params : List ValueClaim) → flat_map (λ v. text_of (ParamLine (value_of v) ∷ [])) params ≡ text_of (map ParamLine (map value_of params))
unfolding text_of
params_text [] = none
  where
    none : [] ≡ text_of []
    none = refl
params_text (v ∷ params) = ap (λ t. text_of (ParamLine (value_of v) ∷ []) ++ t) (params_text params) ∙ sym (text_of-append (ParamLine (value_of v) ∷ []) (map ParamLine (map value_of params)))

pub loops_text : (loops : List LoopClaim) → flat_map (λ l. text_of (loop_lines (loop_of l))) loops ≡ text_of (flat_map loop_lines (map loop_of loops))
unfolding text_of
loops_text [] = none
  where
    none : [] ≡ text_of []
    none = refl
loops_text (l ∷ loops) = ap (λ t. text_of (loop_lines (loop_of l)) ++ t) (loops_text loops) ∙ sym (text_of-append (loop_lines (loop_of l)) (flat_map loop_lines (map loop_of loops)))

-- the four parts of a function's text
abbrev pub head_text : FuncClaim → List ℕ
head_text f = text_of (FuncLine (func_head (func_of f)) ∷ [])

abbrev pub params_part : FuncClaim → List ℕ
params_part f = flat_map (λ v. text_of (ParamLine (value_of v) ∷ [])) f.params

abbrev pub result_text : FuncClaim → List ℕ
result_text f = text_of (ResultLine (value_of f.result) ∷ [])

abbrev pub loops_part : FuncClaim → List ℕ
loops_part f = flat_map (λ l. text_of (loop_lines (loop_of l))) f.loops

pub func_parts : (f : FuncClaim) → func_text (func_of f) ≡ head_text f ++ (params_part f ++ (result_text f ++ loops_part f))
unfolding func_text
func_parts f =
    let params : List Line = map ParamLine (map value_of f.params) in
    let loops : List Line = flat_map loop_lines (map loop_of f.loops) in
    text_of-append (FuncLine (func_head (func_of f)) ∷ []) (params ++ (ResultLine (value_of f.result) ∷ loops))
    ∙ ap (λ t. head_text f ++ t) (
    text_of-append params (ResultLine (value_of f.result) ∷ loops)
    ∙ ap (λ t. text_of params ++ t) (text_of-append (ResultLine (value_of f.result) ∷ []) loops)
    ∙ ap (λ t. t ++ (result_text f ++ text_of loops)) (sym (params_text f.params))
    ∙ ap (λ t. params_part f ++ (result_text f ++ t)) (sym (loops_text f.loops)))

-- the same four parts, grouped from the left
pub grouped : (a b c d : List ℕ) (whole : List ℕ) → whole ≡ a ++ (b ++ (c ++ d)) → (whole ≡ (a ++ b) ++ (c ++ d)) × (whole ≡ ((a ++ b) ++ c) ++ d)
grouped a b c d whole e = (e ∙ sym (append_assoc a b (c ++ d)), e ∙ sym (append_assoc a b (c ++ d)) ∙ sym (append_assoc (a ++ b) c d))

funcs_text : (funcs : List FuncClaim) → flat_map (λ f. func_text (func_of f)) funcs ≡ text_of (flat_map func_lines (map func_of funcs))
unfolding func_text text_of
funcs_text [] = none
  where
    none : [] ≡ text_of []
    none = refl
funcs_text (f ∷ funcs) = ap (λ t. text_of (func_lines (func_of f)) ++ t) (funcs_text funcs) ∙ sym (text_of-append (func_lines (func_of f)) (flat_map func_lines (map func_of funcs)))

-- the four parts of a certificate's text
abbrev pub funcs_part : Cert → List ℕ
funcs_part c = flat_map (λ f. func_text (func_of f)) c.funcs

abbrev pub total_text : Cert → List ℕ
total_text c = text_of (TotalLine c.total ∷ [])

first_is : text_of (FirstLine ∷ []) ≡ codes "p10cert 1\n"
unfolding text_of line_then
first_is = refl

last_is : text_of (LastLine ∷ []) ≡ codes "end\n"
unfolding text_of line_then
last_is = refl

pub certificate_parts : (c : Cert) → certificate_text (claims_of c) ≡ codes "p10cert 1\n" ++ (funcs_part c ++ (total_text c ++ codes "end\n"))
unfolding certificate_text
certificate_parts c =
    let funcs : List Line = flat_map func_lines (map func_of c.funcs) in
    text_of-append (FirstLine ∷ []) (funcs ++ (TotalLine c.total ∷ LastLine ∷ []))
    ∙ ap (λ t. t ++ text_of (funcs ++ (TotalLine c.total ∷ LastLine ∷ []))) first_is
    ∙ ap (λ t. codes "p10cert 1\n" ++ t) (
    text_of-append funcs (TotalLine c.total ∷ LastLine ∷ [])
    ∙ ap (λ t. text_of funcs ++ t) (text_of-append (TotalLine c.total ∷ []) (LastLine ∷ []) ∙ ap (λ t. total_text c ++ t) last_is)
    ∙ ap (λ t. t ++ (total_text c ++ codes "end\n")) (sym (funcs_text c.funcs)))
