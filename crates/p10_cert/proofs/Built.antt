-- What is built from the lines of a function is the function.
use Rattle.std.proofs.Common.{◌≡◌, ℕ, Bool, false, List, [], ◌∷◌, ◌++◌, map, Option, Some, None, option_map, refl, sym, ap, ◌∙◌, append_assoc, append-nil}
use Rattle.std.proofs.lemmas.Option.{some_pair_parts, none-some}
use Rattle.std.specs.List.{AllByRecursion, flat_map}
use Rattle.p10_cert.specs.Claims.{Value, Var, Loop, Func}
use Rattle.p10_cert.specs.Lines.{Line, FuncLine, ParamLine, ResultLine, LoopLine, VarLine, text_of, IsLine}
use Rattle.p10_cert.specs.Certificate.{loop_head, loop_lines, func_head}
use Rattle.p10_cert.specs.Statements.{Entry, digest_lines, inner_lines, entry_lines, entry_text, IsEntry}
use Rattle.p10_cert.specs.private.Reading.{line_at}
use Rattle.p10_cert.specs.private.Building.{Part, bare_loop, with_var, closed, build, build_all, finish, no_part}
use Rattle.p10_cert.proofs.LineAgain.{is_body, line_again}
use Rattle.p10_cert.proofs.LineTexts.{no_line}
use Rattle.p10_cert.proofs.Runs.{all_append, entry_good}

-- ---- lines after lines

build_all-append : (p : Part) (xs ys : List Line) → build_all p (xs ++ ys) ≡ build_all (build_all p xs) ys
build_all-append p [] ys = refl
build_all-append p (l ∷ xs) ys = build_all-append (build p l) xs ys

with_params : Part → List Value → Part
with_params p params = record p { params = params }

params_built : (p : Part) (params : List Value) → build_all p (map ParamLine params) ≡ with_params p (p.params ++ params)
unfolding with_params
params_built p [] = ap (with_params p) (sym (append-nil p.params))
params_built p (v ∷ params) = params_built (build p (ParamLine v)) params ∙ ap (with_params p) (append_assoc p.params (v ∷ []) params)

loop_with : Loop → List Var → Loop
loop_with l vars = record { depth = l.depth; rank = l.rank; turns = l.turns; vars = vars }

with_last : Part → List Loop → Loop → Part
with_last p loops l = record p { loops = loops; last = Some l }

vars_built : (p : Part) (loops : List Loop) (l : Loop) (vars : List Var) → build_all (with_last p loops l) (map VarLine vars) ≡ with_last p loops (loop_with l (l.vars ++ vars))
unfolding with_last loop_with
vars_built p loops l [] = ap (λ vars. with_last p loops (loop_with l vars)) (sym (append-nil l.vars))
vars_built p loops l (v ∷ vars) = vars_built p loops (with_var v l) vars ∙ ap (λ vars. with_last p loops (loop_with l vars)) (append_assoc l.vars (v ∷ []) vars)

with_loops : Func → List Loop → Func
with_loops f loops = record f { loops = loops }

loops_built : (p : Part) (loops : List Loop) → finish (build_all p (flat_map loop_lines loops)) ≡ with_loops (finish p) (closed p.loops p.last ++ loops)
unfolding with_loops loop_with with_last
loops_built p [] = ap (with_loops (finish p)) (sym (append-nil (closed p.loops p.last)))
loops_built p (l ∷ loops) =
    let before : List Loop = closed p.loops p.last in
    ap finish (build_all-append p (loop_lines l) (flat_map loop_lines loops))
    ∙ ap (λ q. finish (build_all q (flat_map loop_lines loops))) (one p before l)
    ∙ loops_built (with_last p before l) loops
    ∙ last p before l loops
  where
    one : (p : Part) (before : List Loop) (l : Loop) → build_all (with_last p before (bare_loop (loop_head l))) (map VarLine l.vars) ≡ with_last p before l
    one p before l = vars_built p before (bare_loop (loop_head l)) l.vars

    last : (p : Part) (before : List Loop) (l : Loop) (loops : List Loop) → with_loops (finish (with_last p before l)) ((before ++ l ∷ []) ++ loops) ≡ with_loops (finish p) (before ++ (l ∷ loops))
    last p before l loops = ap (with_loops (finish p)) (append_assoc before (l ∷ []) loops)

with_digest : Part → Option (List ℕ) → Part
with_digest p digest = record p { digest = digest }

-- after the first line of a function
begun : Func → Part
begun f = build no_part (FuncLine (func_head f))

seal_built : (f : Func) (digest : Option (List ℕ)) → build_all (begun f) (digest_lines digest) ≡ with_digest (begun f) digest
unfolding with_digest begun
seal_built f None = refl
seal_built f (Some d) = refl

-- what is built from the lines of a function
pub built : (e : Entry) → finish (build_all no_part (entry_lines e)) ≡ e.func
unfolding with_params with_loops with_digest begun
built e =
    let f : Func = e.func in
    let start : Part = with_digest (begun f) e.digest in
    let rest : List Line = ResultLine f.result ∷ flat_map loop_lines f.loops in
    let read : Part = build (with_params start f.params) (ResultLine f.result) in
    ap finish (build_all-append (begun f) (digest_lines e.digest) (inner_lines f) ∙ ap (λ q. build_all q (inner_lines f)) (seal_built f e.digest) ∙ build_all-append start (map ParamLine f.params) rest)
    ∙ ap (λ q. finish (build_all q rest)) (params_built start f.params) ∙ loops_built read f.loops

-- ---- the digest is that of the second line

vars_keep : (p : Part) (vars : List Var) → (build_all p (map VarLine vars)).digest ≡ p.digest
vars_keep p [] = refl
vars_keep p (v ∷ vars) = vars_keep (build p (VarLine v)) vars

loops_keep : (p : Part) (loops : List Loop) → (build_all p (flat_map loop_lines loops)).digest ≡ p.digest
loops_keep p [] = refl
loops_keep p (l ∷ loops) =
    ap (λ (q : Part). q.digest) (build_all-append p (loop_lines l) (flat_map loop_lines loops))
    ∙ loops_keep (build_all p (loop_lines l)) loops
    ∙ vars_keep (build p (LoopLine (loop_head l))) l.vars

params_keep : (p : Part) (params : List Value) (rest : List Line) → ((q : Part) → (build_all q rest).digest ≡ q.digest) → (build_all p (map ParamLine params ++ rest)).digest ≡ p.digest
params_keep p [] rest keep = keep p
params_keep p (v ∷ params) rest keep = params_keep (build p (ParamLine v)) params rest keep

pub digest_built : (e : Entry) → (build_all no_part (entry_lines e)).digest ≡ e.digest
unfolding with_digest begun
digest_built e =
    let f : Func = e.func in
    ap (λ (q : Part). q.digest) (build_all-append (begun f) (digest_lines e.digest) (inner_lines f) ∙ ap (λ q. build_all q (inner_lines f)) (seal_built f e.digest))
    ∙ params_keep (with_digest (begun f) e.digest) f.params (ResultLine f.result ∷ flat_map loop_lines f.loops) (λ q. loops_keep (build q (ResultLine f.result)) f.loops)

-- ---- line by line

-- lines that are none of a section
abbrev pub IsPlainLine : Line → Type 0
IsPlainLine l = is_body l ≡ false

-- what is left of the lines of a function, and what it will come to
pub record IsLeft (p whole : Part) (text : List ℕ) : Type 0 where
  pub lines : List Line
  pub good : AllByRecursion IsLine lines
  pub plain : AllByRecursion IsPlainLine lines
  pub parts : text ≡ text_of lines
  pub comes : build_all p lines ≡ whole

pub entry_plain : (e : Entry) → AllByRecursion IsPlainLine (entry_lines e)
entry_plain e =
    let f : Func = e.func in
    (refl, all_append IsPlainLine (digest_lines e.digest) (inner_lines f) (digest_plain e.digest) (all_append IsPlainLine (map ParamLine f.params) (ResultLine f.result ∷ flat_map loop_lines f.loops) (params_plain f.params) (refl, loops_plain f.loops)))
  where
    digest_plain : (digest : Option (List ℕ)) → AllByRecursion IsPlainLine (digest_lines digest)
    digest_plain None = tt
    digest_plain (Some d) = (refl, tt)

    params_plain : (params : List Value) → AllByRecursion IsPlainLine (map ParamLine params)
    params_plain [] = tt
    params_plain (v ∷ params) = (refl, params_plain params)

    vars_plain : (vars : List Var) → AllByRecursion IsPlainLine (map VarLine vars)
    vars_plain [] = tt
    vars_plain (v ∷ vars) = (refl, vars_plain vars)

    loops_plain : (loops : List Loop) → AllByRecursion IsPlainLine (flat_map loop_lines loops)
    loops_plain [] = tt
    loops_plain (l ∷ loops) = (refl, all_append IsPlainLine (map VarLine l.vars) (flat_map loop_lines loops) (vars_plain l.vars) (loops_plain loops))

pub left_first : (e : Entry) (sealed : Bool) (text : List ℕ) (p : Part) → IsEntry sealed e → text ≡ entry_text e → p ≡ no_part → IsLeft p (build_all no_part (entry_lines e)) text
unfolding entry_text
left_first e sealed text p good parts start = record { lines = entry_lines e; good = entry_good sealed e good; plain = entry_plain e; parts = parts; comes = ap (λ p. build_all p (entry_lines e)) start }

pub left_more : (p q whole : Part) (text after : List ℕ) (line : Line) → Some (line, after) ≡ line_at text → q ≡ build p line → IsLeft p whole text → IsLeft q whole after
unfolding text_of
left_more p q whole text after line e is left = more left.lines left.good left.plain left.parts left.comes
  where
    more : (lines : List Line) → AllByRecursion IsLine lines → AllByRecursion IsPlainLine lines → text ≡ text_of lines → build_all p lines ≡ whole → IsLeft q whole after
    more [] good plain parts comes = absurd (none-some _ (sym no_line ∙ ap line_at (sym parts) ∙ sym e))
    more (l ∷ lines) good plain parts comes =
        let same = some_pair_parts line l after (text_of lines) (e ∙ ap line_at parts ∙ line_again l (text_of lines) good.0 plain.0) in
        record { lines = lines; good = good.1; plain = plain.1; parts = same.1; comes = ap (λ p. build_all p lines) (is ∙ ap (build p) same.0) ∙ comes }

pub left_none : (p whole : Part) (text : List ℕ) → None ≡ line_at text → IsLeft p whole text → p ≡ whole
unfolding text_of
left_none p whole text e left = none left.lines left.good left.plain left.parts left.comes
  where
    none : (lines : List Line) → AllByRecursion IsLine lines → AllByRecursion IsPlainLine lines → text ≡ text_of lines → build_all p lines ≡ whole → p ≡ whole
    none [] good plain parts comes = comes
    none (l ∷ lines) good plain parts comes = absurd (none-some _ (e ∙ ap line_at parts ∙ line_again l (text_of lines) good.0 plain.0))

-- ---- small facts

-- what isn't there gives nothing
pub mapped_none : {A B : Type 0} (o : Option A) (g : A → B) (y : Option B) → ((x : A) → o ≡ Some x → ⊥) → option_map g o ≡ y → None ≡ y
mapped_none None g y never e = e
mapped_none (Some x) g y never e = absurd (never x refl)
