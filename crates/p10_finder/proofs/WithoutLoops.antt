-- Where statements have no loop, none is found in them.
use Rattle.std.proofs.Common.{◌≡◌, ℕ, suc, true, false, Option, None, refl, ◌∙◌}
use Rattle.std.specs.Prelude.{if◌then◌else◌}
use Rattle.std.proofs.lemmas.Bool.{or_parts}
use Rattle.p10_core.specs.Typed.{PlainLabels, PlainStatement, statement, PlainStatementForm, block, if_then, if_else, loop, switch, PlainStatements, no_statements, more_statements}
use Rattle.p10_absx.specs.Environments.{Environment, hull_reached}
use Rattle.p10_pass.specs.Passing.{is_labelled}
use Rattle.p10_finder.specs.Loops.{Search, LoopsFound, known_after_statement, known_where_value, known_after_value, loops_in, loops_in_form, loops_in_all, loops_in_switch, loops_in_cases, loops_from}
use Rattle.p10_finder.specs.private.Looping.{has_loop, has_loop_form, have_loop}

module _ (s : Search) (depth : ℕ) where
  mutual
    pub none_in : (x : PlainStatement) (env : Option Environment) (found : LoopsFound) → has_loop x ≡ false → loops_in s depth x env found ≡ found
    none_in (statement at form) env found h = none_in_form form env found h

    none_in_form : (form : PlainStatementForm) (env : Option Environment) (found : LoopsFound) → has_loop_form form ≡ false → loops_in_form s depth form env found ≡ found
    none_in_form (block xs) env found h = none_in_all xs env found h
    none_in_form (if_then v x) env found h = none_in x (known_where_value s v true env) found h
    none_in_form (if_else v x y) env found h =
        let p = or_parts (has_loop x) (has_loop y) h in
        none_in y (known_where_value s v false env) (loops_in s depth x (known_where_value s v true env) found) p.1 ∙ none_in x (known_where_value s v true env) found p.0
    none_in_form (loop head first tested third body) env found h = absurd cc
    none_in_form (switch keyword v labels body) env found h = none_in_switch labels body (known_after_value s v env) found h
    none_in_form form env found h = refl

    pub none_in_all : (xs : PlainStatements) (env : Option Environment) (found : LoopsFound) → have_loop xs ≡ false → loops_in_all s depth xs env found ≡ found
    none_in_all no_statements env found h = refl
    none_in_all (more_statements x rest) env found h =
        let p = or_parts (has_loop x) (have_loop rest) h in
        let next : LoopsFound = loops_in s depth x env found in
        none_in_all rest (known_after_statement s next x env) next p.1 ∙ none_in x env found p.0

    none_in_switch : (labels : PlainLabels) (x : PlainStatement) (env : Option Environment) (found : LoopsFound) → has_loop x ≡ false → loops_in_switch s depth labels x env found ≡ found
    none_in_switch labels (statement at form) env found h = none_in_cases labels form env found (loops_in_form s depth form None found) h (none_in_form form None found h)

    none_in_cases : (labels : PlainLabels) (form : PlainStatementForm) (env : Option Environment) (found other : LoopsFound) → has_loop_form form ≡ false → other ≡ found → loops_in_cases s depth labels form env found other ≡ found
    none_in_cases labels (block xs) env found other h same = none_in_from labels 0 xs env None found h
    none_in_cases labels form env found other h same = same

    none_in_from : (labels : PlainLabels) (k : ℕ) (xs : PlainStatements) (env before : Option Environment) (found : LoopsFound) → have_loop xs ≡ false → loops_from s depth labels k xs env before found ≡ found
    none_in_from labels k no_statements env before found h = refl
    none_in_from labels k (more_statements x rest) env before found h =
        let p = or_parts (has_loop x) (have_loop rest) h in
        let entered : Option Environment = if is_labelled k labels then hull_reached before env else before in
        let next : LoopsFound = loops_in s depth x entered found in
        none_in_from labels (suc k) rest env (known_after_statement s next x entered) next p.1 ∙ none_in x entered found p.0
