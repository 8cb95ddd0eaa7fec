-- Views stay where digests do.
use Rattle.std.proofs.Common.{◌≡◌, ◌∙◌, ℕ, zero, suc, List, [], ◌∷◌, map, Option, Some, None, refl, sym, ap}
use Rattle.std.specs.Prelude.{option_map, slice_get}
use Rattle.sha2.specs.Sha256.{sha256}
use Rattle.p10_digests.specs.Lines.{hashed_lines, tree_words}
use Rattle.p10_digests.specs.Digests.{function_places}
use Rattle.p10_front.specs.Readings.{PlainReading}
use Rattle.p10_front.specs.Digests.{trees_in, reading_digests}
use Rattle.p10_word_views.specs.Words.{lines_of_function}
use Rattle.p10_word_views.specs.Laws.{ReadingsKeepViews}

get_map : {A B : Type 0} (f : A → B) (xs : List A) (n : ℕ) → slice_get (map f xs) n ≡ option_map f (slice_get xs n)
get_map f [] n = refl
get_map f (x ∷ xs) zero = refl
get_map f (x ∷ xs) (suc n) = get_map f xs n

map_twice : {A B C : Type 0} (f : B → C) (g : A → B) (o : Option A) → option_map (λ x. f (g x)) o ≡ option_map f (option_map g o)
map_twice f g None = refl
map_twice f g (Some x) = refl

pub digest_there : (r : PlainReading) (n : ℕ) → slice_get (reading_digests r).funcs n ≡ option_map sha256 (lines_of_function r n)
digest_there r n =
    get_map (λ at. sha256 (hashed_lines (tree_words r.expansion.roots at))) (function_places (trees_in r.units)) n
    ∙ map_twice sha256 (λ at. hashed_lines (tree_words r.expansion.roots at)) (slice_get (function_places (trees_in r.units)) n)

pub readings_keep_views : ReadingsKeepViews
readings_keep_views r s q p equal tell e to n f k f_is k_is outside digests =
    equal (tell.outside (outside ∙ to.outside)) n f k
    (tell.functions n (sym (digest_there r n) ∙ digests ∙ ap (λ ds. slice_get ds n) to.digests ∙ digest_there s n)) f_is k_is
