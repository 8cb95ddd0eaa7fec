-- The digests of a reading's words have the size of digests.
use Rattle.std.proofs.Common.{ℕ, zero, suc, ◌<◌, List, [], ◌∷◌, ◌++◌, map, slice_index, arith}
use Rattle.std.specs.Int.{byte_at, bytes_high_first, to_be_bytes, w32}
use Rattle.std.specs.List.{AllByRecursion}
use Rattle.sha2.specs.Sha256.{digest_bytes, final_hash, initial_hash_256, sha256}
use Rattle.sha2.proofs.Facts256.{length-sha256}
use Rattle.p10_base.specs.declared.at.At.{At}
use Rattle.p10_base.specs.Words.{PlainWord}
use Rattle.p10_cert.specs.Lines.{IsByte, IsDigest}
use Rattle.p10_digests.specs.Digests.{function_places}
use Rattle.p10_digests.specs.Lines.{hashed_lines, tree_words}
use Rattle.p10_front.specs.Digests.{trees_in}
use Rattle.p10_seal.specs.Laws.{ReadingDigestsAreSized}

small_byte : (k n : ℕ) → byte_at k n < 256
small_byte zero n = omega arith
small_byte (suc k) n = omega arith

bytes_of_word : (k n : ℕ) → AllByRecursion IsByte (bytes_high_first k n)
bytes_of_word zero n = tt
bytes_of_word (suc k) n = (record { small = small_byte k n }, bytes_of_word k n)

both_all : (xs ys : List ℕ) → AllByRecursion IsByte xs → AllByRecursion IsByte ys → AllByRecursion IsByte (xs ++ ys)
both_all [] ys a b = b
both_all (x ∷ xs) ys a b = (a.0, both_all xs ys a.1 b)

bytes_of_words : (h : List ℕ) (n : ℕ) → AllByRecursion IsByte (digest_bytes h n)
unfolding digest_bytes
bytes_of_words h zero = tt
bytes_of_words h (suc n) = both_all (digest_bytes h n) (to_be_bytes w32 (slice_index h n)) (bytes_of_words h n) (bytes_of_word 4 (slice_index h n))

bytes_of_digest : (m : List ℕ) → AllByRecursion IsByte (sha256 m)
unfolding sha256
bytes_of_digest m = bytes_of_words (final_hash initial_hash_256 m) 8

is_digest : (m : List ℕ) → IsDigest (sha256 m)
is_digest m = record { size = length-sha256 m; bytes = bytes_of_digest m }

all_digests : (roots : List (List PlainWord)) (places : List At) → AllByRecursion IsDigest (map (λ at. sha256 (hashed_lines (tree_words roots at))) places)
all_digests roots [] = tt
all_digests roots (at ∷ places) = (is_digest (hashed_lines (tree_words roots at)), all_digests roots places)

pub reading_sized : ReadingDigestsAreSized
reading_sized reading = record { funcs = all_digests reading.expansion.roots (function_places (trees_in reading.units)); outside = is_digest _ }
