-- Words of digits, and the words of a line by places. Assumes nothing.
use Rattle.std.proofs.Common.{◌≡◌, ℕ, ◌+◌, ◌<◌, ◌≤◌, ◌&&◌, List, [], ◌∷◌, length, drop, refl, ap, ⊎_elim, arith}
use Rattle.std.proofs.lemmas.Bool.{le-leb, lt-leb, cases_lt}
use Rattle.std.specs.List.{list_all}
use Rattle.std.specs.Char.{is_ascii_digit}
use Rattle.trace.specs.Pieces.{pieces, first}
use Rattle.trace.specs.Ranges.{from_to}
use Rattle.trace.specs.Words.{words_from, all_digits}
use Rattle.trace.proofs.Cutting.{next_some, next_none}

-- the test of each byte
pub digits_all : (bs : List ℕ) → list_all (λ b. is_ascii_digit b) bs ≡ all_digits bs
digits_all [] = refl
digits_all (b ∷ bs) = ap (λ t. from_to 48 57 b && t) (digits_all bs)

-- the word at i ends at e
pub one_word : (xs : List ℕ) (i e : ℕ) → i ≤ length xs → e ≡ i + length (first (pieces 32 (drop i xs))) → words_from xs i ≡ first (pieces 32 (drop i xs)) ∷ words_from xs (e + 1)
one_word xs i e h p =
    ⊎_elim
    (λ l. let k : e + 1 ≤ length xs = omega arith in rw (le-leb i (length xs) h, le-leb (e + 1) (length xs) k) (next_some 32 xs i e p l))
    (λ l. let k : length xs < e + 1 = omega arith in rw (le-leb i (length xs) h, lt-leb (e + 1) (length xs) k) (next_none 32 xs i e p l))
    (cases_lt e (length xs))
