-- The words of a line, and the tokens that they are. Assumes nothing.
use Rattle.std.specs.Prelude.{ℕ, ◌+◌, Bool, true, false, cond, ◌&&◌, List, [], ◌∷◌, length, drop, nat_le}
use Rattle.trace.specs.Pieces.{pieces}
use Rattle.trace.specs.Ranges.{from_to}
use Rattle.trace.specs.declared.token.Token.{Token}
use Rattle.trace.specs.declared.token.Token.TheVariants.{Word, Digits, End}
use Rattle.trace.specs.declared.token.Tokens.{Tokens}

-- words stand between spaces
abbrev pub words : List ℕ → List (List ℕ)
words line = pieces 32 line

-- The words from a place on, at which one begins; none where the place is past the line.
abbrev pub words_from : List ℕ → ℕ → List (List ℕ)
words_from line at = cond (nat_le at (length line)) (words (drop at line)) []

-- the words that tokens have still to give
abbrev pub words_left : Tokens → List (List ℕ)
words_left t = words_from t.line.now t.at

-- each byte is one of `0` to `9`
abbrev pub all_digits : List ℕ → Bool
all_digits [] = true
all_digits (b ∷ bs) = from_to 48 57 b && all_digits bs

-- digits, and at least one
abbrev pub is_digits : List ℕ → Bool
is_digits [] = false
is_digits (b ∷ bs) = all_digits (b ∷ bs)

-- a token by its bytes and its place in the line
pub data Tok : Type 0 where
  a_word : List ℕ → ℕ → Tok
  digits : List ℕ → ℕ → Tok
  no_more : Tok

-- what a token of the code is
abbrev pub shown : Token → Tok
shown (Word s p) = a_word s.now p
shown (Digits s p) = digits s.now p
shown End = no_more

-- the token of a word at place p
abbrev pub token_of : List ℕ → ℕ → Tok
token_of w p = cond (is_digits w) (digits w p) (a_word w p)

-- the first of the words that begin at place p
abbrev pub first_token : List (List ℕ) → ℕ → Tok
first_token [] p = no_more
first_token (w ∷ ws) p = token_of w p

-- where the second of them begins, past the space after the first
abbrev pub second_place : List (List ℕ) → ℕ → ℕ
second_place [] p = p
second_place (w ∷ ws) p = p + length w + 1
