-- The pieces of bytes that separators join. Assumes nothing.
use Rattle.std.proofs.Common.{◌≡◌, ℕ, suc, ◌+◌, ◌<◌, Bool, true, false, cond, not, ◌&&◌, eqb, List, [], ◌∷◌, ◌++◌, length, refl, ap, ◌∙◌, arith}
use Rattle.std.proofs.lemmas.Bool.{eq-eqb, eqb-true, and_parts, not-true}
use Rattle.trace.specs.Pieces.{onto, pieces}

-- there is always a piece
onto_some : (b : ℕ) (ps : List (List ℕ)) → 0 < length (onto b ps)
onto_some b [] = omega arith
onto_some b (p ∷ ps) = omega arith

some_if : (t : Bool) (b : ℕ) (ps : List (List ℕ)) → 0 < length (cond t ([] ∷ ps) (onto b ps))
some_if true b ps = omega arith
some_if false b ps = onto_some b ps

pub pieces_some : (sep : ℕ) (xs : List ℕ) → 0 < length (pieces sep xs)
pieces_some sep [] = omega arith
pieces_some sep (b ∷ xs) = some_if (eqb b sep) b (pieces sep xs)

-- the pieces before a separator, and then those after it
onto_append : (b : ℕ) (ps qs : List (List ℕ)) → 0 < length ps → onto b (ps ++ qs) ≡ onto b ps ++ qs
onto_append b [] qs h = absurd (omega arith)
onto_append b (p ∷ ps) qs h = refl

append_if : (t : Bool) (b : ℕ) (ps qs : List (List ℕ)) → 0 < length ps → cond t ([] ∷ (ps ++ qs)) (onto b (ps ++ qs)) ≡ cond t ([] ∷ ps) (onto b ps) ++ qs
append_if true b ps qs h = refl
append_if false b ps qs h = onto_append b ps qs h

pub pieces_append : (sep : ℕ) (xs ys : List ℕ) → pieces sep (xs ++ (sep ∷ ys)) ≡ pieces sep xs ++ pieces sep ys
pieces_append sep [] ys = rw (eq-eqb sep sep refl)
pieces_append sep (b ∷ xs) ys = rw (pieces_append sep xs ys) (append_if (eqb b sep) b (pieces sep xs) (pieces sep ys) (pieces_some sep xs))

-- no byte is the separator
abbrev pub lacks : ℕ → List ℕ → Bool
lacks sep [] = true
lacks sep (b ∷ bs) = not (eqb b sep) && lacks sep bs

-- then the bytes are one piece
pub pieces_lacking : (sep : ℕ) (xs : List ℕ) → lacks sep xs ≡ true → pieces sep xs ≡ xs ∷ []
pieces_lacking sep [] h = refl
pieces_lacking sep (b ∷ xs) h =
    let p = and_parts (not (eqb b sep)) (lacks sep xs) h in
    rw (not-true (eqb b sep) p.0, pieces_lacking sep xs p.1)

-- and the first piece where a separator follows
pub pieces_line : (sep : ℕ) (xs ys : List ℕ) → lacks sep xs ≡ true → pieces sep (xs ++ (sep ∷ ys)) ≡ xs ∷ pieces sep ys
pieces_line sep xs ys h = pieces_append sep xs ys ∙ ap (λ ps. ps ++ pieces sep ys) (pieces_lacking sep xs h)

-- bytes are a last piece, or a piece, a separator and more
pub data Cut (sep : ℕ) : List ℕ → Type 0 where
  last : (l : List ℕ) → lacks sep l ≡ true → Cut sep l
  then : (l more : List ℕ) → lacks sep l ≡ true → Cut sep more → Cut sep (l ++ (sep ∷ more))

cut_onto : (sep b : ℕ) (xs : List ℕ) → eqb b sep ≡ false → Cut sep xs → Cut sep (b ∷ xs)
cut_onto sep b xs e (last l h) = last (b ∷ l) (rw e h)
cut_onto sep b xs e (then l more h c) = then (b ∷ l) more (rw e h) c

cut_if : (t : Bool) (sep b : ℕ) (xs : List ℕ) → eqb b sep ≡ t → Cut sep xs → Cut sep (b ∷ xs)
cut_if true sep b xs e c = rw (eqb-true b sep e) (then [] xs refl c)
cut_if false sep b xs e c = cut_onto sep b xs e c

pub cut : (sep : ℕ) (xs : List ℕ) → Cut sep xs
cut sep [] = last [] refl
cut sep (b ∷ xs) = cut_if (eqb b sep) sep b xs refl (cut sep xs)

-- the bytes of pieces, with a separator after each
abbrev pub size : List (List ℕ) → ℕ
size [] = 0
size (p ∷ ps) = length p + 1 + size ps

size_onto : (b : ℕ) (ps : List (List ℕ)) → 0 < length ps → size (onto b ps) ≡ suc (size ps)
size_onto b [] h = absurd (omega arith)
size_onto b (p ∷ ps) h = omega arith

size_if : (t : Bool) (b n : ℕ) (ps : List (List ℕ)) → 0 < length ps → size ps ≡ n → size (cond t ([] ∷ ps) (onto b ps)) ≡ suc n
size_if true b n ps h e = omega arith
size_if false b n ps h e = omega (arith, size_onto b ps h)

pub size_pieces : (sep : ℕ) (xs : List ℕ) → size (pieces sep xs) ≡ length xs + 1
size_pieces sep [] = refl
size_pieces sep (b ∷ xs) = omega (arith, size_if (eqb b sep) b (length xs + 1) (pieces sep xs) (pieces_some sep xs) (size_pieces sep xs))
