-- The first piece, and what is left past it. Assumes nothing.
use Rattle.std.proofs.Common.{◌≡◌, ℕ, suc, ◌+◌, ◌-◌, ◌<◌, ◌≤◌, Bool, true, false, cond, eqb, List, [], ◌∷◌, length, take, drop, refl, ap, arith, length-drop}
use Rattle.std.proofs.lemmas.List.{drop-drop}
use Rattle.trace.specs.Pieces.{onto, pieces, first}

pub first_onto : (b : ℕ) (ps : List (List ℕ)) → first (onto b ps) ≡ b ∷ first ps
first_onto b [] = refl
first_onto b (p ∷ ps) = refl

front_if : (t : Bool) (b : ℕ) (bs : List ℕ) (ps : List (List ℕ)) → take (length (first ps)) bs ≡ first ps → take (length (first (cond t ([] ∷ ps) (onto b ps)))) (b ∷ bs) ≡ first (cond t ([] ∷ ps) (onto b ps))
front_if true b bs ps h = refl
front_if false b bs ps h = rw (first_onto b ps) (ap (λ l. b ∷ l) h)

-- the first piece is the front of the bytes
pub front : (sep : ℕ) (bs : List ℕ) → take (length (first (pieces sep bs))) bs ≡ first (pieces sep bs)
front sep [] = refl
front sep (b ∷ bs) = front_if (eqb b sep) b bs (pieces sep bs) (front sep bs)

pub part_is : (sep : ℕ) (xs : List ℕ) (i e : ℕ) → e ≡ i + length (first (pieces sep (drop i xs))) → take (e - i) (drop i xs) ≡ first (pieces sep (drop i xs))
part_is sep xs i e h = let k : e - i ≡ length (first (pieces sep (drop i xs))) = omega arith in rw k (front sep (drop i xs))

some_if : (t : Bool) (sep b : ℕ) (bs : List ℕ) → (length (first (pieces sep bs)) < length bs → pieces sep bs ≡ first (pieces sep bs) ∷ pieces sep (drop (suc (length (first (pieces sep bs)))) bs)) → length (first (cond t ([] ∷ pieces sep bs) (onto b (pieces sep bs)))) < suc (length bs) → cond t ([] ∷ pieces sep bs) (onto b (pieces sep bs)) ≡ first (cond t ([] ∷ pieces sep bs) (onto b (pieces sep bs))) ∷ pieces sep (drop (suc (length (first (cond t ([] ∷ pieces sep bs) (onto b (pieces sep bs)))))) (b ∷ bs))
some_if true sep b bs more h = refl
some_if false sep b bs more h =
    let k : length (first (pieces sep bs)) < length bs = omega (arith, ap length (first_onto b (pieces sep bs))) in
    rw (first_onto b (pieces sep bs)) (ap (onto b) (more k))

-- a separator stands after the first piece, and the others past it
pub cut_some : (sep : ℕ) (bs : List ℕ) → length (first (pieces sep bs)) < length bs → pieces sep bs ≡ first (pieces sep bs) ∷ pieces sep (drop (suc (length (first (pieces sep bs)))) bs)
cut_some sep [] h = absurd (omega arith)
cut_some sep (b ∷ bs) h = some_if (eqb b sep) sep b bs (cut_some sep bs) h

none_if : (t : Bool) (sep b : ℕ) (bs : List ℕ) → (length bs ≤ length (first (pieces sep bs)) → pieces sep bs ≡ first (pieces sep bs) ∷ []) → suc (length bs) ≤ length (first (cond t ([] ∷ pieces sep bs) (onto b (pieces sep bs)))) → cond t ([] ∷ pieces sep bs) (onto b (pieces sep bs)) ≡ first (cond t ([] ∷ pieces sep bs) (onto b (pieces sep bs))) ∷ []
none_if true sep b bs more h = absurd (omega arith)
none_if false sep b bs more h =
    let k : length bs ≤ length (first (pieces sep bs)) = omega (arith, ap length (first_onto b (pieces sep bs))) in
    rw (first_onto b (pieces sep bs)) (ap (onto b) (more k))

-- none stands after it, and it is the last
pub cut_none : (sep : ℕ) (bs : List ℕ) → length bs ≤ length (first (pieces sep bs)) → pieces sep bs ≡ first (pieces sep bs) ∷ []
cut_none sep [] h = refl
cut_none sep (b ∷ bs) h = none_if (eqb b sep) sep b bs (cut_none sep bs) h

-- the same by places: the first piece ends at e, before the end of the bytes
pub next_some : (sep : ℕ) (xs : List ℕ) (i e : ℕ) → e ≡ i + length (first (pieces sep (drop i xs))) → e < length xs → pieces sep (drop i xs) ≡ first (pieces sep (drop i xs)) ∷ pieces sep (drop (e + 1) xs)
next_some sep xs i e h l =
    let n : e + 1 ≡ i + suc (length (first (pieces sep (drop i xs)))) = omega arith in
    rw (n, ← drop-drop (suc (length (first (pieces sep (drop i xs))))) i xs) (cut_some sep (drop i xs) (omega (arith, length-drop i xs)))

-- or with them
pub next_none : (sep : ℕ) (xs : List ℕ) (i e : ℕ) → e ≡ i + length (first (pieces sep (drop i xs))) → length xs ≤ e → pieces sep (drop i xs) ≡ first (pieces sep (drop i xs)) ∷ []
next_none sep xs i e h l = cut_none sep (drop i xs) (omega (arith, length-drop i xs))
