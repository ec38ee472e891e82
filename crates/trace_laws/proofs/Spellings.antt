-- A number is read where bytes spell it, and nowhere else. Assumes nothing.
use Rattle.std.proofs.Common.{◌≡◌, ℕ, zero, suc, ◌+◌, ◌-◌, ◌*◌, ◌<◌, ◌≤◌, Bool, true, false, cond, ltb, leb, List, [], ◌∷◌, ◌++◌, length, take, Ok, Err, Result, refl, subst, add-one, arith}
use Rattle.std.proofs.lemmas.Bool.{ltb-true, ltb-false, leb-true, lt-ltb, le-ltb, le-leb}
use Rattle.trace.specs.Sources.{Every}
use Rattle.trace.specs.Text.{and_then}
use Rattle.trace.specs.declared.fault.Cause.{Cause}
use Rattle.trace.specs.declared.fault.Cause.TheVariants.{TooLarge}
use Rattle.trace_bytes.specs.Groups.{groups}
use Rattle.trace_laws.specs.Spelling.{Spells, last, lower, SpellingsRead, OnlySpellingsRead}

-- the largest number that is read where at most so many bytes follow the first
abbrev pub most : ℕ → ℕ
most zero = 15
most (suc more) = 127 + 128 * most more

-- a spelling is read
last_read : (more : ℕ) (g : ℕ) (rest : List ℕ) → g < 128 → g ≤ most more → groups more (g ∷ rest) ≡ Ok (g, 1)
last_read zero g rest h l = rw (le-leb g 15 l)
last_read (suc more) g rest h l = rw (lt-ltb g 128 h)

lower_read : (more g : ℕ) (bs : List ℕ) (n taken : ℕ) → groups more bs ≡ Ok (n, taken) → groups (suc more) ((128 + g) ∷ bs) ≡ Ok (g + 128 * n, suc taken)
lower_read more g bs n taken e =
    let h : 128 ≤ 128 + g = omega arith in
    let s : (128 + g) - 128 ≡ g = omega arith in
    rw (le-ltb (128 + g) 128 h, e, s, add-one)

some_byte : (bs : List ℕ) (n : ℕ) → Spells bs n → 1 ≤ length bs
some_byte _ _ (last g h) = omega arith
some_byte _ _ (lower g bs n h s) = omega arith

spells_read : (more : ℕ) (bs rest : List ℕ) (n : ℕ) → Spells bs n → length bs ≤ suc more → n ≤ most more → groups more (bs ++ rest) ≡ Ok (n, length bs)
spells_read more _ rest _ (last g h) l m = last_read more g rest h m
spells_read zero _ rest _ (lower g bs n h s) l m = absurd (omega (arith, some_byte bs n s))
spells_read (suc more) _ rest _ (lower g bs n h s) l m = lower_read more g (bs ++ rest) n (length bs) (spells_read more bs rest n s (omega arith) (omega arith))

pub spellings_read : SpellingsRead
spellings_read bs more n s l m = spells_read 4 bs more n s l m

-- what bytes begin with, read as a number where at most so many bytes follow the first
record SpeltIn (more : ℕ) (bs : List ℕ) (v : ℕ × ℕ) : Type 0 where
  spells : Spells (take v.1 bs) v.0
  there : v.1 ≤ length bs
  short : v.1 ≤ suc more
  fits : v.0 ≤ most more

-- of a byte that no other follows
one_spelt : (more b : ℕ) (bs : List ℕ) (v : ℕ × ℕ) → b < 128 → b ≤ most more → ◌≡◌ {A = Result (ℕ × ℕ) Cause} (Ok (b, 1)) (Ok v) → SpeltIn more (b ∷ bs) v
one_spelt more b bs v h l e =
    let k : (b, 1) ≡ v = cc in
    subst (SpeltIn more (b ∷ bs)) k (record { spells = last b h; there = omega arith; short = omega arith; fits = l })

-- of the last byte that may stand there
top_spelt : (t : Bool) (b : ℕ) (bs : List ℕ) (v : ℕ × ℕ) → leb b 15 ≡ t → cond t (Ok (b, 1)) (Err TooLarge) ≡ Ok v → SpeltIn 0 (b ∷ bs) v
top_spelt true b bs v h e = let l : b ≤ 15 = leb-true b 15 h in one_spelt 0 b bs v (omega arith) l e
top_spelt false b bs v h e = cc

-- of a byte that others follow
more_spelt : (more b : ℕ) (bs : List ℕ) (w v : ℕ × ℕ) → b < 256 → 128 ≤ b → SpeltIn more bs w → ◌≡◌ {A = Result (ℕ × ℕ) Cause} (Ok ((b - 128) + 128 * w.0, w.1 + 1)) (Ok v) → SpeltIn (suc more) (b ∷ bs) v
more_spelt more b bs w v h l s e =
    let k : ((b - 128) + 128 * w.0, w.1 + 1) ≡ v = cc in
    let byte : 128 + (b - 128) ≡ b = omega arith in
    let low : b - 128 < 128 = omega arith in
    let spelt : Spells (b ∷ take w.1 bs) ((b - 128) + 128 * w.0) = subst (λ x. Spells (x ∷ take w.1 bs) ((b - 128) + 128 * w.0)) byte (lower (b - 128) (take w.1 bs) w.0 low s.spells) in
    subst (SpeltIn (suc more) (b ∷ bs)) k (record { spells = rw add-one spelt; there = omega arith; short = omega arith; fits = omega arith })

step_spelt : (t : Bool) (more b : ℕ) (bs : List ℕ) (r : Result (ℕ × ℕ) Cause) (v : ℕ × ℕ) → b < 256 → ltb b 128 ≡ t → ((w : ℕ × ℕ) → r ≡ Ok w → SpeltIn more bs w) → cond t (Ok (b, 1)) (and_then r (λ w. Ok ((b - 128) + 128 * w.0, w.1 + 1))) ≡ Ok v → SpeltIn (suc more) (b ∷ bs) v
step_spelt true more b bs r v h t s e = let l : b < 128 = ltb-true b 128 t in one_spelt (suc more) b bs v l (omega arith) e
step_spelt false more b bs (Ok w) v h t s e = more_spelt more b bs w v h (ltb-false b 128 t) (s w refl) e
step_spelt false more b bs (Err c) v h t s e = cc

groups_spelt : (more : ℕ) (bs : List ℕ) (v : ℕ × ℕ) → Every (λ b. b < 256) bs → groups more bs ≡ Ok v → SpeltIn more bs v
groups_spelt zero [] v a e = cc
groups_spelt (suc more) [] v a e = cc
groups_spelt zero (b ∷ bs) v a e = top_spelt (leb b 15) b bs v refl e
groups_spelt (suc more) (b ∷ bs) v a e = step_spelt (ltb b 128) more b bs (groups more bs) v a.0 refl (λ w k. groups_spelt more bs w a.1 k) e

pub only_spellings_read : OnlySpellingsRead
only_spellings_read bs n taken a e =
    let s : SpeltIn 4 bs (n, taken) = groups_spelt 4 bs (n, taken) a e in
    record { spells = s.spells; there = s.there; short = s.short; fits = s.fits }
