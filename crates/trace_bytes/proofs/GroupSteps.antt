-- A number one byte on, by places. Assumes nothing.
use Rattle.std.proofs.Common.{◌≡◌, ℕ, zero, suc, ◌+◌, ◌-◌, ◌*◌, ◌^◌, ◌<◌, ◌≤◌, List, length, get_or, drop, Ok, Err, Result, sym, refl, ap, ◌∙◌, mul_assoc, mul-le-mul_left, pow-suc, mul-add, arith, lit≤, le-ltb}
use Rattle.std.proofs.lemmas.List.{drop_more}
use Rattle.trace.specs.Text.{and_then}
use Rattle.trace.specs.declared.fault.Cause.{Cause}
use Rattle.trace_bytes.specs.Groups.{groups}

-- what so many groups hold
pub room_most : (k : ℕ) → k ≤ 3 → 128 ^ k ≤ 2097152
room_most zero h = lit≤ tt
room_most (suc zero) h = lit≤ tt
room_most (suc (suc zero)) h = lit≤ tt
room_most (suc (suc (suc zero))) h = lit≤ tt
room_most (suc (suc (suc (suc k)))) h = absurd (omega arith)

-- the upper groups under a lower one
abbrev pub raised : ℕ → Result (ℕ × ℕ) Cause → Result (ℕ × ℕ) Cause
raised low r = and_then r (λ v. Ok (low + 128 * v.0, v.1 + 1))

pub more_bytes : (more : ℕ) (xs : List ℕ) (at : ℕ) → (more ≡ 0 → ⊥) → at < length xs → 128 ≤ get_or xs at 0 → groups more (drop at xs) ≡ raised (get_or xs at 0 - 128) (groups (more - 1) (drop (at + 1) xs))
more_bytes zero xs at z h b = absurd (z refl)
more_bytes (suc more) xs at z h b = let e : suc more - 1 ≡ more = omega arith in rw (e, drop_more xs at 0 h, le-ltb (get_or xs at 0) 128 b)

-- the upper groups r above the t groups read so far, whose value is low, and in which s numbers fit
abbrev pub above : ℕ → ℕ → ℕ → Result (ℕ × ℕ) Cause → Result (ℕ × ℕ) Cause
above low s t r = and_then r (λ v. Ok (low + s * v.0, t + v.1))

above_raised : (low s t b : ℕ) (r : Result (ℕ × ℕ) Cause) → above low s t (raised b r) ≡ above (low + s * b) (s * 128) (t + 1) r
above_raised low s t b (Ok v) =
    let e : low + s * (b + 128 * v.0) ≡ low + s * b + s * 128 * v.0 = omega (arith, mul-add s b (128 * v.0), mul_assoc s 128 v.0) in
    let n : t + (v.1 + 1) ≡ t + 1 + v.1 = omega arith in
    ap (λ x. Ok (x, t + (v.1 + 1))) e ∙ ap (λ x. Ok (low + s * b + s * 128 * v.0, x)) n
above_raised low s t b (Err c) = refl

-- What is known of a number that begins at `at` after t groups of it, whose value is low, where the next group stands at `next`.
pub record Read (xs : List ℕ) (at low s t next : ℕ) : Type 0 where
  pub few : t ≤ 4
  pub place : next ≡ at + t
  pub room : s ≡ 128 ^ t
  pub small : low < s
  pub same : groups 4 (drop at xs) ≡ above low s t (groups (4 - t) (drop next xs))

-- what one group more makes of it fits
pub room_left : (t s b : ℕ) → t < 4 → s ≡ 128 ^ t → b ≤ 127 → (s * b ≤ s * 127) × (s ≤ 2097152)
room_left t s b h e k = (mul-le-mul_left s k, rw e (room_most t (omega arith)))

pub read_more : (xs : List ℕ) (at low s t next : ℕ) → Read xs at low s t next → t < 4 → next < length xs → get_or xs next 0 < 256 → 128 ≤ get_or xs next 0 → Read xs at (low + s * (get_or xs next 0 - 128)) (s * 128) (t + 1) (next + 1)
read_more xs at low s t next r lt h k f =
    let b = get_or xs next 0 in
    let m = room_left t s (b - 128) lt r.room (omega arith) in
    let z : 4 - t - 1 ≡ 4 - (t + 1) = omega arith in
    record {
      few = omega arith;
      place = omega (arith, r.place);
      room = ap (λ x. x * 128) r.room ∙ sym (pow-suc 128 t) ∙ ap (λ x. 128 ^ x) (omega arith);
      small = omega (arith, m.0, r.small);
      same = r.same ∙ ap (above low s t) (more_bytes (4 - t) xs next (λ e. omega arith) h f) ∙ above_raised low s t (b - 128) _ ∙ ap (λ x. above (low + s * (b - 128)) (s * 128) (t + 1) (groups x (drop (next + 1) xs))) z;
    }
