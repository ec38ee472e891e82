-- One record of bytes by places. Assumes nothing.
use Rattle.std.proofs.Common.{◌≡◌, ℕ, zero, suc, ◌+◌, ◌<◌, List, [], ◌∷◌, length, get_or, drop, Some, Ok, Err, Result, sym, refl, ap, ◌∙◌, subst, arith}
use Rattle.std.proofs.lemmas.List.{drop-drop, at_drop_more}
use Rattle.trace.specs.Faults.{fault_at}
use Rattle.trace.specs.Meanings.{Meaning, nothing, found_at}
use Rattle.trace.specs.declared.fault.Cause.{Cause}
use Rattle.trace.specs.declared.fault.Fault.{Fault}
use Rattle.trace.specs.declared.record.Record.{Record}
use Rattle.trace.proofs.Stepping.{Stepped, at_fault, at_record}
use Rattle.trace_bytes.specs.Bytes.{record_of, record_then, meaning_past, bytes_meaning}

-- passing over n bytes is going on from the byte after them
past_drop : (n p : ℕ) (bs : List ℕ) → meaning_past n p bs ≡ bytes_meaning (p + n) (drop n bs)
past_drop zero p bs = ap (λ q. bytes_meaning q bs) (omega arith)
past_drop (suc n) p [] = refl
past_drop (suc n) p (b ∷ bs) = past_drop n (p + 1) bs ∙ ap (λ q. bytes_meaning q (drop n bs)) (omega arith)

pub past_record : (n at : ℕ) (xs : List ℕ) → meaning_past n (at + 1) (drop (at + 1) xs) ≡ bytes_meaning (at + 1 + n) (drop (at + 1 + n) xs)
past_record n at xs = past_drop n (at + 1) (drop (at + 1) xs) ∙ ap (bytes_meaning (at + 1 + n)) (drop-drop n (at + 1) xs)

-- the bytes from a place on begin with a record
pub record_at : (xs : List ℕ) (at : ℕ) → at < length xs → bytes_meaning at (drop at xs) ≡ record_then (record_of (get_or xs at 0) (drop (at + 1) xs)) at (λ n. meaning_past n (at + 1) (drop (at + 1) xs))
record_at xs at h = at_drop_more (bytes_meaning at) xs at 0 h

-- the record is at fault
pub faulted : (x : Result (Record × ℕ) Cause) (p : ℕ) (k : ℕ → Meaning) (m : Meaning) (f : Fault) → m ≡ record_then x p k → Err f ≡ found_at x p → Stepped m m (Err f)
faulted (Ok v) p k m f e h = cc
faulted (Err c) p k m f e h = let g : f ≡ fault_at c p = cc in at_fault m nothing (Err c) p f e (ap Err g)

-- the record is whole
pub delivered : (x : Result (Record × ℕ) Cause) (p : ℕ) (k : ℕ → Meaning) (m : Meaning) (r : Record) (n : ℕ) → m ≡ record_then x p k → Ok (r, n) ≡ found_at x p → Stepped m (k n) (Ok (Some r))
delivered (Ok v) p k m r n e h =
    let g : (r, n) ≡ v = cc in
    subst (λ w. Stepped m (k w.1) (Ok (Some w.0))) (sym g) (at_record m (k v.1) (Ok v.0) p v.0 e refl)
delivered (Err c) p k m r n e h = cc
