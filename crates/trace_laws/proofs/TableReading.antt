-- What a table delivers, and where its fault stands. Assumes nothing.
use Rattle.std.proofs.Common.{◌≡◌, ℕ, suc, ◌+◌, ◌-◌, ◌<◌, ◌≤◌, Bool, true, false, cond, List, [], ◌∷◌, ◌++◌, length, take, Ok, Err, sym, refl, ap, ◌∙◌, subst, arith}
use Rattle.trace.specs.Faults.{fault_at}
use Rattle.trace.specs.Meanings.{Meaning, followed}
use Rattle.trace.specs.Ranges.{in_range, InRange}
use Rattle.trace.specs.Sources.{Every}
use Rattle.trace.specs.Tables.{table_meaning, table_ranged}
use Rattle.trace.specs.declared.fault.Cause.TheVariants.{OutOfRange}
use Rattle.trace.specs.declared.fault.Fault.{Fault}
use Rattle.trace.specs.declared.record.Record.{Record}
use Rattle.trace_laws.specs.TableLaws.{TableRead, TableWithin, TableFront, TableBefore, TableAfter}
use Rattle.trace_laws.specs.Writing.{whole}

read_at : (p : ℕ) (rs : List Record) → Every InRange rs → table_meaning p rs ≡ whole rs
read_at p [] h = refl
read_at p (r ∷ rs) h = rw h.0 (ap (λ m. followed (Ok r) p m) (read_at (p + 1) rs h.1))

pub table_read : TableRead
table_read rs h = read_at 0 rs h

-- what is said of a fault at place f, of a table whose first record stands at p, where the same table with more after it means m
pub record Found (p : ℕ) (rs : List Record) (f : Fault) (m m' : Meaning) : Type 0 where
  pub above : p ≤ f.place
  pub within : f.place < p + length rs
  pub before : m.records ≡ take (f.place - p) rs
  pub after : m' ≡ m

-- one record and the rest; t says whether the record is in range
found_then : (t : Bool) (p : ℕ) (r : Record) (rs : List Record) (f : Fault) (m m' : Meaning) → (m.ending ≡ Err f → Found (p + 1) rs f m m') → (followed (cond t (Ok r) (Err OutOfRange)) p m).ending ≡ Err f → Found p (r ∷ rs) f (followed (cond t (Ok r) (Err OutOfRange)) p m) (followed (cond t (Ok r) (Err OutOfRange)) p m')
found_then true p r rs f m m' rest h =
    let k = rest h in
    let n : f.place - p ≡ suc (f.place - (p + 1)) = omega (arith, k.above) in
    record { above = omega (arith, k.above); within = omega (arith, k.within); before = rw n (ap (λ xs. r ∷ xs) k.before); after = ap (followed (Ok r) p) k.after }
found_then false p r rs f m m' rest h =
    let e : fault_at OutOfRange p ≡ f = cc in
    let q : f.place ≡ p = sym (ap (λ g. g.place) e) in
    let n : f.place - p ≡ 0 = omega arith in
    record { above = omega arith; within = omega arith; before = rw n; after = refl }

found : (p : ℕ) (rs more : List Record) (f : Fault) → (table_meaning p rs).ending ≡ Err f → Found p rs f (table_meaning p rs) (table_meaning p (rs ++ more))
found p [] more f h = cc
found p (r ∷ rs) more f h = found_then (in_range r) p r rs f (table_meaning (p + 1) rs) (table_meaning (p + 1) (rs ++ more)) (found (p + 1) rs more f) h

pub table_within : TableWithin
table_within rs f h = omega (arith, (found 0 rs [] f h).within)

pub table_front : TableFront
table_front rs f h = let n : f.place - 0 ≡ f.place = omega arith in rw n at (found 0 rs [] f h).before

pub table_before : TableBefore
table_before rs f h =
    let e = table_front rs f h in
    table_read (take f.place rs) (subst (Every InRange) e (table_ranged 0 rs)) ∙ ap whole (sym e)

pub table_after : TableAfter
table_after rs more f h = (found 0 rs more f h).after
