-- A record in range, with fields that its types hold, is made of its fields, which 32 bits hold. Assumes nothing.
use Rattle.std.proofs.Common.{◌≡◌, ℕ, ◌≤◌, true, ◌&&◌, leb, Ok, arith}
use Rattle.std.proofs.lemmas.Bool.{le-leb, leb-true, and_parts, and_from}
use Rattle.trace.specs.Ranges.{from_to, InRange}
use Rattle.trace.specs.Sources.{Every}
use Rattle.trace.specs.Fields.{sample_of}
use Rattle.trace.specs.declared.record.Record.{Record}
use Rattle.trace.specs.declared.record.Record.TheVariants.{Call, Return, Unwind, Sample}
use Rattle.trace.specs.declared.record.Sample.{Sample as Measured}
use Rattle.trace_laws.specs.Writing.{FitsTypes, fields_of}

-- a number fits 32 bits
abbrev pub Fits : ℕ → Type 0
Fits n = n ≤ 4294967295

at_most : (low high n : ℕ) → from_to low high n ≡ true → n ≤ high
at_most low high n h = leb-true n high (and_parts (leb low n) (leb n high) h).1

-- the bounds of a sample's fields
record Small (s : Measured) : Type 0 where
  step : s.step ≤ 4294967295
  weight : from_to 1 4294967295 s.weight ≡ true
  site : leb s.site 65535 ≡ true
  region : from_to 0 63 s.region ≡ true

sample_small : (s : Measured) → InRange (Sample s) → FitsTypes (Sample s) → Small s
sample_small s h fit =
    let p = and_parts (from_to 1 4294967295 s.weight) (from_to 0 63 s.region) h in
    let q = and_parts (leb s.step 4294967295) (leb s.site 65535) fit in
    record { step = leb-true s.step 4294967295 q.0; weight = p.0; site = q.1; region = p.1 }

pub sample_made : (s : Measured) → InRange (Sample s) → FitsTypes (Sample s) → sample_of s.step s.weight s.site s.region ≡ Ok (Sample s)
sample_made s h fit =
    let k = sample_small s h fit in
    let low : leb 0 s.site ≡ true = le-leb 0 s.site (omega arith) in
    let all : (from_to 1 4294967295 s.weight && (from_to 0 65535 s.site && from_to 0 63 s.region)) ≡ true = and_from _ _ k.weight (and_from _ _ (and_from _ _ low k.site) k.region) in
    rw all

pub fields_fit : (r : Record) → InRange r → FitsTypes r → Every Fits (fields_of r)
fields_fit (Call f) h fit = (omega (arith, at_most 1 65535 f h), tt)
fields_fit Return h fit = tt
fields_fit (Unwind n) h fit = (omega (arith, at_most 1 4095 n h), tt)
fields_fit (Sample s) h fit =
    let k = sample_small s h fit in
    (k.step, (at_most 1 4294967295 s.weight k.weight, (omega (arith, leb-true s.site 65535 k.site), (omega (arith, at_most 0 63 s.region k.region), tt))))
