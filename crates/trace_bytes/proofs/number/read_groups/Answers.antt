use Rattle.std.proofs.Common.{◌≡◌, ◌+◌, ◌-◌, get_or, arith}
use Rattle.trace_bytes.proofs.GroupSteps.{room_left, read_more}
use Rattle.trace_bytes.proofs.number.read_groups.Goals as goal

pub overflow_mul-result : goal.overflow_mul-result
overflow_mul-result c =
    let m = room_left c.loop-taken.taken c.loop-taken.scale c.in-Some.field-0.now c.loop-taken-test.true c.loop-taken.invariant.0.room (omega (arith, c.if-byte-lt-FOLLOWED.true)) in
    rw c.from.ensures (omega (arith, m.0, m.1))

pub overflow_add-result : goal.overflow_add-result
overflow_add-result c =
    let m = room_left c.loop-taken.taken c.loop-taken.scale c.in-Some.field-0.now c.loop-taken-test.true c.loop-taken.invariant.0.room (omega (arith, c.if-byte-lt-FOLLOWED.true)) in
    rw c.from.ensures (omega (arith, m.0, m.1, c.loop-taken.invariant.0.small))

pub overflow_mul-low : goal.overflow_mul-low
overflow_mul-low c =
    let fits = (c.type_inv.bytes (c.args.at + c.loop-taken.taken)).fits in
    let m = room_left c.loop-taken.taken c.loop-taken.scale (c.in-Some.field-0.now - 128) c.loop-taken-test.true c.loop-taken.invariant.0.room (omega (arith, fits, c.in-Some.ensures.lookup.3.1 0)) in
    rw c.from-in-loop-taken.ensures (omega (arith, m.0, m.1))

pub overflow_add-low : goal.overflow_add-low
overflow_add-low c =
    let fits = (c.type_inv.bytes (c.args.at + c.loop-taken.taken)).fits in
    let m = room_left c.loop-taken.taken c.loop-taken.scale (c.in-Some.field-0.now - 128) c.loop-taken-test.true c.loop-taken.invariant.0.room (omega (arith, fits, c.in-Some.ensures.lookup.3.1 0)) in
    rw c.from-in-loop-taken.ensures (omega (arith, m.0, m.1, c.loop-taken.invariant.0.small))

pub overflow_mul-scale : goal.overflow_mul-scale
overflow_mul-scale c =
    let m = room_left c.loop-taken.taken c.loop-taken.scale 0 c.loop-taken-test.true c.loop-taken.invariant.0.room (omega arith) in
    omega (arith, m.1)

pub loop-taken-preserved : goal.loop-taken-preserved
loop-taken-preserved c =
    let l = c.in-Some.ensures.lookup.3 in
    let next = c.args.at + c.loop-taken.taken in
    let b : c.in-Some.field-0.now ≡ get_or c.args.bytes.now next 0 = l.1 0 in
    let r = read_more _ _ _ _ _ _ c.loop-taken.invariant.0 c.loop-taken-test.true l.0 (c.type_inv.bytes next).fits (omega (arith, b, c.if-byte-lt-FOLLOWED.false)) in
    let z : c.args.at + (c.loop-taken.taken + 1) ≡ next + 1 = omega arith in
    (rw (c.from-in-loop-taken.ensures, b, z) r, omega (arith, l.0))
