use Rattle.std.proofs.Common.{codes, refl, arith}
use Rattle.std.proofs.lemmas.Slice.Eq.{text_from_reads}
use Rattle.trace.proofs.kind.KindTryFromRefSliceU8.try_from.Goals as goal

pub returns-in-unwind : goal.returns-in-unwind
returns-in-unwind c = rw (text_from_reads c.args.word.now (codes "unwind") (omega arith) (cc, (cc, (cc, (cc, (cc, (cc, tt))))))) refl

pub returns-in-sample : goal.returns-in-sample
returns-in-sample c = rw (text_from_reads c.args.word.now (codes "sample") (omega arith) (cc, (cc, (cc, (cc, (cc, (cc, tt))))))) refl
