use Rattle.trace_laws.proofs.ByteFaults.{bytes_within, bytes_before, bytes_after}
use Rattle.trace_laws.proofs.ByteWriting.{bytes_read_back}
use Rattle.trace_laws.proofs.Spellings.{spellings_read, only_spellings_read}
use Rattle.trace_laws.proofs.byte_laws.Goals as goal

pub returns : goal.returns
returns c = record { spelled = spellings_read; only_spelled = only_spellings_read; read_back = bytes_read_back; within = bytes_within; before = bytes_before; after = bytes_after }
