use Rattle.trace_laws.proofs.text_laws.Goals as goal
use Rattle.trace_laws.proofs.TextMeant.{text_read_back, text_within, text_before, text_after, text_ended}

pub returns : goal.returns
returns c = record { read_back = text_read_back; within = text_within; before = text_before; after = text_after; ended = text_ended }
