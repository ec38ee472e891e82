use Rattle.trace_laws.proofs.TableReading.{table_read, table_within, table_front, table_before, table_after}
use Rattle.trace_laws.proofs.table_laws.Goals as goal

pub returns : goal.returns
returns c = record { read = table_read; within = table_within; front = table_front; before = table_before; after = table_after }
