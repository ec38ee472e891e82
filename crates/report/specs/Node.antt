-- The nodes of a working tree, one for each row.
use Rattle.std.specs.Prelude.{ℕ, List, slice_index_or}
use Rattle.report.specs.declared.tree.Node.{Node}

abbrev pub no_node : Node
no_node = record { depth = 0; start = 0 }

abbrev pub node_at : List Node → ℕ → Node
node_at nodes i = slice_index_or nodes i no_node
