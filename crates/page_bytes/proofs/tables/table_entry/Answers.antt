use Rattle.std.proofs.Common.{refl, arith}
use Rattle.page_bytes.specs.Classes.{class_bits}
use Rattle.page_bytes.proofs.Tabled.{table_at}
use Rattle.page_bytes.proofs.tables.table_entry.Goals as goal

-- the table is computed at all of its 256 places
pub returns : goal.returns
returns c = table_at class_bits 0 _ 256 refl c.args.b (omega arith)
