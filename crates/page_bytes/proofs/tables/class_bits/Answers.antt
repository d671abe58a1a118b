use Rattle.std.proofs.Common.{refl, arith}
use Rattle.page_bytes.specs.Classes.{blank, word_byte, stem_byte}
use Rattle.page_bytes.proofs.Tabled.{bit_at}
use Rattle.page_bytes.proofs.tables.class_bits.Goals as goal

pub returns : goal.returns
returns c =
    let b = c.args.b in
    let entry = c.table_entry.ensures in
    record {
      blank = bit_at 1 blank refl b _ (omega arith) entry;
      word = bit_at 2 word_byte refl b _ (omega arith) entry;
      stem = bit_at 4 stem_byte refl b _ (omega arith) entry;
    }
