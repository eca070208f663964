use Rattle.std.proofs.Common.{◌/◌}
use Rattle.format.specs.Encoding.{bits_of}
use Rattle.writer.proofs.pack.pack_row.Given as goal

-- the bytes that the fields take
abbrev pub ghost-pack_fields : goal.ghost-pack_fields
ghost-pack_fields a = bits_of a.fields.now / 8
