use Rattle.std.proofs.Common.{ap, ◌∙◌, arith}
use Rattle.std.proofs.lemmas.Nat.{and_mask, one_shl}
use Rattle.fields.specs.Fields.{field}
use Rattle.fields.proofs.Digits.{field_from_five}
use Rattle.fields.proofs.fields.read_field.Goals as goal

pub returns : goal.returns
returns c =
    let bits = c.min-bits.result in
    let few = c.min-bits.ensures in
    rw (one_shl bits 64 (omega arith), and_mask)
    (field_from_five c.args.bytes.now c.args.offset bits _ (omega arith) c.five_bytes.ensures ∙ ap (field c.args.bytes.now c.args.offset) few)
