use Rattle.std.proofs.Common.{◌≡◌, ◌*◌, ◌%◌, ◌^◌, ap, ◌∙◌, arith}
use Rattle.std.proofs.lemmas.Nat.{shl_whole}
use Rattle.fields.proofs.Packing.{number_parts, old_field, with_field_is}
use Rattle.fields.proofs.fields.with_field.Goals as goal
use Rattle.fields.proofs.fields.with_field.Goals.{After-from}

-- the new field, shifted to its place, loses nothing
new_field : (c : After-from) → c.from.result * 2 ^ c.args.tail % 2 ^ 64 ≡ c.args.value * 2 ^ c.args.tail
new_field c =
    ap (λ v. v * 2 ^ c.args.tail % 2 ^ 64) c.from.ensures
    ∙ shl_whole c.args.value c.args.width c.args.tail 64 c.requires.fits (omega arith)

pub overflow_sub-result : goal.overflow_sub-result
overflow_sub-result c =
    rw (old_field c.args.number c.args.tail c.args.width (omega arith) (omega arith))
    (omega (arith, number_parts c.args.number c.args.tail c.args.width))

pub returns : goal.returns
returns c =
    rw (old_field c.args.number c.args.tail c.args.width (omega arith) (omega arith), new_field c)
    (with_field_is c.args.number c.args.tail c.args.width c.args.value)
