use Rattle.std.proofs.Common.{◌/◌, ◌^◌, ◌∙◌, ap}
use Rattle.fields.specs.Fields.{field}
use Rattle.fields.proofs.Digits.{field_five}
use Rattle.fields.proofs.fields.five_bytes.Goals as goal

pub returns : goal.returns
returns c =
    ap (λ v. v / 2 ^ 24) (c.eight_bytes.ensures ∙ ap (λ bs. field bs 0 64) c.rest_from.ensures)
    ∙ field_five c.args.bytes.now c.args.first
