use Rattle.std.proofs.Common.{◌∙◌, ap, arith}
use Rattle.std.specs.Int.{w64, from_be_bytes}
use Rattle.fields.proofs.Digits.{field_eight, field_front}
use Rattle.fields.proofs.fields.eight_bytes.Goals as goal

pub returns-in-Some : goal.returns-in-Some
returns-in-Some c =
    c.from_be_bytes.ensures ∙ ap (from_be_bytes w64) c.in-Some.ensures.cases.same
    ∙ field_front c.args.rest.now (λ k. (c.type_inv.rest k).fits)

pub returns-in-None : goal.returns-in-None
returns-in-None c = omega (arith, field_eight c.args.rest.now (λ k. (c.type_inv.rest k).fits))
