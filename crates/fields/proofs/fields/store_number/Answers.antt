use Rattle.std.proofs.Common.{◌≡◌, ◌-◌, ◌*◌, length, take, drop, ap, ◌∙◌, arith}
use Rattle.std.proofs.lemmas.List.{take_rest}
use Rattle.std.specs.Int.{w64, to_be_bytes}
use Rattle.fields.specs.Fields.{field}
use Rattle.fields.proofs.Digits.{field_last}
use Rattle.fields.proofs.fields.store_number.Goals as goal

pub returns : goal.returns
returns c =
    let n = length c.args.bytes.now in
    let after : c.copy_from_slice.new.self ≡ drop (8 - n) (to_be_bytes w64 c.args.value) =
    c.copy_from_slice.ensures.after ∙ ap (λ l. take (8 - (8 - n)) (drop (8 - n) l)) c.to_be_bytes-eight.ensures ∙ take_rest (to_be_bytes w64 c.args.value) (8 - n) in
    ap (λ l. field l 0 (8 * n)) after ∙ field_last c.args.value n (omega arith) c.requires.fits c.ranges.value.fits
