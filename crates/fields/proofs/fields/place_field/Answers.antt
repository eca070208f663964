use Rattle.std.proofs.Common.{◌≡◌, ℕ, ◌+◌, ◌-◌, ◌*◌, ◌/◌, ◌^◌, ◌<◌, ◌≤◌, length, take, drop, sym, refl, ap, ◌∙◌, subst, arith, pow_mono}
use Rattle.fields.specs.Fields.{field, with_field}
use Rattle.fields.proofs.Digits.{field_below, field_of_five}
use Rattle.fields.proofs.Packing.{with_field_below}
use Rattle.fields.proofs.Placing.{part_long, part_bits, part_number, packed}
use Rattle.fields.proofs.fields.place_field.Goals as goal
use Rattle.fields.proofs.fields.place_field.Goals.{After-five_bytes}

-- the bytes that hold the field, as one number
whole : (c : After-five_bytes) → c.five_bytes.result / 2 ^ (40 - 8 * ((c.args.offset + c.args.width + 7) / 8 - c.args.offset / 8))
    ≡ field (take ((c.args.offset + c.args.width + 7) / 8 - c.args.offset / 8) (drop (c.args.offset / 8) c.args.bytes.now)) 0
    (8 * length (take ((c.args.offset + c.args.width + 7) / 8 - c.args.offset / 8) (drop (c.args.offset / 8) c.args.bytes.now)))
whole c = field_of_five c.args.bytes.now _ _ _ (omega arith) c.five_bytes.ensures ∙ part_number c.args.bytes.now c.args.offset c.args.width _ _ refl refl c.requires.within

pub with_field-packed-requires-clause-small : goal.with_field-packed-requires-clause-small
with_field-packed-requires-clause-small c =
    let o = c.args.offset in
    let w = c.args.width in
    let first : ℕ = o / 8 in
    let past : ℕ = (o + w + 7) / 8 in
    let part = take (past - first) (drop first c.args.bytes.now) in
    let long = part_long c.args.bytes.now o w first past refl refl c.requires.within in
    let few : 8 * length part ≤ 40 = omega arith in
    (omega (arith, whole c, field_below part 0 (8 * length part), pow_mono few), (omega arith, omega arith))

pub store_number-requires-clause-fits : goal.store_number-requires-clause-fits
store_number-requires-clause-fits c =
    let o = c.args.offset in
    let w = c.args.width in
    let v = c.args.value in
    let first : ℕ = o / 8 in
    let past : ℕ = (o + w + 7) / 8 in
    let part = take (past - first) (drop first c.args.bytes.now) in
    let long = part_long c.args.bytes.now o w first past refl refl c.requires.within in
    let bits = part_bits c.args.bytes.now o w first past refl refl c.requires.within in
    let n : ℕ = field part 0 (8 * length part) in
    let lead : ℕ = o - 8 * first in
    let tail : ℕ = 8 * past - (o + w) in
    let small : n < 2 ^ ((lead + w) + tail) = subst (λ k. n < 2 ^ k) bits (field_below part 0 (8 * length part)) in
    let is : c.with_field-packed.result ≡ with_field n tail w v =
    c.with_field-packed.ensures ∙ ap (λ z. with_field z tail w v) (whole (goal.at.store_number-requires-clause-fits c).After-five_bytes) in
    subst (λ k. c.with_field-packed.result < 2 ^ k) (sym bits) (subst (λ z. z < 2 ^ ((lead + w) + tail)) (sym is) (with_field_below n tail w v c.requires.fits lead small))

pub returns : goal.returns
returns c =
    let tail : ℕ = 8 * ((c.args.offset + c.args.width + 7) / 8) - (c.args.offset + c.args.width) in
    packed c.args.bytes.now c.store_number.new.bytes c.args.offset c.args.width c.args.value _ _ refl refl c.requires.within
    c.requires.fits c.store_number.auto.bytes
    (c.store_number.ensures ∙ c.with_field-packed.ensures ∙ ap (λ z. with_field z tail c.args.width c.args.value) (whole (goal.at.returns c).After-five_bytes))
