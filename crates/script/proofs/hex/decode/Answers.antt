use Rattle.std.proofs.Common.{◌%◌, length, vec_items, sym, ap, ◌∙◌, arith}
use Rattle.std.proofs.lemmas.List.{take_all}
use Rattle.std.proofs.lemmas.Result.{err_from_is_err_and}
use Rattle.script.specs.Hex.{digits_of, spelt}
use Rattle.script.proofs.Halves.{white_step, digit_step, put_step, odd}
use Rattle.script.proofs.hex.decode.Goals as goal

pub loop-at-preserved-then-is_white : goal.loop-at-preserved-then-is_white
loop-at-preserved-then-is_white c =
    (white_step _ _ c.as_bytes-byte-items.ensures.value c.loop-at.at c.loop-at-test.true _ c.if-is_white.ensures c.loop-at.invariant.0, c.loop-at.invariant.1)

pub loop-at-preserved : goal.loop-at-preserved
loop-at-preserved c =
    let digit = rw c.in_ok-digit.ensures.ok_part at c.hex_digit.ensures in (
      digit_step _ _ c.as_bytes-byte-items.ensures.value c.loop-at.at c.loop-at-test.true _ _ c.if-is_white.ensures digit.1 c.loop-at.invariant.0
          ∙ sym (c.in_ok-high.ensures).1,
      (c.in_ok-high.ensures).0,
    )

pub returns-in_err-high : goal.returns-in_err-high
returns-in_err-high c =
    let p = err_from_is_err_and c.from_residual-in_err-high.result c.from_residual-in_err-high.ensures.1 in
    rw (p.1, p.2)
    (put_step _ _ c.as_bytes-byte-items.ensures.value c.loop-at.at c.loop-at-test.true (vec_items c.loop-at.bytes) c.loop-at.high _ c.if-is_white.ensures
    c.loop-at.invariant.0 c.in_err-high.ensures)

pub returns-in-Some : goal.returns-in-Some
returns-in-Some c =
    ap (λ ds. length ds % 2)
    (ap digits_of (sym (take_all c.loop-at.at c.args.text.now (omega (arith, c.as_bytes-byte-items.ensures.len)))) ∙ c.loop-at.invariant.0
    ∙ ap (spelt (vec_items c.loop-at.bytes)) c.in-Some.is)
    ∙ odd (vec_items c.loop-at.bytes) c.in-Some.field-0
