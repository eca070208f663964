use Rattle.std.proofs.Common.{length, Err, sym, ap, ◌∙◌}
use Rattle.std.proofs.lemmas.Bool.{lt-ltb, le-ltb, cond-true, cond-false}
use Rattle.format.specs.Decoding.{decode, rows_among}
use Rattle.format.proofs.Recoding.{encode-decode}
use Rattle.lineup.proofs.Copied.{reads_answer}
use Rattle.lineup.proofs.copying.copy.Goals as goal

pub returns-then-space-input-clause-answer : goal.returns-then-space-input-clause-answer
returns-then-space-input-clause-answer c =
    let input = c.args.input.now in
    let space = length c.args.output.now in
    ap Err c.into.ensures
    ∙ sym (cond-true _ _ _ (lt-ltb space (length input) c.if-space-input.true))
    ∙ reads_answer rows_among _ (decode input) (length input) space c.in_ok-read_rows.ensures

pub returns-then-space-input-clause-encodes : goal.returns-then-space-input-clause-encodes
returns-then-space-input-clause-encodes c = λ items. encode-decode c.args.input.now items (λ k. (c.type_inv.input k).fits)

pub returns-clause-answer : goal.returns-clause-answer
returns-clause-answer c =
    let input = c.args.input.now in
    let space = length c.args.output.now in
    sym (cond-false _ _ _ (le-ltb space (length input) c.if-space-input.false))
    ∙ reads_answer rows_among _ (decode input) (length input) space c.in_ok-read_rows.ensures

pub returns-clause-encodes : goal.returns-clause-encodes
returns-clause-encodes c = λ items. encode-decode c.args.input.now items (λ k. (c.type_inv.input k).fits)
