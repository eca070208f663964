use Rattle.std.proofs.Common.{◌≡◌, length, Some, Ok, sym, refl, ap, ◌∙◌, subst, arith, rules}
use Rattle.format.specs.Encoding.{overwritten, record_bytes}
use Rattle.format.specs.Reading.{read_at, place_after, behind}
use Rattle.format.specs.Records.{item_of}
use Rattle.format.specs.Standing.{OffsetKept}
use Rattle.format.specs.Writing.{write_at}
use Rattle.format.proofs.Lengths.{size_pos}
use Rattle.reader.specs.Readers.{answer_of, place_of as readerPlace}
use Rattle.writer.specs.Writers.{buffer_of}
use Rattle.lineup.specs.Copying.{copied_over}
use Rattle.lineup.proofs.Copied.{Copied, copied_none, no_fault, takes, kept_row, kept-offset, copied_more, copied_all, within_more}
use Rattle.lineup.proofs.copying.copy_records.Goals as goal
use Rattle.lineup.proofs.copying.copy_records.Goals.{In-Some}

pub loop-seen-init : goal.loop-seen-init
loop-seen-init c =
    let input = c.args.input.now in
    let old = buffer_of c.new-writer.result in
    let same : old ≡ c.args.output.now = c.new-writer.ensures.buffer in (
      c.new-reader.ensures.input,
      c.new-writer.ensures.place ∙ sym c.new-reader.ensures.place,
      refl,
      subst (Copied input old old) (sym c.new-reader.ensures.place)
          (copied_none input old (omega (arith, ap length same)) (λ k. (c.type_inv.input k).fits) c.requires.reads),
    )

pub returns-in_err-seen : goal.returns-in_err-seen
returns-in_err-seen c =
    let place = readerPlace c.loop-seen.reader in
    absurd (no_fault c.args.input.now (buffer_of c.new-writer.result) (buffer_of c.loop-seen.writer) place c.loop-seen.invariant.3 _
    (c.in_err-seen.ensures.answer ∙ ap (λ bs. read_at bs place) c.loop-seen.invariant.0))

-- the record that was read, and where the reader stands behind it
seen_at : (c : In-Some) → Ok (Some (item_of c.in-Some.seen)) ≡ read_at c.args.input.now (readerPlace c.loop-seen.reader)
seen_at c =
    sym (ap (λ o. answer_of (Ok o)) c.in-Some.is) ∙ c.in_ok-seen.ensures.answer
    ∙ ap (λ bs. read_at bs (readerPlace c.loop-seen.reader)) c.loop-seen.invariant.0

behind_seen : (c : In-Some) → readerPlace c.next.new.self ≡ behind (readerPlace c.loop-seen.reader) (item_of c.in-Some.seen)
behind_seen c =
    c.in_ok-seen.ensures.place ∙ ap (λ o. place_after (readerPlace c.loop-seen.reader) (answer_of (Ok o))) c.in-Some.is

pub put_record-requires : goal.put_record-requires
put_record-requires c =
    let input = c.args.input.now in
    let old = buffer_of c.new-writer.result in
    let buffer = buffer_of c.loop-seen.writer in
    let place = readerPlace c.loop-seen.reader in
    let item = item_of c.in-Some.seen in
    let seen = seen_at (goal.at.put_record-requires c).In-Some in
    let here = sym c.loop-seen.invariant.1 in
    record {
      kept = (
        kept_row input old buffer place c.loop-seen.invariant.3 item seen,
        subst (λ p. OffsetKept p item) here (kept-offset input old buffer place c.loop-seen.invariant.3 item seen),
      );
      taken = subst (λ p. Ok tt ≡ write_at (length buffer) p item) here (takes input old buffer place c.loop-seen.invariant.3 item seen);
    }

pub loop-seen-smaller : goal.loop-seen-smaller
loop-seen-smaller c =
    let here = (goal.at.loop-seen-smaller c).In-Some in
    let item = item_of c.in-Some.seen in
    let within = within_more c.args.input.now (buffer_of c.new-writer.result) (buffer_of c.loop-seen.writer) (readerPlace c.loop-seen.reader) c.loop-seen.invariant.3
    item (seen_at here) in
    omega (arith, ap (λ p. p.at) (behind_seen here), size_pos item, within)

pub loop-seen-preserved : goal.loop-seen-preserved
loop-seen-preserved c =
    let here = (goal.at.loop-seen-preserved c).In-Some in
    let input = c.args.input.now in
    let old = buffer_of c.new-writer.result in
    let buffer = buffer_of c.loop-seen.writer in
    let place = readerPlace c.loop-seen.reader in
    let item = item_of c.in-Some.seen in
    let written : buffer_of c.put_record.new.writer ≡ overwritten buffer place.at (record_bytes place.rows item) =
    c.put_record.ensures.wrote.buffer ∙ ap (λ p. overwritten buffer p.at (record_bytes p.rows item)) c.loop-seen.invariant.1 in (
      c.next.ensures.input ∙ c.loop-seen.invariant.0,
      c.put_record.ensures.wrote.place ∙ ap (λ p. behind p item) c.loop-seen.invariant.1 ∙ sym (behind_seen here),
      c.put_record.ensures.wrote.same ∙ c.loop-seen.invariant.2,
      subst (Copied input old (buffer_of c.put_record.new.writer)) (sym (behind_seen here))
          (copied_more input old buffer place c.loop-seen.invariant.3 item (seen_at here) (buffer_of c.put_record.new.writer) written),
    )

pub returns : goal.returns
returns c =
    let place = readerPlace c.loop-seen.reader in
    let input = c.args.input.now in
    let old = buffer_of c.new-writer.result in
    let same : old ≡ c.args.output.now = c.new-writer.ensures.buffer in
    let all : buffer_of c.loop-seen.writer ≡ copied_over input c.args.output.now =
    copied_all input old (buffer_of c.loop-seen.writer) place c.loop-seen.invariant.3
    (ap (λ o. answer_of (Ok o)) (sym c.in_default.is) ∙ c.in_ok-seen.ensures.answer ∙ ap (λ bs. read_at bs place) c.loop-seen.invariant.0)
    ∙ ap (copied_over input) same in
    let name = sym (c.loop-seen.invariant.2 ∙ c.new-writer.ensures.same) in
    record { answer = refl; output = search rules }
