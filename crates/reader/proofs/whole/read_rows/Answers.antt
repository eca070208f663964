use Rattle.std.proofs.Common.{◌≡◌, ◌+◌, ◌≤◌, length, Some, Ok, sym, ap, ◌∙◌, subst₂, arith}
use Rattle.std.proofs.lemmas.Result.{err_from_is_err_and}
use Rattle.format.specs.Reading.{read_at, place_after, behind, size_of}
use Rattle.format.specs.Records.{item_of}
use Rattle.reader.specs.Readers.{place_of, input_of, answer_of}
use Rattle.reader.specs.RowLists.{rows_of}
use Rattle.reader.proofs.Collecting.{Collecting, collect_more, collect_fault, collect_all}
use Rattle.reader.proofs.whole.read_rows.Goals as goal

pub returns-in_err-seen : goal.returns-in_err-seen
returns-in_err-seen c =
    let p = err_from_is_err_and c.from_residual.result c.from_residual.ensures.1 in
    let place = place_of c.loop-seen.reader in
    rw (p.1, p.2)
    (collect_fault c.args.input.now place (rows_of c.loop-seen.rows) c.loop-seen.invariant.2 _
    (c.in_err-seen.ensures.answer ∙ ap (λ bs. read_at bs place) c.loop-seen.invariant.0))

pub loop-seen-preserved : goal.loop-seen-preserved
loop-seen-preserved c =
    let input = c.args.input.now in
    let place = place_of c.loop-seen.reader in
    let item = item_of c.in-Some.seen in
    let is : answer_of (Ok c.in_ok-seen.field-0) ≡ Ok (Some item) = ap (λ o. answer_of (Ok o)) c.in-Some.is in
    let answer : Ok (Some item) ≡ read_at input place =
    sym is ∙ c.in_ok-seen.ensures.answer ∙ ap (λ bs. read_at bs place) c.loop-seen.invariant.0 in
    let after : place_of c.next.new.self ≡ behind place item = c.in_ok-seen.ensures.place ∙ ap (place_after place) is in
    let same : input_of c.next.new.self ≡ input = c.next.ensures.input ∙ c.loop-seen.invariant.0 in
    let within : place.at + size_of item ≤ length input = omega (arith, ap (λ p. p.at) after, ap length same, c.next.new.self.within) in (
      same,
      omega (arith, c.note.ensures.count, c.loop-seen.invariant.1, ap (λ p. p.rows) after),
      subst₂ (λ p rows. Collecting input p rows) (sym after) (sym c.note.ensures.rows)
          (collect_more input place (rows_of c.loop-seen.rows) c.loop-seen.invariant.2 item answer within),
    )

pub returns : goal.returns
returns c =
    let place = place_of c.loop-seen.reader in
    collect_all c.args.input.now place (rows_of c.loop-seen.rows) c.loop-seen.invariant.2
    (ap (λ o. answer_of (Ok o)) (sym c.in_default.is) ∙ c.in_ok-seen.ensures.answer ∙ ap (λ bs. read_at bs place) c.loop-seen.invariant.0)
