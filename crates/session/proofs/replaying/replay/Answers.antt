-- Each turn of the loop adds one answer to the log and one call to the history; at the end the law holds of it.
use Rattle.std.proofs.Common.{◌≡◌, ◌+◌, ◌<◌, min, false, length, drop, get_or, set, length-set, is_some, sym, ap, ◌∙◌, subst, inl, inr, arith}
use Rattle.std.proofs.lemmas.Bool.{cases_lt}
use Rattle.std.proofs.lemmas.List.{drop_more, length-drop}
use Rattle.judge.specs.Plan.{rows_of}
use Rattle.law.specs.History.{logged_by}
use Rattle.session.specs.Replays.{replayed_by}
use Rattle.session.specs.View.{Follows}
use Rattle.session.proofs.Replays.{Made, one_more}
use Rattle.session.proofs.replaying.replay.Goals as goal

pub loop-i-preserved : goal.loop-i-preserved
loop-i-preserved g c =
    let past = g.L.Line.past in
    let i = c.loop-i.i-iterator.count in
    let lines = c.args.lines.now in
    let log = c.loop-i.log in
    let a = c.perform.result in
    let came = c.loop-i.invariant in
    let step = c.in-Some.ensures.steps in
    let rest = sym step.0.0 ∙ came.left in
    let asked : i < length lines = omega (arith, ap length rest, length-drop i lines) in
    let split = rest ∙ drop_more lines i past asked in
    let MadeTo = Made g.B.Board.rows g.P.Pool.free g.L.Line.makes past lines c.open-session.result c.args.log.now in
    let called = c.call-call.ensures ∙ ap (λ xs. g.L.Line.makes c.loop-i.session.turn (get_or xs 0 past)) split in
    let room : i < length log = omega (arith, step.0.1) in
    let more = one_more _ _ _ _ lines _ _ log i _ c.perform.new.self _ a came.made room called c.perform.ensures in
    record {
      left = ap (drop 1) split ∙ ap (λ n. drop n lines) (sym step.2);
      room = omega (arith, step.0.1, step.2, came.room, length-set log c.in-Some.i a);
      reached = omega (arith, step.2);
      made = subst (λ n. MadeTo (set log c.in-Some.i a) n c.perform.new.self) (sym step.2) (subst (λ k. MadeTo (set log k a) (i + 1) c.perform.new.self) (sym step.1) more);
    }

pub returns : goal.returns
returns g c =
    let makes = g.L.Line.makes in
    let past = g.L.Line.past in
    let rows = rows_of c.args.plan.now in
    let number = c.args.number in
    let free = g.P.Pool.free in
    let lines = c.args.lines.now in
    let log = c.loop-i.log in
    let i = c.loop-i.i-iterator.count in
    let came = c.loop-i.invariant in
    let all : i ≡ min (length lines) (length log) = elim (cases_lt 0 c.loop-i.i-iterator.iter.n) [
      | inl some ↦ omega (arith, (c.in-None.ensures.steps.0 some).0, ap length came.left, length-drop i lines)
      | inr none ↦ omega arith
    ] in
    let f : Follows rows number (free c.args.pool) (replayed_by makes past lines log) g.B.Board.rows free c.loop-i.session
    = subst (λ n. Follows rows number (free c.args.pool) (logged_by makes past lines log n) g.B.Board.rows free c.loop-i.session) all
    (came.made.history rows number (free c.args.pool) c.open-session.ensures.follows) in
    record {
      lawful = f.history.lawful;
      sound = c.close.ensures.law rows number (free c.args.pool) (replayed_by makes past lines log) f;
      board = λ q. ap (λ z. get_or (g.B.Board.rows z.0) q false) c.close.ensures.parts ∙ f.tied q ∙ ap (λ s. is_some (s.job q)) f.history.told;
      pool = ap (λ z. free z.1) c.close.ensures.parts ∙ ap (λ s. s.free) f.history.told;
      rest = λ k l. came.made.others k (omega arith);
    }
