use Rattle.std.proofs.Common.{rules}
use Rattle.std.proofs.Output.{has_written_append, has_written_of_eq}
use Rattle.tallies.specs.Texts.{lines_below}
use Rattle.tallies.proofs.Lines.{lines_more, line_seen, line_unseen}
use Rattle.tallies.proofs.RefusalsDisplay.fmt.Goals as goal
use Rattle.tallies.proofs.RefusalsDisplay.fmt.Goals.{then-times-gt0+in_ok-writeln, else-times-gt0}

pub loop-number-init : goal.loop-number-init
unfolding lines_below
loop-number-init g c = search rules

pub loop-number-preserved : goal.loop-number-preserved
loop-number-preserved g c =
    λ p.
    let n = c.loop-number.number-counter in
    let times = c.args.self.now.times in
    let before = c.loop-number.invariant p in
    has_written_of_eq _ _ _ _ _ (lines_more n times)
    (has_written_append _ _ _ _ _ _ before
    (elim c.if-times-gt0.branch [
      | then-times-gt0+in_ok-writeln w ↦ has_written_of_eq _ _ _ _ _ (line_seen n times w.if-times-gt0.true) (search rules)
      | else-times-gt0 w ↦ has_written_of_eq _ _ _ _ _ (line_unseen n times w.if-times-gt0.false) (search rules)
    ]))
