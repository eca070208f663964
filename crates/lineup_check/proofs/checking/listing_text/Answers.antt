use Rattle.std.proofs.Common.{inl}
use Rattle.lineup_check.proofs.checking.listing_text.Goals as goal

pub returns-in-Ok : goal.returns-in-Ok
returns-in-Ok c = inl (c.plan_lineup.new.plan, c.in-Ok.ensures, c.bound_lines.ensures)
