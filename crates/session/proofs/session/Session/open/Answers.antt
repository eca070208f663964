-- A session is opened with empty tables and an empty board, as a history of no calls tells.
use Rattle.std.proofs.Common.{false, get_or, is_some, sym, refl, ap, ◌∙◌, lit<, lit≤}
use Rattle.sets.proofs.Members.{member-empty}
use Rattle.law.proofs.Represents.{same_state}
use Rattle.session.specs.RowStates.{new_row}
use Rattle.session.proofs.Tables.{all_same}
use Rattle.session.proofs.session.Session.open.Goals as goal

pub invariant_of-result : goal.invariant_of-result
invariant_of-result g c = record {
  places = refl;
  in_plan = λ r _. ap (λ x. x.job) (all_same 32 new_row r);
  in_time = lit≤ tt;
  turn_in_time = λ _. lit< tt;
}

pub returns : goal.returns
returns g c = record {
  follows = record {
    plan = refl;
    own = refl;
    tied = λ r. ap (λ z. get_or z r false) c.clear.ensures ∙ member-empty 32 r ∙ sym (ap (λ x. is_some x.job) (all_same 32 new_row r));
    history = record { lawful = tt; told = same_state _ _ refl refl (λ r. ap (λ x. x.job) (all_same 32 new_row r)) (λ r. ap (λ x. x.ready) (all_same 32 new_row r)) refl refl };
  };
  pool = refl;
}
