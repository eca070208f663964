-- The worked examples hold. Assumes nothing.
use Rattle.std.proofs.Common.{[], ◌∷◌, map, get_or, take, refl, lit<, lit≤}
use Rattle.row.specs.Rows.{numbers_of}
use Rattle.judge.specs.Judged.{FirstFailure}
use Rattle.judge.specs.Accepted.{FailsNormal, FailsLong}
use Rattle.format.specs.Decoding.{decode_from}
use Rattle.format.specs.Encoding.{big_endian}
use Rattle.fields.specs.Fields.{value_of}
use Rattle.cases.specs.LineUps.{worked, due15, due14, full_track, below_full, below_helper, track_bounds, helper_bounds}
use Rattle.cases.specs.Examples.{WorkedExamples}
use Rattle.cases.proofs.Run.{every_run_lem, some-run}
use Rattle.cases.proofs.Bounds.{accepted, first_failure, fails-normal, fails-long, normal-bound, mixed-bound}

-- row 2 fails by its long bound, 15, alone
late : FirstFailure (map numbers_of due14) 2 FailsLong
late =
    let above = take 2 due14 in
    first_failure due14 (track_bounds 2 2 4 ∷ helper_bounds 4 ∷ []) 2 FailsLong (lit≤ tt) (lit< tt) (lit≤ tt) refl
    (λ r. (refl, (7, normal-bound above 3 7 refl, lit≤ tt), (9, mixed-bound above 3 7 9 refl, lit≤ tt), fails-long above (get_or due14 2 r) 15 refl (lit< tt)))

nothing_left_lem : FirstFailure (map numbers_of below_full) 1 FailsNormal
nothing_left_lem =
    first_failure below_full (track_bounds 1 1 1 ∷ []) 1 FailsNormal (lit≤ tt) (lit< tt) (lit≤ tt) refl
    (λ r. fails-normal (take 1 below_full) (get_or below_full 1 r) refl)

pub worked_examples : WorkedExamples
unfolding big_endian decode_from value_of
worked_examples = record {
  bounds = accepted worked _ refl refl;
  in_time = accepted due15 _ refl refl;
  late = record { refused = late; by_number = refl; by_judge = refl; at_place = refl };
  full = accepted (full_track ∷ []) _ refl refl;
  nothing_left = record { refused = nothing_left_lem; by_number = refl; by_judge = refl; at_place = refl };
  helper_above = accepted below_helper _ refl refl;
  encoded0 = refl;
  encoded1 = refl;
  encoded2 = refl;
  encoded_end = refl;
  encodes = refl;
  decodes = refl;
  every_run = every_run_lem;
  some_run = some-run;
}
