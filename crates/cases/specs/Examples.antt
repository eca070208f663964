-- The worked examples: what the definitions come to on some small line-ups. Assumes nothing.
use Rattle.std.specs.Prelude.{◌≡◌, ℕ, List, [], ◌∷◌, ◌++◌, Ok}
use Rattle.row.specs.Rows.{numbers_of}
use Rattle.judge.specs.Accepted.{Accepted}
use Rattle.judge.specs.declared.bounds.JudgeFault.TheVariants.{NormalBound, LongBound}
use Rattle.format.specs.Decoding.{decode}
use Rattle.format.specs.Encoding.{row_bytes, end_bytes, encode}
use Rattle.format.specs.Records.{Item, row, end}
use Rattle.cases.specs.Run.{EveryRun, SomeRun}
use Rattle.cases.specs.LineUps.{row0, row1, row2, worked, due15, due14, full_track, below_full, below_helper, track_bounds, helper_bounds, RefusedBy}

-- the bytes of the worked line-up, record by record
abbrev pub bytes0 : List ℕ
bytes0 = 0x20 ∷ 0x00 ∷ 0x50 ∷ 0x00 ∷ 0x14 ∷ 0x00 ∷ 0x01 ∷ 0x00 ∷ 0x00 ∷ 0x80 ∷ []

abbrev pub bytes1 : List ℕ
bytes1 = 0x00 ∷ 0x00 ∷ 0x40 ∷ 0x00 ∷ 0x10 ∷ 0x00 ∷ 0x01 ∷ 0x00 ∷ []

abbrev pub bytes2 : List ℕ
bytes2 = 0x20 ∷ 0x00 ∷ 0xa0 ∷ 0x00 ∷ 0x28 ∷ 0x00 ∷ 0x01 ∷ 0x80 ∷ 0x00 ∷ 0xa0 ∷ []

abbrev pub bytes_end : List ℕ
bytes_end = 0x62 ∷ []

abbrev pub bytes : List ℕ
bytes = bytes0 ++ bytes1 ++ bytes2 ++ bytes_end

abbrev pub records : List Item
records = row (numbers_of row0) ∷ row (numbers_of row1) ∷ row (numbers_of row2) ∷ end ∷ []

pub record WorkedExamples : Type 0 where
  -- the bounds of the worked line-up; rows have one list of bounds at most
  pub bounds : Accepted worked (track_bounds 2 2 4 ∷ helper_bounds 4 ∷ track_bounds 7 9 15 ∷ [])
  -- row 2 passes with a deadline of 15, its long bound, and the bounds are the same
  pub in_time : Accepted due15 (track_bounds 2 2 4 ∷ helper_bounds 4 ∷ track_bounds 7 9 15 ∷ [])
  -- with a deadline of 14 it is refused, by its long bound alone
  pub late : RefusedBy due14 (LongBound 2) 12 2
  -- the bounds of a track that takes every tick
  pub full : Accepted (full_track ∷ []) (track_bounds 1 1 1 ∷ [])
  -- nothing is left for a helper below it: its demand at t is 1 + t, which never fits t
  pub nothing_left : RefusedBy below_full (NormalBound 1) 10 1
  -- the bounds of a helper and of a track below it
  pub helper_above : Accepted below_helper (helper_bounds 2 ∷ track_bounds 7 7 10 ∷ [])
  -- the bytes of each record
  pub encoded0 : row_bytes (numbers_of row0) ≡ bytes0
  pub encoded1 : row_bytes (numbers_of row1) ≡ bytes1
  pub encoded2 : row_bytes (numbers_of row2) ≡ bytes2
  pub encoded_end : end_bytes 3 ≡ bytes_end
  -- and of the whole, both ways
  pub encodes : encode records ≡ bytes
  pub decodes : decode bytes ≡ Ok records
  -- a run of the worked line-up with 3 free blocks, in which row 2's job is cut at its long bound
  pub every_run : EveryRun
  pub some_run : SomeRun
