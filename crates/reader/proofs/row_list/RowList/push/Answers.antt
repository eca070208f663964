use Rattle.std.proofs.Common.{refl, arith}
use Rattle.std.proofs.lemmas.List.{take_more_set}
use Rattle.reader.proofs.row_list.RowList.push.Goals as goal

pub returns : goal.returns
returns c =
    record {
      rows = take_more_set c.args.self.now.numbers c.args.self.now.count c.args.numbers (omega arith);
      count = refl;
    }
