-- The rows that a list holds. Assumes nothing.
use Rattle.std.specs.Prelude.{List, take, Result}
use Rattle.row.specs.declared.rows.RowNumbers.{RowNumbers}
use Rattle.format.specs.Decoding.{map_ok}
use Rattle.format.specs.declared.records.ReadFault.{ReadFault}
use Rattle.reader.specs.declared.row_list.RowList.{RowList}

abbrev pub rows_of : RowList → List RowNumbers
rows_of l = take l.count l.numbers

abbrev pub rows_read : Result RowList ReadFault → Result (List RowNumbers) ReadFault
rows_read r = map_ok rows_of r
