-- The words of kinds, as they are printed. Assumes nothing.
use Rattle.std.specs.Prelude.{ℕ, List, codes}
use Rattle.row.specs.declared.rows.Kind.{Kind}
use Rattle.row.specs.declared.rows.Kind.TheVariants.{Normal, Abnormal}

abbrev pub kind_word : Kind → List ℕ
kind_word Normal = codes "normal"
kind_word Abnormal = codes "abnormal"
