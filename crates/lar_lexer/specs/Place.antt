-- Places in a text.
use Rattle.std.specs.Prelude.{ℕ, ◌+◌, ◌==◌, if◌then◌else◌, List, fold}
use Rattle.lar_source.specs.declared.file.Span.{Span}

-- Lines and columns count from 1, a column counts bytes, and LF ends a line.
abbrev pub step : Span → ℕ → Span
step at b = if b == 10 then record { file = at.file; line = at.line + 1; col = 1 } else record { file = at.file; line = at.line; col = at.col + 1 }

-- the place after these bytes
abbrev pub walk : Span → List ℕ → Span
walk = fold step

-- where the file with this number begins
abbrev pub beginning : ℕ → Span
beginning number = record { file = number; line = 1; col = 1 }
