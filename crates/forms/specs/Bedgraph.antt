-- bedGraph: the masked share of each block of letters.
use Rattle.std.specs.Prelude.{ℕ, ◌+◌, ◌-◌, ◌*◌, ◌/◌, min, List, ◌++◌}
use Rattle.intervals.specs.declared.Interval.{Interval}
use Rattle.intervals.specs.Interval.{covered_in}
use Rattle.report.specs.Ascii.{ascii}
use Rattle.forms.specs.Bed.{place}
use Rattle.forms.specs.Share.{share}
use Rattle.forms.specs.Each.{each}

-- n / size, rounded up.
abbrev pub blocks : ℕ → ℕ → ℕ
blocks n size = (n + (size - 1)) / size

-- Name, start, end, share; the last block ends with the record.
abbrev pub block_line : List ℕ → List Interval → ℕ → ℕ → ℕ → List ℕ
block_line name is n size j =
    let start : ℕ = j * size in
    let end : ℕ = min (start + size) n in
    place name start end ++ (share (covered_in is start end) (end - start) ++ ascii "\n")

-- Of n letters.
unfoldable pub bedgraph : List ℕ → List Interval → ℕ → ℕ → List ℕ
bedgraph name is n size = each (block_line name is n size) (blocks n size)
