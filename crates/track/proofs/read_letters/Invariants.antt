-- The text holds the letters of the bytes that left the reader.
use Rattle.std.proofs.Common.{ℕ, ◌≡◌, List, length}
use Rattle.std.specs.Io.KnownBytes.{Consumes}
use Rattle.report.specs.Held.{Held}
use Rattle.contig.specs.Run.{letters_room}
use Rattle.track.proofs.read_letters.Given as goal

abbrev pub invariant-loop : goal.invariant-loop
invariant-loop g l = record {
  read : (bytes : List ℕ) × Consumes (g.R.Read.remaining l.initial.reader) (g.R.Read.remaining l.reader) bytes × Held bytes l.letters.bytes.now l.letters.len;
  room : length l.letters.bytes.now ≡ letters_room;
}
