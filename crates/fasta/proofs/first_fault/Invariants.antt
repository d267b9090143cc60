use Rattle.std.proofs.Common.{◌-◌, ◌≡◌, length, drop}
use Rattle.fasta.specs.Contents.{contents_of, fault_of}
use Rattle.fasta.proofs.first_fault.Given as goal

abbrev pub invariant-loop-found : goal.invariant-loop-found
invariant-loop-found l = fault_of (contents_of (drop l.cursor.at l.file)) ≡ fault_of (contents_of l.file)

abbrev pub decreases-loop-found : goal.decreases-loop-found
decreases-loop-found l = length l.file - l.cursor.at
