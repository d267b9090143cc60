-- Terms of contracts: the k-mer of the paper, 'Letters and places', rolled on letter by letter: the state after the first m letters, and its queue entry, which decodes to the newest place.
use Rattle.std.specs.Prelude.{ℕ, zero, suc, ◌+◌, ◌*◌, ◌%◌, ◌^◌, cond, List, nat_lt, slice_index_or}
use Rattle.letters.specs.declared.Kmer.{Kmer}

abbrev pub no_letter : Kmer
no_letter = record { value = 0; run = 0 }

-- A code below 4 is shifted in and the k-mer masked to 2k bits; any other keeps the k-mer and ends the run.
unfoldable pub rolled_on : ℕ → Kmer → ℕ → Kmer
rolled_on k q b = record {
  value = cond (nat_lt b 4) ((q.value * 4 + b) % 4 ^ k) q.value;
  run = cond (nat_lt b 4) (q.run + 1) 0;
}

-- After the first m letters of s.
unfoldable pub kmer_after : ℕ → List ℕ → ℕ → Kmer
kmer_after k s zero = no_letter
kmer_after k s (suc m) = rolled_on k (kmer_after k s m) (slice_index_or s m 4)

-- The k-mer shifted once more, and the ambiguity bit.
unfoldable pub entry_of : ℕ → Kmer → ℕ
entry_of k q = q.value * 2 + cond (nat_lt q.run k) 1 0
