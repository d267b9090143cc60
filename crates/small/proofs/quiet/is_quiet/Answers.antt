use Rattle.std.proofs.Common.{sym, ℕ, ◌≤◌, arith, length, length-take, length-take-le}
use lib.ListN.{length-replicate}
use Rattle.small.proofs.Profile.{kmer_fits, kmers_fit, letters_fit, twice}
use Rattle.small.proofs.quiet.is_quiet.Goals as goal
use Rattle.small.proofs.quiet.is_quiet.Goals.{After-encode_sequence, After-reverse_complement_encoded_sequence}

-- `small::quiet::is_quiet` meets its contract: no k-mer of a strand that is scanned stands at min_start_cnt places.
codes_fit : (c : After-encode_sequence) → length c.args.sequence.now ≤ length c.encode_sequence.new.encoded
codes_fit c = omega (arith, letters_fit c.requires, c.encode_sequence.auto.encoded, length-replicate {A = ℕ} 4096 0)

pub repeats-requires-clause-k_bound : goal.repeats-requires-clause-k_bound
repeats-requires-clause-k_bound c = kmer_fits c.requires

pub repeats-requires-clause-kmers_bound : goal.repeats-requires-clause-kmers_bound
repeats-requires-clause-kmers_bound c = kmers_fit c.requires

pub repeats-requires-clause-few : goal.repeats-requires-clause-few
repeats-requires-clause-few c = omega (arith, letters_fit c.requires, length-take (length c.args.sequence.now) c.encode_sequence.new.encoded)

pub repeats-requires-clause-least_bound : goal.repeats-requires-clause-least_bound
repeats-requires-clause-least_bound c = omega (arith, twice c.requires)

others_fit : (c : After-reverse_complement_encoded_sequence) → length c.args.sequence.now ≤ length c.reverse_complement_encoded_sequence.new.reversed
others_fit c = omega (arith, letters_fit c.requires, c.reverse_complement_encoded_sequence.auto.reversed, length-replicate {A = ℕ} 4096 0)

pub repeats-requires-2-clause-k_bound : goal.repeats-requires-2-clause-k_bound
repeats-requires-2-clause-k_bound c = kmer_fits c.requires

pub repeats-requires-2-clause-kmers_bound : goal.repeats-requires-2-clause-kmers_bound
repeats-requires-2-clause-kmers_bound c = kmers_fit c.requires

pub repeats-requires-2-clause-few : goal.repeats-requires-2-clause-few
repeats-requires-2-clause-few c = omega (arith, letters_fit c.requires, length-take (length c.args.sequence.now) c.reverse_complement_encoded_sequence.new.reversed)

pub repeats-requires-2-clause-least_bound : goal.repeats-requires-2-clause-least_bound
repeats-requires-2-clause-least_bound c = omega (arith, twice c.requires)

pub slice_bounds-repeats-end : goal.slice_bounds-repeats-end
slice_bounds-repeats-end c = sym (length-take-le _ _ (codes_fit (goal.at.slice_bounds-repeats-end c).After-encode_sequence))

pub slice_bounds-reverse_complement_encoded_sequence-end : goal.slice_bounds-reverse_complement_encoded_sequence-end
slice_bounds-reverse_complement_encoded_sequence-end c = sym (length-take-le _ _ (codes_fit (goal.at.slice_bounds-reverse_complement_encoded_sequence-end c).After-encode_sequence))

pub slice_bounds-repeats-end-2 : goal.slice_bounds-repeats-end-2
slice_bounds-repeats-end-2 c = sym (length-take-le _ _ (others_fit (goal.at.slice_bounds-repeats-end-2 c).After-reverse_complement_encoded_sequence))
