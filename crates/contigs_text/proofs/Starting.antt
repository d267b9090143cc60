-- The text of a file by its size and its fault, and that it goes by the first bytes of a file, one more than are taken.
use Rattle.std.proofs.Common.{ℕ, zero, suc, ◌+◌, ◌≤◌, ◌<◌, ◌≡◌, refl, sym, ap, ◌∙◌, ⊎_elim, Bool, cond, List, arith, length, take, take_all, length-take-le, lt-ltb, le-ltb}
use Rattle.intervals.proofs.Order.{lt_or_le}
use Rattle.fasta.specs.Contents.{contents_of, records_of, fault_of}
use Rattle.report.specs.Text.{refusal_line, size_line}
use Rattle.longdust.specs.declared.LongdustOptions.{LongdustOptions}
use Rattle.contigs_text.specs.declared.Limits.{Limits}
use Rattle.contigs_text.specs.Text.{records_text, unless_fault, limited_text}

module _ (most : Limits) (o : LongdustOptions) where
  abbrev within : List ℕ → List ℕ
  within file = unless_fault (fault_of (contents_of file)) (records_text most o (records_of (contents_of file)))

  pub too_many : (file : List ℕ) → most.bytes < length file → size_line ≡ limited_text most o file
  unfolding limited_text
  too_many file h = sym (ap (λ (b : Bool). cond b size_line (within file)) (lt-ltb most.bytes (length file) h))

  module _ (file : List ℕ) where
    -- Bytes past those do not matter.
    pub first_bytes : limited_text most o (take (most.bytes + 1) file) ≡ limited_text most o file
    first_bytes =
        ⊎_elim
        (λ (more : most.bytes + 1 < length file).
        let l : length (take (most.bytes + 1) file) ≡ most.bytes + 1 = length-take-le (most.bytes + 1) file (omega arith) in
        sym (too_many (take (most.bytes + 1) file) (omega arith)) ∙ too_many file (omega arith))
        (λ (all : length file ≤ most.bytes + 1). ap (limited_text most o) (take_all (most.bytes + 1) file all))
        (lt_or_le (most.bytes + 1) (length file))

    module _ (few : length file ≤ most.bytes) (fault : ℕ) (e : fault ≡ fault_of (contents_of file)) where
      by_fault : unless_fault fault (records_text most o (records_of (contents_of file))) ≡ limited_text most o file
      unfolding limited_text
      by_fault =
          ap (λ (n : ℕ). unless_fault n (records_text most o (records_of (contents_of file)))) e
          ∙ sym (ap (λ (b : Bool). cond b size_line (within file)) (le-ltb most.bytes (length file) few))

      pub by_records : fault ≡ 0 → records_text most o (records_of (contents_of file)) ≡ limited_text most o file
      by_records z = ap (λ (n : ℕ). unless_fault n (records_text most o (records_of (contents_of file)))) (sym z) ∙ by_fault

      pub faulty : 0 < fault → refusal_line fault ≡ limited_text most o file
      faulty h = go fault refl ∙ by_fault
        where
          go : (n : ℕ) → fault ≡ n → refusal_line fault ≡ unless_fault fault (records_text most o (records_of (contents_of file)))
          go zero q = absurd (omega arith)
          go (suc n) q = rw q
