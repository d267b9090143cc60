-- The terms of the contracts of the exported masking calls.
use Rattle.std.specs.Prelude.{ℕ, ◌≡◌, Bool, List, ℤ, Result}
use Rattle.checks.specs.declared.refusal.Refusal.{Refusal}
use Rattle.checks.specs.Refusal.{number_of}
use Rattle.longdust_c.specs.Numbers.{count_or, flag}
use Rattle.longdust.specs.declared.LongdustOptions.{LongdustOptions}
use Rattle.longdust.specs.declared.Answer.{Answer}
use Rattle.longdust.specs.Buffers.{Buffers}
use Rattle.longdust.specs.Call.{mask_count, mask_flag, Answered}
use Rattle.longdust.specs.Strand.{StrandBuffers, StrandAnswered}

-- The number that a call returns and its flag are those of its answer, and the answer is that of the call of crate longdust.
pub record Exported (Tables : LongdustOptions → List ℕ → Buffers → Buffers → Type 0) (o : LongdustOptions) (s : List ℕ) (b b' : Buffers)
    (result : ℤ) (in_range : ℕ) : Type 0 where
  pub answer : Result Answer Refusal
  pub answered : Answered Tables o s b b' answer
  pub result_is : result ≡ count_or (number_of answer) (mask_count answer)
  pub flag_is : in_range ≡ flag (mask_flag answer)

-- The same of the call that masks one strand.
pub record StrandExported (o : LongdustOptions) (reverse : Bool) (s : List ℕ) (b b' : StrandBuffers) (result : ℤ) (in_range : ℕ) : Type 0 where
  pub answer : Result Answer Refusal
  pub answered : StrandAnswered o reverse s b b' answer
  pub result_is : result ≡ count_or (number_of answer) (mask_count answer)
  pub flag_is : in_range ≡ flag (mask_flag answer)
