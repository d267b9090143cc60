-- Tables that agree on entries 1..m and lead to the same max_test give the same mask and the same marks, if w or the number of letters is at most m, and with m = w the same flag: neither reads ln[0], f[0] or f[w + 1].
use Rattle.std.proofs.Common.{◌≡◌, refl, sym, ap, ◌∙◌, ℕ, ◌≤◌, ◌<◌, min, Bool, true, false, List, length, get_or, take, get_or-take, Float, arith}
use lib.Ieee.{nan}
use Rattle.letters.specs.Code.{codes, reverse_complement}
use Rattle.letters.proofs.Codes.{codes_length, reverse_complement_length}
use Rattle.scans.specs.Setup.{Setup, max_test}
use Rattle.scans.proofs.Agreeing.{AgreeTo, Agree, max_test_agree}
use Rattle.scans.specs.Range.{in_range}
use Rattle.step.specs.Step.{intervals_of}
use Rattle.step.proofs.Agreeing.{in_range_agree, intervals_agree}
use Rattle.longdust.specs.declared.LongdustOptions.{LongdustOptions}
use Rattle.longdust.specs.Mask.{setup, mask, marked_mask}
use Rattle.mask.specs.Mask.{mask_of, marked_mask_of}

-- Equal tables agree, and so do the fronts of tables that agree, of more than m entries.
pub agree_equal : {m : ℕ} {table table' : List Float} → table ≡ table' → AgreeTo m table table'
agree_equal e = record { same = λ i _ _. ap (λ (l : List Float). get_or l i nan) e }

pub agree_take : {m : ℕ} {table table' : List Float} (n : ℕ) → m < n → AgreeTo m table table' → AgreeTo m (take n table) (take n table')
agree_take {m} {table} {table'} n h a =
    record { same = λ i some l. get_or-take n table i nan (omega arith) ∙ a.same i some l ∙ sym (get_or-take n table' i nan (omega arith)) }

module _ (m : ℕ) (S S' : Setup) (a : Agree m S S') (some : 0 < S.window_size) (twice : 2 ≤ S.min_start_cnt) (s : List ℕ) (reach : min S.window_size (length s) ≤ m) where
  forward_agree : intervals_of S s ≡ intervals_of S' s
  forward_agree = intervals_agree m S S' a some twice s reach

  reverse_agree : intervals_of S (reverse_complement s) ≡ intervals_of S' (reverse_complement s)
  reverse_agree = intervals_agree m S S' a some twice (reverse_complement s) (rw (reverse_complement_length s) reach)

  mask_of_agree : (b : Bool) → mask_of S b s ≡ mask_of S' b s
  unfolding mask_of
  mask_of_agree true = forward_agree
  mask_of_agree false = rw (forward_agree, reverse_agree)

  marked_of_agree : (b : Bool) → marked_mask_of S b s ≡ marked_mask_of S' b s
  unfolding marked_mask_of
  marked_of_agree true = rw forward_agree
  marked_of_agree false = rw (forward_agree, reverse_agree)

module _ (o : LongdustOptions) (m : ℕ) {ln ln' f f' : List Float} (al : AgreeTo m ln ln') (af : AgreeTo m f f') (test : max_test o.window_size o.score_threshold ln f ≡ max_test o.window_size o.score_threshold ln' f') where
  setup_agree : Agree m (setup o ln f) (setup o ln' f')
  unfolding setup
  setup_agree =
      record {
        kmer = refl;
        window_size = refl;
        score_threshold = refl;
        min_start_cnt = refl;
        drop_limit = refl;
        approx = refl;
        max_test = test;
        ln = al;
        f = af;
      }

  -- The bounds on w and min_start_cnt are those of every accepted request.
  module _ (some : 0 < o.window_size) (twice : 2 ≤ o.min_start_cnt) (s : List ℕ) (reach : min o.window_size (length s) ≤ m) where
    codes_reach : min o.window_size (length (codes s)) ≤ m
    codes_reach = rw (codes_length s) reach

    pub mask_agree : mask o s ln f ≡ mask o s ln' f'
    unfolding mask setup
    mask_agree = mask_of_agree m (setup o ln f) (setup o ln' f') setup_agree some twice (codes s) codes_reach o.forward_only

    pub marked_agree : marked_mask o s ln f ≡ marked_mask o s ln' f'
    unfolding marked_mask setup
    marked_agree = marked_of_agree m (setup o ln f) (setup o ln' f') setup_agree some twice (codes s) codes_reach o.forward_only

-- Tables that agree on entries 1..w.
module _ (o : LongdustOptions) {ln ln' f f' : List Float} (al : AgreeTo o.window_size ln ln') (af : AgreeTo o.window_size f f') where
  pub same_test : max_test o.window_size o.score_threshold ln f ≡ max_test o.window_size o.score_threshold ln' f'
  same_test = max_test_agree o.window_size o.score_threshold al af

  pub flag_agree : in_range (setup o ln f) ≡ in_range (setup o ln' f')
  unfolding setup
  flag_agree = in_range_agree (setup o ln f) (setup o ln' f') (setup_agree o o.window_size al af same_test)
