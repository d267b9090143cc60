-- A find that a run makes by a scan: the two places of `twice`, by the setup `tied`, at the second letter. A find that begins before the first letter.
use Rattle.std.proofs.Common.{◌≡◌, refl, ℕ, zero, suc, ◌≤◌, arith, false, [], ◌∷◌, T, pos}
use lib.Ieee.{binary64, fits, of_bits, of_fields, of_int, add, sub, mul, neg, lt, le}
use Rattle.floats.specs.Binary64.{number, half64}
use Rattle.letters.specs.Place.{plain, packed, all_plain, place_at, places_from, places}
use Rattle.intervals.specs.Interval.{interval}
use Rattle.intervals.specs.Save.{staying, save}
use Rattle.scans.specs.Setup.{Setup, ln_at, f_at}
use Rattle.scans.specs.Scans.{if_backward_from, if_backward, extends, backward_from, forward_from, dust_forward, try_from, tried, dust_backward}
use Rattle.scans.proofs.Examples.{tied, twice}
use Rattle.step.specs.Step.{begin, leave, join, window_score, extend_tried, search, found_by, found, look, step, run_from, run, intervals_of_places, intervals_of}
use Rattle.scans.specs.Range.{table_in_range, in_range, CheckedSetup}
use Rattle.step.specs.ScanFind.{looked_from, FoundByScan}
use Rattle.step.specs.Dropping.{found_dropping, step_dropping, run_dropping, intervals_dropping, look_by}

twice_found : FoundByScan tied twice 0 2
unfolding looked_from begin leave join window_score extend_tried search found_by found look step run_from run if_backward_from if_backward extends backward_from forward_from dust_forward try_from tried dust_backward of_bits of_fields of_int add sub mul neg lt le
twice_found =
    record {
      before = plain 0 ∷ [];
      kmer = 0;
      after = [];
      strand = refl;
      state = looked_from tied (plain 0 ∷ []) (plain 0);
      state_is = refl;
      searched = tt;
      not_extended = tt;
      index = 0;
      found = refl;
      size_is = refl;
      first_is = refl;
    }

-- That setup is in range: so without its slack the law of shorter stretches would be false.
tied_in_range : T (in_range tied)
unfolding in_range table_in_range of_bits of_fields of_int lt le
tied_in_range = tt

tied_checked : CheckedSetup tied
unfolding of_bits of_fields of_int lt fits
tied_checked =
    record {
      window_small = omega arith;
      window_some = omega arith;
      t_fits = tt;
      t_above = tt;
      ln_fits = λ c h. ln_fits c h;
      f_fits = λ l h. f_fits l h;
    }
  where
    ln_fits : (c : ℕ) → c ≤ 2 → T (fits binary64 (ln_at tied c))
    ln_fits zero h = tt
    ln_fits (suc zero) h = tt
    ln_fits (suc (suc zero)) h = tt
    ln_fits (suc (suc (suc c))) h = absurd (omega arith)

    f_fits : (l : ℕ) → l ≤ 2 → T (fits binary64 (f_at tied l))
    f_fits zero h = tt
    f_fits (suc zero) h = tt
    f_fits (suc (suc zero)) h = tt
    f_fits (suc (suc (suc l))) h = absurd (omega arith)

-- Five A, k = 3 and a window of four places: the fifth letter extends the find to the oldest place, 1, whose k-mer begins before the first letter.
abbrev short_window : Setup
short_window =
    record {
      kmer = 3;
      window_size = 4;
      score_threshold = half64;
      min_start_cnt = 2;
      drop_limit = number 2;
      approx = false;
      max_test = pos 0;
      ln = number 0 ∷ number 0 ∷ number 1 ∷ number 2 ∷ number 3 ∷ [];
      f = number 0 ∷ number 0 ∷ number 0 ∷ number 0 ∷ number 0 ∷ number 0 ∷ [];
    }

five_a : intervals_of short_window (0 ∷ 0 ∷ 0 ∷ 0 ∷ 0 ∷ []) ≡ interval 0 5 ∷ []
unfolding intervals_of intervals_of_places begin leave join window_score extend_tried search found_by found look step run_from run if_backward_from if_backward extends backward_from forward_from dust_forward try_from tried dust_backward
    packed all_plain place_at places_from places staying save of_bits of_fields of_int add sub mul neg lt le
five_a = refl

five_a_dropping : intervals_dropping short_window (0 ∷ 0 ∷ 0 ∷ 0 ∷ 0 ∷ []) ≡ []
unfolding intervals_dropping begin leave join window_score extend_tried search found_by look_by found_dropping step_dropping run_dropping if_backward_from if_backward extends backward_from forward_from dust_forward try_from tried dust_backward
    packed all_plain place_at places_from places staying save of_bits of_fields of_int add sub mul neg lt le
five_a_dropping = refl
