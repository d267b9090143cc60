-- Tables filled as far as a run over the letters reads them give its mask.
use Rattle.std.proofs.Common.{ℕ, ◌+◌, ◌≤◌, ◌<◌, min, ◌≡◌, refl, sym, ap, ◌∙◌, subst, false, true≢false, ◌≢◌, List, arith, length, take, drop, get_or-take, pos, Float}
use lib.ListN.{get_or-append}
use lib.Ieee.{nan}
use Rattle.buffers.specs.Fill.{put, tabulate}
use Rattle.buffers.proofs.Tabulate.{tabulate_length, tabulate_at}
use Rattle.floats.specs.Binary64.{number}
use Rattle.letters.specs.Code.{codes}
use Rattle.tables.specs.declared.Density.{Density}
use Rattle.tables.specs.declared.GcOption.{GcOption}
use Rattle.tables.specs.declared.GcOption.TheVariants.{Uniform, Fixed, Auto}
use Rattle.tables.specs.Density.{uniform, density}
use Rattle.tables.specs.Ln.{ln_of}
use Rattle.tables.specs.F.{f_of}
use Rattle.tables.specs.Tables.{ln_table, f_table}
use Rattle.scans.specs.Setup.{max_test}
use Rattle.scans.proofs.Agreeing.{AgreeTo, max_test_agree, max_test_longer}
use Rattle.longdust.specs.declared.LongdustOptions.{LongdustOptions}
use Rattle.longdust.specs.Mask.{mask}
use Rattle.longdust.proofs.Agreeing.{mask_agree}
use Rattle.small.specs.Profile.{not_uniform}
use Rattle.small.specs.Call.{filled_mask}
use Rattle.small.specs.Run.{Asked}
use Rattle.small.specs.Terms.Run.{Serve}
use Rattle.small.proofs.Profile.{window_some, twice}
use Rattle.small.proofs.Profile.{kmer_fits, window_fits}

-- For uniform GC the letters do not matter.
uniform_density : (k : ℕ) (gc : GcOption) (s : List ℕ) → not_uniform gc ≡ false → density k gc s ≡ uniform k
unfolding not_uniform density
uniform_density k Uniform s e = refl
uniform_density k (Fixed x) s e = absurd (true≢false e)
uniform_density k Auto s e = absurd (true≢false e)

-- A buffer with the first n values of a table, and the table's first r values, agree on entries 1..m.
values_agree : (g : ℕ → Float) (m n r : ℕ) (d : List Float) → m < n → m < r → AgreeTo m (put (tabulate g n) d) (tabulate g r)
values_agree g m n r d h l =
    let t = tabulate g n in
    record {
      same = λ i _ e.
          get_or-append t (drop (length t) d) nan i (omega (arith, tabulate_length g n))
          ∙ tabulate_at g n i nan (omega arith)
          ∙ sym (tabulate_at g r i nan (omega arith));
    }

-- And so does the buffer's front.
front_agree : {m : ℕ} {table values : List Float} (n : ℕ) → m < n → AgreeTo m table values → AgreeTo m (take n table) values
front_agree {m} {table} n h a = record { same = λ i some l. get_or-take n table i nan (omega arith) ∙ a.same i some l }

-- max_test is the same by tables that agree on entries 1..m, where those decide it.
test_decided : (t : Float) (m w : ℕ) {ln ln' f f' : List Float} → m ≤ w → AgreeTo m ln ln' → AgreeTo m f f' → max_test m t ln f ≢ pos 0 → max_test w t ln f ≡ max_test w t ln' f'
test_decided t m w {ln} {ln'} {f} {f'} l al af h =
    let same = max_test_agree m t al af in
    max_test_longer t ln f m w l h ∙ same ∙ sym (max_test_longer t ln' f' m w l (λ e. h (same ∙ e)))

module _ {o : LongdustOptions} {s : List ℕ} (a : Asked o s) where
  abbrev k : ℕ
  k = o.kmer

  abbrev w : ℕ
  w = o.window_size

  abbrev t : Float
  t = o.score_threshold

  filled_is : mask o s (ln_table w) (f_table k w (uniform k)) ≡ filled_mask o s
  unfolding filled_mask
  filled_is = ap (λ (d : Density). mask o s (ln_table w) (f_table k w d)) (sym (uniform_density k o.gc (codes s) a.gc))

  -- Tables filled up to m.
  module _ (m : ℕ) (l : m ≤ w) (ln f ln' f' : List Float) (ln_is : ln' ≡ put (ln_table m) ln) (f_is : f' ≡ put (f_table k m (uniform k)) f) where
    ln_agree : AgreeTo m ln' (ln_table w)
    unfolding ln_table
    ln_agree = subst (λ (z : List Float). AgreeTo m z (ln_table w)) (sym ln_is) (values_agree (λ n. ln_of (number n)) m (m + 1) (w + 1) ln (omega arith) (omega arith))

    f_agree : AgreeTo m f' (f_table k w (uniform k))
    unfolding f_table
    f_agree = subst (λ (z : List Float). AgreeTo m z (f_table k w (uniform k))) (sym f_is) (values_agree (f_of k (uniform k)) m (m + 2) (w + 2) f (omega arith) (omega arith))

    -- The tables that the run reads.
    ln_read_lem : AgreeTo m (take (w + 1) ln') (ln_table w)
    ln_read_lem = front_agree (w + 1) (omega arith) ln_agree

    f_read_lem : AgreeTo m (take (w + 2) f') (f_table k w (uniform k))
    f_read_lem = front_agree (w + 2) (omega arith) f_agree

    serve : min w (length s) ≤ m → max_test w t (take (w + 1) ln') (take (w + 2) f') ≡ max_test w t (ln_table w) (f_table k w (uniform k)) → Serve o s ln' f'
    serve reach test =
        record { same_mask = mask_agree o m ln_read_lem f_read_lem test (window_some a) (twice a) s reach ∙ filled_is }

    -- They decide max_test.
    pub decided_serves : length s ≤ m → max_test m t ln' f' ≢ pos 0 → Serve o s ln' f'
    decided_serves n h =
        let same = max_test_agree m t ln_agree f_agree ∙ sym (max_test_agree m t ln_read_lem f_read_lem) in
        serve (omega arith) (test_decided t m w l ln_read_lem f_read_lem (λ e. h (same ∙ e)))

  -- Tables filled up to w.
  pub whole_serves : (ln f ln' f' : List Float) → ln' ≡ put (ln_table w) ln → f' ≡ put (f_table k w (uniform k)) f → Serve o s ln' f'
  whole_serves ln f ln' f' p q =
      serve w (omega arith) ln f ln' f' p q (omega arith) (max_test_agree w t (ln_read_lem w (omega arith) ln f ln' f' p q) (f_read_lem w (omega arith) ln f ln' f' p q))

-- The laws by which `fill_read` is proved.
pub ruleset filled = (kmer_fits, window_fits, decided_serves, whole_serves)
