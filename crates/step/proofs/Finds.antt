-- What a search can answer, for any float bits: none, a place whose forward scan was best at the newest entry, or place 0 with a window score above 0.
use Rattle.std.proofs.Common.{◌≡◌, ℕ, Bool, cond, ◌&&◌, ◌||◌, length, T, pos, ◌-ℤ◌, Float}
use lib.Signed.{le_z}
use lib.Ieee.{lt}
use lib.Ieee.Fits.{and_l, and_r}
use Rattle.floats.specs.Binary64.{zero64}
use Rattle.letters.specs.Place.{plain}
use Rattle.scans.specs.Setup.{Setup}
use Rattle.scans.specs.Counts.{raise}
use Rattle.scans.specs.Scans.{Find, none, at, Outcome, extends, if_backward, dust_forward, dust_backward}
use Rattle.scans.proofs.Test.{by_test}
use Rattle.scans.proofs.Finds.{backward_facts}
use Rattle.step.specs.Step.{Run, is_at, window_score, extend_tried, search}

-- A property of finds that these have, the search's answer has.
pub search_facts : (S : Setup) (i : ℕ) (a : Run) (x : ℕ) (P : Find → Type 0) → P none
    → ((j : ℕ) (m : Float) → (dust_forward S a.window j m).sums.found ≡ length a.window → P (at j))
    → (T (lt zero64 (window_score S a)) → P (at 0))
    → P (search S i a x).find
unfolding search extend_tried
search_facts S i a x P p h e =
    let r : Outcome = dust_backward S a.window in
    let due : Bool = is_at a.last_q 0 || le_z (pos (length a.window)) (pos i -ℤ a.start) in
    let above : Bool = lt zero64 (window_score S a) in
    let extended : Bool = extends S a.counts (length a.window) x in
    let nothing : Outcome = record { find = none; counts = a.counts } in
    by_test (λ (o : Outcome). P o.find) (extend_tried S i a && extended) (record { find = at 0; counts = raise a.counts (plain x) }) (cond (if_backward S a.window) r nothing)
    (λ t. e (and_l above due (and_r (is_at a.end i) (above && due) (and_l (extend_tried S i a) extended t))))
    (λ _. by_test (λ (o : Outcome). P o.find) (if_backward S a.window) r nothing (λ _. backward_facts S a.window (λ find _. P find) (λ _. p) h) (λ _. p))
