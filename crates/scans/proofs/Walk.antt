-- The entries of a part walked a turn at a time, each taking its part in the scan counts away: to clear them, or to take older entries out.
use Rattle.std.proofs.Common.{◌≡◌, refl, ap, ◌∙◌, subst, List, [], ◌∷◌, ◌++◌, ℕ, ◌+◌, ◌-◌, ◌/◌, ◌^◌, ◌<◌, ◌≤◌, add-one, arith, length, get_or, set, drop, replicate, length-set, drop_of_length-le, drop-cons}
use Rattle.letters.specs.Place.{Place, ambiguous, plain, Below}
use Rattle.letters.specs.Terms.Entry.{decode, decoded}
use Rattle.letters.proofs.Entries.{decoded_length, decoded_at}
use Rattle.scans.specs.declared.Params.{Params}
use Rattle.scans.specs.Counts.{lower}
use Rattle.scans.specs.Terms.Counted.{Counted, Touched}
use Rattle.scans.specs.Terms.Window.{queue, window, Windowed}
use Rattle.scans.specs.Terms.Parts.{Queued, Ringed, Coded, Walked}
use Rattle.scans.proofs.Rings.{queue_length, window_length}
use Rattle.scans.proofs.Values.{decode_below, decoded_below}
use Rattle.scans.proofs.Counting.{lower_counted}
use Rattle.scans.proofs.Touched.{touched_clear, touched_none}

-- ---- A loop over the entries of a part, for any relation of counts and places.
pub record Walking (P : List ℕ → List Place → Type 0) (part counts₀ : List ℕ) (i : ℕ) (counts : List ℕ) : Type 0 where
  pub inside : i ≤ length part
  pub same : length counts ≡ length counts₀
  pub left : (after : List Place) → P counts₀ (decoded part ++ after) → P counts (drop i (decoded part) ++ after)

pub rest_cons : (part : List ℕ) (i : ℕ) → i < length part → drop i (decoded part) ≡ decode (get_or part i 0) ∷ drop (i + 1) (decoded part)
rest_cons part i h = drop-cons (decoded part) i ambiguous (omega (arith, decoded_length part)) ∙ rw (decoded_at part i h, add-one i)

pub rest_none : (part : List ℕ) (i : ℕ) → length part ≤ i → drop i (decoded part) ≡ []
rest_none part i h = drop_of_length-le (decoded part) {i = i} (omega (arith, decoded_length part))

module _ (P : List ℕ → List Place → Type 0) (part counts₀ : List ℕ) where
  module _ (i : ℕ) (counts : List ℕ) (c : Walking P part counts₀ i counts) where
    pub walking_end : length part ≤ i → Walked P (decoded part) counts₀ counts
    walking_end h = record { left = λ after t. subst (λ (z : List Place). P counts (z ++ after)) (rest_none part i h) (c.left after t) }

    module _ (r : Coded part (length counts₀)) (h : i < length part) where
      walking_turn : (counts' : List ℕ) → length counts' ≡ length counts → ((es : List Place) → P counts (decode (get_or part i 0) ∷ es) → P counts' es) → Walking P part counts₀ (i + 1) counts'
      walking_turn counts' same step =
          record {
            inside = omega arith;
            same = same ∙ c.same;
            left = λ after t. step (drop (i + 1) (decoded part) ++ after) (subst (λ (z : List Place). P counts (z ++ after)) (rest_cons part i h) (c.left after t));
          }

-- ---- A count is set to 0.
module _ (part counts₀ : List ℕ) (i : ℕ) (counts : List ℕ) (c : Walking Touched part counts₀ i counts) (r : Coded part (length counts₀)) (h : i < length part) where
  pub clearing_turn : Walking Touched part counts₀ (i + 1) (set counts (get_or part i 0 / 2) 0)
  clearing_turn =
      walking_turn Touched part counts₀ i counts c r h (set counts (get_or part i 0 / 2) 0) (length-set counts (get_or part i 0 / 2) 0) (λ es t. touched_clear counts (get_or part i 0) es t)

-- ---- Both straight parts, one after the other.
pub walked_both : (P : List ℕ → List Place → Type 0) (q older newer after : List Place) (counts₀ counts₁ counts₂ : List ℕ) → q ≡ older ++ (newer ++ after) → P counts₀ q → Walked P older counts₀ counts₁
    → Walked P newer counts₁ counts₂ → P counts₂ after
walked_both P q older newer after counts₀ counts₁ counts₂ e t a b = b.left after (a.left (newer ++ after) (subst (λ (z : List Place). P counts₀ z) e t))

pub uncounted_both : (q older newer after : List Place) (counts₀ counts₁ counts₂ : List ℕ) → q ≡ older ++ (newer ++ after) → length counts₁ ≡ length counts₀ → Counted (length counts₀) counts₀ q
    → Walked (Counted (length counts₀)) older counts₀ counts₁ → Walked (Counted (length counts₁)) newer counts₁ counts₂ → Counted (length counts₀) counts₂ after
uncounted_both q older newer after counts₀ counts₁ counts₂ e same t a b =
    walked_both (Counted (length counts₀)) q older newer after counts₀ counts₁ counts₂ e t a (subst (λ (n : ℕ). Walked (Counted n) newer counts₁ counts₂) same b)

pub cleared_both : (ring : List ℕ) (head len : ℕ) (counts₀ counts₂ : List ℕ) → head < length ring → len ≤ length ring → length counts₂ ≡ length counts₀ → Touched counts₂ (drop len (window ring head len))
    → counts₂ ≡ replicate (length counts₀) 0
cleared_both ring head len counts₀ counts₂ h l same t =
    let end : drop len (window ring head len) ≡ [] = drop_of_length-le (window ring head len) {i = len} (omega (arith, window_length ring head len h l)) in
    touched_none counts₂ (subst (λ (z : List Place). Touched counts₂ z) end t) ∙ ap (λ (n : ℕ). replicate n 0) same

-- A window has what a walk asks.
pub windowed_queued : {p : Params} {ring : List ℕ} {head len n m : ℕ} {counts : List ℕ} → Windowed p ring head len counts n → m ≡ 4 ^ p.kmer → Queued ring head len m
windowed_queued w e = record { head_in = omega (arith, w.ring_is, w.head_in); len_in = omega (arith, w.ring_is, w.len_in); small = omega (arith, w.ring_is, w.small); below = λ j h. rw e (w.below j h) }

pub queued_below : {ring : List ℕ} {head len m : ℕ} → Queued ring head len m → Below m (window ring head len)
queued_below {ring} {head} {len} {m} r = decoded_below m (queue ring head len) (λ j h. r.below j (omega (arith, queue_length ring head len r.head_in r.len_in)))

pub queued_as : {ring : List ℕ} {head len m : ℕ} (m' : ℕ) → m' ≡ m → Queued ring head len m → Queued ring head len m'
queued_as m' e r = record { head_in = r.head_in; len_in = r.len_in; small = r.small; below = λ j h. rw e (r.below j h) }

pub ringed_as : {ring : List ℕ} {head len n m k : ℕ} (k' : ℕ) → k' ≡ k → Ringed ring head len n m k → Ringed ring head len n m k'
ringed_as k' e r = record { queued = queued_as k' e r.queued; ln_long = r.ln_long; f_long = r.f_long }

-- ---- A count falls.
lower_length : (counts : List ℕ) (e : Place) → length (lower counts e) ≡ length counts
lower_length counts ambiguous = refl
lower_length counts (plain x) = length-set counts x (get_or counts x 0 - 1)

module _ (part counts₀ : List ℕ) (i : ℕ) (counts : List ℕ) (c : Walking (Counted (length counts₀)) part counts₀ i counts) (r : Coded part (length counts₀)) (h : i < length part) where
  pub lowering_turn : (counts' : List ℕ) → counts' ≡ lower counts (decode (get_or part i 0)) → Walking (Counted (length counts₀)) part counts₀ (i + 1) counts'
  lowering_turn counts' is =
      let m = length counts₀ in
      let e : Place = decode (get_or part i 0) in
      let below = decode_below m (get_or part i 0) (r.below i h) in
      walking_turn (Counted m) part counts₀ i counts c r h counts' (ap length is ∙ lower_length counts e) (λ es t. rw is (lower_counted m counts e es below t))
