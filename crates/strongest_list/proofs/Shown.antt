-- A buffer in which letters are barred, entry by entry.
use Rattle.std.proofs.Common.{◌≡◌, ℕ, ◌+◌, ◌-◌, ◌<◌, ◌≤◌, min, Bool, true, false, not, cond, ltb, leb, ◌&&◌, List, [], ◌∷◌, ◌++◌, length, get_or, take, drop, refl, sym, ap, ap₂, ◌∙◌, arith, ⊎_elim, length-append, length-drop, get_or-append-add, get_or-take, get_or-drop, length-take-le, lt-ltb, le-ltb, le-leb}
use lib.ListN.{get_or-append}
use borrow.Rule.Slice.PartMut.{put_mid}
use borrow.Author.Tests.{lt-leb}
use Rattle.buffers.specs.Fill.{put}
use Rattle.buffers.proofs.At.{default_free}
use Rattle.letters.specs.Code.{codes}
use Rattle.letters.proofs.Codes.{codes_length}
use Rattle.intervals.specs.declared.Interval.{Interval}
use Rattle.intervals.specs.Interval.{covered}
use Rattle.intervals.proofs.Order.{lt_or_le}
use Rattle.strongest.proofs.Backward.{part, codes_part}
use Rattle.strongest_list.specs.Stretches.{Asked, Stretch, letters}
use Rattle.strongest_list.specs.Terms.Codes.{clear_of, clear_of_all, Shows, Bars, Opens}

-- ---- A region opened: letters a .. e - 1 of the sequence s encoded over those of cs.
module _ (s cs : List ℕ) (a e : ℕ) (some : a ≤ e) (fits : e ≤ length s) (same : length cs ≡ length s) where
  abbrev m : ℕ
  m = e - a

  abbrev opened : List ℕ
  opened = put (codes (part s a m)) (take m (drop a cs))

  front : length (take a cs) ≡ a
  front = length-take-le a cs (omega arith)

  codes_long : length (codes (part s a m)) ≡ m
  codes_long = codes_length (part s a m) ∙ length-take-le m (drop a s) (omega (arith, length-drop a s))

  opened_long : length opened ≡ m
  opened_long =
      length-append (codes (part s a m)) (drop (length (codes (part s a m))) (take m (drop a cs)))
      ∙ omega (arith, codes_long, length-drop (length (codes (part s a m))) (take m (drop a cs)), length-take-le m (drop a cs) (omega (arith, length-drop a cs)))

  pub opens : (x : ℕ) → get_or (put_mid a m cs opened) x 5 ≡ cond (leb a x && ltb x e) (get_or (codes s) x 4) (get_or cs x 5)
  opens x =
      ⊎_elim
      (λ h.
      get_or-append (take a cs) (opened ++ drop m (drop a cs)) 5 x (omega (arith, front))
      ∙ get_or-take a cs x 5 h
      ∙ sym (ap (λ (b : Bool). cond (b && ltb x e) (get_or (codes s) x 4) (get_or cs x 5)) (lt-leb a x h)))
      (λ h.
      let y : ℕ = x - a in
      let xy : x ≡ length (take a cs) + y = omega (arith, front) in
      ap (λ (z : ℕ). get_or (put_mid a m cs opened) z 5) xy
      ∙ get_or-append-add (take a cs) (opened ++ drop m (drop a cs)) y 5
      ∙ ⊎_elim
      (λ j.
      get_or-append opened (drop m (drop a cs)) 5 y (omega (arith, opened_long))
      ∙ get_or-append (codes (part s a m)) (drop (length (codes (part s a m))) (take m (drop a cs))) 5 y (omega (arith, codes_long))
      ∙ default_free (codes (part s a m)) y 5 4 (omega (arith, codes_long))
      ∙ ap (λ (l : List ℕ). get_or l y 4) (codes_part s a m)
      ∙ get_or-take m (drop a (codes s)) y 4 j
      ∙ get_or-drop a (codes s) y 4
      ∙ ap (λ (z : ℕ). get_or (codes s) z 4) (let q : a + y ≡ x = omega arith in q)
      ∙ sym (ap₂ (λ (b c : Bool). cond (b && c) (get_or (codes s) x 4) (get_or cs x 5)) (le-leb a x h) (lt-ltb x e (omega arith))))
      (λ j.
      let z : ℕ = y - m in
      let yz : y ≡ length opened + z = omega (arith, opened_long) in
      ap (λ (n : ℕ). get_or (opened ++ drop m (drop a cs)) n 5) yz
      ∙ get_or-append-add opened (drop m (drop a cs)) z 5
      ∙ get_or-drop m (drop a cs) z 5
      ∙ get_or-drop a cs (m + z) 5
      ∙ ap (λ (n : ℕ). get_or cs n 5) (let q : a + (m + z) ≡ x = omega arith in q)
      ∙ sym (ap₂ (λ (b c : Bool). cond (b && c) (get_or (codes s) x 4) (get_or cs x 5)) (le-leb a x h) (le-ltb x e (omega arith))))
      (lt_or_le y m))
      (lt_or_le x a)

pub opens_region : (s cs cs' : List ℕ) (i : Interval) → i.start ≤ i.end → i.end ≤ length s → length cs ≡ length s
    → cs' ≡ put (codes (part s i.start (i.end - i.start))) (take (i.end - i.start) (drop i.start cs)) → Opens s i cs (put_mid i.start (i.end - i.start) cs cs')
opens_region s cs cs' i h k e d = rw d (record { at = opens s cs i.start i.end h k e })

-- ---- A letter barred beside an entry.
clear_snoc : (k : ℕ) (ss : List Stretch) (s : Stretch) (x : ℕ) → clear_of_all k (ss ++ (s ∷ [])) x ≡ clear_of_all k ss x && clear_of (letters k s) x
unfolding clear_of_all
clear_snoc k [] s x = and_true (clear_of (letters k s) x)
  where
    and_true : (b : Bool) → b && true ≡ b
    and_true true = refl
    and_true false = refl
clear_snoc k (t ∷ ss) s x = ap (λ (b : Bool). clear_of (letters k t) x && b) (clear_snoc k ss s x) ∙ assoc (clear_of (letters k t) x)
  where
    assoc : (a : Bool) → a && (clear_of_all k ss x && clear_of (letters k s) x) ≡ (a && clear_of_all k ss x) && clear_of (letters k s) x
    assoc true = refl
    assoc false = refl

leb_shift : (p x : ℕ) → leb p (x + 1) ≡ leb (p - 1) x
leb_shift p x =
    ⊎_elim
    (λ h. lt-leb p (x + 1) h ∙ sym (lt-leb (p - 1) x (omega arith)))
    (λ h. le-leb p (x + 1) h ∙ sym (le-leb (p - 1) x (omega arith)))
    (lt_or_le (x + 1) p)

leb_below : (x q n : ℕ) → x < n → leb x q ≡ ltb x (min (q + 1) n)
leb_below x q n h =
    ⊎_elim
    (λ k. lt-leb x q k ∙ sym (le-ltb x (min (q + 1) n) (omega arith)))
    (λ k. le-leb x q k ∙ sym (lt-ltb x (min (q + 1) n) (omega arith)))
    (lt_or_le q x)

module _ (A : Asked) (found : List Stretch) (s : Stretch) (cs cs' : List ℕ) (p q : ℕ)
    (S : Shows A found cs) (long : length cs' ≡ length cs) (p_is : p ≡ s.first + 1 - A.kmer) (q_is : q ≡ s.first + s.size) (B : Bars (p - 1) (min (q + 1) (length cs)) cs cs') where
  one : (x : ℕ) → x < length cs → clear_of (letters A.kmer s) x ≡ not (leb (p - 1) x && ltb x (min (q + 1) (length cs)))
  one x h =
      ap₂ (λ (a b : ℕ). not (leb a (x + 1) && leb x b)) (sym p_is) (sym q_is)
      ∙ ap₂ (λ (a b : Bool). not (a && b)) (leb_shift p x) (leb_below x q (length cs) h)

  joined : (b c d : Bool) (v : ℕ) → cond b 5 (cond (c && d) v 5) ≡ cond (c && (d && not b)) v 5
  joined true true true v = refl
  joined true true false v = refl
  joined true false d v = refl
  joined false true true v = refl
  joined false true false v = refl
  joined false false d v = refl

  pub shows_more : Shows A (found ++ (s ∷ [])) cs'
  shows_more =
      record {
        long = long ∙ S.long;
        at = λ x h.
            let k : x < length cs = omega (arith, long) in
            let b : Bool = leb (p - 1) x && ltb x (min (q + 1) (length cs)) in
            let c : Bool = covered A.regions x in
            let v : ℕ = get_or (codes A.sequence) x 4 in
            B.at x
            ∙ ap (λ (n : ℕ). cond b 5 n) (S.at x k)
            ∙ joined b c (clear_of_all A.kmer found x) v
            ∙ sym (ap (λ (d : Bool). cond (c && d) v 5) (clear_snoc A.kmer found s x ∙ ap (λ (d : Bool). clear_of_all A.kmer found x && d) (one x k)));
      }
