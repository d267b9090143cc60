-- `replay::call::fill_tables` meets its contract: the codes of the letters give the tables.
use Rattle.std.proofs.Common.{ℕ, ◌≤◌, ◌≡◌, refl, sym, ap, ◌∙◌, Bool, true, false, not, ◌&&◌, List, leb, Float, length, take, take_at, arith}
use borrow.Author.Tests.{leb-true}
use Rattle.buffers.specs.Fill.{put}
use Rattle.letters.specs.Code.{codes}
use Rattle.letters.proofs.Codes.{codes_length}
use Rattle.tables.specs.Density.{density}
use Rattle.tables.specs.Tables.{ln_table, f_table}
use Rattle.longdust.specs.declared.LongdustOptions.{LongdustOptions}
use Rattle.replay.specs.Call.{filling, Formulas}
use Rattle.replay.proofs.call.fill_tables.Goals as goal

both : (a b : Bool) → a && b ≡ true → (a ≡ true) × (b ≡ true)
both true b h = (refl, h)
both false b h = absurd (let z : ◌≡◌ {A = ℕ} 0 1 = cc in let n : ⊥ = omega arith in n)

room : (lent : Bool) (k w : ℕ) → filling lent k w ≡ true → (k ≤ 12) × (w ≤ 64)
unfolding filling
room lent k w h =
    let p = both (not lent && leb k 12) (leb w 64) h in
    (leb-true k 12 (both (not lent) (leb k 12) p.0).1, leb-true w 64 p.1)

filled : {lent : Bool} {o : LongdustOptions} {s : List ℕ} {ln f ln' f' : List Float} (cs : List ℕ) → filling lent o.kmer o.window_size ≡ true → cs ≡ codes s
    → ln' ≡ put (ln_table o.window_size) ln → f' ≡ put (f_table o.kmer o.window_size (density o.kmer o.gc cs)) f → Formulas lent o s ln f ln' f'
filled cs h e p q = record { ln_is = rw h p; f_is = rw (h, ← e) q }

pub fill_tables-requires-clause-k_bound : goal.fill_tables-requires-clause-k_bound
fill_tables-requires-clause-k_bound c = (room _ _ _ (sym c.fills.ensures ∙ c.if-not-fills.false)).0

pub fill_tables-requires-clause-w_bound : goal.fill_tables-requires-clause-w_bound
fill_tables-requires-clause-w_bound c =
    let r = room _ _ _ (sym c.fills.ensures ∙ c.if-not-fills.false) in
    omega arith

pub fill_tables-requires-clause-ln_room : goal.fill_tables-requires-clause-ln_room
fill_tables-requires-clause-ln_room c =
    let r = room _ _ _ (sym c.fills.ensures ∙ c.if-not-fills.false) in
    omega arith

pub fill_tables-requires-clause-f_room : goal.fill_tables-requires-clause-f_room
fill_tables-requires-clause-f_room c =
    let r = room _ _ _ (sym c.fills.ensures ∙ c.if-not-fills.false) in
    omega arith

pub returns : goal.returns
returns c =
    let F = c.fill_tables.ensures in
    let s = c.args.sequence.now in
    filled
    _
    (sym c.fills.ensures ∙ c.if-not-fills.false)
    (ap (λ (l : List ℕ). take (length s) l) c.encode_sequence.ensures ∙ take_at (codes s) _ (length s) (codes_length s))
    F.ln_after
    F.f_after
