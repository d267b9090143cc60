use Rattle.std.proofs.Common.{rules, arith, ◌∙◌, sym, ap, ℕ, ◌<◌, List, Bool, ◌≡◌, length}
use Rattle.join.specs.Stretches.{stretches}
use Rattle.join.proofs.Stretches.{stretches_same}
use Rattle.free.specs.Free.{is_free, free}
use Rattle.free.specs.Terms.Letters.{at}
use Rattle.free.proofs.Setting.{free_at, cleared}
use Rattle.free.proofs.fill_free.Goals as goal

pub returns : goal.returns
unfolding free
returns c =
    let s : List ℕ = c.args.letters.now in
    let A = c.args.asked.now in
    let same : length c.drop_others.new.map ≡ length s = search rules in
    let first : length c.as_mut_slice-map.result.now ≡ length s = search rules in
    c.in_ok-fill_stretches.ensures
    ∙ ap (λ (n : ℕ). stretches (at c.drop_others.new.map) n) same
    ∙ stretches_same (at c.drop_others.new.map) (is_free A.pad A.regions.now A.mask.now s) (length s)
    (free_at A.pad A.regions.now A.mask.now s c.as_mut_slice-map.result.now c.set_near.new.map c.set_near-2.new.map c.drop_others.new.map (length s)
    (λ x h. cleared _ _ x _ _ c.clear.ensures.items (c.as_mut_slice-map.ensures.value ∙ c.in_ok-resize.ensures.items))
    (λ x h. c.set_near.ensures x (search rules)) (λ x h. c.set_near-2.ensures x (search rules)) (λ x h. c.drop_others.ensures x (search rules)))
