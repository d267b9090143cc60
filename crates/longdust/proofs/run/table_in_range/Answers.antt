use Rattle.std.proofs.Common.{◌≡◌, refl, ap, ◌∙◌, Bool, ◌&&◌, List, [], ◌∷◌, ℕ, zero, suc, ◌+◌, ◌≤◌, ◌<◌, arith, Float, length, get_or, take, drop}
use borrow.Author.Rules.{rules}
use borrow.Author.Tests.{tests}
use lib.Ieee.{nan}
use Rattle.std.specs.List.{list_all}
use Rattle.std.proofs.lemmas.Iterator.{YieldsList-from_slice}
use Rattle.std.proofs.lemmas.Iterator.Search.{all_from_yields_List}
use Rattle.std.proofs.lemmas.List.Folds.{list_all_more}
use Rattle.scans.specs.Range.{between, table_in_range}
use Rattle.longdust.proofs.run.table_in_range.Goals as goal

all_between : (high x : Float) (table : List Float) (w : ℕ) → w ≤ length table → list_all (between high) (take w table) ≡ table_in_range high (x ∷ table) w
unfolding table_in_range
all_between high x table zero h = refl
all_between high x table (suc w) h =
    ap (λ (n : ℕ). list_all (between high) (take n table)) (let e : suc w ≡ w + 1 = omega arith in e)
    ∙ list_all_more (between high) table w nan (omega arith)
    ∙ ap (λ (b : Bool). b && between high (get_or table w nan)) (all_between high x table w (omega arith))

from_1 : (high : Float) (table : List Float) (w n : ℕ) → w < length table → n ≡ w → list_all (between high) (take n (drop 1 table)) ≡ table_in_range high table w
from_1 high [] w n h e = absurd (let z : ⊥ = omega arith in z)
from_1 high (x ∷ table) w n h e = ap (λ (m : ℕ). list_all (between high) (take m table)) e ∙ all_between high x table w (omega arith)

pub returns : goal.returns
returns c =
    all_from_yields_List (between c.args.high) _ _ c.all.result c.all.ensures.ran (YieldsList-from_slice _ c.iter.ensures.rest) (λ x b q k. search (rules, tests))
    ∙ from_1 c.args.high c.args.table.now c.args.w _ c.requires (omega arith)
