use Rattle.std.proofs.Common.{arith}
use Rattle.intervals.proofs.Counted.{covered_at_most}
use Rattle.questions.proofs.Walking.{walk_start, walk_fits, walk_turn, walk_stop, walk_end}
use Rattle.questions.proofs.Searching.{of_test}
use Rattle.forms.proofs.masked.Mask.masked.Goals as goal

pub loop-k-init : goal.loop-k-init
loop-k-init c = walk_start c.args.self.now.list.now (of_test _ c.args.self.now.usual) c.args.range.start c.args.range.end c.first_past-k.ensures c.requires

pub overflow_add-letters : goal.overflow_add-letters
overflow_add-letters c =
    let A = c.args in
    let e = walk_fits A.self.now.list.now (of_test _ c.args.self.now.usual) A.range.start A.range.end c.loop-k.invariant (omega arith) c.letters_inside-letters.ensures in
    omega arith

pub returns-then-range-interval-clause-masked : goal.returns-then-range-interval-clause-masked
returns-then-range-interval-clause-masked c =
    let A = c.args in
    let w = walk_stop A.self.now.list.now (of_test _ c.args.self.now.usual) A.range.start A.range.end c.loop-k.invariant (omega arith) c.letters_inside-letters.ensures c.if-range-interval.true in
    w.counted

pub returns-then-range-interval-clause-most : goal.returns-then-range-interval-clause-most
returns-then-range-interval-clause-most c =
    let A = c.args in
    let w = walk_stop A.self.now.list.now (of_test _ c.args.self.now.usual) A.range.start A.range.end c.loop-k.invariant (omega arith) c.letters_inside-letters.ensures c.if-range-interval.true in
    let e = w.counted in
    omega (arith, covered_at_most A.self.now.list.now A.range.start A.range.end)

pub loop-k-preserved : goal.loop-k-preserved
loop-k-preserved c =
    let A = c.args in
    walk_turn A.self.now.list.now (of_test _ c.args.self.now.usual) A.range.start A.range.end c.loop-k.invariant (omega arith) c.letters_inside-letters.ensures c.if-range-interval.false

pub returns-clause-masked : goal.returns-clause-masked
returns-clause-masked c =
    let A = c.args in
    let w = walk_end A.self.now.list.now (of_test _ c.args.self.now.usual) A.range.start A.range.end c.loop-k.invariant (omega arith) in
    w.counted

pub returns-clause-most : goal.returns-clause-most
returns-clause-most c =
    let A = c.args in
    let w = walk_end A.self.now.list.now (of_test _ c.args.self.now.usual) A.range.start A.range.end c.loop-k.invariant (omega arith) in
    let e = w.counted in
    omega (arith, covered_at_most A.self.now.list.now A.range.start A.range.end)
