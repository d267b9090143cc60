-- Each turn reads one place more.
use Rattle.std.proofs.Common.{◌+◌, ◌-◌, ap, ◌∙◌, arith}
use Rattle.strongest_list.specs.Terms.Rows.{read_next}
use Rattle.strongest_list.proofs.Rowing.{reads_none, reads_more, reads_gain, after_small, small}
use Rattle.strongest_list.proofs.rows.Row.read.Goals as goal

pub loop-back-init : goal.loop-back-init
loop-back-init c =
    let a = c.args in
    reads_none a.request.now a.places.now a.part.count c.requires.narrow c.requires.few a.self.first a.part.from a.part.end a.looked c.requires.order c.requires.block c.requires.end c.requires.after

pub next-read-requires-clause-after : goal.next-read-requires-clause-after
next-read-requires-clause-after c =
    let a = c.args in
    omega (arith, after_small a.request.now a.places.now a.part.count c.requires.narrow c.requires.few a.self.first a.part.from a.part.end a.looked c.requires.order c.requires.block c.requires.end c.requires.after c.requires.short c.requires.window)

pub next-read-requires-clause-gain : goal.next-read-requires-clause-gain
next-read-requires-clause-gain c =
    let a = c.args in
    omega (
      arith,
      reads_gain a.request.now a.places.now a.part.count c.requires.narrow c.requires.few a.self.first a.part.from a.part.end a.looked c.requires.order c.requires.block c.requires.end c.requires.after
          c.loop-back.back c.loop-back.read (omega (arith, c.loop-back-test.true)) c.loop-back.invariant,
    )

pub next-read-requires-clause-value : goal.next-read-requires-clause-value
next-read-requires-clause-value c =
    let a = c.args in
    omega (arith, c.value-gained.ensures, small a.request.now a.places.now a.part.count c.requires.narrow c.requires.few (a.part.end - 1 - c.loop-back.back) (omega (arith, c.loop-back-test.true, c.requires.end)))

pub loop-back-preserved : goal.loop-back-preserved
loop-back-preserved c =
    let a = c.args in
    let r = c.loop-back.back in
    reads_more a.request.now a.places.now a.part.count c.requires.narrow c.requires.few a.self.first a.part.from a.part.end a.looked c.requires.order c.requires.block c.requires.end c.requires.after
    r (a.part.end - 1 - r) c.loop-back.read c.next-read.result c.loop-back-test.true (omega arith) c.loop-back.invariant
    (c.next-read.ensures ∙ ap (read_next a.request.now c.loop-back.read (a.self.first + (a.part.end - 1 - r)) (a.part.count - (a.part.end - 1 - r)) a.looked.after r) c.value-gained.ensures)
