use Rattle.std.proofs.Common.{◌≡◌, true, ◌||◌, ◌∙◌, rules}
use Rattle.checks.specs.Tests.{kmer_outside, window_above}
use Rattle.forms.proofs.Stretches.{no_lines, lines_are}
use Rattle.forms.proofs.ranked.make_lines.Goals as goal

pub returns-then-kmer_outside-window_above : goal.returns-then-kmer_outside-window_above
returns-then-kmer_outside-window_above g c =
    let o = (g.M.Maker.options c.args.part.now.masker.now) in
    let h : (kmer_outside o.kmer || window_above o.window_size) ≡ true = search rules in
    no_lines o c.args.wanted _ _ _ c.clear.new.self.items (search rules) h

pub returns : goal.returns
returns g c =
    let e = c.options-options.ensures in
    rw (← e)
    (lines_are c.options-options.result c.args.wanted _ _ _ _ _ _ _ _ _ (search rules) (search rules) (search rules)
    (rw e (c.as_slice.ensures.value ∙ c.in_ok-fill_tables.ensures.ln)) (rw e (c.as_slice-2.ensures.value ∙ c.in_ok-fill_tables.ensures.f))
    c.in_ok-add_listing.ensures)
