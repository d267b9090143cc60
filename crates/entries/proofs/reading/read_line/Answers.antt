use Rattle.std.proofs.Common.{◌≡◌, ◌≤◌, ◌<◌, length, rules, arith}
use Rattle.std.proofs.BufReadLemmas.{IsAtEnd-of_take_through}
use Rattle.std.proofs.Transfers.{starts_with_length}
use Rattle.entries.proofs.Steps.{line_none, line_some}
use Rattle.entries.proofs.reading.read_line.Goals as goal

pub returns-then-len-from : goal.returns-then-len-from
returns-then-len-from g c =
    let E = c.in_ok-read_through.ensures in
    let same : length c.read_through.new.line.items ≡ length c.args.line.now.items = search rules in
    line_none c.args.cr _ _ _ _ E.bytes E.rest (IsAtEnd-of_take_through 10 _ _ _ E.bytes same)

pub returns : goal.returns
returns g c =
    let E = c.in_ok-read_through.ensures in
    let from : length c.args.line.now.items ≡ c.len-from.result = search rules in
    let long : c.len.result ≡ length c.read_through.new.line.items = search rules in
    let longer : length c.args.line.now.items ≤ length c.read_through.new.line.items = starts_with_length _ _ E.appends in
    let more : length c.args.line.now.items < length c.read_through.new.line.items = omega (arith, from, long, longer, c.if-len-from.false) in
    line_some c.args.cr _ _ _ _ _ E.bytes E.rest more
    (λ xs n. c.drop_return.ensures _ _ (c.drop_end.ensures _ _ n from) from)
