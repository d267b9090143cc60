use Rattle.entries.proofs.Numbers.{ten_numbers}
use Rattle.entries.proofs.sums.Sums.add_numbers.Goals as goal

pub returns : goal.returns
returns c =
    ten_numbers c.args.self c.args.text.now.items c.add_number.new.text.items c.add_number-2.new.text.items c.add_number-3.new.text.items c.add_number-4.new.text.items c.add_number-5.new.text.items
    c.add_number-6.new.text.items c.add_number-7.new.text.items c.add_number-8.new.text.items c.add_number-9.new.text.items c.add_number-10.new.text.items
    c.in_ok-add_number.ensures c.in_ok-add_number-2.ensures c.in_ok-add_number-3.ensures c.in_ok-add_number-4.ensures c.in_ok-add_number-5.ensures
    c.in_ok-add_number-6.ensures c.in_ok-add_number-7.ensures c.in_ok-add_number-8.ensures c.in_ok-add_number-9.ensures c.in_ok-add_number-10.ensures
