-- Files and their texts.
use Rattle.std.proofs.Common.{◌≡◌, refl}
use Rattle.fasta.specs.Lines.{lines, word}
use Rattle.fasta.specs.Contents.{letters_below, contents}
use Rattle.report.specs.Ascii.{ascii}
use Rattle.report.specs.Text.{digit_count, decimal}
use Rattle.contigs_text.specs.Text.{records_text, limited_text, file_text}

nothing : file_text (ascii "\n") ≡ ascii ""
unfolding lines contents records_text limited_text file_text
nothing = refl

-- A fault is all that is printed, whatever stands before it.
letters_first : file_text (ascii "ACGT\n>a\nACG\n") ≡ ascii "refused 14\n"
unfolding lines word letters_below contents limited_text file_text digit_count decimal
letters_first = refl

empty_name : file_text (ascii ">a\nACG\n>\n") ≡ ascii "refused 15\n"
unfolding lines word letters_below contents limited_text file_text digit_count decimal
empty_name = refl
