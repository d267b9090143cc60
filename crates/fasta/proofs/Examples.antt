-- Files and what they hold.
use Prim.Native.String.{String}
use Rattle.std.proofs.Common.{◌≡◌, refl}
use Rattle.report.specs.Ascii.{ascii}
use Rattle.fasta.specs.Lines.{lines, word}
use Rattle.fasta.specs.Contents.{Record, ends, fails, holds, letters_below, contents, contents_of}

abbrev named : String → String → Record
named name letters = record { name = ascii name; letters = ascii letters }

-- Two records, a name up to a blank or a tab, empty lines, `>` in mid-line, and no line end at the end of the file.
two : contents_of (ascii "\n>a one\nAC\n\nG>T\n>b\ttwo\nT") ≡ holds (named "a" "ACG>T") (holds (named "b" "T") ends)
unfolding lines word letters_below contents
two = refl

-- A record of no letters, and a carriage return that is of the name and of the letters.
returned : contents_of (ascii ">a\n>b\r\nA\r\n") ≡ holds (named "a" "") (holds (named "b\r" "A\r") ends)
unfolding lines word letters_below contents
returned = refl

nothing : contents_of (ascii "\n\n") ≡ ends
unfolding lines word letters_below contents
nothing = refl

-- Letters before the first name, also where an empty name follows them.
letters_before : contents_of (ascii "\nA\n>\n") ≡ fails 14
unfolding lines word letters_below contents
letters_before = refl

-- An empty name, at the end of the file and before a blank, also where letters follow it.
empty_name : contents_of (ascii ">") ≡ fails 15
unfolding lines word letters_below contents
empty_name = refl

blank_name : contents_of (ascii "> a\nA\n") ≡ fails 15
unfolding lines word letters_below contents
blank_name = refl

-- A fault after a good record.
later : contents_of (ascii ">a\nA\n>\n") ≡ holds (named "a" "A") (fails 15)
unfolding lines word letters_below contents
later = refl
