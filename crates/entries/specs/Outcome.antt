-- What reaches the writers of text and the writer of notes, whatever a call answers.
use Rattle.std.specs.Prelude.{ℕ, ◌<◌, ◌≤◌, ◌≡◌, Bool, List, [], ◌∷◌, ◌++◌, length, take, get_or, Option, None, Result, Ok, Err}
use Rattle.std.specs.Io.KnownBytes.{Appends}
use Rattle.fasta.specs.Steps.{fault_number}
use Rattle.entries.specs.declared.failed.Failed.{Failed}
use Rattle.entries.specs.declared.failed.Failed.TheVariants.{Faulty, Reading, Writing, Saying, NoMemory}
use Rattle.entries.specs.declared.sums.Sums.{Sums}
use Rattle.entries.specs.Sums.{no_sums, add}
use Rattle.entries.specs.Entries.{Entry, entries_of, list_of, fault_of}

-- ---- One writer.
-- A front of xs, at any byte.
abbrev pub Front : Option (List ℕ) → Option (List ℕ) → List ℕ → Type 0
Front old new xs = (k : ℕ) × (k ≤ length xs) × Appends old new (take k xs)

-- All of xs, and then a front of ys.
abbrev pub FrontAfter : Option (List ℕ) → Option (List ℕ) → List ℕ → List ℕ → Type 0
FrontAfter old new xs ys = (k : ℕ) × (k ≤ length ys) × Appends old new (xs ++ take k ys)

-- All of xs, or a front of it where it failed.
abbrev pub Sent : {A E : Type 0} → Option (List ℕ) → Option (List ℕ) → List ℕ → Result A E → Type 0
Sent old new xs (Ok x) = Appends old new xs
Sent old new xs (Err e) = Front old new xs

-- ---- Writers in a list, each by its number.
-- What writer i holds; nothing is known past the list.
abbrev pub held : List (Option (List ℕ)) → ℕ → Option (List ℕ)
held writers i = get_or writers i None

-- Each got what f says.
abbrev pub AllAppend : (old new : List (Option (List ℕ))) → (ℕ → List ℕ) → Type 0
AllAppend old new f = (i : ℕ) → Appends (held old i) (held new i) (f i)

-- Each got what f says; and then those before writer n what g says, and writer n a front of that.
pub record StopsAt (n : ℕ) (old new : List (Option (List ℕ))) (f g : ℕ → List ℕ) : Type 0 where
  pub before : (i : ℕ) → i < n → Appends (held old i) (held new i) (f i ++ g i)
  pub stopped : FrontAfter (held old n) (held new n) (f n) (g n)
  pub after : (i : ℕ) → n < i → Appends (held old i) (held new i) (f i)

-- What f says, or up to a front of it where one failed.
abbrev pub AllSent : {A E : Type 0} → (old new : List (Option (List ℕ))) → (ℕ → List ℕ) → Result A E → Type 0
AllSent old new f (Ok x) = AllAppend old new f
AllSent old new f (Err e) = (n : ℕ) × StopsAt n old new (λ i. []) f

-- ---- A record.
-- What is written for it to each writer, by the writer's number; what is said of it; and what is counted.
pub record Report : Type 0 where
  pub text : ℕ → List ℕ
  pub notes : List ℕ
  pub sums : Sums

-- What the writers of text and the one of notes got of a report: all; nothing where there is no memory for the record; a front where a write
-- failed, the notes after the text.
abbrev pub Recorded : Report → (outs outs' : List (Option (List ℕ))) → (notes notes' : Option (List ℕ)) → Result Sums Failed → Type 0
Recorded r outs outs' notes notes' (Ok sums) = AllAppend outs outs' r.text × Appends notes notes' r.notes × (sums ≡ r.sums)
Recorded r outs outs' notes notes' (Err NoMemory) = AllAppend outs outs' (λ i. []) × Appends notes notes' []
Recorded r outs outs' notes notes' (Err (Writing e)) = ((n : ℕ) × StopsAt n outs outs' (λ i. []) r.text) × Appends notes notes' []
Recorded r outs outs' notes notes' (Err (Saying e)) = AllAppend outs outs' r.text × Front notes notes' r.notes
Recorded r outs outs' notes notes' (Err (Reading e)) = ⊥
Recorded r outs outs' notes notes' (Err (Faulty f)) = ⊥

-- ---- A file.
-- Texts of records, one after the other.
unfoldable pub texts : (Entry → List ℕ) → List Entry → List ℕ
texts text [] = []
texts text (e ∷ es) = text e ++ texts text es

-- What records give to writer i; what is said of them.
abbrev pub text_on : (Entry → Report) → List Entry → ℕ → List ℕ
text_on report es i = texts (λ e. (report e).text i) es

abbrev pub notes_on : (Entry → Report) → List Entry → List ℕ
notes_on report es = texts (λ e. (report e).notes) es

-- Sums, and then those of records.
unfoldable pub sums_on : (Entry → Report) → Sums → List Entry → Sums
sums_on report s [] = s
sums_on report s (e ∷ es) = sums_on report (add s (report e).sums) es

-- The records of a file, up to its end or its first fault.
abbrev pub records : Bool → List ℕ → List Entry
records cr file = list_of (entries_of cr file)

abbrev pub text_of : Bool → (Entry → Report) → List ℕ → ℕ → List ℕ
text_of cr report file = text_on report (records cr file)

abbrev pub notes_of : Bool → (Entry → Report) → List ℕ → List ℕ
notes_of cr report file = notes_on report (records cr file)

abbrev pub sums_of : Bool → (Entry → Report) → List ℕ → Sums
sums_of cr report file = sums_on report no_sums (records cr file)

-- The first records, whole, for every writer, and counted.
abbrev pub WholeRecords : List Entry → (Entry → Report) → (outs outs' : List (Option (List ℕ))) → (notes notes' : Option (List ℕ)) (sums sums' : Sums) → Type 0
WholeRecords es report outs outs' notes notes' sums sums' =
    (done : List Entry) × (rest : List Entry) × (es ≡ done ++ rest)
    × AllAppend outs outs' (text_on report done) × Appends notes notes' (notes_on report done) × (sums' ≡ sums_on report sums done)

-- The first records, whole, and then a record whose text stopped at one of the writers; nothing is said of it.
abbrev pub TextStopped : List Entry → (Entry → Report) → (outs outs' : List (Option (List ℕ))) → (notes notes' : Option (List ℕ)) (sums sums' : Sums) → Type 0
TextStopped es report outs outs' notes notes' sums sums' =
    (done : List Entry) × (e : Entry) × (rest : List Entry) × (es ≡ done ++ e ∷ rest)
    × ((n : ℕ) × StopsAt n outs outs' (text_on report done) (report e).text) × Appends notes notes' (notes_on report done) × (sums' ≡ sums_on report sums done)

-- The first records, whole, the last of which is said in part.
abbrev pub NotesStopped : List Entry → (Entry → Report) → (outs outs' : List (Option (List ℕ))) → (notes notes' : Option (List ℕ)) (sums sums' : Sums) → Type 0
NotesStopped es report outs outs' notes notes' sums sums' =
    (done : List Entry) × (e : Entry) × (rest : List Entry) × (es ≡ done ++ e ∷ rest)
    × AllAppend outs outs' (λ i. text_on report done i ++ (report e).text i) × FrontAfter notes notes' (notes_on report done) (report e).notes
    × (sums' ≡ sums_on report sums done)

-- All of the file; all up to its fault; whole records where it cannot be read, or there is no memory; and where a write failed, up to a front of
-- one record's.
abbrev pub Outcome : Bool → (Entry → Report) → List ℕ → (outs outs' : List (Option (List ℕ))) → (notes notes' : Option (List ℕ)) (sums sums' : Sums) → Result Unit Failed → Type 0
Outcome cr report file outs outs' notes notes' sums sums' (Ok done) =
    (fault_of (entries_of cr file) ≡ 0)
    × AllAppend outs outs' (text_of cr report file)
    × Appends notes notes' (notes_of cr report file)
    × (sums' ≡ sums_on report sums (records cr file))
Outcome cr report file outs outs' notes notes' sums sums' (Err (Faulty f)) =
    (fault_of (entries_of cr file) ≡ fault_number f)
    × AllAppend outs outs' (text_of cr report file)
    × Appends notes notes' (notes_of cr report file)
    × (sums' ≡ sums_on report sums (records cr file))
Outcome cr report file outs outs' notes notes' sums sums' (Err (Reading e)) = WholeRecords (records cr file) report outs outs' notes notes' sums sums'
Outcome cr report file outs outs' notes notes' sums sums' (Err NoMemory) = WholeRecords (records cr file) report outs outs' notes notes' sums sums'
Outcome cr report file outs outs' notes notes' sums sums' (Err (Writing e)) = TextStopped (records cr file) report outs outs' notes notes' sums sums'
Outcome cr report file outs outs' notes notes' sums sums' (Err (Saying e)) = NotesStopped (records cr file) report outs outs' notes notes' sums sums'
