-- What the words of a record ask.
use Rattle.std.specs.Prelude.{ℕ, zero, suc, Float, cond, eqb, Option, None, Some}
use Rattle.tables.specs.declared.GcOption.{GcOption}
use Rattle.tables.specs.declared.GcOption.TheVariants.{Uniform, Fixed, Auto}

abbrev pub xdrop_of : ℕ → ℕ → Option ℕ
xdrop_of zero length = None
xdrop_of (suc set) length = Some length

abbrev pub gc_kind : ℕ → Float → GcOption
gc_kind zero fixed = Uniform
gc_kind (suc zero) fixed = Fixed fixed
gc_kind (suc (suc kind)) fixed = Auto

-- `~` stands for the byte 200.
unfoldable pub letter_of : ℕ → ℕ
letter_of byte = cond (eqb byte 126) 200 byte
