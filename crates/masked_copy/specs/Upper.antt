-- Upper case, for the law that a copy in lower case is undone.
use Rattle.std.specs.Prelude.{ℕ, ◌-◌, ◌&&◌, cond, leb}

-- a to z in upper case; any other byte as it is.
unfoldable pub upper : ℕ → ℕ
upper b = cond (leb 97 b && leb b 122) (b - 32) b
