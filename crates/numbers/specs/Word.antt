-- "All numbers are unsigned 32-bit, low byte first." (document 01, "The work file")
use Rattle.std.specs.Prelude.{ℕ, ◌+◌, ◌*◌, get_or, List}

-- the number that starts at a byte of the file; a byte behind the file's end counts 0
unfoldable pub number_at : List ℕ → ℕ → ℕ
number_at file at =
    get_or file at 0 + 256 * get_or file (at + 1) 0 + 65_536 * get_or file (at + 2) 0 + 16_777_216 * get_or file (at + 3) 0
