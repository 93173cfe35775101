-- "Records are taken by a reader that stays on the file's bytes and carries its place; it copies no block." (document 01, "The work file")
use Rattle.std.specs.Prelude.{ℕ, ◌+◌, min, length, List}
use Rattle.std.specs.Borrow.{Bor}
use Rattle.reader.specs.declared.Reader.{Reader}

-- a reader of a file begins at its first byte
abbrev pub reader_of : Bor (List ℕ) → Reader
reader_of file = record { file = file; at = 0 }

-- a reader stays on the file's bytes: it goes no further than their end
abbrev pub place_after : List ℕ → ℕ → ℕ → ℕ
place_after file at bytes = min (length file) (at + bytes)

-- the same file, so many bytes further on
abbrev pub moved_on : Reader → ℕ → Reader
moved_on r bytes = record { file = r.file; at = place_after r.file.now r.at bytes }
