-- Numbers behind their words, one behind the other: the parts of a line, told in turn.
use Prim.Native.Nat.{ℕ}
use mathlib.Core.List.{List, [], ◌++◌, append_assoc, append-nil}
use mathlib.Core.Path.{◌≡◌}

pub two_parts : (u a v b rest : List ℕ) → ((u ++ a) ++ ((v ++ b) ++ [])) ++ rest ≡ u ++ (a ++ (v ++ (b ++ rest)))
two_parts u a v b rest = simp (append_assoc, append-nil)

pub three_parts : (u a v b w c rest : List ℕ)
    → ((u ++ a) ++ ((v ++ b) ++ ((w ++ c) ++ []))) ++ rest ≡ u ++ (a ++ (v ++ (b ++ (w ++ (c ++ rest)))))
three_parts u a v b w c rest = simp (append_assoc, append-nil)
