-- Parts of a list, and lists with a part written over.
use Rattle.std.specs.Prelude.{ℕ, ◌+◌, List, length, take, drop}
use Rattle.std.specs.List.{splice}

-- n bytes from a on
abbrev pub part : ℕ → ℕ → List ℕ → List ℕ
part a n xs = take n (drop a xs)

-- xs with ys written over it from a on
abbrev pub over : ℕ → List ℕ → List ℕ → List ℕ
over a ys xs = splice xs a (a + length ys) ys
