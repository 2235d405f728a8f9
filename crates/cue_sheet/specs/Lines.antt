-- The lines of a text, and the first in which two texts differ.
use Rattle.std.specs.Prelude.{ℕ, ◌+◌, ◌-◌, cond, List, [], ◌∷◌, length, Some, None, Option, ◌==◌, slice_index_or, bytes_eq, count_by}

-- how many lines a text has: each newline ends one, and a last line may lack its newline
abbrev pub line_count : List ℕ → ℕ
line_count text = count_by (λ byte. byte == 10) text + cond (slice_index_or text (length text - 1) 10 == 10) 0 1

-- how many newlines two texts have before the first bytes that differ, or before the end of one
abbrev pub newlines_alike : List ℕ → List ℕ → ℕ
newlines_alike [] ys = 0
newlines_alike (x ∷ xs) [] = 0
newlines_alike (x ∷ xs) (y ∷ ys) = cond (x == y) (cond (x == 10) 1 0 + newlines_alike xs ys) 0

-- the number, from 1, of the first line in which two texts differ, if they do
abbrev pub differing_line : List ℕ → List ℕ → Option ℕ
differing_line sheet script = cond (bytes_eq sheet script) None (Some (1 + newlines_alike sheet script))
