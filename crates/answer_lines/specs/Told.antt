-- An answer as a line: its label and a colon, its six numbers, and the bytes that it reports of one output.
-- Assumes nothing.
use Rattle.std.specs.Prelude.{ℕ, cond, List, [], ◌∷◌, ◌++◌, take}
use Rattle.plain_text.specs.Text.{decimal, hex}
use Rattle.answers.specs.declared.Answer.{Answer}
use Rattle.buffer_contents.specs.Held.{is_held}
pub mod Code

-- a space and a number
unfoldable pub spaced : ℕ → List ℕ
spaced n = (32 ∷ []) ++ decimal n

unfoldable pub pair : (a b : ℕ) → List ℕ
pair a b = spaced a ++ spaced b

unfoldable pub numbers : Answer → List ℕ
numbers a = pair a.number a.place ++ (pair a.read a.events ++ pair a.values a.steps)

-- a space, the bytes in hex and a newline; `!` before it where the output does not hold them and zeros after them
unfoldable pub reported : (out bytes : List ℕ) → List ℕ
reported out bytes = (32 ∷ []) ++ (hex bytes ++ cond (is_held out bytes) (10 ∷ []) (33 ∷ 10 ∷ []))

unfoldable pub told : (label : List ℕ) → Answer → (out : List ℕ) → List ℕ
told label a out = label ++ ((58 ∷ []) ++ (numbers a ++ reported out (take a.events out)))
