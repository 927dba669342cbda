-- Frames put into a text, from a place on.
-- Assumes nothing.
use Rattle.std.specs.Prelude.{Bool, cond, List, [], ◌++◌, Option, None, Some, ℕ, zero, suc, ◌+◌, ◌*◌, ◌/◌, ◌%◌, leb, length, take, drop, ℤ}
use Rattle.rules.specs.Promise.{count_of}
use Rattle.rules.specs.Frames.{hex_digit, frames_in, onward}
use Rattle.rules.specs.declared.Answer.{Answer}

-- the last k hexadecimal digits of n, a byte each, in one number
unfoldable pub packed : ℕ → ℕ → ℕ
packed zero n = 0
packed (suc k) n = packed k (n / 16) * 256 + hex_digit (n % 16)

-- the frames of the first commands of the numbers written, where they are all there
unfoldable pub frames_at : ℕ → List ℤ → Option (List ℕ)
frames_at many out = cond (leb (8 * many) (length out)) (Some (frames_in many out)) None

-- what is written for a line that is answered so, where its commands are all there
unfoldable pub answer_frames : Answer → List ℤ → Option (List ℕ)
answer_frames answer out = cond (leb (8 * count_of answer) (length out)) (Some (onward answer out [])) None

-- the text has room for a frame from a place on
abbrev pub room : List ℕ → List ℕ → ℕ → Bool
room f text at = leb (at + length f) (length text)

-- the place after a frame that is put into a text, if there is a frame and room for it
unfoldable pub placed : Option (List ℕ) → List ℕ → ℕ → Option ℕ
placed None text at = None
placed (Some f) text at = cond (room f text at) (Some (at + length f)) None

-- what the text holds then: the frame from that place on, and everything else as it was
unfoldable pub laid : Option (List ℕ) → List ℕ → ℕ → List ℕ
laid None text at = text
laid (Some f) text at = cond (room f text at) (take at text ++ f ++ drop (at + length f) text) text
