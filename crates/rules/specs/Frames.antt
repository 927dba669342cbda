-- Frames out: what the program writes for the bytes that it reads.
-- Assumes nothing.
use Rattle.std.specs.Prelude.{◌≡◌, false, cond, List, [], ◌∷◌, ◌++◌, ℕ, zero, suc, ◌+◌, ◌-◌, ◌/◌, ◌%◌, eqb, ltb, take, drop, replicate, get_or, ℤ, pos, negsuc}
use Rattle.grammar.specs.Bytes.{byte, bytes, among}
use Rattle.grammar.specs.Grammar.{Line}
use Rattle.grammar.specs.Derivation.{Form, ByForm}
use Rattle.rules.specs.Named.{refusal_number}
use Rattle.rules.specs.Reach.{fresh}
use Rattle.rules.specs.Promise.{After, answer}
use Rattle.rules.specs.declared.Record.{Record}
use Rattle.rules.specs.declared.Answer.{Answer}
use Rattle.rules.specs.declared.Answer.TheVariants.{Accepted, Refused, Skipped}

-- an upper-case hexadecimal digit
abbrev pub hex_digit : ℕ → ℕ
hex_digit n = cond (ltb n 10) (byte "0" + n) (byte "A" + (n - 10))

-- the last k hexadecimal digits of n
abbrev pub hex : ℕ → ℕ → List ℕ
hex zero n = []
hex (suc k) n = hex k (n / 16) ++ hex_digit (n % 16) ∷ []

-- "two's complement", in the forty bits that ten digits hold
abbrev pub complement : ℤ → ℕ
complement (pos n) = n % 1099511627776
complement (negsuc n) = 1099511627775 - n % 1099511627776

-- "each field that kind uses": none for 4, three for 8 and 9, seven for 10, one for the others
unfoldable pub fields_used : ℕ → ℕ
fields_used kind = cond (eqb kind 4) 0 (cond (among kind (8 ∷ 9 ∷ [])) 3 (cond (eqb kind 10) 7 1))

-- "ten upper-case digits" for each field
abbrev pub fields : List ℤ → List ℕ
fields [] = []
fields (z ∷ zs) = hex 10 (complement z) ++ fields zs

-- the kind stands first in a command's numbers
abbrev pub kind_of : List ℤ → ℕ
kind_of zs = complement (get_or zs 0 (pos 0))

-- "two upper-case hexadecimal digits of kind, then each field that kind uses"; "Each frame ends with a line feed"
unfoldable pub frame : List ℤ → List ℕ
frame zs = hex 2 (kind_of zs) ++ fields (take (fields_used (kind_of zs)) (drop 1 zs)) ++ bytes "\n"

-- "a frame for each command, one a line", from the numbers written
abbrev pub frames_in : ℕ → List ℤ → List ℕ
frames_in zero zs = []
frames_in (suc n) zs = frame zs ++ frames_in n (drop 8 zs)

-- "A refusal writes FF and its number in ten hexadecimal digits"
unfoldable pub refusal_frame : ℕ → List ℕ
refusal_frame n = bytes "FF" ++ hex 10 n ++ bytes "\n"

-- "one carriage return before it dropped"
abbrev pub without_return : List ℕ → List ℕ
without_return [] = []
without_return (b ∷ []) = cond (eqb b (byte "\r")) [] (b ∷ [])
without_return (b ∷ c ∷ s) = b ∷ without_return (c ∷ s)

-- "Lines end at a line feed"; "a last line without a line feed counts if it has a byte": l is the line so far
abbrev pub cut : List ℕ → List ℕ → List (List ℕ)
cut [] [] = []
cut (c ∷ l) [] = (c ∷ l) ∷ []
cut l (b ∷ s) = cond (eqb b (byte "\n")) (without_return l ∷ cut [] s) (cut (l ++ b ∷ []) s)

abbrev pub lines : List ℕ → List (List ℕ)
lines input = cut [] input

-- "switch off and 8,000 numbers of output space", anew for each line
abbrev pub worked : (List ℕ → Form Line) → List ℕ → Record → List ℤ → After
worked tree line r table = answer (tree line) line false r table (replicate 8000 (pos 0))

-- what is written for a line, and then for the rest: "A refusal .. ends the run; nothing follows. M2 and M30 don't end it"
abbrev pub onward : Answer → List ℤ → List ℕ → List ℕ
onward (Accepted n) out rest = frames_in n out ++ rest
onward Skipped out rest = rest
onward (Refused why) out rest = refusal_frame (refusal_number why)

abbrev pub frames_from : (List ℕ → Form Line) → List (List ℕ) → Record → List ℤ → List ℕ
frames_from tree [] r table = []
frames_from tree (l ∷ ls) r table =
    let a = worked tree l r table in
    onward a.outcome.answer a.out (frames_from tree ls a.outcome.rec a.table)

-- "A program reads lines from standard input, from a fresh record with an all-zero table"
unfoldable pub frames : (List ℕ → Form Line) → List ℕ → List ℕ
frames tree input = frames_from tree (lines input) fresh (replicate 5000 (pos 0))

-- the promise for a whole run: whatever tells every line's form tells what is written
abbrev pub Framed : List ℕ → List ℕ → Type 0
Framed input output = (tree : List ℕ → Form Line) → ((s : List ℕ) → ByForm s (λ f. f) (tree s)) → output ≡ frames tree input
