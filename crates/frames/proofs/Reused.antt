-- The output space may be used again from line to line: what earlier lines have left there is not seen.
-- Assumes nothing.
use mathlib.Core.Path.{◌≡◌, refl, sym, ap, subst, ◌∙◌}
use mathlib.Core.Bool.{Bool, true, false, cond}
use mathlib.Core.List.{List, [], ◌∷◌, ◌++◌, append_assoc}
use Prim.Native.Nat.{ℕ, zero, suc, ◌+◌, ◌*◌, ◌/◌, ◌≤◌}
use native.Mathlib.Omega.{arith}
use lib.Dec.{eqb}
use lib.IntN.{ℤ, pos}
use lib.ListN.{length, take, drop, length-append, length-drop, get_or-append}
use lib.Seq.{take-append-le, drop-append-le}
use Rattle.grammar.specs.Bytes.{bytes, among}
use Rattle.grammar.specs.Working.{Contents}
use Rattle.rules.specs.Meaning.{Entry, words}
use Rattle.rules.specs.Block.{block_of, dwells, moves}
use Rattle.rules.specs.Steps.{ready, motion_of, target}
use Rattle.rules.specs.Arcs.{arc_move, centre}
use Rattle.rules.specs.Commands.{padded, command, eight, only, numbers, move_command, commands, written, of_word}
use Rattle.rules.specs.Refusals.{first}
use Rattle.grammar.specs.Derivation.{Form}
use Rattle.rules.specs.Promise.{After, answer_to, accepted, misformed, place_in, by_number, count_of, leaving, over, numbers as numbersFor, taken, underived}
use Rattle.rules.specs.Frames.{hex, complement, fields, fields_used, kind_of, frame, frames_in, onward}
use Rattle.std.specs.Prelude.{Option, Some, None}
use Rattle.rules.specs.Named.{refusal_of}
use Rattle.rules.specs.declared.Refusal.{Refusal}
use Rattle.rules.specs.declared.Answer.TheVariants.{Accepted, Refused, Skipped}
use Rattle.rules.specs.declared.Block.{Block}
use Rattle.rules.specs.declared.Command.{Command}
use Rattle.rules.specs.declared.Record.{Record}

-- ---- a line's commands are eight numbers each, and at most nine
record Few (most : ℕ) (cs : List Command) : Type 0 where
  eights : length (written cs) ≡ 8 * length cs
  few : length cs ≤ most

written_append : (a b : List Command) → written (a ++ b) ≡ written a ++ written b
written_append [] b = refl
written_append (c ∷ a) b = ap (λ (t : List ℤ). eight c ++ t) (written_append a b) ∙ sym (append_assoc (eight c) (written a) (written b))

both : {m n : ℕ} (a b : List Command) → Few m a → Few n b → Few (m + n) (a ++ b)
both a b p q =
    let e = ap length (written_append a b) in
    record {
      eights = omega (arith, e, length-append (written a) (written b), length-append a b, p.eights, q.eights);
      few = omega (arith, length-append a b, p.few, q.few);
    }

length_padded : (n : ℕ) (zs : List ℤ) → length (padded n zs) ≡ n
length_padded zero zs = refl
length_padded (suc n) [] = ap suc (length_padded n [])
length_padded (suc n) (z ∷ zs) = ap suc (length_padded n zs)

one : (t : Bool) (c : Command) → length c.fields ≡ 7 → Few 1 (only t c)
one true c h = record { eights = omega (arith, length-append (eight c) [], h); few = omega arith }
one false c h = record { eights = refl; few = omega arith }

one_of : {A : Type 0} (c : A → Command) → ((a : A) → length (c a).fields ≡ 7) → (w : Option A) → Few 1 (of_word c w)
one_of c h (Some a) = record { eights = omega (arith, length-append (eight (c a)) [], h a); few = omega arith }
one_of c h None = record { eights = refl; few = omega arith }

move_whole : (b : Block) (r : Record) → length (move_command b r).fields ≡ 7
move_whole b r =
    by (arc_move b r) 10 (cond (eqb (motion_of b r) 0) 8 9) (pos (motion_of b r / 10) ∷ pos (r.plane / 10) ∷ numbers (target b r) ++ numbers (centre b r)) (numbers (target b r))
  where
    by : (t : Bool) (k m : ℕ) (x y : List ℤ) → length (cond t (command k x) (command m y)).fields ≡ 7
    by true k m x y = length_padded 7 x
    by false k m x y = length_padded 7 y

line_few : (b : Block) (r : Record) → Few 9 (commands b r)
unfolding commands
line_few b r =
    both _ _ (both _ _ (both _ _ (both _ _ (both _ _ (both _ _ (both _ _ (both _ _
    (one_of _ (λ _. refl) b.f)
    (one_of _ (λ _. refl) b.s))
    (one_of _ (λ _. refl) b.t))
    (one_of _ (λ _. refl) b.change))
    (one_of _ (λ _. refl) b.spindle))
    (one_of _ (λ _. refl) b.coolant))
    (one (dwells b) _ refl))
    (one (moves b) (move_command b r) (move_whole b r)))
    (one_of _ (λ _. refl) b.stop)

-- ---- frames are read from the numbers that were written
pub at_most_seven : (k : ℕ) → fields_used k ≤ 7
unfolding fields_used
at_most_seven k = by (eqb k 4) (among k (8 ∷ 9 ∷ [])) (eqb k 10)
  where
    by : (x y z : Bool) → cond x 0 (cond y 3 (cond z 7 1)) ≤ 7
    by true y z = omega arith
    by false true z = omega arith
    by false false true = omega arith
    by false false false = omega arith

frame_front : (zs ys : List ℤ) → 8 ≤ length zs → frame (zs ++ ys) ≡ frame zs
unfolding frame
frame_front zs ys h =
    let kind : kind_of (zs ++ ys) ≡ kind_of zs = ap complement (get_or-append zs ys (pos 0) 0 (omega arith)) in
    let n = fields_used (kind_of zs) in
    let rest : take n (drop 1 (zs ++ ys)) ≡ take n (drop 1 zs) =
    ap (take n) (drop-append-le 1 zs ys (omega arith)) ∙ take-append-le n (drop 1 zs) ys (omega (arith, at_most_seven (kind_of zs), length-drop 1 zs)) in
    ap (λ (k : ℕ). hex 2 k ++ fields (take (fields_used k) (drop 1 (zs ++ ys))) ++ bytes "\n") kind
    ∙ ap (λ (t : List ℤ). hex 2 (kind_of zs) ++ fields t ++ bytes "\n") rest

pub frames_front : (n : ℕ) (zs ys : List ℤ) → 8 * n ≤ length zs → frames_in n (zs ++ ys) ≡ frames_in n zs
frames_front zero zs ys h = refl
frames_front (suc n) zs ys h =
    ap (λ (t : List ℕ). t ++ frames_in n (drop 8 (zs ++ ys))) (frame_front zs ys (omega arith))
    ∙ ap (λ (t : List ℤ). frame zs ++ frames_in n t) (drop-append-le 8 zs ys (omega arith))
    ∙ ap (λ (t : List ℕ). frame zs ++ t) (frames_front n (drop 8 zs) ys (omega (arith, length-drop 8 zs)))

-- ---- two spaces of one length serve alike
-- what is left in two spaces: the same, but for the numbers past the commands, which are not seen; and the commands are few
pub record Alike (room : ℕ) (a b : After) : Type 0 where
  pub outcome : a.outcome ≡ b.outcome
  pub table : a.table ≡ b.table
  pub frames : (rest : List ℕ) → onward a.outcome.answer a.out rest ≡ onward b.outcome.answer b.out rest
  pub roomy : length a.out ≡ room
  pub few : count_of a.outcome.answer ≤ 9

module _ (e : Contents Entry) (b : Block) (r : Record) (table out out' : List ℤ) (roomy : 72 ≤ length out) (same : length out' ≡ length out) where
  accepted_alike : Alike (length out) (accepted e b r table out) (accepted e b r table out')
  accepted_alike =
      let cs = commands b (ready b r) in
      let zs = written cs in
      let few = line_few b (ready b r) in
      let front : (space : List ℤ) → frames_in (length cs) (over zs space) ≡ frames_in (length cs) zs =
      λ space. frames_front (length cs) zs (drop (length zs) space) (omega (arith, few.eights)) in
      record {
        outcome = refl;
        table = refl;
        frames = λ rest. ap (λ (t : List ℕ). t ++ rest) (front out ∙ sym (front out'));
        roomy = omega (arith, length-append zs (drop (length zs) out), length-drop (length zs) out, few.eights, few.few);
        few = few.few;
      }

  refused_alike : (why : Refusal) → Alike (length out) (leaving (Refused why) r table out) (leaving (Refused why) r table out')
  refused_alike why = record { outcome = refl; table = refl; frames = λ rest. refl; roomy = refl; few = omega arith }

  skipped_alike : Alike (length out) (leaving Skipped r table out) (leaving Skipped r table out')
  skipped_alike = record { outcome = refl; table = refl; frames = λ rest. refl; roomy = refl; few = omega arith }

  misformed_alike : (place : ℕ) → Alike (length out) (misformed place r table out) (misformed place r table out')
  misformed_alike place = record { outcome = refl; table = refl; frames = λ rest. refl; roomy = refl; few = omega arith }

  number_alike : (n place : ℕ) → Alike (length out) (by_number n place e b r table out) (by_number n place e b r table out')
  number_alike n place = by (eqb n 0) (eqb n 3) (eqb n 100)
    where
      by : (x z y : Bool) → Alike (length out) (cond x (accepted e b r table out) (cond z (misformed place r table out) (leaving (cond x (Accepted 0) (cond y Skipped (Refused (refusal_of n)))) r table out)))
          (cond x (accepted e b r table out') (cond z (misformed place r table out') (leaving (cond x (Accepted 0) (cond y Skipped (Refused (refusal_of n)))) r table out')))
      by true z y = accepted_alike
      by false true y = misformed_alike place
      by false false true = skipped_alike
      by false false false = refused_alike (refusal_of n)

pub answer_alike : (f : Form (Contents Entry)) (l : List ℕ) (switch : Bool) (r : Record) (table out out' : List ℤ) → 72 ≤ length out → length out' ≡ length out
    → Alike (length out) (answer_to f l switch r table out) (answer_to f l switch r table out')
unfolding answer_to
answer_alike f l switch r table out out' roomy same =
    let e = taken f in
    let b = block_of (words e.entries) in
    subst (λ (k : ℕ). Alike (length out) (by_number (first (numbersFor (underived f) e b l switch r table (length out))) (place_in f) e b r table out) (by_number (first (numbersFor (underived f) e b l switch r table k)) (place_in f) e b r table out')) (sym same)
    (number_alike e b r table out out' roomy same (first (numbersFor (underived f) e b l switch r table (length out))) (place_in f))
