-- Numbers that are a record's, made a record and made numbers again, are what they were; and so is a record, made numbers and made a record again: no two records
-- have the same numbers, and a line begins with the record that the line before it left.
-- Assumes nothing.
use mathlib.Core.Path.{◌≡◌, refl, ap, sym, ◌∙◌}
use mathlib.Core.Bool.{true}
use mathlib.Core.List.{List, [], ◌∷◌, ◌++◌, map}
use Prim.Native.Nat.{ℕ, zero, suc, ◌+◌}
use native.Mathlib.Omega.{arith}
use lib.IntN.{ℤ, pos, nat_abs}
use lib.ListN.{length, take, drop, take-append-drop, drop_of_length-le, length-map}
use lib.Seq.{drop-cons, drop-drop, take_at, drop_at, get_or-drop}
use Rattle.rules.specs.Reach.{counts}
use Rattle.rules.specs.Commands.{numbers}
use Rattle.rules.specs.declared.Length.{Length}
use Rattle.rules.specs.declared.Record.{Record}
use Rattle.embed.specs.Packing.{packed, unpacked, holdable, number_at, numbers_at}
use Rattle.embed.proofs.Held.{same, long, mode, small}
use Rattle.embed.specs.Packing.{modes, quantities}

same_numbers : (zs : List ℤ) → numbers (map counts zs) ≡ zs
same_numbers [] = refl
same_numbers (z ∷ zs) = ap (λ (l : List ℤ). z ∷ l) (same_numbers zs)

-- the n numbers from a place on, each by its own place
unfoldable listed : List ℤ → ℕ → ℕ → List ℤ
listed zs at zero = []
listed zs at (suc n) = number_at zs at ∷ listed zs (suc at) n

one_by_one : (zs : List ℤ) (at n : ℕ) → length zs ≡ at + n → drop at zs ≡ listed zs at n
unfolding listed
one_by_one zs at zero h = drop_of_length-le zs {i = at} (omega arith)
one_by_one zs at (suc n) h = drop-cons zs at (pos 0) (omega arith) ∙ ap (λ (l : List ℤ). number_at zs at ∷ l) (one_by_one zs (suc at) n (omega arith))

module _ (zs : List ℤ) (e : holdable zs ≡ true) where
  -- the three runs of lengths, and what comes after them
  in_runs : zs ≡ numbers_at zs 0 3 ++ (numbers_at zs 3 27 ++ (numbers_at zs 30 3 ++ drop 33 zs))
  in_runs =
      sym (take-append-drop 3 zs)
      ∙ ap (λ (l : List ℤ). take 3 zs ++ l) (sym (take-append-drop 27 (drop 3 zs)))
      ∙ ap (λ (l : List ℤ). take 3 zs ++ (take 27 (drop 3 zs) ++ l)) (drop-drop 27 3 zs ∙ sym (take-append-drop 3 (drop 30 zs)))
      ∙ ap (λ (l : List ℤ). take 3 zs ++ (take 27 (drop 3 zs) ++ (take 3 (drop 30 zs) ++ l))) (drop-drop 3 30 zs)

  pub repacked : packed (unpacked zs) ≡ zs
  unfolding unpacked listed
  repacked =
      rw (
        same_numbers (numbers_at zs 0 3),
        same_numbers (numbers_at zs 3 27),
        same_numbers (numbers_at zs 30 3),
        same 65535 (number_at zs 33) (mode zs e 0 (omega arith)),
        same 65535 (number_at zs 34) (mode zs e 1 (omega arith)),
        same 65535 (number_at zs 35) (mode zs e 2 (omega arith)),
        same 65535 (number_at zs 36) (mode zs e 3 (omega arith)),
        same 65535 (number_at zs 37) (mode zs e 4 (omega arith)),
        same 255 (number_at zs 40) (small zs e 0 (omega arith)),
        same 255 (number_at zs 41) (small zs e 1 (omega arith)),
        same 255 (number_at zs 42) (small zs e 2 (omega arith)),
      )
      (sym (in_runs ∙ ap (λ (l : List ℤ). numbers_at zs 0 3 ++ (numbers_at zs 3 27 ++ (numbers_at zs 30 3 ++ l))) (one_by_one zs 33 10 (long zs e))))

-- ---- and back
same_lengths : (ls : List Length) → map counts (numbers ls) ≡ ls
same_lengths [] = refl
same_lengths (l ∷ ls) = ap (λ (rest : List Length). l ∷ rest) (same_lengths ls)

-- a record whose arrays have their lengths, as every one that the machine holds
module _ (r : Record) (three : length r.position ≡ 3) (nine : length r.origins ≡ 27) (axes : length r.offset ≡ 3) where
  many : (ls : List Length) {n : ℕ} → length ls ≡ n → length (numbers ls) ≡ n
  many ls e = length-map ls (λ (l : Length). l.0) ∙ e

  abbrev after_offset : List ℤ
  after_offset = modes r ++ quantities r

  abbrev after_origins : List ℤ
  after_origins = numbers r.offset ++ after_offset

  abbrev after_position : List ℤ
  after_position = numbers r.origins ++ after_origins

  from_3 : drop 3 (packed r) ≡ after_position
  from_3 = drop_at (numbers r.position) after_position 3 (many r.position three)

  from_30 : drop 30 (packed r) ≡ after_origins
  from_30 = sym (drop-drop 27 3 (packed r)) ∙ ap (drop 27) from_3 ∙ drop_at (numbers r.origins) after_origins 27 (many r.origins nine)

  from_33 : drop 33 (packed r) ≡ after_offset
  from_33 = sym (drop-drop 3 30 (packed r)) ∙ ap (drop 3) from_30 ∙ drop_at (numbers r.offset) after_offset 3 (many r.offset axes)

  one : (i : ℕ) → number_at (packed r) (33 + i) ≡ number_at after_offset i
  one i = sym (get_or-drop 33 (packed r) i (pos 0)) ∙ ap (λ (zs : List ℤ). number_at zs i) from_33

  run : (ls : List Length) (rest : List ℤ) {n : ℕ} (zs : List ℤ) → length ls ≡ n → zs ≡ numbers ls ++ rest → map counts (take n zs) ≡ ls
  run ls rest {n} zs h e = ap (λ (l : List ℤ). map counts (take n l)) e ∙ ap (map counts) (take_at (numbers ls) rest n (many ls h)) ∙ same_lengths ls

  pub unpacked_again : unpacked (packed r) ≡ r
  unfolding unpacked
  unpacked_again =
      λ i. record {
        position = run r.position after_position (packed r) three refl i;
        origins = run r.origins after_origins (drop 3 (packed r)) nine from_3 i;
        offset = run r.offset after_offset (drop 30 (packed r)) axes from_30 i;
        motion = nat_abs (one 0 i);
        plane = nat_abs (one 1 i);
        distance = nat_abs (one 2 i);
        units = nat_abs (one 3 i);
        system = nat_abs (one 4 i);
        feed = counts (one 5 i);
        speed = record { 0 = one 6 i };
        tool = nat_abs (one 7 i);
        spindle = nat_abs (one 8 i);
        coolant = nat_abs (one 9 i);
      }
